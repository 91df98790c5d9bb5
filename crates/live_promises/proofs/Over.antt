-- A run of `receive` over ports keeps its promises.
use Rattle.std.proofs.Common.{ℕ, ◌≤◌, List, Option, inl, inr}
use Rattle.board_machine.specs.declared.events.Entry.{Entry}
use Rattle.gev_links.specs.Links.{Address, Answer}
use Rattle.camera_words.specs.declared.settings.Settings.{Settings}
use Rattle.gev_status.specs.declared.status.Status.{Status}
use Rattle.gev_receive.specs.Receives.{ReceivesOver}
use Rattle.live_promises.specs.Over.{ReceivesSo}
use Rattle.live_promises.proofs.Written.{receptions_keep}

pub receives_so : {L C : Type 0} (heard : L → Option (List Answer)) (sent : L → Option (List (Address × List ℕ))) (faults : L → ℕ) (told : C → Option (List ℕ))
    (settings : Settings) (answer : Status) (bound bound_after : Option (List Address)) (links links_after : Option (List L)) (clocks clocks_after : Option (List C))
    (left_after written written_after : Option (List ℕ)) (writes writes_after : ℕ) (seen : Option (List Entry)) → 1 ≤ settings.window
    → ReceivesOver heard sent faults told settings answer bound bound_after links links_after clocks clocks_after left_after written written_after writes writes_after seen
    → ReceivesSo heard sent faults told settings answer bound bound_after links links_after clocks clocks_after left_after written written_after writes writes_after seen
receives_so heard sent faults told settings answer bound bound_after links links_after clocks clocks_after left_after written written_after writes writes_after seen some (inl nothing) = inl nothing
receives_so heard sent faults told settings answer bound bound_after links links_after clocks clocks_after left_after written written_after writes writes_after seen some (inr all) =
    inr (record { run = all; keeps = receptions_keep _ _ _ _ _ _ _ _ _ _ _ _ _ _ _ _ all.receives some })
