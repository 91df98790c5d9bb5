-- A run of `receive` over ports, with what it keeps.
use Rattle.std.specs.Prelude.{◌⊎◌, ℕ, List, Option}
use Rattle.board_machine.specs.declared.events.Entry.{Entry}
use Rattle.gev_links.specs.Links.{Address, Answer}
use Rattle.camera_words.specs.declared.settings.Settings.{Settings}
use Rattle.gev_status.specs.declared.status.Status.{Status}
use Rattle.gev_receive.specs.Receives.{ReceivesNothing, ReceivesAll}
use Rattle.live_promises.specs.Written.{KeepsReception}

-- the run over links and clocks that the ports gave, and its promises
pub record ReceivesAndKeeps {L C : Type 0} (heard : L → Option (List Answer)) (sent : L → Option (List (Address × List ℕ))) (faults : L → ℕ)
    (told : C → Option (List ℕ)) (settings : Settings) (answer : Status) (bound bound_after : Option (List Address)) (links links_after : Option (List L))
    (clocks clocks_after : Option (List C)) (left_after written written_after : Option (List ℕ)) (writes writes_after : ℕ) (seen : Option (List Entry)) : Type 0 where
  pub run : ReceivesAll heard sent faults told settings answer bound bound_after links links_after clocks clocks_after left_after written written_after writes writes_after seen
  pub keeps : KeepsReception run.receives

-- Nothing was done, since a bind failed; or the run kept its promises.
abbrev pub ReceivesSo : {L C : Type 0} → (L → Option (List Answer)) → (L → Option (List (Address × List ℕ))) → (L → ℕ) → (C → Option (List ℕ))
    → Settings → Status → Option (List Address) → Option (List Address) → Option (List L) → Option (List L) → Option (List C) → Option (List C)
    → Option (List ℕ) → Option (List ℕ) → Option (List ℕ) → ℕ → ℕ → Option (List Entry) → Type 0
ReceivesSo heard sent faults told settings answer bound bound_after links links_after clocks clocks_after left_after written written_after writes writes_after seen =
    ReceivesNothing heard sent faults answer bound bound_after links links_after clocks clocks_after written written_after writes writes_after seen
    ⊎ ReceivesAndKeeps heard sent faults told settings answer bound bound_after links links_after clocks clocks_after left_after written written_after writes writes_after seen
