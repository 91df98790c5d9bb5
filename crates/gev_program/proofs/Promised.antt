-- A live run over ports keeps its promises, and what came back tells of it.
use Rattle.std.proofs.Common.{◌≡◌, ℕ, List, [], ◌∷◌, Option, Some, None, refl, arith, inl, inr}
use Rattle.board_machine.specs.declared.events.Entry.{Entry}
use Rattle.board_machine.specs.Histories.{Run}
use Rattle.gev_links.specs.Links.{Address, Answer}
use Rattle.gev_status.specs.declared.status.Status.{Status}
use Rattle.gev_program.specs.Bound.{AllToldOfThree}
use Rattle.gev_top.specs.declared.live_numbers.LiveNumbers.{LiveNumbers}
use Rattle.gev_live.specs.Told.{Told}
use Rattle.live_promises.proofs.Keeping.{live_runs_keep}
use Rattle.live_promises.proofs.LanesKeeping.{lane_runs_keep}
use Rattle.gev_program.specs.Runs.{IsUntold, told_by, numbers_of, RunsSo, KeepsSo, RunsOver}

-- three members that came back to an empty list are the list
pub all_back : {A : Type 0} (old new : Option (List A)) (a b d : A) → AllToldOfThree old new (a ∷ b ∷ d ∷ []) → old ≡ Some [] → new ≡ Some (a ∷ b ∷ d ∷ [])
all_back None new a b d back is = absurd (cc)
all_back (Some []) new a b d back is = back (omega arith)
all_back (Some (x ∷ xs)) new a b d back is = absurd (cc)

so_kept : (n : LiveNumbers) (camera stream : Address) (status : Status) (o e : Told) (written written_after : Option (List ℕ)) (writes writes_after : ℕ) (h : List Entry)
    → (runs : RunsSo n camera stream status o e written written_after writes writes_after h) → Run h → KeepsSo runs
so_kept n camera stream status o e written written_after writes writes_after h (inl (one, runs)) is_run =
    live_runs_keep (numbers_of n) camera stream status o e written written_after writes writes_after h runs is_run
so_kept n camera stream status o e written written_after writes writes_after h (inr (more, runs)) is_run =
    lane_runs_keep (numbers_of n) n.lanes camera stream status o e written written_after writes writes_after h runs is_run

pub ran_over : {L C : Type 0} (received : L → Option (List Answer)) (sent : L → Option (List (Address × List ℕ))) (faults : L → ℕ) (told : C → Option (List ℕ))
    (n : LiveNumbers) (status : Status) (links links_after : Option (List L)) (clocks clocks_after : Option (List C)) (written written_after : Option (List ℕ)) (writes writes_after : ℕ) (h : List Entry)
    (camera stream : Address) (begins : Told) (camera_link stream_link control_link : L) (camera_clock host_clock app_clock : C) → IsUntold begins
    → RunsSo n camera stream status begins (told_by received sent faults told camera_link stream_link control_link camera_clock host_clock app_clock) written written_after writes writes_after h
    → Run h → AllToldOfThree links links_after (camera_link ∷ stream_link ∷ control_link ∷ []) → AllToldOfThree clocks clocks_after (camera_clock ∷ host_clock ∷ app_clock ∷ [])
    → RunsOver received sent faults told n camera stream status links links_after clocks clocks_after written written_after writes writes_after h
ran_over received sent faults told n status links links_after clocks clocks_after written written_after writes writes_after h
    camera stream begins camera_link stream_link control_link camera_clock host_clock app_clock untold runs is_run links_back clocks_back = record {
      begins = begins;
      untold = untold;
      ends = told_by received sent faults told camera_link stream_link control_link camera_clock host_clock app_clock;
      runs = runs;
      promises = so_kept n camera stream status begins (told_by received sent faults told camera_link stream_link control_link camera_clock host_clock app_clock)
          written written_after writes writes_after h runs is_run;
      listed = λ none no_clocks. record {
        camera = camera_link;
        stream = stream_link;
        control = control_link;
        camera_clock = camera_clock;
        host_clock = host_clock;
        app_clock = app_clock;
        links_are = all_back links links_after camera_link stream_link control_link links_back none;
        clocks_are = all_back clocks clocks_after camera_clock host_clock app_clock clocks_back no_clocks;
        are = refl;
      };
    }
