-- The turns before the host's.
use Rattle.std.proofs.Common.{◌≡◌, ℕ, ◌+◌, ◌≤◌, [], Option, Some, None, refl, sym, ap, subst, ◌∙◌}
use Rattle.client_machine.specs.declared.outcome.Outcome.{Outcome}
use Rattle.client_machine.specs.declared.outcome.Outcome.TheVariants as outcomes
use Rattle.world_laws.specs.Receiver.{Receiver, start}
use Rattle.world_machine.specs.State.{World}
use Rattle.world_machine.specs.ClientTurn.{SETUP_SIZE, end_of, client_turn}
use Rattle.world_machine.specs.CameraTurn.{camera_turn, makes}
use Rattle.world_machine.specs.Rounds.{rises}
use Rattle.gev_world.specs.declared.stage.Stage.{Stage}
use Rattle.gev_world.specs.declared.run_end.RunEnd.{RunEnd}
use Rattle.gev_world.specs.Seen.{run_of, world_of, Does, IsBetween}
use Rattle.gev_world.specs.Ends.{meant_if, told_end}
use Rattle.gev_world.specs.Turns.{ClientDoes}
use Rattle.gev_world.specs.Rounds.{ComesToHost}
use Rattle.gev_world.proofs.Composing.{does_then}
use Rattle.gev_world.proofs.Between.{rests_before_host, rests_after_camera}

-- the code's end is the one that the client was told
meant_told : (o : Outcome) → meant_if (told_end o) ≡ end_of o
meant_told (outcomes.Waiting req) = refl
meant_told outcomes.Idle = refl
meant_told outcomes.Acked = refl
meant_told (outcomes.Refused status) = refl
meant_told (outcomes.NoAnswer req) = refl

-- time goes on
abbrev later : Stage → Stage
later s = record s { moment = s.moment + 10 }

ends_as : (s t : Stage) (outcome : Outcome) (end : Option RunEnd) → end ≡ told_end outcome → ClientDoes (later s) outcome t
    → (host : Receiver) → meant_if end ≡ (client_turn (run_of s) (rises (world_of s host))).end
ends_as s t outcome end is did host = ap meant_if is ∙ meant_told outcome ∙ did.told host

-- the run ends with the client's turn
pub comes_to_end : (s t : Stage) (outcome : Outcome) (end : RunEnd) → Some end ≡ told_end outcome → ClientDoes (later s) outcome t → ComesToHost s (Some end) t
comes_to_end s t outcome end is did = record {
  run = did.does.run;
  world = did.does.world;
  ends = ends_as s t outcome (Some end) is did;
  between = λ e. absurd (cc);
}

-- what the camera's next frame wants
pub rests_for_frame : (s t u : Stage) (outcome : Outcome) → IsBetween s → ClientDoes (later s) outcome t → Does t camera_turn u
    → (u.camera.waiting ≡ []) × (u.camera.shelf.count ≤ u.made)
rests_for_frame s t u outcome between did camera =
    let all = does_then (later s) t u (λ run w. (client_turn run w).world) camera_turn did.does camera in
    let there = rests_after_camera (run_of s) (world_of (later s) start) between.counted in
    let same = all.world start in
    (ap (λ (w : World Receiver). w.camera.waiting) same ∙ there.idle, subst (λ (w : World Receiver). w.camera.shelf.count ≤ w.made) (sym same) there.counts)

-- the run goes on to the host's turn
pub comes_on : (s t u v : Stage) (outcome : Outcome) → None ≡ told_end outcome → IsBetween s → ClientDoes (later s) outcome t → t.begun ≤ SETUP_SIZE
    → Does t camera_turn u → Does u makes v → ComesToHost s None v
comes_on s t u v outcome is between did begun camera frame =
    let turned = does_then (later s) t u (λ run w. (client_turn run w).world) camera_turn did.does camera in
    let all = does_then (later s) u v (λ run w. camera_turn run (client_turn run w).world) makes turned frame in
    let there = rests_before_host (run_of s) (world_of (later s) start) between.counted in
    let same = all.world start in
    record {
      run = all.run;
      world = all.world;
      ends = ends_as s t outcome None is did;
      between = λ e. record {
        begun = subst (λ (n : ℕ). n ≤ SETUP_SIZE) (ap (λ (w : World Receiver). w.begun) (did.does.world start) ∙ sym there.begun_is ∙ ap (λ (w : World Receiver). w.begun) (sym same)) begun;
        idle = ap (λ (w : World Receiver). w.camera.waiting) same ∙ there.idle;
        counted = subst (λ (w : World Receiver). w.camera.shelf.count ≤ w.made) (sym same) there.counts;
      };
    }
