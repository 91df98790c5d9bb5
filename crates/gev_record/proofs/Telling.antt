-- The inputs of a recorded script are a run's.
use Rattle.std.proofs.Common.{ℕ, List, [], ◌∷◌, Bool, true, false, refl}
use Rattle.std.specs.Prelude.{Option, Some, None}
use Rattle.acquisition_machine.specs.Machine.{State, datagram, step}
use Rattle.acquisition_machine.specs.Runs.{first_state}
use Rattle.acquisition_machine.specs.TurnLaws.{asked_by}
use Rattle.acquisition_machine.specs.Turns.{Noted, IsOutcome, IsTold, IsHeard, IsRun}
use Rattle.gev_record.specs.Script.{live_config, queued_place, told_outcome, told, heard, heard_in, after_turn, run_inputs}
use Rattle.gev_record.specs.Laws.{ScriptTellsTheRun}

is_outcome : (claim : Bool) (place : ℕ) → IsOutcome claim (told_outcome claim place)
is_outcome false place = refl
is_outcome true place = (place, refl)

is_told : (bytes : List ℕ) (claim : Bool) (place : ℕ) (asked : Option ℕ) → IsTold bytes claim asked (told bytes claim place asked)
is_told bytes claim place None = refl
is_told bytes claim place (Some b) = (told_outcome claim place, is_outcome claim place, refl)

pub is_heard : (s : State) (received : Option (List ℕ)) (claim : Bool) → IsHeard live_config s received claim (heard s received claim)
is_heard s None claim = refl
is_heard s (Some bytes) claim = is_told bytes claim (queued_place s) (asked_by (step live_config s (datagram bytes)).need)

pub is_run : (s : State) (ts : List Noted) → IsRun live_config s ts (run_inputs s ts)
is_run s [] = refl
is_run s (t ∷ ts) =
    (heard_in s t, run_inputs (after_turn s t) ts, is_heard s t.received t.mark.claimed, refl, is_run (after_turn s t) ts)

pub script_tells_the_run : ScriptTellsTheRun
script_tells_the_run ts = is_run first_state ts
