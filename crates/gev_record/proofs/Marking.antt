-- The marks of a run tell the same of its script.
use Rattle.std.proofs.Common.{◌≡◌, ℕ, List, [], ◌∷◌, ◌++◌, map, refl, ap, ◌∙◌}
use Rattle.std.specs.Prelude.{Option, Some, None}
use Rattle.acquisition_machine.specs.Machine.{Input, tick, State}
use Rattle.acquisition_machine.specs.Runs.{first_state, after_from}
use Rattle.acquisition_machine.specs.TurnLaws.{asked_by}
use Rattle.acquisition_machine.specs.Erased.{AreAlike}
use Rattle.acquisition_machine.specs.Turns.{Noted, IsRun, with_byte, with_bytes}
use Rattle.acquisition_machine.proofs.Agreeing.{need_alike, empty_asks, turn_alike, asked_after}
use Rattle.gev_record.specs.Script.{live_config, heard_in, after_turn}
use Rattle.gev_record.specs.Marks.{block_or_zero, opened_in, MarksTell, IsMarkedRun}
use Rattle.gev_record.specs.Laws.{MarksTellTheScript}
use Rattle.gev_record.proofs.Telling.{is_heard}

pub marked_runs : (s : State) (ts : List Noted) (q : List Input) → IsMarkedRun s ts q → IsRun live_config s ts q
marked_runs s [] q marked = marked
marked_runs s (t ∷ ts) q marked =
    (marked.0, marked.1, marked.2, marked.3, marked_runs (after_from live_config s (marked.0 ++ tick t.mark.moment ∷ [])) ts marked.1 marked.5)

opened_alike : (s r : State) (received : Option (List ℕ)) → AreAlike s r → opened_in s received ≡ opened_in r (with_byte received)
opened_alike s r None e = refl
opened_alike s r (Some []) e = ap block_or_zero (empty_asks live_config s)
opened_alike s r (Some (b ∷ bytes)) e = ap (λ n. block_or_zero (asked_by n)) (need_alike live_config s r (b ∷ bytes) e)

marks_alike : (s r : State) (ts : List Noted) (q : List Input) → AreAlike s r → s.asked ≡ None → IsMarkedRun s ts q → MarksTell r (map with_bytes ts)
marks_alike s r [] q e none marked = tt
marks_alike s r (t ∷ ts) q e none marked =
    let moment : ℕ = t.mark.moment in
    let turn = turn_alike live_config s r t.received t.mark.claimed moment marked.0 (heard_in r (with_bytes t)) e none marked.2
    (is_heard r (with_byte t.received) t.mark.claimed) in (
      (marked.4.0 ∙ opened_alike s r t.received e, marked.4.1),
      marks_alike (after_from live_config s (marked.0 ++ tick moment ∷ [])) (after_turn r (with_bytes t)) ts marked.1 turn.after
          (asked_after live_config s moment marked.0) marked.5,
    )

pub marks_tell_the_script : MarksTellTheScript
marks_tell_the_script ts q marked = marks_alike first_state first_state ts q refl refl marked

pub marks_front : (s : State) (front back : List Noted) → MarksTell s (map with_bytes (front ++ back)) → MarksTell s (map with_bytes front)
marks_front s [] back marks = tt
marks_front s (t ∷ front) back marks = (marks.0, marks_front (after_turn s (with_bytes t)) front back marks.1)
