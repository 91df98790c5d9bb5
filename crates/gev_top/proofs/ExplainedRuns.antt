-- What is kept along an explained script.
use Rattle.std.proofs.Common.{◌≡◌, ℕ, ◌+◌, ◌≤◌, List, [], ◌∷◌, ◌++◌, length, Option, Ok, sym, subst, arith}
use Rattle.std.specs.Prelude.{⊤}
use Rattle.gev_script.specs.Lines as line
use Rattle.gev_script.specs.Lines.{Config}
use Rattle.gev_script.specs.Spelling.{IsConfig}
use Rattle.gev_script.specs.Grammar.{line_of}
use Rattle.gev_script.proofs.Unspelled.{unspelled}
use Rattle.script_runs.specs.declared.ran.Ran.{Ran}
use Rattle.script_runs.specs.declared.ran.Ran.TheVariants.{GoesOn, Ended}
use Rattle.script_runs.specs.declared.ending.Ending.{Ending}
use Rattle.script_runs.specs.declared.ending.Ending.TheVariants as endings
use Rattle.script_runs.specs.Runs.{RunsLines, AreLines}
use Rattle.script_runs.specs.Outcomes.{RunEnds}
use Rattle.script_trace.specs.Standing.{Standing, running, config_of, ReplayRuns}
use Rattle.script_trace.specs.Standing.{first as at_first}
use Rattle.script_trace.proofs.Changing.{runs_keep}
use Rattle.script_trace.specs.Notes.{Note}
use Rattle.script_trace.specs.Explaining.{Telling, untold, ExplainsFrom, ExplainRuns, ExplainRefuses}
use Rattle.script_trace.specs.NoteLaws.{HasSizes, StandsTold, HoldsReport, HoldsLast}
use Rattle.script_trace.proofs.Reports.{explanations_hold_reports}
use Rattle.script_trace.proofs.Accounts.{scripts_are_accounted}
use Rattle.gev_status.specs.declared.status.Status.{Status}
use Rattle.gev_status.specs.declared.status.Status.TheVariants as statuses
use Rattle.gev_top.specs.Scripts.{RunsWell, Ends, IfEnded}
use Rattle.gev_top.specs.Explained.{ExplainsLine, StandsAccounted, StandsExplained, HasTold, EndsExplained, Explains}
use Rattle.gev_top.proofs.Keeping.{IsKept, lines_more}
use Rattle.gev_top.proofs.Endings.{if_ended, ends_well, run_unbegun}
use Rattle.gev_top.proofs.Bettering.{ends_better}

-- ---- the header's numbers

abbrev IsSized : Standing → Type 0
IsSized at_first = ⊤
IsSized (running c w t) = HasSizes c

sizes_of : (text : List ℕ) (config : Config) → length text ≤ 20000 → line_of text ≡ Ok (line.header config) → HasSizes (config_of config)
sizes_of text config short read =
    let is : IsConfig config = (unspelled text (line.header config) short read).is_line in
    let p : 528 ≤ config.p = is.p_from in
    record { window = is.window_from; payload = omega (arith, p) }

line_sized : (m : Standing) (n : ℕ) (text : List ℕ) (ran : Ran) (report : List ℕ) (new : Standing) → length text ≤ 20000 → IsSized m → ReplayRuns m n text ran report new → IsSized new
line_sized at_first n text GoesOn report new short sized runs = subst IsSized (sym runs.after) (sizes_of text runs.config short runs.read)
line_sized at_first n text Ended report new short sized runs = absurd runs
line_sized (running c w t) n text GoesOn report new short sized runs = subst IsSized (sym runs.after) sized
line_sized (running c w t) n text Ended report new short sized runs = subst IsSized (sym runs.after) sized

lines_sized : (m : Standing) (n : ℕ) (lines : List (List ℕ)) (text : List ℕ) (new : Standing) → AreLines lines → IsSized m → RunsLines ReplayRuns m n lines text new → IsSized new
lines_sized m n [] text new are sized (silent, is) = subst IsSized (sym is) sized
lines_sized m n (l ∷ lines) text new (no_feed, short, are) sized (mid, front, rest, one, later, parts) =
    lines_sized mid (n + 1) lines rest new are (line_sized m (n + 1) l GoesOn front mid short sized one) later

accounted : (notes since : List Note) (s : Standing) → StandsTold notes since s → IsSized s → StandsAccounted notes since s
accounted notes since at_first told sized = tt
accounted notes since (running c w t) told sized = told sized

-- ---- what was told up to the last line, and with it

so_far : (lines : List (List ℕ)) (text : List ℕ) (new : Telling) → AreLines lines → RunsLines ExplainRuns untold 0 lines text new → StandsExplained new
so_far lines text new are ran =
    let h : HoldsReport lines text new = explanations_hold_reports.so_far lines text new ran in
    record {
      well = runs_keep.so_far lines h.said new.standing are h.replays;
      account = accounted new.notes new.since new.standing (scripts_are_accounted lines text new ran) (lines_sized at_first 0 lines h.said new.standing are tt h.replays);
    }

end_told : (notes since : List Note) (s : Standing) (n : ℕ) (text report : List ℕ) (new : Telling) → StandsTold notes since s → ExplainsFrom notes since s n text Ended report new
    → StandsTold new.notes new.since new.standing
end_told notes since at_first n text report new told one = absurd one
end_told notes since (running c w t) n text report new told one =
    subst (λ (m : Telling). StandsTold m.notes m.since m.standing) (sym one.now) (subst (λ (s : Standing). StandsTold notes since s) (sym one.replays.after) told)

last_told : (lines : List (List ℕ)) (text l report : List ℕ) (ran : Ran) (now new : Telling) → RunsLines ExplainRuns untold 0 lines text now → ExplainRuns now (length lines + 1) l ran report new
    → StandsTold new.notes new.since new.standing
last_told lines text l report GoesOn now new led one =
    let at : 0 + length lines + 1 ≡ length lines + 1 = omega arith in
    scripts_are_accounted (lines ++ l ∷ []) (text ++ report) new (lines_more ExplainRuns untold now new 0 (length lines + 1) lines text l report at led one)
last_told lines text l report Ended now new led one =
    end_told now.notes now.since now.standing (length lines + 1) l report new (scripts_are_accounted lines text now led) one

last : (lines : List (List ℕ)) (text l report : List ℕ) (ran : Ran) (now new : Telling) → AreLines lines → length l ≤ 20000
    → RunsLines ExplainRuns untold 0 lines text now → ExplainRuns now (length lines + 1) l ran report new → StandsExplained new
last lines text l report ran now new are short led one =
    let h : HoldsReport lines text now = explanations_hold_reports.so_far lines text now led in
    let k : HoldsLast now (length lines + 1) l ran report new = explanations_hold_reports.last now (length lines + 1) l ran report new one in
    record {
      well = runs_keep.last lines h.said l k.said ran now.standing new.standing are short h.replays k.replays;
      account = accounted new.notes new.since new.standing (last_told lines text l report ran now new led one)
          (line_sized now.standing (length lines + 1) l ran k.said new.standing short (lines_sized at_first 0 lines h.said now.standing are tt h.replays) k.replays);
    }

said : (lines : List (List ℕ)) (text : List ℕ) (new : Telling) → RunsLines ExplainRuns untold 0 lines text new → HasTold text new
said lines text new ran =
    let h : HoldsReport lines text new = explanations_hold_reports.so_far lines text new ran in
    record { said = h.said; leaves = h.leaves; has = runs_keep.said lines h.said new.standing h.replays }

explain_kept : IsKept ExplainRuns ExplainRuns StandsExplained HasTold untold
explain_kept = record {
  so_far = so_far;
  last = λ lines text line report ran now new are short led one. record { runs = one; keeps = last lines text line report ran now new are short led one };
  said = said;
}

-- ---- runs

lines_plain : (m : Telling) (n : ℕ) (lines : List (List ℕ)) (text : List ℕ) (new : Telling) → RunsLines (RunsWell ExplainsLine StandsExplained) m n lines text new → RunsLines ExplainRuns m n lines text new
lines_plain m n [] text new runs = runs
lines_plain m n (l ∷ lines) text new (mid, front, rest, here, later, parts) = (mid, front, rest, here.runs.explains, lines_plain mid (n + 1) lines rest new later, parts)

with_report : (ending : Ending) (left left_after : Option (List ℕ)) (reads reads_after : ℕ) (written written_after : Option (List ℕ)) (writes writes_after : ℕ)
    → Ends ExplainsLine ExplainRefuses StandsExplained HasTold untold ending left left_after reads reads_after written written_after writes writes_after
    → EndsExplained ending left left_after reads reads_after written written_after writes writes_after
with_report ending left left_after reads reads_after written written_after writes writes_after run = record {
  run = run;
  report = explanations_hold_reports.so_far run.lines run.text run.now (lines_plain untold 0 run.lines run.text run.now run.ran);
}

ends_explained : (ending : Ending) (left left_after : Option (List ℕ)) (reads reads_after : ℕ) (written written_after : Option (List ℕ)) (writes writes_after : ℕ)
    → RunEnds ExplainRuns ExplainRefuses untold ending left left_after reads reads_after written written_after writes writes_after
    → EndsExplained ending left left_after reads reads_after written written_after writes writes_after
ends_explained ending left left_after reads reads_after written written_after writes writes_after h =
    with_report ending left left_after reads reads_after written written_after writes writes_after
    (ends_better ExplainRuns ExplainsLine StandsExplained StandsExplained HasTold HasTold
    (record {
      line = λ m n l ran report new one. record { explains = one; holds = explanations_hold_reports.last m n l ran report new one };
      keeps = λ m keeps. keeps;
      says = λ text m says. says;
    })
    ExplainRefuses untold ending left left_after reads reads_after written written_after writes writes_after
    (ends_well ExplainRuns ExplainRuns ExplainRefuses StandsExplained HasTold untold explain_kept ending left left_after reads reads_after written written_after writes writes_after h))

pub explains : (status : Status) (left left_after : Option (List ℕ)) (reads reads_after : ℕ) (written written_after : Option (List ℕ)) (writes writes_after : ℕ)
    → IfEnded (λ ending. RunEnds ExplainRuns ExplainRefuses untold ending left left_after reads reads_after written written_after writes writes_after) status
    → Explains status left left_after reads reads_after written written_after writes writes_after
explains status left left_after reads reads_after written written_after writes writes_after =
    if_ended
    (λ ending. RunEnds ExplainRuns ExplainRefuses untold ending left left_after reads reads_after written written_after writes writes_after)
    (λ ending. EndsExplained ending left left_after reads reads_after written written_after writes writes_after)
    (λ ending. ends_explained ending left left_after reads reads_after written written_after writes writes_after)
    status

-- an explanation for which there is no memory
pub explain_unbegun : (left : Option (List ℕ)) (reads : ℕ) (written : Option (List ℕ)) (writes : ℕ) → Explains statuses.NoMemory left left reads reads written written writes writes
explain_unbegun left reads written writes =
    ends_explained endings.NoMemory left left reads reads written written writes writes (run_unbegun ExplainRuns ExplainRefuses untold left reads written writes)
