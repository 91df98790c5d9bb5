-- What a script has read and written, from what its run has.
use Rattle.std.proofs.Common.{ℕ, List, [], length, Option, Some, None, refl, sym, ap, append-nil, arith}
use Rattle.gev_links.specs.Told.{Gives, Appends}
use Rattle.script_runs.specs.declared.ran.Ran.TheVariants.{Ended}
use Rattle.script_runs.specs.declared.ending.Ending.{Ending}
use Rattle.script_runs.specs.declared.ending.Ending.TheVariants as endings
use Rattle.script_runs.specs.Runs.{Running, Refusing, RunsLines, AreLines}
use Rattle.script_runs.specs.Outcomes.{EndsAt, RunEnds}
use Rattle.script_runs.specs.Verdicts as runs
use Rattle.script_runs.specs.Verdicts.{Outcome, whole, refused, IfTold}
use Rattle.gev_status.specs.declared.status.Status.{Status}
use Rattle.gev_status.specs.declared.status.Status.TheVariants as statuses
use Rattle.gev_top.specs.Scripts.{RunsWell, Ends, IfEnded, status_of, AnswersContent}
use Rattle.gev_top.proofs.Keeping.{IsKept, lines_well, last_well}

ends_at_well : {M : Type 0} (moves more : Running M) (refuses : Refusing M) (Keeps : M → Type 0) (Says : List ℕ → M → Type 0) (first : M) → IsKept moves more Keeps Says first
    → (lines : List (List ℕ)) (text : List ℕ) (now : M) (rest : List ℕ) (ending : Ending) (left : Option (List ℕ)) (a b c d : ℕ) (Wrote : List ℕ → Type 0) → AreLines lines → RunsLines moves first 0 lines text now
    → EndsAt moves refuses now (length lines) rest ending left a b c d Wrote → EndsAt (RunsWell more Keeps) refuses now (length lines) rest ending left a b c d Wrote
ends_at_well moves more refuses Keeps Says first kept lines text now rest endings.Done left a b c d Wrote are led h = last_well moves more Keeps Says first kept lines text now Ended rest Wrote are led h
ends_at_well moves more refuses Keeps Says first kept lines text now rest (endings.BadLine line kind) left a b c d Wrote are led h = h
ends_at_well moves more refuses Keeps Says first kept lines text now rest endings.ReadFault left a b c d Wrote are led h = h
ends_at_well moves more refuses Keeps Says first kept lines text now rest endings.WriteFault left a b c d Wrote are led h = (h.0, (h.1.0, last_well moves more Keeps Says first kept lines text now h.1.0 rest _ are led h.1.1))
ends_at_well moves more refuses Keeps Says first kept lines text now rest endings.NoMemory left a b c d Wrote are led h = h

pub ends_well : {M : Type 0} (moves more : Running M) (refuses : Refusing M) (Keeps : M → Type 0) (Says : List ℕ → M → Type 0) (first : M) → IsKept moves more Keeps Says first
    → (ending : Ending) (left left_after : Option (List ℕ)) (reads reads_after : ℕ) (written written_after : Option (List ℕ)) (writes writes_after : ℕ)
    → RunEnds moves refuses first ending left left_after reads reads_after written written_after writes writes_after
    → Ends more refuses Keeps Says first ending left left_after reads reads_after written written_after writes writes_after
ends_well moves more refuses Keeps Says first kept ending left left_after reads reads_after written written_after writes writes_after h = record {
  now = h.now;
  lines = h.lines;
  rest = h.rest;
  text = h.text;
  given = h.given;
  are = h.are;
  counted = h.counted;
  few = h.few;
  ran = lines_well moves more Keeps Says first kept h.lines h.text h.now h.are h.ran;
  holds = record {
    keeps = kept.so_far h.lines h.text h.now h.are h.ran;
    said = kept.said h.lines h.text h.now h.ran;
    ends = ends_at_well moves more refuses Keeps Says first kept h.lines h.text h.now h.rest ending left_after reads reads_after writes writes_after _ h.are h.ran h.holds;
  };
}

pub if_ended : (P Q : Ending → Type 0) → ((ending : Ending) → P ending → Q ending) → (status : Status) → IfEnded P status → IfEnded Q status
if_ended P Q f statuses.Done h = f endings.Done h
if_ended P Q f (statuses.BadScript line kind) h = f (endings.BadLine line kind) h
if_ended P Q f statuses.ReadFault h = f endings.ReadFault h
if_ended P Q f statuses.WriteFault h = f endings.WriteFault h
if_ended P Q f statuses.NoMemory h = f endings.NoMemory h
if_ended P Q f (statuses.Usage place) h = h
if_ended P Q f (statuses.NoAnswer req) h = h
if_ended P Q f (statuses.Refused status) h = h
if_ended P Q f statuses.LinkFault h = h
if_ended P Q f (statuses.TurnsSpent turns frames) h = h
if_ended P Q f (statuses.BadCapture number kind) h = h
if_ended P Q f (statuses.NoPicture why) h = h
if_ended P Q f (statuses.Silent frames) h = h
if_ended P Q f statuses.Controlled h = h
if_ended P Q f statuses.NoDescription h = h
if_ended P Q f (statuses.ControlLost frames) h = h
if_ended P Q f (statuses.NoDatagram port) h = h
if_ended P Q f (statuses.RefusedAt register code) h = h

pub ended : (P : Ending → Type 0) (ending : Ending) → P ending → IfEnded P (status_of ending)
ended P endings.Done h = h
ended P (endings.BadLine line kind) h = h
ended P endings.ReadFault h = h
ended P endings.WriteFault h = h
ended P endings.NoMemory h = h

gives_none : (left : Option (List ℕ)) → Gives left left []
gives_none None = refl
gives_none (Some bytes) = refl

appends_none : (written : Option (List ℕ)) → Appends written written []
appends_none None = refl
appends_none (Some bytes) = ap (λ u. Some u) (sym (append-nil bytes))

-- nothing was read or written, for want of memory
pub run_unbegun : {M : Type 0} (moves : Running M) (refuses : Refusing M) (first : M) (left : Option (List ℕ)) (reads : ℕ) (written : Option (List ℕ)) (writes : ℕ)
    → RunEnds moves refuses first endings.NoMemory left left reads reads written written writes writes
run_unbegun moves refuses first left reads written writes = record {
  now = first;
  lines = [];
  rest = [];
  text = [];
  given = gives_none left;
  are = tt;
  counted = omega arith;
  few = omega arith;
  ran = (refl, refl);
  holds = appends_none written;
}

pub unbegun : {M : Type 0} (moves more : Running M) (refuses : Refusing M) (Keeps : M → Type 0) (Says : List ℕ → M → Type 0) (first : M) → IsKept moves more Keeps Says first
    → (left : Option (List ℕ)) (reads : ℕ) (written : Option (List ℕ)) (writes : ℕ) → Ends more refuses Keeps Says first endings.NoMemory left left reads reads written written writes writes
unbegun moves more refuses Keeps Says first kept left reads written writes =
    ends_well moves more refuses Keeps Says first kept endings.NoMemory left left reads reads written written writes writes (run_unbegun moves refuses first left reads written writes)

answers : (ending : Ending) (found : Outcome) → runs.AnswersContent ending found → AnswersContent (status_of ending) found
answers endings.Done whole h = h
answers endings.Done (refused n cause) h = h
answers (endings.BadLine line kind) whole h = h
answers (endings.BadLine line kind) (refused n cause) h = h
answers endings.ReadFault found h = h
answers endings.WriteFault found h = h
answers endings.NoMemory found h = h

pub answers_told : (ending : Ending) (left : Option (List ℕ)) (v : List ℕ → Outcome) → IfTold left (λ content. runs.AnswersContent ending (v content))
    → IfTold left (λ content. AnswersContent (status_of ending) (v content))
answers_told ending None v h = tt
answers_told ending (Some content) v h = answers ending (v content) h

pub told_anyhow : (left : Option (List ℕ)) (v : List ℕ → Outcome) → IfTold left (λ content. AnswersContent (status_of endings.NoMemory) (v content))
told_anyhow None v = tt
told_anyhow (Some content) v = tt
