-- Where the lines are written, all asked buffers were handed out or none is left.
use Rattle.std.proofs.Common.{◌≡◌, ◌≢◌, ◌⊎◌, ℕ, ◌==◌, ◌≤◌, true, false, List, [], ◌∷◌, ◌++◌, Option, Result, Ok, Err, refl, sym, ap, subst, ◌∙◌, inl, inr, append_assoc, length}
use Rattle.gev_types.specs.declared.memory.NoMemory as memory
use Rattle.board_machine.specs.declared.events.Entry.{Entry}
use Rattle.board_machine.specs.declared.events.Event.TheVariants.{Join, Stop}
use Rattle.board_machine.specs.Machine.{entry}
use Rattle.board_machine.specs.Places.{times}
use Rattle.board_machine.specs.Adding.{entries_of}
use Rattle.board_machine.specs.Histories.{own_of, After}
use Rattle.board_machine.specs.Kinds.{HasNone, is_stop}
use Rattle.board_machine.proofs.Adding.{entries_of-append}
use Rattle.board_calls.specs.declared.mode.Mode.{Mode}
use Rattle.gev_status.specs.declared.status.Status.{Status}
use Rattle.gev_links.specs.Links.{Address}
use Rattle.gev_serve.specs.declared.ends.ServeEnd.{ServeEnd}
use Rattle.gev_serve.specs.declared.ends.ServeEnd.TheVariants as serves
use Rattle.gev_control.specs.declared.acq_end.AcqEnd.{AcqEnd}
use Rattle.gev_control.specs.declared.acq_end.AcqEnd.TheVariants as reads
use Rattle.lane_reader.specs.LanesTurns.{ReaderTurn}
use Rattle.lane_reader.specs.Reads.{looks_in}
use Rattle.lane_crew.specs.Reader.{EndsAfter}
use Rattle.gev_apply.specs.Applied.{IsEnough}
use Rattle.gev_serve.specs.Work.{has_failed}
use Rattle.gev_live.specs.Endings.{taken_of, camera_status, status_by, is_told, FailsLast}
use Rattle.gev_live.specs.Parts.{LiveApplication}
use Rattle.gev_live.specs.Told.{Told}
use Rattle.gev_live.proofs.Unstopped.{Unstopped, both_unstopped, entries_unstopped, last_unstopped}
use Rattle.gev_live.specs.LanesHistory.{LanesCrew, LanesHistory}
use Rattle.gev_live.specs.LanesParts.{joins_from, LanesReader}
use Rattle.gev_live.proofs.LanesEmptied.{StopsLast, emptied}

-- ---- the acquisition's worker stops the run at its end alone

looks_unstopped : (made : List ReaderTurn) → Unstopped (looks_in made)
looks_unstopped [] = tt
looks_unstopped (t ∷ ts) = (refl, looks_unstopped ts)

joins_unstopped : (ns : List ℕ) → Unstopped (joins_from ns)
joins_unstopped [] = tt
joins_unstopped (n ∷ ns) = both_unstopped (joins_from ns) (Join n ∷ []) (joins_unstopped ns) (refl, tt)

pub stops_last : (camera stream : Address) (o e : Told) (turns k : ℕ) (lanes : List ℕ) (end : AcqEnd) (h : List Entry) → LanesReader camera stream o e turns k lanes end h → StopsLast k h
stops_last camera stream o e turns k lanes end h part = record {
  first = entries_of k (looks_in part.made ++ (part.last ++ joins_from lanes));
  last = entry k (Stop false part.answer);
  own_is = part.own ∙ whole;
  none = entries_unstopped k (looks_in part.made ++ (part.last ++ joins_from lanes))
      (both_unstopped (looks_in part.made) (part.last ++ joins_from lanes) (looks_unstopped part.made)
      (both_unstopped part.last (joins_from lanes) (last_unstopped end part.last part.on.looks) (joins_unstopped lanes)));
}
  where
    whole : entries_of k (looks_in part.made ++ (part.last ++ (joins_from lanes ++ Stop false part.answer ∷ [])))
        ≡ entries_of k (looks_in part.made ++ (part.last ++ joins_from lanes)) ++ entry k (Stop false part.answer) ∷ []
    whole =
        ap (entries_of k)
        (ap (λ x. looks_in part.made ++ x) (sym (append_assoc part.last (joins_from lanes) (Stop false part.answer ∷ [])))
        ∙ sym (append_assoc (looks_in part.made) (part.last ++ joins_from lanes) (Stop false part.answer ∷ [])))
        ∙ entries_of-append k (looks_in part.made ++ (part.last ++ joins_from lanes)) (Stop false part.answer ∷ [])

-- ---- an answer with which all is written

abbrev IsWell : {E : Type 0} → ServeEnd → Result ℕ E → Type 0
IsWell served (Ok taken) = has_failed served ≡ false
IsWell served (Err error) = ⊥

camera_well : {E : Type 0} (served : ServeEnd) (end : AcqEnd) (frames turns : ℕ) (answer : Result ℕ E) → is_told (camera_status served end frames turns answer) ≡ true → IsWell served answer
camera_well serves.Stopped end frames turns (Ok taken) told = refl
camera_well serves.Stopped end frames turns (Err error) told = absurd (cc)
camera_well serves.Fault end frames turns answer told = absurd (cc)
camera_well serves.NoMemory end frames turns answer told = absurd (cc)
camera_well serves.Spent end frames turns (Ok taken) told = refl
camera_well serves.Spent end frames turns (Err error) told = absurd (cc)

told_well : {E : Type 0} (served : ServeEnd) (end : AcqEnd) (frames turns : ℕ) (answer : Result ℕ E) → is_told (status_by served end frames turns answer) ≡ true → IsWell served answer
told_well served reads.Stopped frames turns answer told = camera_well served reads.Stopped frames turns answer told
told_well served reads.Spent frames turns answer told = camera_well served reads.Spent frames turns answer told
told_well served reads.Fault frames turns answer told = absurd (cc)
told_well served (reads.NoAnswer req) frames turns answer told = camera_well served (reads.NoAnswer req) frames turns answer told
told_well served (reads.Refused code) frames turns answer told = camera_well served (reads.Refused code) frames turns answer told

first_told : (first answer : Status) → (answer ≡ first) ⊎ ((is_told first ≡ true) × FailsLast answer) → is_told answer ≡ true → is_told first ≡ true
first_told first answer (inl e) told = ap is_told (sym e) ∙ told
first_told first answer (inr fails) told = fails.0

pub all_or_empty : (mode : Mode) (buffers : ℕ) (k : LanesCrew) (served : ServeEnd) (end : AcqEnd) (told now : Option (List ℕ)) (frames turns : ℕ) (lines : List ℕ) (applied : Result ℕ memory.NoMemory) (answer : Status) (h : List Entry)
    → LanesHistory mode buffers k h → StopsLast k.reader h → LiveApplication mode told now frames k.application lines applied h
    → (has_failed served ≡ false → HasNone is_stop (own_of k.camera h)) → HasNone is_stop (own_of 0 h) → ((i : ℕ) → 1 ≤ times i k.lanes → HasNone is_stop (own_of i h))
    → (answer ≡ status_by served end frames turns applied) ⊎ ((is_told (status_by served end frames turns applied) ≡ true) × FailsLast answer) → is_told answer ≡ true
    → (taken_of applied ≡ frames) ⊎ ((After h).out ≡ [])
all_or_empty mode buffers k served end told now frames turns lines (Ok taken) answer h history stops application camera host lanes cause is = go application.told_lines.2
  where
    well : has_failed served ≡ false
    well = told_well served end frames turns (Ok taken) (first_told (status_by served end frames turns (Ok taken)) answer cause is)

    go : IsEnough frames taken application.made → (taken ≡ frames) ⊎ ((After h).out ≡ [])
    go (inl all) = inl all.0
    go (inr stopped) = inr (emptied mode buffers k (taken == frames) application.made h history stops application.takes stopped (camera well) host lanes)
all_or_empty mode buffers k served end told now frames turns lines (Err error) answer h history stops application camera host lanes cause is =
    absurd (told_well served end frames turns (Err error) (first_told (status_by served end frames turns (Err error)) answer cause is))

-- ---- the turns

all_turns : (setup_end : AcqEnd) (turns : ℕ) (made : List ReaderTurn) → setup_end ≢ reads.Spent → EndsAfter setup_end reads.Spent turns made → length made ≡ turns
all_turns reads.Stopped turns made ne ends = ends.0
all_turns reads.Spent turns made ne ends = absurd (ne refl)
all_turns reads.Fault turns made ne ends = absurd (cc)
all_turns (reads.NoAnswer req) turns made ne ends = absurd (cc)
all_turns (reads.Refused code) turns made ne ends = absurd (cc)

pub spent_all : (setup_end end : AcqEnd) (turns : ℕ) (made : List ReaderTurn) → setup_end ≢ reads.Spent → EndsAfter setup_end end turns made → end ≡ reads.Spent → length made ≡ turns
spent_all setup_end end turns made ne ends is = all_turns setup_end turns made ne (subst (λ x. EndsAfter setup_end x turns made) is ends)
