-- What was written after a run.
use Rattle.std.proofs.Common.{◌≡◌, inl, inr, ℕ, ◌<◌, ◌^◌, true, false, List, [], length, map, Option, Some, None, Result, Ok, Err, refl, sym, ap, subst, ◌∙◌, arith, append-nil}
use Rattle.std.specs.List.{AllByRecursion}
use Rattle.board_machine.specs.declared.events.Entry.{Entry}
use Rattle.acquisition_machine.specs.declared.mark.Mark.{Mark}
use Rattle.gev_links.specs.Faults.{Rose}
use Rattle.gev_links.specs.Links.{Address}
use Rattle.gev_links.specs.Told.{Appends, WritesFront}
use Rattle.gev_status.specs.declared.status.Status.{Status}
use Rattle.gev_status.specs.declared.status.Status.TheVariants as status
use Rattle.gev_record.specs.Script.{script_of}
use Rattle.gev_record.specs.declared.record_end.RecordEnd.{RecordEnd}
use Rattle.gev_record.specs.declared.record_end.RecordEnd.TheVariants as ends
use Rattle.gev_record.specs.Writing.{noted, Writes}
use Rattle.gev_acq.specs.declared.turn.Turn.{Turn}
use Rattle.gev_live.specs.Told.{Told}
use Rattle.gev_live.specs.Endings.{is_told}
use Rattle.gev_live.specs.declared.numbers.Numbers.{Numbers}
use Rattle.gev_live.specs.LiveRun.{LiveRun}
use Rattle.live_recording.specs.Marks.{mark_of}
use Rattle.live_recording.specs.Recorded.{Recorded, RecordsSo, answer_by, Finishes}

none_appended : (written written_after : Option (List ℕ)) → written_after ≡ written → Appends written written_after []
none_appended None written_after same = same
none_appended (Some old) written_after same = same ∙ ap Some (sym (append-nil old))

pub nothing_written : (text : List ℕ) (written written_after : Option (List ℕ)) → written_after ≡ written → WritesFront written written_after text
nothing_written text written written_after same = record { front = []; rest = text; parts = refl; appended = none_appended written written_after same }

never_rose : Rose 0 0 → ⊥
never_rose (inl less) = omega (arith, less)
never_rose (inr full) = omega (arith, full)

-- nothing was written, with an answer that a run comes to which isn't told of
pub untold : (n : Numbers) (camera stream : Address) (lived : Status) (o e : Told) (h : List Entry) (script : List ℕ) (written written_after : Option (List ℕ)) (faults faults_after : ℕ)
    → LiveRun n camera stream lived o e None None 0 0 h → is_told lived ≡ false → written_after ≡ written → faults_after ≡ faults → Recorded lived script written written_after faults faults_after
untold n camera stream status.LinkFault o e h script written written_after faults faults_after run none same steady = (same, steady)
untold n camera stream status.NoMemory o e h script written written_after faults faults_after run none same steady = (nothing_written script written written_after same, steady)
untold n camera stream status.WriteFault o e h script written written_after faults faults_after run none same steady = absurd (never_rose run.ended.wrote.1)
untold n camera stream status.Done o e h script written written_after faults faults_after run none same steady = absurd (cc)
untold n camera stream (status.NoAnswer req) o e h script written written_after faults faults_after run none same steady = absurd (cc)
untold n camera stream (status.Refused code) o e h script written written_after faults faults_after run none same steady = absurd (cc)
untold n camera stream (status.TurnsSpent turns taken) o e h script written written_after faults faults_after run none same steady = absurd (cc)
untold n camera stream status.ReadFault o e h script written written_after faults faults_after run none same steady = absurd run.ended.wrote
untold n camera stream (status.Usage place) o e h script written written_after faults faults_after run none same steady = absurd run.ended.wrote
untold n camera stream (status.BadScript line kind) o e h script written written_after faults faults_after run none same steady = absurd run.ended.wrote
untold n camera stream (status.BadCapture number kind) o e h script written written_after faults faults_after run none same steady = absurd run.ended.wrote
untold n camera stream (status.NoPicture why) o e h script written written_after faults faults_after run none same steady = absurd run.ended.wrote
untold n camera stream (status.Silent frames) o e h script written written_after faults faults_after run none same steady = absurd run.ended.wrote
untold n camera stream status.Controlled o e h script written written_after faults faults_after run none same steady = absurd run.ended.wrote
untold n camera stream status.NoDescription o e h script written written_after faults faults_after run none same steady = absurd run.ended.wrote
untold n camera stream (status.ControlLost frames) o e h script written written_after faults faults_after run none same steady = absurd run.ended.wrote
untold n camera stream (status.NoDatagram port) o e h script written written_after faults faults_after run none same steady = absurd run.ended.wrote
untold n camera stream (status.RefusedAt register code) o e h script written written_after faults faults_after run none same steady = absurd run.ended.wrote

writes_whole : (lived : Status) (script : List ℕ) (written written_after : Option (List ℕ)) (faults faults_after : ℕ) → is_told lived ≡ true → Appends written written_after script × (faults_after ≡ faults)
    → Recorded lived script written written_after faults faults_after
writes_whole status.Done script written written_after faults faults_after told wrote = wrote
writes_whole (status.NoAnswer req) script written written_after faults faults_after told wrote = wrote
writes_whole (status.Refused code) script written written_after faults faults_after told wrote = wrote
writes_whole (status.TurnsSpent turns taken) script written written_after faults faults_after told wrote = wrote
writes_whole _ script written written_after faults faults_after told wrote = absurd (cc)

-- the answer of a run, by how its script was written
wrote_so : (lived : Status) (end : Result (Unit {0}) RecordEnd) (script : List ℕ) (written written_after : Option (List ℕ)) (faults faults_after : ℕ) → is_told lived ≡ true
    → Writes end written written_after faults faults_after script → RecordsSo lived (answer_by lived end) script written written_after faults faults_after
wrote_so lived (Ok done) script written written_after faults faults_after told writes = record { cause = inl refl; wrote = writes_whole lived script written written_after faults faults_after told writes }
wrote_so lived (Err ends.WriteFault) script written written_after faults faults_after told writes = record { cause = inr (told, inl refl); wrote = writes }
wrote_so lived (Err ends.NoMemory) script written written_after faults faults_after told writes = record { cause = inr (told, inr refl); wrote = writes }

pub script_written : (lived answer : Status) (end : Result (Unit {0}) RecordEnd) (kept : List (Option (List ℕ))) (journal : List Turn) (marks : List Mark) (written written_after : Option (List ℕ)) (faults faults_after : ℕ)
    → is_told lived ≡ true → length kept ≡ length journal → marks ≡ map mark_of journal → AllByRecursion (λ (e : Turn). e.moment < 2 ^ 64) journal
    → Writes end written written_after faults faults_after (script_of (noted kept marks)) → answer ≡ answer_by lived end
    → Finishes lived answer kept journal written written_after faults faults_after
script_written lived answer end kept journal marks written written_after faults faults_after told counted are small writes is =
    inr (inr (
      told,
      counted,
      λ _. small,
      subst (λ s. RecordsSo lived s (script_of (noted kept (map mark_of journal))) written written_after faults faults_after) (sym is)
          (wrote_so lived end (script_of (noted kept (map mark_of journal))) written written_after faults faults_after told
          (subst (λ ms. Writes end written written_after faults faults_after (script_of (noted kept ms))) are writes)),
    ))
