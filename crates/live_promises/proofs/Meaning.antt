-- What a run's answer says, and what it wrote, by how its workers ended.
use Rattle.std.proofs.Common.{◌≡◌, inl, inr, ℕ, ◌==◌, Bool, true, false, List, [], ◌∷◌, ◌++◌, Option, Result, Ok, refl, sym, ap, subst, ◌∙◌, append_assoc, append-nil, eq-eqb}
use Rattle.std.proofs.lemmas.Bool.{cond_both, eqb-true}
use Rattle.gentl_types.specs.declared.errors.GcError.{GcError}
use Rattle.buffer_words.specs.Loans.{Lent}
use Rattle.gev_apply.specs.Looks.{Looked, lent_by, lent_in}
use Rattle.camera_control.specs.declared.control_end.ControlEnd.TheVariants as causes
use Rattle.camera_words.specs.declared.settings.Settings.{Settings}
use Rattle.camera_words.specs.declared.settings.Output.{Output}
use Rattle.camera_reader.specs.declared.reader_end.ReaderEnd.{ReaderEnd}
use Rattle.camera_reader.specs.declared.reader_end.ReaderEnd.TheVariants as reads
use Rattle.frame_writing.specs.declared.handed_out.HandedEnd.{HandedEnd}
use Rattle.frame_writing.specs.declared.handed_out.HandedEnd.TheVariants as hands
use Rattle.frame_writing.specs.declared.handed_out.HandedOut.{HandedOut}
use Rattle.frame_writing.specs.HandsOut.{EndsBy, WritesAll, WritesButLast}
use Rattle.frame_writing.specs.Texts.{text_of, texts_of}
use Rattle.frame_writing.specs.Work.{has_enough}
use Rattle.gev_status.specs.declared.status.Status.{Status}
use Rattle.gev_status.specs.declared.status.Status.TheVariants as status
use Rattle.gev_receive.specs.Answers.{reader_status, handed_status, weightier}
use Rattle.live_promises.specs.Meaning.{Means, is_written, WritesTexts}

-- ---- the answer

-- an application that wrote all: the reader's answer, or Done where that has a cause
behind_done : (settings : Settings) (handed : HandedOut) (read : ReaderEnd) (left : Option (List ℕ)) → (read ≡ reads.Stopped → Means status.Done settings handed read left)
    → (handed.taken ≡ settings.frames → Means status.Done settings handed read left) → Means (weightier status.Done (reader_status read settings.frames handed.taken)) settings handed read left
behind_done settings handed reads.Stopped left stopped all = stopped refl
behind_done settings handed reads.Silent left stopped all =
    cond_both (handed.taken == settings.frames) status.Done (status.Silent handed.taken) (λ (s : Status). Means (weightier status.Done s) settings handed reads.Silent left)
    (λ is. all (eqb-true handed.taken settings.frames is))
    (λ isnt. (refl, refl, λ its. let is : (handed.taken == settings.frames) ≡ true = eq-eqb handed.taken settings.frames its in let bad : true ≡ false = sym is ∙ isnt in absurd (cc)))
behind_done settings handed (reads.Ended causes.LinkFault) left stopped all = refl
behind_done settings handed (reads.Ended (causes.NoAnswer req)) left stopped all = refl
behind_done settings handed (reads.Ended (causes.RefusedAt register code)) left stopped all = refl
behind_done settings handed (reads.Ended causes.Controlled) left stopped all = refl
behind_done settings handed (reads.Ended causes.ControlLost) left stopped all = (refl, refl)

-- a write that failed goes before all that the reader can tell but its link
behind_fault : (settings : Settings) (handed : HandedOut) (read : ReaderEnd) (left : Option (List ℕ)) → handed.end ≡ hands.WriteFault
    → Means (weightier status.WriteFault (reader_status read settings.frames handed.taken)) settings handed read left
behind_fault settings handed reads.Stopped left is = is
behind_fault settings handed reads.Silent left is =
    cond_both (handed.taken == settings.frames) status.Done (status.Silent handed.taken) (λ (s : Status). Means (weightier status.WriteFault s) settings handed reads.Silent left) (λ same. is) (λ other. is)
behind_fault settings handed (reads.Ended causes.LinkFault) left is = refl
behind_fault settings handed (reads.Ended (causes.NoAnswer req)) left is = is
behind_fault settings handed (reads.Ended (causes.RefusedAt register code)) left is = is
behind_fault settings handed (reads.Ended causes.Controlled) left is = is
behind_fault settings handed (reads.Ended causes.ControlLost) left is = is

-- and so does memory that was wanting
behind_lack : (settings : Settings) (handed : HandedOut) (read : ReaderEnd) (left : Option (List ℕ)) → handed.end ≡ hands.NoMemory
    → Means (weightier status.NoMemory (reader_status read settings.frames handed.taken)) settings handed read left
behind_lack settings handed reads.Stopped left is = is
behind_lack settings handed reads.Silent left is =
    cond_both (handed.taken == settings.frames) status.Done (status.Silent handed.taken) (λ (s : Status). Means (weightier status.NoMemory s) settings handed reads.Silent left) (λ same. is) (λ other. is)
behind_lack settings handed (reads.Ended causes.LinkFault) left is = refl
behind_lack settings handed (reads.Ended (causes.NoAnswer req)) left is = is
behind_lack settings handed (reads.Ended (causes.RefusedAt register code)) left is = is
behind_lack settings handed (reads.Ended causes.Controlled) left is = is
behind_lack settings handed (reads.Ended causes.ControlLost) left is = is

by_end : (end : HandedEnd) (settings : Settings) (handed : HandedOut) (read : ReaderEnd) (left : Option (List ℕ)) (output : Output) (made : List Looked) (written written_after : Option (List ℕ)) (faults faults_after : ℕ)
    → handed.end ≡ end → EndsBy end settings.frames output handed.taken made written written_after faults faults_after settings.until_input_ends left → (read ≡ reads.Stopped → has_enough end ≡ true)
    → Means (weightier (handed_status end) (reader_status read settings.frames handed.taken)) settings handed read left
by_end hands.Enough settings handed read left output made written written_after faults faults_after is ends by = behind_done settings handed read left (λ stopped. inl ends.0) (λ all. inl all)
by_end hands.Over settings handed read left output made written written_after faults faults_after is ends by =
    behind_done settings handed read left (λ stopped. let bad : false ≡ true = by stopped in absurd (cc)) (λ all. inl all)
by_end hands.InputEnded settings handed read left output made written written_after faults faults_after is ends by =
    behind_done settings handed read left (λ stopped. inr (ends.1, ends.2)) (λ all. inl all)
by_end hands.WriteFault settings handed read left output made written written_after faults faults_after is ends by = behind_fault settings handed read left is
by_end hands.NoMemory settings handed read left output made written written_after faults faults_after is ends by = behind_lack settings handed read left is

pub answer_means : (settings : Settings) (handed : HandedOut) (read : ReaderEnd) (left : Option (List ℕ)) (output : Output) (made : List Looked) (written written_after : Option (List ℕ)) (faults faults_after : ℕ) (answer : Status)
    → EndsBy handed.end settings.frames output handed.taken made written written_after faults faults_after settings.until_input_ends left → (read ≡ reads.Stopped → has_enough handed.end ≡ true)
    → answer ≡ weightier (handed_status handed.end) (reader_status read settings.frames handed.taken) → Means answer settings handed read left
answer_means settings handed read left output made written written_after faults faults_after answer ends by answered =
    subst (λ (s : Status). Means s settings handed read left) (sym answered)
    (by_end handed.end settings handed read left output made written written_after faults faults_after refl ends by)

-- ---- what was written

texts-append : (output : Output) (xs ys : List Lent) → texts_of output (xs ++ ys) ≡ texts_of output xs ++ texts_of output ys
texts-append output [] ys = refl
texts-append output (x ∷ xs) ys =
    ap (λ l. text_of output x.id x.filling ++ l) (texts-append output xs ys) ∙ sym (append_assoc (text_of output x.id x.filling) (texts_of output xs) (texts_of output ys))

lent-append : (xs ys : List Looked) → lent_in (xs ++ ys) ≡ lent_in xs ++ lent_in ys
lent-append [] ys = refl
lent-append (x ∷ xs) ys = ap (λ l. lent_by x.answer ++ l) (lent-append xs ys) ∙ sym (append_assoc (lent_by x.answer) (lent_in xs) (lent_in ys))

all_written : (output : Output) (end : HandedEnd) (made : List Looked) (written written_after : Option (List ℕ)) (faults faults_after : ℕ)
    → WritesAll output made written written_after faults faults_after → WritesTexts output end (lent_in made) written written_after
all_written output end made written written_after faults faults_after all = record {
  front = record { front = texts_of output (lent_in made); rest = []; parts = sym (append-nil (texts_of output (lent_in made))); appended = all.0 };
  whole = λ is. all.0;
}

-- the texts of the buffers before the last, and this front of the last one's, are a front of all texts
last_text : (output : Output) (made : List Looked) (before : List Looked) (last : Looked) (answer : Result Lent GcError) (loan : Lent) (front rest : List ℕ) → made ≡ before ++ last ∷ [] → last.answer ≡ answer → answer ≡ Ok loan
    → text_of output loan.id loan.filling ≡ front ++ rest → texts_of output (lent_in made) ≡ (texts_of output (lent_in before) ++ front) ++ rest
last_text output made before last answer loan front rest is same got parts =
    ap (λ l. texts_of output (lent_in l)) is
    ∙ (ap (texts_of output) (lent-append before (last ∷ []))
    ∙ (texts-append output (lent_in before) (lent_by last.answer ++ [])
    ∙ (ap (λ (a : Result Lent GcError). texts_of output (lent_in before) ++ texts_of output (lent_by a ++ [])) (same ∙ got)
    ∙ (ap (λ l. texts_of output (lent_in before) ++ l) (append-nil (text_of output loan.id loan.filling) ∙ parts)
    ∙ sym (append_assoc (texts_of output (lent_in before)) front rest)))))

but_last : (output : Output) (end : HandedEnd) (made : List Looked) (front : List ℕ) (written written_after : Option (List ℕ)) → is_written end ≡ false
    → WritesButLast output made front written written_after → WritesTexts output end (lent_in made) written written_after
but_last output end made front written written_after short w = record {
  front = record {
    front = texts_of output (lent_in w.before) ++ front;
    rest = w.rest;
    parts = last_text output made w.before w.last w.last.answer w.loan front w.rest w.is refl w.got w.parts;
    appended = w.appended;
  };
  whole = λ is. let bad : true ≡ false = sym is ∙ short in absurd (cc);
}

pub texts_written : (end : HandedEnd) (frames : ℕ) (output : Output) (taken : ℕ) (made : List Looked) (written written_after : Option (List ℕ)) (faults faults_after : ℕ) (on : Bool) (left : Option (List ℕ))
    → EndsBy end frames output taken made written written_after faults faults_after on left → WritesTexts output end (lent_in made) written written_after
texts_written hands.Enough frames output taken made written written_after faults faults_after on left ends = all_written output hands.Enough made written written_after faults faults_after ends.2
texts_written hands.Over frames output taken made written written_after faults faults_after on left ends = all_written output hands.Over made written written_after faults faults_after ends.2
texts_written hands.InputEnded frames output taken made written written_after faults faults_after on left ends = all_written output hands.InputEnded made written written_after faults faults_after ends.4
texts_written hands.WriteFault frames output taken made written written_after faults faults_after on left ends = but_last output hands.WriteFault made ends.0.0 written written_after refl ends.0.1
texts_written hands.NoMemory frames output taken made written written_after faults faults_after on left ends = but_last output hands.NoMemory made [] written written_after refl ends.0
