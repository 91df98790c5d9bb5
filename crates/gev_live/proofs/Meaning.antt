-- What the answer of a live run says, by the ends of its workers.
use Rattle.std.proofs.Common.{◌≡◌, ◌≢◌, ◌⊎◌, inl, inr, ℕ, ◌≤◌, ◌==◌, Bool, true, false, List, length, Option, Some, Result, Ok, Err, refl, sym, ap, subst, ◌∙◌, arith}
use Rattle.std.proofs.lemmas.Bool.{cond_both, eqb-true, eqb-false}
use Rattle.gev_types.specs.declared.memory.NoMemory.{NoMemory}
use Rattle.gev_links.specs.Links.{Address}
use Rattle.gev_links.specs.Faults.{Rose}
use Rattle.gev_status.specs.declared.status.Status.{Status}
use Rattle.gev_status.specs.declared.status.Status.TheVariants as status
use Rattle.gev_serve.specs.declared.ends.ServeEnd.{ServeEnd}
use Rattle.gev_serve.specs.declared.ends.ServeEnd.TheVariants as serves
use Rattle.gev_serve.specs.Wires.{Wire}
use Rattle.gev_control.specs.declared.acq_end.AcqEnd.{AcqEnd}
use Rattle.gev_control.specs.declared.acq_end.AcqEnd.TheVariants as reads
use Rattle.gev_control.specs.Ends.{is_fault_end}
use Rattle.gev_control.specs.SetupTurns.{SetupTurned, set_up}
use Rattle.gev_control.specs.SetsUp.{setup_after}
use Rattle.gev_control.proofs.OrderEnds.{ends_as_client}
use Rattle.client_machine.specs.Machine.{Client}
use Rattle.gev_acq.specs.Reading.{FaultsOf}
use Rattle.gev_acq.specs.Turns.{Turned}
use Rattle.gev_acq.specs.Reads.{EndsAfter, IsSetUp}
use Rattle.gev_apply.specs.Looks.{Looked}
use Rattle.camera_machine.specs.Camera.{Camera}
use Rattle.gev_live.specs.Told.{Told}
use Rattle.gev_live.specs.Endings.{taken_of, read_status, application_status, camera_status, status_by, is_told, FailsLast}
use Rattle.gev_live.specs.Parts.{TellsTaken, LiveCamera}
use Rattle.gev_live.specs.LiveRun.{LinksStay, LinkFailed, Means}

-- ---- the links

abbrev pub camera_is_faulty : ServeEnd → Bool
camera_is_faulty serves.Stopped = false
camera_is_faulty serves.Spent = false
camera_is_faulty serves.NoMemory = false
camera_is_faulty serves.Fault = true

camera_stays : (s : Camera) (v w : Wire) (told now : Option (List ℕ)) (end : ServeEnd) → LiveCamera s v w told now end → camera_is_faulty end ≡ false → w.faults ≡ v.faults
camera_stays s v w told now serves.Stopped c e = c.ends.4
camera_stays s v w told now serves.Spent c e = c.ends.4
camera_stays s v w told now serves.NoMemory c e = c.ends.2
camera_stays s v w told now serves.Fault c e = absurd (cc)

camera_rose : (s : Camera) (v w : Wire) (told now : Option (List ℕ)) (end : ServeEnd) → LiveCamera s v w told now end → camera_is_faulty end ≡ true → Rose v.faults w.faults
camera_rose s v w told now serves.Stopped c e = absurd (cc)
camera_rose s v w told now serves.Spent c e = absurd (cc)
camera_rose s v w told now serves.NoMemory c e = absurd (cc)
camera_rose s v w told now serves.Fault c e = c.ends.1

reader_stays : (b : Bool) (x y z w : ℕ) → FaultsOf b x y z w → b ≡ false → (y ≡ x) × (w ≡ z)
reader_stays true x y z w faults e = absurd (cc)
reader_stays false x y z w faults e = (faults.0, faults.1)

reader_rose : (b : Bool) (x y z w : ℕ) → FaultsOf b x y z w → b ≡ true → Rose x y ⊎ Rose z w
reader_rose true x y z w (inl faults) e = inl faults.0
reader_rose true x y z w (inr faults) e = inr faults.1
reader_rose false x y z w faults e = absurd (cc)

-- an answer other than LinkFault comes of ends that are no faults
no_link_fault : {E : Type 0} (served : ServeEnd) (read : AcqEnd) (frames turns : ℕ) (answer : Result ℕ E) → status_by served read frames turns answer ≢ status.LinkFault
    → (camera_is_faulty served ≡ false) × (is_fault_end read ≡ false)
no_link_fault serves.Fault reads.Stopped frames turns answer ne = absurd (ne refl)
no_link_fault serves.Fault reads.Spent frames turns answer ne = absurd (ne refl)
no_link_fault serves.Fault (reads.NoAnswer req) frames turns answer ne = absurd (ne refl)
no_link_fault serves.Fault (reads.Refused code) frames turns answer ne = absurd (ne refl)
no_link_fault served reads.Fault frames turns answer ne = absurd (ne refl)
no_link_fault serves.Stopped reads.Stopped frames turns answer ne = (refl, refl)
no_link_fault serves.Stopped reads.Spent frames turns answer ne = (refl, refl)
no_link_fault serves.Stopped (reads.NoAnswer req) frames turns answer ne = (refl, refl)
no_link_fault serves.Stopped (reads.Refused code) frames turns answer ne = (refl, refl)
no_link_fault serves.Spent reads.Stopped frames turns answer ne = (refl, refl)
no_link_fault serves.Spent reads.Spent frames turns answer ne = (refl, refl)
no_link_fault serves.Spent (reads.NoAnswer req) frames turns answer ne = (refl, refl)
no_link_fault serves.Spent (reads.Refused code) frames turns answer ne = (refl, refl)
no_link_fault serves.NoMemory reads.Stopped frames turns answer ne = (refl, refl)
no_link_fault serves.NoMemory reads.Spent frames turns answer ne = (refl, refl)
no_link_fault serves.NoMemory (reads.NoAnswer req) frames turns answer ne = (refl, refl)
no_link_fault serves.NoMemory (reads.Refused code) frames turns answer ne = (refl, refl)

-- and LinkFault of one that is
read_no_fault : (end : AcqEnd) (frames turns taken : ℕ) → is_fault_end end ≡ false → read_status end frames turns taken ≢ status.LinkFault
read_no_fault reads.Stopped frames turns taken e = cond_both (taken == frames) status.Done status.NoMemory (λ s. s ≢ status.LinkFault) (λ _ f. cc) (λ _ f. cc)
read_no_fault reads.Spent frames turns taken e = cond_both (taken == frames) status.Done (status.TurnsSpent turns taken) (λ s. s ≢ status.LinkFault) (λ _ f. cc) (λ _ f. cc)
read_no_fault reads.Fault frames turns taken e = λ f. cc
read_no_fault (reads.NoAnswer req) frames turns taken e = λ f. cc
read_no_fault (reads.Refused code) frames turns taken e = λ f. cc

application_no_fault : {E : Type 0} (end : AcqEnd) (frames turns : ℕ) (answer : Result ℕ E) → is_fault_end end ≡ false → application_status end frames turns answer ≢ status.LinkFault
application_no_fault end frames turns (Ok taken) e = read_no_fault end frames turns taken e
application_no_fault end frames turns (Err error) e = λ f. cc

camera_fault : {E : Type 0} (served : ServeEnd) (end : AcqEnd) (frames turns : ℕ) (answer : Result ℕ E) → is_fault_end end ≡ false → camera_status served end frames turns answer ≡ status.LinkFault → camera_is_faulty served ≡ true
camera_fault serves.Stopped end frames turns answer e is = absurd (application_no_fault end frames turns answer e is)
camera_fault serves.Fault end frames turns answer e is = refl
camera_fault serves.NoMemory end frames turns answer e is = absurd (cc)
camera_fault serves.Spent end frames turns answer e is = absurd (application_no_fault end frames turns answer e is)

link_fault : {E : Type 0} (served : ServeEnd) (read : AcqEnd) (frames turns : ℕ) (answer : Result ℕ E) → status_by served read frames turns answer ≡ status.LinkFault
    → (camera_is_faulty served ≡ true) ⊎ (is_fault_end read ≡ true)
link_fault served reads.Stopped frames turns answer is = inl (camera_fault served reads.Stopped frames turns answer refl is)
link_fault served reads.Spent frames turns answer is = inl (camera_fault served reads.Spent frames turns answer refl is)
link_fault served reads.Fault frames turns answer is = inr refl
link_fault served (reads.NoAnswer req) frames turns answer is = inl (camera_fault served (reads.NoAnswer req) frames turns answer refl is)
link_fault served (reads.Refused code) frames turns answer is = inl (camera_fault served (reads.Refused code) frames turns answer refl is)

-- the first answer is LinkFault exactly where the last one is
first_ne : (first answer : Status) → (answer ≡ first) ⊎ ((is_told first ≡ true) × FailsLast answer) → answer ≢ status.LinkFault → first ≢ status.LinkFault
first_ne first answer (inl e) ne is = ne (e ∙ is)
first_ne first answer (inr fails) ne is = let told : is_told first ≡ true = fails.0 in let no : is_told first ≡ false = ap is_told is in cc

first_is : (first answer : Status) → (answer ≡ first) ⊎ ((is_told first ≡ true) × FailsLast answer) → answer ≡ status.LinkFault → first ≡ status.LinkFault
first_is first answer (inl e) is = sym e ∙ is
first_is first answer (inr fails) is = absurd (no_last fails.1)
  where
    no_last : FailsLast answer → ⊥
    no_last (inl e) = cc
    no_last (inr e) = cc

pub links_stay : (s : Camera) (o e : Told) (served : ServeEnd) (read : AcqEnd) (frames turns : ℕ) (applied : Result ℕ NoMemory) (answer : Status) → LiveCamera s o.camera e.camera o.camera_clock e.camera_clock served
    → FaultsOf (is_fault_end read) o.stream.faults e.stream.faults o.control.faults e.control.faults
    → (answer ≡ status_by served read frames turns applied) ⊎ ((is_told (status_by served read frames turns applied) ≡ true) × FailsLast answer) → answer ≢ status.LinkFault → LinksStay o e
links_stay s o e served read frames turns applied answer camera faults cause ne = record {
  camera = camera_stays s o.camera e.camera o.camera_clock e.camera_clock served camera well.0;
  stream = (reader_stays (is_fault_end read) o.stream.faults e.stream.faults o.control.faults e.control.faults faults well.1).0;
  control = (reader_stays (is_fault_end read) o.stream.faults e.stream.faults o.control.faults e.control.faults faults well.1).1;
}
  where
    well : (camera_is_faulty served ≡ false) × (is_fault_end read ≡ false)
    well = no_link_fault served read frames turns applied (first_ne (status_by served read frames turns applied) answer cause ne)

pub link_failed : (s : Camera) (o e : Told) (served : ServeEnd) (read : AcqEnd) (frames turns : ℕ) (applied : Result ℕ NoMemory) (answer : Status) → LiveCamera s o.camera e.camera o.camera_clock e.camera_clock served
    → FaultsOf (is_fault_end read) o.stream.faults e.stream.faults o.control.faults e.control.faults
    → (answer ≡ status_by served read frames turns applied) ⊎ ((is_told (status_by served read frames turns applied) ≡ true) × FailsLast answer) → answer ≡ status.LinkFault → LinkFailed o e
link_failed s o e served read frames turns applied answer camera faults cause is = go (link_fault served read frames turns applied (first_is (status_by served read frames turns applied) answer cause is))
  where
    go : (camera_is_faulty served ≡ true) ⊎ (is_fault_end read ≡ true) → LinkFailed o e
    go (inl bad) = inl (camera_rose s o.camera e.camera o.camera_clock e.camera_clock served camera bad)
    go (inr bad) = inr (reader_rose (is_fault_end read) o.stream.faults e.stream.faults o.control.faults e.control.faults faults bad)

-- ---- what the answer says

-- where the reader spent its turns it made them all
all_turns : (stream : Address) (setup_end : AcqEnd) (turns : ℕ) (made : List Turned) → setup_end ≢ reads.Spent → EndsAfter setup_end reads.Spent turns made → length made ≡ turns
all_turns stream reads.Stopped turns made ne ends = ends.0
all_turns stream reads.Spent turns made ne ends = absurd (ne refl)
all_turns stream reads.Fault turns made ne ends = absurd (cc)
all_turns stream (reads.NoAnswer req) turns made ne ends = absurd (cc)
all_turns stream (reads.Refused code) turns made ne ends = absurd (cc)

read_means : (end : AcqEnd) (frames turns taken made : ℕ) → taken ≤ frames → (end ≡ reads.Spent → made ≡ turns) → Means (read_status end frames turns taken) frames turns taken made end
read_means reads.Stopped frames turns taken made few all = cond_both (taken == frames) status.Done status.NoMemory (λ s. Means s frames turns taken made reads.Stopped) (λ e. eqb-true taken frames e) (λ e. tt)
read_means reads.Spent frames turns taken made few all =
    cond_both (taken == frames) status.Done (status.TurnsSpent turns taken) (λ s. Means s frames turns taken made reads.Spent)
    (λ e. eqb-true taken frames e)
    (λ e. (refl, all refl, refl, (let apart : taken ≢ frames = eqb-false taken frames e in omega (arith, few, apart))))
read_means reads.Fault frames turns taken made few all = tt
read_means (reads.NoAnswer req) frames turns taken made few all = refl
read_means (reads.Refused code) frames turns taken made few all = refl

application_means : (end : AcqEnd) (frames turns made : ℕ) (lines : List ℕ) (looked : List Looked) (answer : Result ℕ NoMemory) → TellsTaken frames looked lines answer → (end ≡ reads.Spent → made ≡ turns)
    → Means (application_status end frames turns answer) frames turns (taken_of answer) made end
application_means end frames turns made lines looked (Ok taken) told all = read_means end frames turns taken made told.1 all
application_means end frames turns made lines looked (Err error) told all = tt

camera_means : (served : ServeEnd) (end : AcqEnd) (frames turns made : ℕ) (lines : List ℕ) (looked : List Looked) (answer : Result ℕ NoMemory) → TellsTaken frames looked lines answer → (end ≡ reads.Spent → made ≡ turns)
    → Means (camera_status served end frames turns answer) frames turns (taken_of answer) made end
camera_means serves.Stopped end frames turns made lines looked answer told all = application_means end frames turns made lines looked answer told all
camera_means serves.Fault end frames turns made lines looked answer told all = tt
camera_means serves.NoMemory end frames turns made lines looked answer told all = tt
camera_means serves.Spent end frames turns made lines looked answer told all = application_means end frames turns made lines looked answer told all

first_means : (served : ServeEnd) (end : AcqEnd) (frames turns made : ℕ) (lines : List ℕ) (looked : List Looked) (answer : Result ℕ NoMemory) → TellsTaken frames looked lines answer → (end ≡ reads.Spent → made ≡ turns)
    → Means (status_by served end frames turns answer) frames turns (taken_of answer) made end
first_means served reads.Stopped frames turns made lines looked answer told all = camera_means served reads.Stopped frames turns made lines looked answer told all
first_means served reads.Spent frames turns made lines looked answer told all = camera_means served reads.Spent frames turns made lines looked answer told all
first_means served reads.Fault frames turns made lines looked answer told all = tt
first_means served (reads.NoAnswer req) frames turns made lines looked answer told all = camera_means served (reads.NoAnswer req) frames turns made lines looked answer told all
first_means served (reads.Refused code) frames turns made lines looked answer told all = camera_means served (reads.Refused code) frames turns made lines looked answer told all

pub answer_means : (served : ServeEnd) (end : AcqEnd) (frames turns made : ℕ) (lines : List ℕ) (looked : List Looked) (applied : Result ℕ NoMemory) (answer : Status) → TellsTaken frames looked lines applied → (end ≡ reads.Spent → made ≡ turns)
    → (answer ≡ status_by served end frames turns applied) ⊎ ((is_told (status_by served end frames turns applied) ≡ true) × FailsLast answer) → Means answer frames turns (taken_of applied) made end
answer_means served end frames turns made lines looked applied answer told all (inl e) =
    subst (λ s. Means s frames turns (taken_of applied) made end) (sym e) (first_means served end frames turns made lines looked applied told all)
answer_means served end frames turns made lines looked applied answer told all (inr fails) = last fails.1
  where
    last : FailsLast answer → Means answer frames turns (taken_of applied) made end
    last (inl e) = subst (λ s. Means s frames turns (taken_of applied) made end) (sym e) tt
    last (inr e) = subst (λ s. Means s frames turns (taken_of applied) made end) (sym e) tt

pub spent_all : (stream : Address) (setup_end end : AcqEnd) (turns : ℕ) (made : List Turned) → setup_end ≢ reads.Spent → EndsAfter setup_end end turns made → end ≡ reads.Spent → length made ≡ turns
spent_all stream setup_end end turns made ne ends is = all_turns stream setup_end turns made ne (subst (λ x. EndsAfter setup_end x turns made) is ends)

pub never_spent : (stream : Address) (s : Client) (made : List SetupTurned) (end : AcqEnd) (u : Client) → IsSetUp stream s made end u → end ≢ reads.Spent
never_spent stream s made end u by is = (ends_as_client stream (setup_after stream (set_up s 0) by.before) by.last).never_spent (by.ended ∙ ap Some is)
