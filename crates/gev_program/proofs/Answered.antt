-- What a live run's answer says of its links and of the sink.
use Rattle.std.proofs.Common.{◌≡◌, ◌≢◌, ℕ, List, Option, refl, sym, ◌∙◌, subst, inl, inr}
use Rattle.board_machine.specs.declared.events.Entry.{Entry}
use Rattle.gev_links.specs.Links.{Address}
use Rattle.gev_status.specs.declared.status.Status.{Status}
use Rattle.gev_status.specs.declared.status.Status.TheVariants.{Done, Usage, BadScript, ReadFault, WriteFault, LinkFault, NoMemory, NoAnswer, Refused, TurnsSpent, BadCapture, NoPicture, Silent, Controlled, NoDescription, ControlLost, NoDatagram, RefusedAt}
use Rattle.gev_live.specs.Told.{Told}
use Rattle.gev_live.specs.Endings.{Wrote}
use Rattle.gev_live.specs.LiveRun.{LinksStay, LinkFailed}
use Rattle.gev_top.specs.declared.live_numbers.LiveNumbers.{LiveNumbers}
use Rattle.gev_program.specs.Runs.{RunsSo}

pub links_kept : (n : LiveNumbers) (camera stream : Address) (answer : Status) (o e : Told) (written written_after : Option (List ℕ)) (faults faults_after : ℕ) (h : List Entry)
    → RunsSo n camera stream answer o e written written_after faults faults_after h → answer ≢ LinkFault → LinksStay o e
links_kept n camera stream answer o e written written_after faults faults_after h (inl (one, inl run)) other = run.steady other
links_kept n camera stream answer o e written written_after faults faults_after h (inr (more, inl run)) other = run.steady other
links_kept n camera stream answer o e written written_after faults faults_after h (inl (one, inr never)) other =
    subst (λ (x : Told). LinksStay o x) (sym never.untold) (record { camera = refl; stream = refl; control = refl })
links_kept n camera stream answer o e written written_after faults faults_after h (inr (more, inr never)) other =
    subst (λ (x : Told). LinksStay o x) (sym never.untold) (record { camera = refl; stream = refl; control = refl })

never_links : (answer : Status) → answer ≡ NoMemory → answer ≡ LinkFault → ⊥
never_links answer wanted is = let bad : LinkFault ≡ NoMemory = sym is ∙ wanted in cc

pub link_failed : (n : LiveNumbers) (camera stream : Address) (answer : Status) (o e : Told) (written written_after : Option (List ℕ)) (faults faults_after : ℕ) (h : List Entry)
    → RunsSo n camera stream answer o e written written_after faults faults_after h → answer ≡ LinkFault → LinkFailed o e
link_failed n camera stream answer o e written written_after faults faults_after h (inl (one, inl run)) is = run.failed is
link_failed n camera stream answer o e written written_after faults faults_after h (inr (more, inl run)) is = run.failed is
link_failed n camera stream answer o e written written_after faults faults_after h (inl (one, inr never)) is = absurd (never_links answer never.wanted is)
link_failed n camera stream answer o e written written_after faults faults_after h (inr (more, inr never)) is = absurd (never_links answer never.wanted is)

wrote_kept : (answer : Status) (text : List ℕ) (written written_after : Option (List ℕ)) (faults faults_after : ℕ) → Wrote answer text written written_after faults faults_after
    → answer ≢ WriteFault → faults_after ≡ faults
wrote_kept Done text written written_after faults faults_after wrote other = wrote.1
wrote_kept (NoAnswer req) text written written_after faults faults_after wrote other = wrote.1
wrote_kept (Refused status) text written written_after faults faults_after wrote other = wrote.1
wrote_kept (TurnsSpent turns frames) text written written_after faults faults_after wrote other = wrote.1
wrote_kept WriteFault text written written_after faults faults_after wrote other = absurd (other refl)
wrote_kept NoMemory text written written_after faults faults_after wrote other = wrote.1
wrote_kept LinkFault text written written_after faults faults_after wrote other = wrote.1
wrote_kept ReadFault text written written_after faults faults_after wrote other = absurd wrote
wrote_kept (Usage place) text written written_after faults faults_after wrote other = absurd wrote
wrote_kept (BadScript line kind) text written written_after faults faults_after wrote other = absurd wrote
wrote_kept (BadCapture number kind) text written written_after faults faults_after wrote other = absurd wrote
wrote_kept (NoPicture why) text written written_after faults faults_after wrote other = absurd wrote
wrote_kept (Silent frames) text written written_after faults faults_after wrote other = absurd wrote
wrote_kept Controlled text written written_after faults faults_after wrote other = absurd wrote
wrote_kept NoDescription text written written_after faults faults_after wrote other = absurd wrote
wrote_kept (ControlLost frames) text written written_after faults faults_after wrote other = absurd wrote
wrote_kept (NoDatagram port) text written written_after faults faults_after wrote other = absurd wrote
wrote_kept (RefusedAt register code) text written written_after faults faults_after wrote other = absurd wrote

pub writes_kept : (n : LiveNumbers) (camera stream : Address) (answer : Status) (o e : Told) (written written_after : Option (List ℕ)) (faults faults_after : ℕ) (h : List Entry)
    → RunsSo n camera stream answer o e written written_after faults faults_after h → answer ≢ WriteFault → faults_after ≡ faults
writes_kept n camera stream answer o e written written_after faults faults_after h (inl (one, inl run)) other =
    wrote_kept answer _ written written_after faults faults_after run.ended.wrote other
writes_kept n camera stream answer o e written written_after faults faults_after h (inr (more, inl run)) other =
    wrote_kept answer _ written written_after faults faults_after run.ended.wrote other
writes_kept n camera stream answer o e written written_after faults faults_after h (inl (one, inr never)) other = never.no_fault
writes_kept n camera stream answer o e written written_after faults faults_after h (inr (more, inr never)) other = never.no_fault

never_usage : (answer : Status) (place : ℕ) → answer ≡ NoMemory → answer ≡ Usage place → ⊥
never_usage answer place wanted is = let bad : Usage place ≡ NoMemory = sym is ∙ wanted in cc

wrote_usage : (answer : Status) (place : ℕ) (text : List ℕ) (written written_after : Option (List ℕ)) (faults faults_after : ℕ) → Wrote answer text written written_after faults faults_after
    → answer ≢ Usage place
wrote_usage answer place text written written_after faults faults_after wrote is =
    subst (λ (a : Status). Wrote a text written written_after faults faults_after) is wrote

-- the answer of a run is none to words
pub run_understood : (n : LiveNumbers) (camera stream : Address) (answer : Status) (o e : Told) (written written_after : Option (List ℕ)) (faults faults_after : ℕ) (h : List Entry)
    → RunsSo n camera stream answer o e written written_after faults faults_after h → (place : ℕ) → answer ≢ Usage place
run_understood n camera stream answer o e written written_after faults faults_after h (inl (one, inl run)) place is =
    wrote_usage answer place _ written written_after faults faults_after run.ended.wrote is
run_understood n camera stream answer o e written written_after faults faults_after h (inr (more, inl run)) place is =
    wrote_usage answer place _ written written_after faults faults_after run.ended.wrote is
run_understood n camera stream answer o e written written_after faults faults_after h (inl (one, inr never)) place is = never_usage answer place never.wanted is
run_understood n camera stream answer o e written written_after faults faults_after h (inr (more, inr never)) place is = never_usage answer place never.wanted is
