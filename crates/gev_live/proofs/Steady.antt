-- Which counts of faults stay and which rose, by a live run's answer.
use Rattle.std.proofs.Common.{◌≡◌, ◌≢◌, ◌⊎◌, inl, inr, ℕ, List, Option, refl, ap}
use Rattle.board_machine.specs.declared.events.Entry.{Entry}
use Rattle.gev_links.specs.Links.{Address}
use Rattle.gev_links.specs.Faults.{Rose}
use Rattle.gev_status.specs.declared.status.Status.{Status}
use Rattle.gev_status.specs.declared.status.Status.TheVariants.{Done, Usage, BadScript, BadCapture, NoPicture, Silent, Controlled, NoDescription, ControlLost, NoDatagram, RefusedAt, ReadFault, WriteFault, LinkFault, NoMemory, NoAnswer, Refused, TurnsSpent}
use Rattle.gev_live.specs.Told.{Told}
use Rattle.gev_live.specs.Endings.{Wrote}
use Rattle.gev_live.specs.declared.numbers.Numbers.{Numbers}
use Rattle.gev_live.specs.LiveRun.{LinkFailed, RunsLive}

pub runs_steady : (n : Numbers) (camera stream : Address) (answer : Status) (o e : Told) (written written_after : Option (List ℕ)) (faults faults_after : ℕ) (h : List Entry)
    → RunsLive n camera stream answer o e written written_after faults faults_after h → answer ≢ LinkFault
    → (e.camera.faults ≡ o.camera.faults) × (e.stream.faults ≡ o.stream.faults) × (e.control.faults ≡ o.control.faults)
runs_steady n camera stream answer o e written written_after faults faults_after h (inl run) ne = let stay = run.steady ne in (stay.camera, stay.stream, stay.control)
runs_steady n camera stream answer o e written written_after faults faults_after h (inr none) ne =
    (ap (λ (t : Told). t.camera.faults) none.untold, ap (λ (t : Told). t.stream.faults) none.untold, ap (λ (t : Told). t.control.faults) none.untold)

pub runs_failed : (n : Numbers) (camera stream : Address) (answer : Status) (o e : Told) (written written_after : Option (List ℕ)) (faults faults_after : ℕ) (h : List Entry)
    → RunsLive n camera stream answer o e written written_after faults faults_after h → answer ≡ LinkFault
    → Rose o.camera.faults e.camera.faults ⊎ Rose o.stream.faults e.stream.faults ⊎ Rose o.control.faults e.control.faults
runs_failed n camera stream answer o e written written_after faults faults_after h (inl run) is = go (run.failed is)
  where
    go : LinkFailed o e → Rose o.camera.faults e.camera.faults ⊎ Rose o.stream.faults e.stream.faults ⊎ Rose o.control.faults e.control.faults
    go (inl rose) = inl rose
    go (inr rose) = inr rose
runs_failed n camera stream answer o e written written_after faults faults_after h (inr none) is = let wanted : answer ≡ NoMemory = none.wanted in absurd (cc)

pub wrote_steady : (answer : Status) (text : List ℕ) (written written_after : Option (List ℕ)) (faults faults_after : ℕ) → Wrote answer text written written_after faults faults_after → answer ≢ WriteFault → faults_after ≡ faults
wrote_steady Done text written written_after faults faults_after wrote ne = wrote.1
wrote_steady (NoAnswer req) text written written_after faults faults_after wrote ne = wrote.1
wrote_steady (Refused status) text written written_after faults faults_after wrote ne = wrote.1
wrote_steady (TurnsSpent turns frames) text written written_after faults faults_after wrote ne = wrote.1
wrote_steady WriteFault text written written_after faults faults_after wrote ne = absurd (ne refl)
wrote_steady NoMemory text written written_after faults faults_after wrote ne = wrote.1
wrote_steady LinkFault text written written_after faults faults_after wrote ne = wrote.1
wrote_steady ReadFault text written written_after faults faults_after wrote ne = absurd wrote
wrote_steady (Usage place) text written written_after faults faults_after wrote ne = absurd wrote
wrote_steady (BadScript line kind) text written written_after faults faults_after wrote ne = absurd wrote
wrote_steady (BadCapture number kind) text written written_after faults faults_after wrote ne = absurd wrote
wrote_steady (NoPicture why) text written written_after faults faults_after wrote ne = absurd wrote
wrote_steady (Silent frames) text written written_after faults faults_after wrote ne = absurd wrote
wrote_steady Controlled text written written_after faults faults_after wrote ne = absurd wrote
wrote_steady NoDescription text written written_after faults faults_after wrote ne = absurd wrote
wrote_steady (ControlLost frames) text written written_after faults faults_after wrote ne = absurd wrote
wrote_steady (NoDatagram port) text written written_after faults faults_after wrote ne = absurd wrote
wrote_steady (RefusedAt register code) text written written_after faults faults_after wrote ne = absurd wrote

pub runs_writes_steady : (n : Numbers) (camera stream : Address) (answer : Status) (o e : Told) (written written_after : Option (List ℕ)) (faults faults_after : ℕ) (h : List Entry)
    → RunsLive n camera stream answer o e written written_after faults faults_after h → answer ≢ WriteFault → faults_after ≡ faults
runs_writes_steady n camera stream answer o e written written_after faults faults_after h (inl run) ne = wrote_steady answer _ written written_after faults faults_after run.ended.wrote ne
runs_writes_steady n camera stream answer o e written written_after faults faults_after h (inr none) ne = none.no_fault
