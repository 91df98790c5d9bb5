-- Which counts of faults stay and which rose, by a recorded run's answer.
use Rattle.std.proofs.Common.{◌≡◌, ◌≢◌, ◌⊎◌, inl, inr, ℕ, true, false, List, Option, refl, sym, ap, ◌∙◌}
use Rattle.board_machine.specs.declared.events.Entry.{Entry}
use Rattle.board_machine.specs.Histories.{After}
use Rattle.board_machine.specs.Laws.{IsAlone}
use Rattle.gev_links.specs.Faults.{Rose}
use Rattle.gev_links.specs.Links.{Address}
use Rattle.gev_status.specs.declared.status.Status.{Status}
use Rattle.gev_status.specs.declared.status.Status.TheVariants.{Done, WriteFault, LinkFault, NoMemory, NoAnswer, Refused, TurnsSpent}
use Rattle.gev_live.specs.Told.{Told}
use Rattle.gev_live.specs.Endings.{is_told, FailsLast}
use Rattle.gev_live.specs.declared.numbers.Numbers.{Numbers}
use Rattle.gev_live.proofs.Steady.{runs_steady, runs_failed}
use Rattle.live_recording.specs.Recorded.{Recorded, RecordsLive}

lived_failed : (lived answer : Status) → (answer ≡ lived) ⊎ ((is_told lived ≡ true) × FailsLast answer) → lived ≡ LinkFault → answer ≡ LinkFault
lived_failed lived answer (inl same) is = same ∙ is
lived_failed lived answer (inr fails) is = let told : is_told lived ≡ false = ap is_told is in let other = fails.0 in absurd (cc)

last_failed : (answer : Status) → FailsLast answer → answer ≡ LinkFault → ⊥
last_failed answer (inl same) is = absurd (cc)
last_failed answer (inr same) is = absurd (cc)

answer_failed : (lived answer : Status) → (answer ≡ lived) ⊎ ((is_told lived ≡ true) × FailsLast answer) → answer ≡ LinkFault → lived ≡ LinkFault
answer_failed lived answer (inl same) is = sym same ∙ is
answer_failed lived answer (inr fails) is = absurd (last_failed answer fails.1 is)

pub recorded_alone : (n : Numbers) (camera stream : Address) (answer : Status) (o e : Told) (kept : List (Option (List ℕ))) (written written_after : Option (List ℕ)) (faults faults_after : ℕ) (h : List Entry)
    → RecordsLive n camera stream answer o e kept written written_after faults faults_after h → IsAlone (After h) 0
recorded_alone n camera stream answer o e kept written written_after faults faults_after h (inl run) = run.run.history.alone
recorded_alone n camera stream answer o e kept written written_after faults faults_after h (inr none) = none.never.alone

pub recorded_steady : (n : Numbers) (camera stream : Address) (answer : Status) (o e : Told) (kept : List (Option (List ℕ))) (written written_after : Option (List ℕ)) (faults faults_after : ℕ) (h : List Entry)
    → RecordsLive n camera stream answer o e kept written written_after faults faults_after h → answer ≢ LinkFault
    → (e.camera.faults ≡ o.camera.faults) × (e.stream.faults ≡ o.stream.faults) × (e.control.faults ≡ o.control.faults)
recorded_steady n camera stream answer o e kept written written_after faults faults_after h (inl run) ne =
    runs_steady n camera stream run.lived o e _ _ _ _ h (inl run.run) (λ is. ne (lived_failed run.lived answer run.ended.cause is))
recorded_steady n camera stream answer o e kept written written_after faults faults_after h (inr none) ne = runs_steady n camera stream answer o e _ _ _ _ h (inr none.never) ne

pub recorded_failed : (n : Numbers) (camera stream : Address) (answer : Status) (o e : Told) (kept : List (Option (List ℕ))) (written written_after : Option (List ℕ)) (faults faults_after : ℕ) (h : List Entry)
    → RecordsLive n camera stream answer o e kept written written_after faults faults_after h → answer ≡ LinkFault
    → Rose o.camera.faults e.camera.faults ⊎ Rose o.stream.faults e.stream.faults ⊎ Rose o.control.faults e.control.faults
recorded_failed n camera stream answer o e kept written written_after faults faults_after h (inl run) is =
    runs_failed n camera stream run.lived o e _ _ _ _ h (inl run.run) (answer_failed run.lived answer run.ended.cause is)
recorded_failed n camera stream answer o e kept written written_after faults faults_after h (inr none) is = runs_failed n camera stream answer o e _ _ _ _ h (inr none.never) is

wrote_steady : (answer : Status) (script : List ℕ) (written written_after : Option (List ℕ)) (faults faults_after : ℕ) → Recorded answer script written written_after faults faults_after → answer ≢ WriteFault → faults_after ≡ faults
wrote_steady Done script written written_after faults faults_after wrote ne = wrote.1
wrote_steady (NoAnswer req) script written written_after faults faults_after wrote ne = wrote.1
wrote_steady (Refused code) script written written_after faults faults_after wrote ne = wrote.1
wrote_steady (TurnsSpent turns frames) script written written_after faults faults_after wrote ne = wrote.1
wrote_steady WriteFault script written written_after faults faults_after wrote ne = absurd (ne refl)
wrote_steady NoMemory script written written_after faults faults_after wrote ne = wrote.1
wrote_steady LinkFault script written written_after faults faults_after wrote ne = wrote.1
wrote_steady _ script written written_after faults faults_after wrote ne = absurd wrote

pub recorded_writes_steady : (n : Numbers) (camera stream : Address) (answer : Status) (o e : Told) (kept : List (Option (List ℕ))) (written written_after : Option (List ℕ)) (faults faults_after : ℕ) (h : List Entry)
    → RecordsLive n camera stream answer o e kept written written_after faults faults_after h → answer ≢ WriteFault → faults_after ≡ faults
recorded_writes_steady n camera stream answer o e kept written written_after faults faults_after h (inl run) ne = wrote_steady answer _ written written_after faults faults_after run.ended.wrote ne
recorded_writes_steady n camera stream answer o e kept written written_after faults faults_after h (inr none) ne = none.never.no_fault
