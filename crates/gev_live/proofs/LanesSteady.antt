-- Which counts of faults stay and which rose, by the answer of a live run with lanes.
use Rattle.std.proofs.Common.{◌≡◌, ◌≢◌, ◌⊎◌, inl, inr, ℕ, List, Option, ap}
use Rattle.board_machine.specs.declared.events.Entry.{Entry}
use Rattle.gev_links.specs.Links.{Address}
use Rattle.gev_links.specs.Faults.{Rose}
use Rattle.gev_status.specs.declared.status.Status.{Status}
use Rattle.gev_status.specs.declared.status.Status.TheVariants.{WriteFault, LinkFault, NoMemory}
use Rattle.gev_live.specs.Told.{Told}
use Rattle.gev_live.specs.declared.numbers.Numbers.{Numbers}
use Rattle.gev_live.specs.LiveRun.{LinkFailed}
use Rattle.gev_live.specs.LanesRun.{RunsLanes, RunsSo}
use Rattle.gev_live.proofs.Steady.{runs_steady, runs_failed, runs_writes_steady, wrote_steady}

pub lanes_steady : (n : Numbers) (lanes : ℕ) (camera stream : Address) (answer : Status) (o e : Told) (written written_after : Option (List ℕ)) (faults faults_after : ℕ) (h : List Entry)
    → RunsLanes n lanes camera stream answer o e written written_after faults faults_after h → answer ≢ LinkFault
    → (e.camera.faults ≡ o.camera.faults) × (e.stream.faults ≡ o.stream.faults) × (e.control.faults ≡ o.control.faults)
lanes_steady n lanes camera stream answer o e written written_after faults faults_after h (inl run) ne = let stay = run.steady ne in (stay.camera, stay.stream, stay.control)
lanes_steady n lanes camera stream answer o e written written_after faults faults_after h (inr none) ne =
    (ap (λ (t : Told). t.camera.faults) none.untold, ap (λ (t : Told). t.stream.faults) none.untold, ap (λ (t : Told). t.control.faults) none.untold)

pub lanes_failed : (n : Numbers) (lanes : ℕ) (camera stream : Address) (answer : Status) (o e : Told) (written written_after : Option (List ℕ)) (faults faults_after : ℕ) (h : List Entry)
    → RunsLanes n lanes camera stream answer o e written written_after faults faults_after h → answer ≡ LinkFault
    → Rose o.camera.faults e.camera.faults ⊎ Rose o.stream.faults e.stream.faults ⊎ Rose o.control.faults e.control.faults
lanes_failed n lanes camera stream answer o e written written_after faults faults_after h (inl run) is = go (run.failed is)
  where
    go : LinkFailed o e → Rose o.camera.faults e.camera.faults ⊎ Rose o.stream.faults e.stream.faults ⊎ Rose o.control.faults e.control.faults
    go (inl rose) = inl rose
    go (inr rose) = inr rose
lanes_failed n lanes camera stream answer o e written written_after faults faults_after h (inr none) is = let wanted : answer ≡ NoMemory = none.wanted in absurd (cc)

pub lanes_writes_steady : (n : Numbers) (lanes : ℕ) (camera stream : Address) (answer : Status) (o e : Told) (written written_after : Option (List ℕ)) (faults faults_after : ℕ) (h : List Entry)
    → RunsLanes n lanes camera stream answer o e written written_after faults faults_after h → answer ≢ WriteFault → faults_after ≡ faults
lanes_writes_steady n lanes camera stream answer o e written written_after faults faults_after h (inl run) ne = wrote_steady answer _ written written_after faults faults_after run.ended.wrote ne
lanes_writes_steady n lanes camera stream answer o e written written_after faults faults_after h (inr none) ne = none.no_fault

-- ---- a run with one lane or more

pub so_steady : (n : Numbers) (camera stream : Address) (answer : Status) (o e : Told) (written written_after : Option (List ℕ)) (faults faults_after : ℕ) (h : List Entry)
    → RunsSo n camera stream answer o e written written_after faults faults_after h → answer ≢ LinkFault
    → (e.camera.faults ≡ o.camera.faults) × (e.stream.faults ≡ o.stream.faults) × (e.control.faults ≡ o.control.faults)
so_steady n camera stream answer o e written written_after faults faults_after h (inl (one, runs)) ne = runs_steady n camera stream answer o e written written_after faults faults_after h runs ne
so_steady n camera stream answer o e written written_after faults faults_after h (inr (more, runs)) ne = lanes_steady n n.lanes camera stream answer o e written written_after faults faults_after h runs ne

pub so_failed : (n : Numbers) (camera stream : Address) (answer : Status) (o e : Told) (written written_after : Option (List ℕ)) (faults faults_after : ℕ) (h : List Entry)
    → RunsSo n camera stream answer o e written written_after faults faults_after h → answer ≡ LinkFault
    → Rose o.camera.faults e.camera.faults ⊎ Rose o.stream.faults e.stream.faults ⊎ Rose o.control.faults e.control.faults
so_failed n camera stream answer o e written written_after faults faults_after h (inl (one, runs)) is = runs_failed n camera stream answer o e written written_after faults faults_after h runs is
so_failed n camera stream answer o e written written_after faults faults_after h (inr (more, runs)) is = lanes_failed n n.lanes camera stream answer o e written written_after faults faults_after h runs is

pub so_writes_steady : (n : Numbers) (camera stream : Address) (answer : Status) (o e : Told) (written written_after : Option (List ℕ)) (faults faults_after : ℕ) (h : List Entry)
    → RunsSo n camera stream answer o e written written_after faults faults_after h → answer ≢ WriteFault → faults_after ≡ faults
so_writes_steady n camera stream answer o e written written_after faults faults_after h (inl (one, runs)) ne = runs_writes_steady n camera stream answer o e written written_after faults faults_after h runs ne
so_writes_steady n camera stream answer o e written written_after faults faults_after h (inr (more, runs)) ne = lanes_writes_steady n n.lanes camera stream answer o e written written_after faults faults_after h runs ne
