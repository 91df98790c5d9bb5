-- Each live run keeps its promises.
use Rattle.std.specs.Prelude.{ℕ, List, Option}
use Rattle.board_machine.specs.declared.events.Entry.{Entry}
use Rattle.board_machine.specs.Histories.{Run}
use Rattle.gev_links.specs.Links.{Address}
use Rattle.gev_status.specs.declared.status.Status.{Status}
use Rattle.gev_live.specs.Told.{Told}
use Rattle.gev_live.specs.declared.numbers.Numbers.{Numbers}
use Rattle.gev_live.specs.LiveRun.{RunsLive}
use Rattle.live_promises.specs.Promises.{KeepsLivePromises}

abbrev pub LiveRunsKeepPromises : Type 0
LiveRunsKeepPromises =
    (n : Numbers) (camera stream : Address) (answer : Status) (o e : Told) (written written_after : Option (List ℕ)) (faults faults_after : ℕ) (h : List Entry)
    (runs : RunsLive n camera stream answer o e written written_after faults faults_after h) → Run h → KeepsLivePromises runs
