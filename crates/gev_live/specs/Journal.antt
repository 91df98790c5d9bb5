-- A live run with the journal of its reader.
use Rattle.std.specs.Prelude.{◌≡◌, ◌⊎◌, ℕ, List, [], Option}
use Rattle.board_machine.specs.declared.events.Entry.{Entry}
use Rattle.gev_links.specs.Links.{Address}
use Rattle.gev_status.specs.declared.status.Status.{Status}
use Rattle.gev_acq.specs.declared.turn.Turn.{Turn}
use Rattle.gev_live.specs.Told.{Told}
use Rattle.gev_live.specs.declared.numbers.Numbers.{Numbers}
use Rattle.gev_live.specs.LiveRun.{LiveRun, NeverRan}

-- The run's reader noted its turns so.
pub record JournaledRun (n : Numbers) (camera stream : Address) (answer : Status) (o e : Told) (written written_after : Option (List ℕ)) (faults faults_after : ℕ) (h : List Entry) (journal : List Turn) : Type 0 where
  pub run : LiveRun n camera stream answer o e written written_after faults faults_after h
  pub journal_is : run.reader_part.journal ≡ journal

-- where the workers never began no turn was noted
abbrev pub RunsWithJournal : Numbers → Address → Address → Status → Told → Told → Option (List ℕ) → Option (List ℕ) → ℕ → ℕ → List Entry → List Turn → Type 0
RunsWithJournal n camera stream answer o e written written_after faults faults_after h journal =
    JournaledRun n camera stream answer o e written written_after faults faults_after h journal
    ⊎ (NeverRan n answer o e written written_after faults faults_after h × (journal ≡ []))
