-- What each worker of a live run did, by the whole history and by what its links and its clock told.
use Rattle.std.specs.Prelude.{◌≡◌, ◌≢◌, ◌⊎◌, ℕ, ◌<◌, ◌≤◌, List, [], ◌∷◌, ◌++◌, length, Option, Result, Ok, Err}
use Rattle.gev_types.specs.declared.memory.NoMemory.{NoMemory}
use Rattle.board_machine.specs.declared.events.Entry.{Entry}
use Rattle.board_machine.specs.declared.events.Event.{Event}
use Rattle.board_machine.specs.declared.events.Event.TheVariants.{LookRun}
use Rattle.board_machine.specs.Histories.{own_of}
use Rattle.board_machine.specs.Adding.{entries_of}
use Rattle.acquisition_machine.specs.declared.config.AcqConfig.{AcqConfig}
use Rattle.acquisition_machine.specs.Machine.{stop}
use Rattle.block_fills.specs.Fills.{tried, retired_items}
use Rattle.client_machine.specs.Times.{SEND_LIMIT}
use Rattle.client_machine.specs.Machine.{Client, new_client}
use Rattle.camera_machine.specs.Camera.{Camera}
use Rattle.gev_links.specs.Links.{Address, Answer, failed, Adds}
use Rattle.gev_serve.specs.declared.ends.ServeEnd.{ServeEnd}
use Rattle.gev_control.specs.declared.acq_end.AcqEnd.{AcqEnd}
use Rattle.gev_control.specs.Ends.{is_fault_end}
use Rattle.gev_acq.specs.declared.turn.Turn.{Turn}
use Rattle.gev_acq.specs.Reading.{FaultsOf}
use Rattle.gev_acq.specs.Claims.{claims_in}
use Rattle.gev_acq.specs.Turns.{Turned}
use Rattle.gev_acq.specs.Acquired.{inputs_in}
use Rattle.gev_acq.specs.Reads.{ReadsOn}
use Rattle.gev_acq.specs.History.{LiveReading, AreSized}
use Rattle.board_machine.specs.Handout.{taken_items}
use Rattle.board_calls.specs.declared.mode.Mode.{Mode}
use Rattle.gev_live.specs.Acquirers.{handed_out, DropsNothing}
use Rattle.gev_links.specs.Faults.{Rose}
use Rattle.gev_links.specs.Moments.{TellsEach}
use Rattle.gev_serve.specs.declared.ends.ServeEnd.TheVariants as serves
use Rattle.gev_serve.specs.Wires.{Wire}
use Rattle.gev_serve.specs.Turns.{Served, sent_over}
use Rattle.gev_serve.specs.Turns as camera
use Rattle.gev_apply.specs.Looks.{Looked, lent_in, lines_of}
use Rattle.gev_apply.specs.Looks as application
use Rattle.gev_apply.specs.Applied.{IsEnough}
use Rattle.gev_apply.specs.History.{IsStopAfter, LiveTakes}
use Rattle.gev_serve.specs.Work.{most_turns, has_failed}
use Rattle.gev_apply.specs.Work.{has_enough}
use Rattle.gev_live.specs.Told.{Told, reader_side}
use Rattle.gev_live.specs.History.{live_size}

-- The reader, actor k: it set the camera up, made these turns, served the receiver's inputs by the mode, stopped the
-- receiver and then the run. What it put into the output is what its turns' inputs and the stop retire, in order; each
-- buffer that it claimed has the run's size.
pub record LiveReader (mode : Mode) (c : AcqConfig) (camera stream : Address) (o e : Told) (turns k : ℕ) (end : AcqEnd) (h : List Entry) : Type 0 where
  pub client : Client
  pub journal : List Turn
  pub made : List Turned
  pub turned : List Event
  pub last : List Event
  pub on : ReadsOn mode c camera stream (reader_side o (new_client SEND_LIMIT)) (reader_side e client) [] journal turns end made turned last
  pub reading : LiveReading mode c k end made h
  pub fills : tried (own_of k h) ≡ retired_items c (inputs_in made ++ stop ∷ [])
  pub sized : AreSized live_size (claims_in (inputs_in made))
  pub faults : FaultsOf (is_fault_end end) o.stream.faults e.stream.faults o.control.faults e.control.faults

-- How the camera's worker ended, by its last turn: none was cut short and no receive failed, or memory was wanting in
-- the last turn, or its receive or one of its sends failed.
abbrev pub EndsServing : ServeEnd → List Served → List Served → List Answer → List (Address × List ℕ) → ℕ → ℕ → Type 0
EndsServing serves.Stopped whole cut missed rest faults faults_after =
    (length whole < most_turns) × (cut ≡ []) × (missed ≡ []) × (rest ≡ []) × (faults_after ≡ faults)
EndsServing serves.Spent whole cut missed rest faults faults_after =
    (length whole ≡ most_turns) × (cut ≡ []) × (missed ≡ []) × (rest ≡ []) × (faults_after ≡ faults)
EndsServing serves.NoMemory whole cut missed rest faults faults_after =
    (length cut ≡ 1) × (missed ≡ []) × (faults_after ≡ faults)
EndsServing serves.Fault whole cut missed rest faults faults_after =
    (((length cut ≡ 1) × (missed ≡ [])) ⊎ ((cut ≡ []) × (missed ≡ failed ∷ []))) × Rose faults faults_after

-- The camera's worker: it made these turns of a new camera, in each of which it received once and read the clock
-- once. What it sent is what these turns send, in order, up to the end.
pub record LiveCamera (s : Camera) (v w : Wire) (told now_told : Option (List ℕ)) (end : ServeEnd) : Type 0 where
  pub whole : List Served
  pub cut : List Served
  pub missed : List Answer
  pub received : TellsEach v.received w.received (camera.answers_in (whole ++ cut) ++ missed)
  pub moments : TellsEach told now_told (camera.moments_in (whole ++ cut))
  pub sent : List (Address × List ℕ)
  pub rest : List (Address × List ℕ)
  pub sends : Adds v.sent w.sent sent
  pub are : sent_over s (whole ++ cut) ≡ sent ++ rest
  pub ends : EndsServing end whole cut missed rest v.faults w.faults

-- The looks of the camera's worker at the run word: one before each whole turn, which found 1; where the worker ended
-- Stopped a last one, which found another value; and one that found 1 before a turn that failed.
abbrev pub EndsLooks : ServeEnd → List Served → List Event → Type 0
EndsLooks serves.Stopped whole looks = (run : ℕ) × (run ≢ 1) × (looks ≡ camera.looks_in whole ++ LookRun run ∷ [])
EndsLooks serves.Spent whole looks = looks ≡ camera.looks_in whole
EndsLooks serves.NoMemory whole looks = looks ≡ camera.looks_in whole ++ LookRun 1 ∷ []
EndsLooks serves.Fault whole looks = looks ≡ camera.looks_in whole ++ LookRun 1 ∷ []

-- All entries of the camera's worker, actor n, are these looks, and behind them, just where it failed, one stop of the
-- run.
pub record LiveServes (n : ℕ) (end : ServeEnd) (whole : List Served) (h : List Entry) : Type 0 where
  pub looks : List Event
  pub are : EndsLooks end whole looks
  pub stops : List Event
  pub are_stops : IsStopAfter (has_failed end) stops
  pub own : own_of n h ≡ entries_of n (looks ++ stops)

-- How many buffers the application took, and their lines: at most the asked number, and fewer only where the run was
-- over and no buffer was left. Where memory was wanting for a line the lines are those before it.
abbrev pub TellsTaken : ℕ → List Looked → List ℕ → Result ℕ NoMemory → Type 0
TellsTaken frames made lines (Ok taken) =
    (taken ≡ length (lent_in made)) × (taken ≤ frames) × IsEnough frames taken made × (lines ≡ lines_of (lent_in made))
TellsTaken frames made lines (Err error) =
    (before : List Looked) × (last : Looked) × (made ≡ before ++ last ∷ []) × (length (lent_in before) < frames) × (lines ≡ lines_of (lent_in before))

-- The application, actor k: its entries are those of these turns and, just where it took as many buffers as were asked
-- for or memory was wanting, one stop behind them. What it took, with the bytes and the records of the fills, is all
-- that was handed out, and with OldestFirst all that was ever taken; its lines are those of these buffers, in order.
pub record LiveApplication (mode : Mode) (told now_told : Option (List ℕ)) (frames k : ℕ) (lines : List ℕ) (answer : Result ℕ NoMemory) (h : List Entry) : Type 0 where
  pub made : List Looked
  pub takes : LiveTakes k (has_enough frames answer) made h
  pub handed : handed_out h ≡ taken_items k h
  pub undropped : DropsNothing mode k h
  pub tells : TellsEach told now_told (application.moments_in made)
  pub told_lines : TellsTaken frames made lines answer
