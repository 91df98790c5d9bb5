-- The frames of a stream whose first leader came: the history of the run's board, what each worker did, and how that ended.
use Rattle.std.specs.Prelude.{◌≡◌, ◌⊎◌, ℕ, ◌≤◌, Bool, false, List, [], ◌∷◌, ◌++◌, length, Option, Some, None, Result}
use Rattle.board_machine.specs.declared.events.Entry.{Entry}
use Rattle.board_machine.specs.declared.events.Event.{Event}
use Rattle.board_machine.specs.declared.events.Event.TheVariants.{Stop}
use Rattle.board_machine.specs.Places.{times}
use Rattle.board_machine.specs.Machine.{empty_board}
use Rattle.board_machine.specs.Histories.{Run, After, own_of}
use Rattle.board_machine.specs.Owners.{IsOwned}
use Rattle.board_machine.specs.Handout.{IsLegal, taken_items}
use Rattle.board_machine.specs.Laws.{IsAlone}
use Rattle.board_machine.specs.Actors.{AllBy}
use Rattle.board_machine.specs.Adding.{entries_of}
use Rattle.buffer_words.specs.Workers.{AreOf, OnlyBy}
use Rattle.live_crew.specs.Prepared.{Prepares}
use Rattle.board_calls.specs.declared.mode.Mode.{Mode}
use Rattle.acquisition_machine.specs.declared.config.AcqConfig.{AcqConfig}
use Rattle.acquisition_machine.specs.declared.counts.Counts.{Counts}
use Rattle.acquisition_machine.specs.Machine.{tick, stop}
use Rattle.acquisition_machine.specs.Runs.{After as AfterInputs}
use Rattle.block_fills.specs.Fills.{tried, retired_items}
use Rattle.gev_links.specs.Links.{Address}
use Rattle.gev_links.specs.Moments.{TellsEach}
use Rattle.gev_links.specs.Told.{Drops}
use Rattle.gev_acq.specs.Serving.{Serves}
use Rattle.gev_acq.specs.Claims.{claims_in, claims_by}
use Rattle.gev_acq.specs.Turns.{Turned, Outside}
use Rattle.gev_acq.specs.Acquired.{inputs_in, ServesTurns}
use Rattle.gev_acq.specs.History.{AreSized}
use Rattle.gev_acq.specs.Reading.{FaultsOf}
use Rattle.gev_apply.specs.Looks.{Looked, lent_in}
use Rattle.gev_apply.specs.Looks as application
use Rattle.gev_apply.specs.History.{LiveTakes}
use Rattle.gev_live.specs.Kinds.{is_live, is_filling, is_taking, is_handing}
use Rattle.gev_live.specs.Acquirers.{takers, handed_out, DropsNothing}
use Rattle.camera_words.specs.declared.settings.Settings.{Settings}
use Rattle.camera_words.specs.declared.settings.Output.{Output}
use Rattle.camera_reader.specs.declared.reader_end.ReaderEnd.{ReaderEnd}
use Rattle.camera_reader.specs.Reading.{is_fault}
use Rattle.first_leader.specs.declared.leading.FirstLeader.{FirstLeader}
use Rattle.frame_writing.specs.declared.handed_out.HandedOut.{HandedOut}
use Rattle.frame_writing.specs.Texts.{complete_in}
use Rattle.frame_writing.specs.HandsOut.{EndsBy}
use Rattle.frame_writing.specs.Work.{has_enough}
use Rattle.gev_status.specs.declared.status.Status.TheVariants as status
use Rattle.packet_requests.specs.declared.id_mode.IdMode.{IdMode}
use Rattle.frame_writing.specs.declared.receive_counts.ReceiveCounts.{ReceiveCounts}
use Rattle.gev_receive.specs.Answers.{StreamEnd, unread_end, frames_end}
use Rattle.gev_receive.specs.Starting.{config_of, mode_of, buffer_size, leader_counts, with_counts}
use Rattle.buffer_words.specs.Passes.{Token, own}
use Rattle.buffer_words.specs.Workers.{Works}
use Rattle.board_machine.specs.Actors.{born}
use Rattle.live_crew.specs.Prepared.{FallsShort, SawOnly}
use Rattle.live_crew.specs.Crews.{RanTwo}
use Rattle.gev_acq.specs.Kinds.{is_readers}
use Rattle.gev_apply.specs.Kinds.{is_applications}
use Rattle.frame_writing.specs.Work.{HandsOutAndStops}
use Rattle.gev_receive.specs.Reader.{LastLook, ReadsOn, inputs_from, ReadsFrames}

-- ---- the history

-- the numbers of the workers' actors
pub record Pair : Type 0 where
  pub reader : ℕ
  pub application : ℕ

abbrev pub workers_of : Pair → List ℕ
workers_of k = k.application ∷ k.reader ∷ []

-- A history from the empty board on, in which each place has one owner, at every step, and buffers are handed out in the
-- order of their fills. It begins with so many buffers of one size, which the first actor announces and queues, and with the
-- start. After that claims and fills are the reader's alone, and lays, grabs and unposts the application's. Takes and
-- poolings are the application's too, and with the modes that drop buffers those of the reader's claims and fills; all else
-- is looks, splits, joins and stops. At the end the first actor is alone again.
pub record FramesHistory (mode : Mode) (size buffers : ℕ) (k : Pair) (h : List Entry) : Type 0 where
  pub run : Run h
  pub owned : IsOwned (After h)
  pub legal : IsLegal h
  pub alone : IsAlone (After h) 0
  pub apart : (i : ℕ) → times i (workers_of k) ≤ 1
  pub entries : AllBy (0 ∷ workers_of k) h
  pub prepared : List Event
  pub prepares : Prepares size buffers prepared
  pub since : List Entry
  pub begins : h ≡ entries_of 0 prepared ++ since
  pub kinds : AreOf is_live since
  pub fills : OnlyBy is_filling (k.reader ∷ []) since
  pub takes : OnlyBy is_taking (takers mode k.application (k.reader ∷ [])) since
  pub hands : OnlyBy is_handing (k.application ∷ []) since

-- ---- the reader

-- All entries of actor n are those of these turns of a receiver that was told a moment, of the last look, of the receiver's
-- stop and of the run's. The outcomes of claims among the turns' inputs are what its claims gave in this history.
pub record CameraReading (mode : Mode) (c : AcqConfig) (n : ℕ) (end : ReaderEnd) (begin : ℕ) (made : List Turned) (h : List Entry) : Type 0 where
  pub turned : List Event
  pub turns : ServesTurns mode c (AfterInputs c (tick begin ∷ [])) made turned
  pub last : List Event
  pub looks : LastLook end last
  pub drained : List Event
  pub drains : Serves mode c (AfterInputs c (inputs_from begin made)) (stop ∷ []) drained
  pub answer : Result (Unit {0}) ℕ
  pub own : own_of n h ≡ entries_of n (turned ++ (last ++ (drained ++ Stop false answer ∷ [])))
  pub claims : claims_in (inputs_in made) ≡ claims_by mode n empty_board h

-- The reader, actor k: it made these turns, served the receiver's inputs by the mode, stopped the receiver and then the
-- run. What it put into the output is what its inputs and the stop retire, in order; each buffer that it claimed has the
-- run's size.
pub record CameraReader (mode : Mode) (c : AcqConfig) (ids : IdMode) (camera : Address) (silence size : ℕ) (o n : Outside) (k : ℕ) (end : ReaderEnd) (h : List Entry) : Type 0 where
  pub begin : ℕ
  pub refused : ℕ
  pub made : List Turned
  pub turned : List Event
  pub last : List Event
  pub on : ReadsOn mode c ids camera silence begin o n refused end made turned last
  pub reading : CameraReading mode c k end begin made h
  pub fills : tried (own_of k h) ≡ retired_items c (inputs_from begin made ++ stop ∷ [])
  pub sized : AreSized size (claims_in (inputs_in made))

-- ---- the application

-- The application, actor k: its entries are those of these turns and, just where it needed no more, one stop behind them.
-- What it took, with the bytes and the records of the fills, is all that was handed out, and with OldestFirst all that was
-- ever taken; the texts of these buffers were written, in order.
pub record FramesApplication (mode : Mode) (output : Output) (frames k : ℕ) (handed : HandedOut) (told told_after : Option (List ℕ))
    (written written_after : Option (List ℕ)) (faults faults_after : ℕ) (on : Bool) (left : Option (List ℕ)) (h : List Entry) : Type 0 where
  pub made : List Looked
  pub takes : LiveTakes k (has_enough handed.end) made h
  pub all : handed_out h ≡ taken_items k h
  pub undropped : DropsNothing mode k h
  pub tells : TellsEach told told_after (application.moments_in made)
  pub number : handed.taken ≡ length (lent_in made)
  pub few : handed.taken ≤ frames
  pub complete : handed.complete ≡ complete_in (lent_in made)
  pub ends : EndsBy handed.end frames output handed.taken made written written_after faults faults_after on left

-- ---- both

-- What the reader did and what the application did, each with a pass that was split off: this is known of both together.
abbrev pub RanBoth : Settings → Address → FirstLeader → Bool → Outside → Outside → ℕ → ℕ → ℕ → ℕ → Counts → ReaderEnd → Option (List ℕ) → Option (List ℕ)
    → HandedOut → Option (List ℕ) → Option (List ℕ) → ℕ → ℕ → Option (List ℕ) → Option (List ℕ) → ℕ → ℕ → Token → Token → Type 0
RanBoth settings camera leader resends o n stream stream_after control control_after counts read app app_after handed written written_after faults faults_after input left misses misses_after s u =
    RanTwo
    (λ given back. ReadsFrames (mode_of settings.mode) (config_of settings leader resends) leader.ids camera settings.silence o n counts read given back
    × Works (is_readers (mode_of settings.mode)) given back × FaultsOf (is_fault read) stream stream_after control control_after)
    (λ given back. HandsOutAndStops settings.frames settings.output app app_after handed given back written written_after faults faults_after settings.until_input_ends left
    × Works is_applications given back × Drops input left × (misses_after ≡ misses))
    s u

-- Reader and application ran on a board with so many buffers of one size, and ended so, with these numbers.
pub record RanFrames (settings : Settings) (camera : Address) (leader : FirstLeader) (resends : Bool) (o n : Outside) (stream stream_after control control_after : ℕ)
    (app app_after : Option (List ℕ)) (written written_after : Option (List ℕ)) (faults faults_after : ℕ) (input left : Option (List ℕ)) (misses misses_after : ℕ)
    (end : StreamEnd) (counts : ReceiveCounts) (h : List Entry) : Type 0 where
  pub begin : Token
  pub last : Token
  pub prepared : SawOnly (Prepares (buffer_size settings leader) settings.buffers) begin
  pub first : begin.number ≡ 0
  pub childless : born (own begin) ≡ []
  pub read : ReaderEnd
  pub handed : HandedOut
  pub counted : Counts
  pub ran : RanBoth settings camera leader resends o n stream stream_after control control_after counted read app app_after handed written written_after faults faults_after input left misses misses_after begin last
  pub saw : h ≡ last.seen
  pub ended : end ≡ frames_end handed.end read settings.frames handed.taken
  pub counts_are : counts ≡ with_counts (leader_counts settings leader) handed.taken handed.complete counted

-- Memory or a thread was wanting before they ran: fewer buffers than were asked for were prepared, and nothing was received,
-- sent or written.
pub record NeverRan (settings : Settings) (leader : FirstLeader) (o n : Outside) (stream stream_after control control_after : ℕ) (app app_after : Option (List ℕ))
    (written written_after : Option (List ℕ)) (faults faults_after : ℕ) (input left : Option (List ℕ)) (misses misses_after : ℕ) (end : StreamEnd) (counts : ReceiveCounts) (h : List Entry) : Type 0 where
  pub wanted : end ≡ unread_end status.NoMemory
  pub events : List Event
  pub short : FallsShort (buffer_size settings leader) settings.buffers events
  pub seen : h ≡ entries_of 0 events
  pub run : Run h
  pub untold : n ≡ o
  pub stream_same : stream_after ≡ stream
  pub control_same : control_after ≡ control
  pub app_same : app_after ≡ app
  pub unwritten : written_after ≡ written
  pub no_fault : faults_after ≡ faults
  pub undropped : left ≡ input
  pub unmissed : misses_after ≡ misses
  pub counts_are : counts ≡ leader_counts settings leader

-- what the board's pass has seen, of a run that kept one
abbrev pub seen_by : Option Token → List Entry
seen_by None = []
seen_by (Some pass) = pass.seen

abbrev pub Runs : Settings → Address → FirstLeader → Bool → Outside → Outside → ℕ → ℕ → ℕ → ℕ → Option (List ℕ) → Option (List ℕ) → Option (List ℕ) → Option (List ℕ)
    → ℕ → ℕ → Option (List ℕ) → Option (List ℕ) → ℕ → ℕ → StreamEnd → ReceiveCounts → List Entry → Type 0
Runs settings camera leader resends o n stream stream_after control control_after app app_after written written_after faults faults_after input left misses misses_after end counts h =
    RanFrames settings camera leader resends o n stream stream_after control control_after app app_after written written_after faults faults_after input left misses misses_after end counts h
    ⊎ NeverRan settings leader o n stream stream_after control control_after app app_after written written_after faults faults_after input left misses misses_after end counts h
