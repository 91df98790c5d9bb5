-- What the reader of a live run did: the camera's setup, the turns, the stop of the receiver, and the stop of the
-- acquisition.
use Rattle.std.specs.Prelude.{◌≡◌, ◌≢◌, ℕ, false, List, [], ◌∷◌, ◌++◌, Some, Result}
use Rattle.board_machine.specs.declared.events.Event.{Event}
use Rattle.board_machine.specs.declared.events.Event.TheVariants.{LookRun, Stop}
use Rattle.client_machine.specs.Machine.{Client}
use Rattle.acquisition_machine.specs.declared.config.AcqConfig.{AcqConfig}
use Rattle.acquisition_machine.specs.Machine.{Input, stop}
use Rattle.acquisition_machine.specs.Runs.{first_state, After}
use Rattle.gev_links.specs.Links.{Address, Adds}
use Rattle.gev_links.specs.Moments.{TellsEach}
use Rattle.buffer_words.specs.Passes.{Token}
use Rattle.buffer_words.specs.Several.{EntersEach}
use Rattle.gev_control.specs.declared.acq_end.AcqEnd.{AcqEnd}
use Rattle.gev_control.specs.declared.acq_end.AcqEnd.TheVariants as how
use Rattle.gev_control.specs.Sends.{addressed}
use Rattle.gev_control.specs.SetupTurns.{set_up, SetupTurned, setup_turn, IsHeard}
use Rattle.gev_control.specs.SetsUp.{setup_after, SetupGoesOn, setup_sent, setup_heards, setup_moments}
use Rattle.gev_acq.specs.declared.turn.Turn.{Turn}
use Rattle.board_calls.specs.declared.mode.Mode.{Mode}
use Rattle.gev_acq.specs.Serving.{Serves}
use Rattle.gev_acq.specs.Claims.{Claims}
use Rattle.gev_acq.specs.Turns.{Turned, Outside}
use Rattle.gev_acq.specs.Acquired.{inputs_in, answers_in, moments_in, heards_in, sends_in, ServesTurns, TellsOwn, NoteEach, ControlEach, EndsBy}

-- These turns set the camera up, so that it sends its stream to this address: after all but the last the setup
-- went on, and the last ended it so.
pub record IsSetUp (stream : Address) (s : Client) (made : List SetupTurned) (end : AcqEnd) (u : Client) : Type 0 where
  pub before : List SetupTurned
  pub last : SetupTurned
  pub is : made ≡ before ++ last ∷ []
  pub on : SetupGoesOn stream (set_up s 0) before
  pub ended : (setup_turn stream (setup_after stream (set_up s 0) before) last).end ≡ Some end
  pub may_hear : IsHeard stream (setup_after stream (set_up s 0) before) last
  pub client : u ≡ (setup_after stream (set_up s 0) made).client

-- The turns come where the camera was set up, and else there are none: how the reader ended, by the setup's end.
abbrev pub EndsAfter : AcqEnd → AcqEnd → ℕ → List Turned → Type 0
EndsAfter how.Stopped end turns made = EndsBy end turns made
EndsAfter how.Spent end turns made = (end ≡ how.Spent) × (made ≡ [])
EndsAfter how.Fault end turns made = (end ≡ how.Fault) × (made ≡ [])
EndsAfter (how.NoAnswer req) end turns made = (end ≡ how.NoAnswer req) × (made ≡ [])
EndsAfter (how.Refused status) end turns made = (end ≡ how.Refused status) × (made ≡ [])

-- Where the run was stopped the last look found another run word than 1, and else there was no further look.
abbrev pub LastLook : AcqEnd → List Event → Type 0
LastLook how.Stopped es = (run : ℕ) × (run ≢ 1) × (es ≡ LookRun run ∷ [])
LastLook how.Spent es = es ≡ []
LastLook how.Fault es = es ≡ []
LastLook (how.NoAnswer req) es = es ≡ []
LastLook (how.Refused status) es = es ≡ []

-- The camera was set up by its turns, and then these turns of a new receiver were made, at most the asked number, in each
-- of which the receiver was told the turn's moment; their entries were added to the journal. The links and the clock told just what came, was sent and was read.
pub record ReadsOn (mode : Mode) (c : AcqConfig) (camera stream : Address) (o n : Outside) (journal journal_after : List Turn) (turns : ℕ) (end : AcqEnd)
    (made : List Turned) (turned last : List Event) : Type 0 where
  pub setup : List SetupTurned
  pub setup_end : AcqEnd
  pub client : Client
  pub set_up_by : IsSetUp stream o.client setup setup_end client
  pub ends : EndsAfter setup_end end turns made
  pub serves : ServesTurns mode c first_state made turned
  pub own : TellsOwn made
  pub looks : LastLook end last
  pub controlled : ControlEach c [] client made n.client
  pub entries : List Turn
  pub notes : NoteEach c [] made entries
  pub journal_is : journal_after ≡ journal ++ entries
  pub received : TellsEach o.received n.received (answers_in made)
  pub heard : TellsEach o.heard n.heard (setup_heards setup ++ heards_in made)
  pub sent : Adds o.sent n.sent (addressed camera (setup_sent stream (set_up o.client 0) setup ++ sends_in made))
  pub told : TellsEach o.told n.told (setup_moments setup ++ moments_in made)

-- The setup and the turns. The receiver stands for the turns' inputs then.
pub record ReadsTurns (mode : Mode) (c : AcqConfig) (camera stream : Address) (New : List Input → Type 0) (o n : Outside) (journal journal_after : List Turn) (turns : ℕ) (end : AcqEnd) (s t : Token) : Type 0 where
  pub made : List Turned
  pub turned : List Event
  pub last : List Event
  pub on : ReadsOn mode c camera stream o n journal journal_after turns end made turned last
  pub enters : EntersEach s (turned ++ last) t
  pub claims : Claims mode (inputs_in made) s t
  pub stands : New (inputs_in made)

-- The setup, the turns, and in every case the stop of the receiver, whose blocks retire, and the stop of the
-- acquisition. The pass's own entries are these.
pub record Reads (mode : Mode) (c : AcqConfig) (camera stream : Address) (o n : Outside) (journal journal_after : List Turn) (turns : ℕ) (end : AcqEnd) (s t : Token) : Type 0 where
  pub made : List Turned
  pub turned : List Event
  pub last : List Event
  pub on : ReadsOn mode c camera stream o n journal journal_after turns end made turned last
  pub drained : List Event
  pub drains : Serves mode c (After c (inputs_in made)) (stop ∷ []) drained
  pub answer : Result (Unit {0}) ℕ
  pub enters : EntersEach s (turned ++ (last ++ (drained ++ Stop false answer ∷ []))) t
  pub claims : Claims mode (inputs_in made) s t
