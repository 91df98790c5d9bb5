-- What a live run's reader did.
use Rattle.std.specs.Prelude.{◌≡◌, ◌≢◌, ⊤, ℕ, ◌<◌, ◌≤◌, List, [], ◌∷◌, ◌++◌, length, Option, Some, None}
use Rattle.board_machine.specs.declared.events.Event.{Event}
use Rattle.board_machine.specs.declared.events.Event.TheVariants.{LookRun}
use Rattle.client_machine.specs.Machine.{Client}
use Rattle.acquisition_machine.specs.declared.config.AcqConfig.{AcqConfig}
use Rattle.acquisition_machine.specs.Machine.{Input, State}
use Rattle.acquisition_machine.specs.Runs.{after_from, After}
use Rattle.gev_links.specs.Links.{Address, Answer, Adds}
use Rattle.gev_links.specs.Moments.{TellsEach}
use Rattle.buffer_words.specs.Passes.{Token}
use Rattle.buffer_words.specs.Several.{EntersEach}
use Rattle.board_calls.specs.declared.mode.Mode.{Mode}
use Rattle.gev_acq.specs.declared.turn.Turn.{Turn}
use Rattle.gev_control.specs.declared.turn_end.TurnEnd.{TurnEnd}
use Rattle.gev_control.specs.declared.turn_end.TurnEnd.TheVariants as ends
use Rattle.gev_control.specs.declared.acq_end.AcqEnd.{AcqEnd}
use Rattle.gev_control.specs.declared.acq_end.AcqEnd.TheVariants as how
use Rattle.gev_acq.specs.Serving.{Serves}
use Rattle.gev_acq.specs.Claims.{Claims}
use Rattle.gev_control.specs.Sends.{addressed}
use Rattle.gev_control.specs.Controlled.{listed, control_of}
use Rattle.gev_acq.specs.Turns.{Turned, Outside, inputs_of, Notes, IsControlled}

-- the inputs of these turns
abbrev pub inputs_in : List Turned → List Input
inputs_in [] = []
inputs_in (t ∷ ts) = inputs_of t ++ inputs_in ts

-- what their receives on the stream gave
abbrev pub answers_in : List Turned → List Answer
answers_in [] = []
answers_in (t ∷ ts) = t.answer ∷ answers_in ts

abbrev pub moments_in : List Turned → List ℕ
moments_in [] = []
moments_in (t ∷ ts) = t.moment ∷ moments_in ts

-- what their receives on the control link gave
abbrev pub heards_in : List Turned → List Answer
heards_in [] = []
heards_in (t ∷ ts) = listed t.heard ++ heards_in ts

-- what they sent on the control link
abbrev pub sends_in : List Turned → List (List ℕ)
sends_in [] = []
sends_in (t ∷ ts) = t.sent ++ sends_in ts

-- From this state of the receiver these turns are served by these events: in each the run word is 1, and the
-- turn's inputs are served.
abbrev pub ServesTurns : Mode → AcqConfig → State → List Turned → List Event → Type 0
ServesTurns mode c s [] es = es ≡ []
ServesTurns mode c s (t ∷ ts) es =
    (front rest : List Event) × Serves mode c s (inputs_of t) front
    × ServesTurns mode c (after_from c s (inputs_of t)) ts rest
    × (es ≡ LookRun 1 ∷ (front ++ rest))

-- The journal's entries tell of these turns, one by one.
abbrev pub NoteEach : AcqConfig → List Input → List Turned → List Turn → Type 0
NoteEach c q [] [] = ⊤
NoteEach c q [] (e ∷ es) = ⊥
NoteEach c q (t ∷ ts) [] = ⊥
NoteEach c q (t ∷ ts) (e ∷ es) = Notes c q t e × NoteEach c (q ++ inputs_of t) ts es

-- The client goes through the control parts of these turns, from the first state to the last.
abbrev pub ControlEach : AcqConfig → List Input → Client → List Turned → Client → Type 0
ControlEach c q s [] u = u ≡ s
ControlEach c q s (t ∷ ts) u = IsControlled c q s t × ControlEach c (q ++ inputs_of t) (control_of s t.heard t.moment).state ts u

-- These turns were made, and nothing else: the run word was 1 in each, and its inputs were served, whatever
-- inputs the receiver stood for; the entries tell of them; the links and the clock told just what the turns
-- received, sent and read.
pub record TurnsOn (mode : Mode) (c : AcqConfig) (camera : Address) (Old New : List Input → Type 0) (o n : Outside) (made : List Turned) (entries : List Turn) (s u : Token) : Type 0 where
  pub events : List Event
  pub enters : EntersEach s events u
  pub serves : (q : List Input) → Old q → ServesTurns mode c (After c q) made events
  pub stands : (q : List Input) → Old q → New (q ++ inputs_in made)
  pub claims : Claims mode (inputs_in made) s u
  pub notes : (q : List Input) → Old q → NoteEach c q made entries
  pub controlled : (q : List Input) → Old q → ControlEach c q o.client made n.client
  pub received : TellsEach o.received n.received (answers_in made)
  pub heard : TellsEach o.heard n.heard (heards_in made)
  pub sent : Adds o.sent n.sent (addressed camera (sends_in made))
  pub told : TellsEach o.told n.told (moments_in made)

-- in each of these turns the receiver was told the turn's moment
abbrev pub TellsOwn : List Turned → Type 0
TellsOwn [] = ⊤
TellsOwn (t ∷ ts) = (t.told ≡ t.moment) × TellsOwn ts

-- ---- how it ended

-- each of these turns went on
abbrev pub AllGoOn : List Turned → Type 0
AllGoOn [] = ⊤
AllGoOn (t ∷ ts) = (t.end ≡ ends.GoesOn) × AllGoOn ts

-- The last turn ended so, and each before it went on.
pub record EndsIn (end : TurnEnd) (made : List Turned) : Type 0 where
  pub before : List Turned
  pub last : Turned
  pub is : made ≡ before ++ last ∷ []
  pub on : AllGoOn before
  pub ended : last.end ≡ end

-- How many of the asked turns were made, and how they ended.
abbrev pub EndsBy : AcqEnd → ℕ → List Turned → Type 0
EndsBy how.Stopped turns made = (length made < turns) × AllGoOn made
EndsBy how.Spent turns made = (length made ≡ turns) × AllGoOn made
EndsBy how.Fault turns made = (length made ≤ turns) × EndsIn ends.Fault made
EndsBy (how.NoAnswer req) turns made = (length made ≤ turns) × EndsIn (ends.NoAnswer req) made
EndsBy (how.Refused status) turns made = (length made ≤ turns) × EndsIn (ends.Refused status) made

-- how the reader ends with a turn that ended so; None: the next turn comes
abbrev pub ended_by : TurnEnd → Option AcqEnd
ended_by ends.GoesOn = None
ended_by ends.Fault = Some how.Fault
ended_by (ends.NoAnswer req) = Some (how.NoAnswer req)
ended_by (ends.Refused status) = Some (how.Refused status)

-- a look that found another run word than 1
pub record FindsStopped (s u : Token) : Type 0 where
  pub run : ℕ
  pub stopped : run ≢ 1
  pub enters : EntersEach s (LookRun run ∷ []) u

-- Where the run was stopped a last look found it, and else there was no further look.
abbrev pub LooksLast : AcqEnd → Token → Token → Type 0
LooksLast how.Stopped s u = FindsStopped s u
LooksLast how.Spent s u = u ≡ s
LooksLast how.Fault s u = u ≡ s
LooksLast (how.NoAnswer req) s u = u ≡ s
LooksLast (how.Refused status) s u = u ≡ s

-- The reader made turns, at most the asked number, and ended so; in each the receiver was told the turn's moment. The
-- journal has an entry more for each.
pub record Acquires (mode : Mode) (c : AcqConfig) (camera : Address) (Old New : List Input → Type 0) (o n : Outside) (journal journal_after : List Turn) (turns : ℕ) (end : AcqEnd) (s u : Token) : Type 0 where
  pub made : List Turned
  pub entries : List Turn
  pub middle : Token
  pub on : TurnsOn mode c camera Old New o n made entries s middle
  pub own : TellsOwn made
  pub last : LooksLast end middle u
  pub ends : EndsBy end turns made
  pub journal_is : journal_after ≡ journal ++ entries
