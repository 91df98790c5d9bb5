-- What the reader of a live run with lanes did.
use Rattle.std.specs.Prelude.{◌≡◌, ⊤, ℕ, ◌<◌, ◌≤◌, List, [], ◌∷◌, ◌++◌, length}
use Rattle.board_machine.specs.declared.events.Event.{Event}
use Rattle.board_machine.specs.declared.events.Event.TheVariants.{LookRun}
use Rattle.client_machine.specs.Machine.{Client}
use Rattle.gev_links.specs.Links.{Address, Answer, Adds}
use Rattle.gev_links.specs.Moments.{TellsEach}
use Rattle.buffer_words.specs.Passes.{Token}
use Rattle.buffer_words.specs.Several.{EntersEach}
use Rattle.gev_control.specs.declared.turn_end.TurnEnd.{TurnEnd}
use Rattle.gev_control.specs.declared.turn_end.TurnEnd.TheVariants as ends
use Rattle.gev_control.specs.declared.acq_end.AcqEnd.{AcqEnd}
use Rattle.gev_control.specs.declared.acq_end.AcqEnd.TheVariants as how
use Rattle.gev_control.specs.Sends.{addressed}
use Rattle.gev_control.specs.Controlled.{listed, control_of}
use Rattle.gev_acq.specs.Turns.{Outside}
use Rattle.gev_acq.specs.Acquired.{LooksLast}
use Rattle.gev_lanes.specs.declared.parts.ReaderLane.{ReaderLane}
use Rattle.lane_reader.specs.LanesTurns.{ReaderTurn, TakesLanesTurns, EndsEach}
use Rattle.lane_reader.specs.Turned.{IsControlled}

-- what the turns' receives on the stream gave
abbrev pub answers_in : List ReaderTurn → List Answer
answers_in [] = []
answers_in (t ∷ ts) = t.answer ∷ answers_in ts

abbrev pub moments_in : List ReaderTurn → List ℕ
moments_in [] = []
moments_in (t ∷ ts) = t.moment ∷ moments_in ts

-- what their receives on the control link gave
abbrev pub heards_in : List ReaderTurn → List Answer
heards_in [] = []
heards_in (t ∷ ts) = listed t.heard ++ heards_in ts

-- what they sent on the control link
abbrev pub sends_in : List ReaderTurn → List (List ℕ)
sends_in [] = []
sends_in (t ∷ ts) = t.sent ++ sends_in ts

-- a look at the run word in each turn, which found 1
abbrev pub looks_in : List ReaderTurn → List Event
looks_in [] = []
looks_in (t ∷ ts) = LookRun 1 ∷ looks_in ts

-- The client goes through the control parts of these turns, from the first state to the last.
abbrev pub ControlEach : Client → List ReaderTurn → Client → Type 0
ControlEach s [] u = u ≡ s
ControlEach s (t ∷ ts) u = IsControlled s t × ControlEach (control_of s t.heard t.moment).state ts u

-- These turns were made on n lanes, and nothing else: the links and the clock told just what they received, sent and
-- read, and of the board only its run word was looked at, once in each.
pub record TurnsOn (n : ℕ) (camera : Address) (o m : Outside) (made : List ReaderTurn) (ss us : List ReaderLane) (s v : Token) : Type 0 where
  pub enters : EntersEach s (looks_in made) v
  pub lanes : TakesLanesTurns n made ss us
  pub controlled : ControlEach o.client made m.client
  pub received : TellsEach o.received m.received (answers_in made)
  pub heard : TellsEach o.heard m.heard (heards_in made)
  pub sent : Adds o.sent m.sent (addressed camera (sends_in made))
  pub told : TellsEach o.told m.told (moments_in made)

-- ---- how it ended

-- each of these turns went on
abbrev pub AllGoOn : List ReaderTurn → Type 0
AllGoOn [] = ⊤
AllGoOn (t ∷ ts) = (t.end ≡ ends.GoesOn) × AllGoOn ts

-- The last turn ended so, and each before it went on.
pub record EndsIn (end : TurnEnd) (made : List ReaderTurn) : Type 0 where
  pub before : List ReaderTurn
  pub last : ReaderTurn
  pub is : made ≡ before ++ last ∷ []
  pub on : AllGoOn before
  pub ended : last.end ≡ end

-- How many of the asked turns were made, and how they ended.
abbrev pub EndsBy : AcqEnd → ℕ → List ReaderTurn → Type 0
EndsBy how.Stopped turns made = (length made < turns) × AllGoOn made
EndsBy how.Spent turns made = (length made ≡ turns) × AllGoOn made
EndsBy how.Fault turns made = (length made ≤ turns) × EndsIn ends.Fault made
EndsBy (how.NoAnswer req) turns made = (length made ≤ turns) × EndsIn (ends.NoAnswer req) made
EndsBy (how.Refused status) turns made = (length made ≤ turns) × EndsIn (ends.Refused status) made

-- The reader made turns, at most the asked number, and ended so, with a last look where the run was stopped.
pub record ReadsTurns (n : ℕ) (camera : Address) (o m : Outside) (turns : ℕ) (end : AcqEnd) (ss us : List ReaderLane) (s v : Token) : Type 0 where
  pub made : List ReaderTurn
  pub middle : Token
  pub on : TurnsOn n camera o m made ss us s middle
  pub last : LooksLast end middle v
  pub ends : EndsBy end turns made

-- Then it told each lane that it has ended, whatever its own end was.
pub record ReadsLanes (n : ℕ) (camera : Address) (o m : Outside) (turns : ℕ) (end : AcqEnd) (ss us : List ReaderLane) (s v : Token) : Type 0 where
  pub before : List ReaderLane
  pub reads : ReadsTurns n camera o m turns end ss before s v
  pub ended : EndsEach before us
