-- One turn of the reader: what came from outside, what the claim gave, and what was sent.
use Rattle.std.specs.Prelude.{◌≡◌, ℕ, List, [], ◌∷◌, ◌++◌, map, Option, Some, None, is_some}
use Rattle.client_machine.specs.Machine.{Client}
use Rattle.acquisition_machine.specs.declared.config.AcqConfig.{AcqConfig}
use Rattle.acquisition_machine.specs.Blocks.{Given}
use Rattle.acquisition_machine.specs.Machine.{Input, tick, request_bytes}
use Rattle.acquisition_machine.specs.Runs.{turn}
use Rattle.gev_links.specs.Links.{Address, Answer, nothing, failed, came, Adds}
use Rattle.gev_links.specs.Moments.{Tells, TellsEach}
use Rattle.buffer_words.specs.Passes.{Token}
use Rattle.gev_control.specs.declared.turn_end.TurnEnd.{TurnEnd}
use Rattle.gev_control.specs.declared.turn_end.TurnEnd.TheVariants as ends
use Rattle.board_calls.specs.declared.mode.Mode.{Mode}
use Rattle.gev_acq.specs.declared.turn.Turn.{Turn}
use Rattle.gev_acq.specs.declared.heard.Heard.{Heard}
use Rattle.gev_acq.specs.Claims.{ServesOn}
use Rattle.gev_acq.specs.Turning.{inputs_if, IsHeardIf}
use Rattle.gev_control.specs.Sends.{addressed}
use Rattle.gev_control.specs.Controlled.{EndsAs, listed, sent_by, control_of}

pub record Turned : Type 0 where
  -- what the receive on the stream gave
  pub answer : Answer
  pub moment : ℕ
  -- the moment that the receiver was told
  pub told : ℕ
  -- the outcome of the claim, where one was made
  pub given : Option (Option Given)
  -- what the receive on the control link gave; None where a link had failed before it
  pub heard : Option Answer
  -- what was sent on the control link
  pub sent : List (List ℕ)
  pub end : TurnEnd

-- the datagram that came
abbrev pub bytes_in : Answer → Option (List ℕ)
bytes_in nothing = None
bytes_in failed = None
bytes_in (came bytes peer) = Some bytes

-- the inputs of the turn before the moment
abbrev pub inputs_before : Turned → List Input
inputs_before t = inputs_if (bytes_in t.answer) t.given

-- the inputs of a turn: the datagram, a claim's outcome and the datagram again where one was made, the moment told
abbrev pub inputs_of : Turned → List Input
inputs_of t = inputs_before t ++ tick t.told ∷ []

-- the requests that the moment told brings
abbrev pub asks_of : AcqConfig → List Input → Turned → List (List ℕ)
asks_of c q t = map request_bytes (turn c (q ++ inputs_before t) (tick t.told)).requests

abbrev pub heard_of : Turn → Heard
heard_of e = record { kept = e.kept; opened = e.opened; claim = e.claim }

-- The journal's entry tells of the turn.
pub record Notes (c : AcqConfig) (q : List Input) (t : Turned) (e : Turn) : Type 0 where
  pub moment : e.moment ≡ t.moment
  pub datagram : e.datagram ≡ is_some (bytes_in t.answer)
  pub heard : IsHeardIf c q (bytes_in t.answer) t.given (heard_of e)

-- all of these were sent, or where the turn ended by a fault a front of them
abbrev pub SendsAll : TurnEnd → List (List ℕ) → List (List ℕ) → Type 0
SendsAll ends.GoesOn every sent = sent ≡ every
SendsAll ends.Fault every sent = (rest : List (List ℕ)) × (every ≡ sent ++ rest)
SendsAll (ends.NoAnswer req) every sent = sent ≡ every
SendsAll (ends.Refused status) every sent = sent ≡ every

-- What the turn sent, and how it ended, by the machine's requests and the client.
pub record IsControlled (c : AcqConfig) (q : List Input) (s : Client) (t : Turned) : Type 0 where
  pub ends_as : EndsAs t.end (control_of s t.heard t.moment).end
  pub sends : SendsAll t.end (asks_of c q t ++ sent_by t.end (control_of s t.heard t.moment).send) t.sent
  -- after a failed receive on the stream nothing is heard and nothing sent
  pub lost : t.answer ≡ failed → (t.heard ≡ None) × (t.sent ≡ [])
  -- the control link is received from only after all requests were sent
  pub after : (answer : Answer) → t.heard ≡ Some answer → (more : List (List ℕ)) × (t.sent ≡ asks_of c q t ++ more)

-- What is told of the outside, and the client.
pub record Outside : Type 0 where
  -- what was received on the stream, and on the control link
  pub received : Option (List Answer)
  pub heard : Option (List Answer)
  -- what was sent on the control link
  pub sent : Option (List (Address × List ℕ))
  -- the moments
  pub told : Option (List ℕ)
  pub client : Client

-- The turn was made: one receive on the stream, one moment, its inputs served, and its control part.
pub record TakesTurn (mode : Mode) (c : AcqConfig) (camera : Address) (Old New : List Input → Type 0) (o n : Outside) (t : Turned) (e : Turn) (s u : Token) : Type 0 where
  pub serves : ServesOn mode c Old New (inputs_of t) s u
  pub notes : (q : List Input) → Old q → Notes c q t e
  pub controlled : (q : List Input) → Old q → IsControlled c q o.client t
  pub client : n.client ≡ (control_of o.client t.heard t.moment).state
  pub received : Tells o.received n.received t.answer
  pub told : Tells o.told n.told t.moment
  pub heard : TellsEach o.heard n.heard (listed t.heard)
  pub sent : Adds o.sent n.sent (addressed camera t.sent)

-- The same of some turn that ended so. Says is which moment the receiver may be told in a turn, by the turn's own.
pub record TakesOne (mode : Mode) (c : AcqConfig) (camera : Address) (Old New : List Input → Type 0) (Says : ℕ → ℕ → Type 0) (o n : Outside) (e : Turn) (end : TurnEnd) (s u : Token) : Type 0 where
  pub turned : Turned
  pub ended : turned.end ≡ end
  pub says : Says turned.moment turned.told
  pub takes : TakesTurn mode c camera Old New o n turned e s u
