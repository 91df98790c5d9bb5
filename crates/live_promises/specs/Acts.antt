-- What a control client does and hears on its link, act by act: what its link sends by that, which acknowledges end its
-- commands, and which commands are submitted to it (GigE Vision 2.0, GVCP: retransmission, heartbeat).
use Rattle.std.specs.Prelude.{◌≡◌, ◌⊎◌, ⊤, ℕ, Bool, true, false, List, [], ◌∷◌, ◌++◌, Option, Some, None, Result, Ok, Err}
use Rattle.gvcp_wire.specs.declared.message.ControlError.{ControlError}
use Rattle.gvcp_wire.specs.Messages.{PlainCommand, PlainAck}
use Rattle.gvcp_wire.specs.Reading.{ack_reading}
use Rattle.client_machine.specs.Commands.{is_match}
use Rattle.client_machine.specs.Machine.{Asked, Client, Told, submitted, ticked, taken, to_send, received}
use Rattle.gev_links.specs.Links.{Address, Answer, Adds}
use Rattle.gev_links.specs.Moments.{TellsEach}
use Rattle.gev_control.specs.Controlled.{listed}
use Rattle.gev_control.specs.CarriesOut.{ControlSide}
use Rattle.gev_control.specs.Sends.{addressed}
use Rattle.live_promises.specs.Moves.{Move, sends, hears, sends_all, moves_sent, moves_heard, datagrams}

pub data Act : Type 0 where
  -- At this moment a command is submitted, if there is one to submit, and time has come to the moment: what the client has
  -- to send then is sent, or its send fails.
  turns : Option PlainCommand → ℕ → Bool → Act
  -- a datagram with these bytes came at this moment
  gets : List ℕ → ℕ → Act
  -- these bytes were sent, which are no command of the client's
  asks : List ℕ → Act

-- ---- the client

abbrev pub with_given : Option PlainCommand → Client → ℕ → Client
with_given None s moment = s
with_given (Some c) s moment = submitted s c moment

-- the client after a command, if one was given, and a tick
abbrev pub clocked : Client → Option PlainCommand → ℕ → Told
clocked s c moment = ticked (with_given c s moment) moment

abbrev pub behind : Client → Act → Client
behind s (turns c moment sent) = taken (clocked s c moment).client
behind s (gets bytes moment) = (received s bytes moment).client
behind s (asks bytes) = s

-- the client behind these acts, first in first
abbrev pub behind_all : Client → List Act → Client
behind_all s [] = s
behind_all s (a ∷ rest) = behind_all (behind s a) rest

-- ---- the link

abbrev pub sent_if : Bool → Option (List ℕ) → List (List ℕ)
sent_if true send = listed send
sent_if false send = []

-- what is sent and heard by an act
abbrev pub moves_by : Client → Act → List Move
moves_by s (turns c moment sent) = sends_all (sent_if sent (to_send (clocked s c moment).client.asked))
moves_by s (gets bytes moment) = hears bytes ∷ []
moves_by s (asks bytes) = sends bytes ∷ []

abbrev pub moves_in : Client → List Act → List Move
moves_in s [] = []
moves_in s (a ∷ rest) = moves_by s a ++ moves_in (behind s a) rest

-- ---- the clock

abbrev pub IsAmong : ℕ → List ℕ → Type 0
IsAmong moment [] = ⊥
IsAmong moment (x ∷ xs) = (moment ≡ x) ⊎ IsAmong moment xs

-- The act's moment is one of these.
abbrev pub IsTimed : List ℕ → Act → Type 0
IsTimed moments (turns c moment sent) = IsAmong moment moments
IsTimed moments (gets bytes moment) = IsAmong moment moments
IsTimed moments (asks bytes) = ⊤

abbrev pub AreTimed : List ℕ → List Act → Type 0
AreTimed moments [] = ⊤
AreTimed moments (a ∷ rest) = IsTimed moments a × AreTimed moments rest

-- ---- what was done

-- These acts were done, from one client to another: nothing else was sent or heard over the link, and their moments are the
-- clock's.
pub record HasActed (camera : Address) (o n : ControlSide) (acts : List Act) : Type 0 where
  pub client : n.client ≡ behind_all o.client acts
  pub answers : List Answer
  pub heard : TellsEach o.heard n.heard answers
  pub came : datagrams answers ≡ moves_heard (moves_in o.client acts)
  pub sent : Adds o.sent n.sent (addressed camera (moves_sent (moves_in o.client acts)))
  pub moments : List ℕ
  pub told : TellsEach o.told n.told moments
  pub timed : AreTimed moments acts

-- no send failed
abbrev pub is_whole : Act → Bool
is_whole (turns c moment sent) = sent
is_whole (gets bytes moment) = true
is_whole (asks bytes) = true

abbrev pub NoneLost : List Act → Type 0
NoneLost [] = ⊤
NoneLost (a ∷ rest) = (is_whole a ≡ true) × NoneLost rest

-- ---- acknowledges

-- an acknowledge that matched the outstanding command, and so ended it
pub record Ended : Type 0 where
  pub asked : Asked
  pub ack : PlainAck

abbrev pub ended_if : Bool → Asked → PlainAck → List Ended
ended_if true asked ack = record { asked = asked; ack = ack } ∷ []
ended_if false asked ack = []

abbrev pub ended_as : Option Asked → Result PlainAck ControlError → List Ended
ended_as None reading = []
ended_as (Some asked) (Ok ack) = ended_if (is_match asked.code asked.req ack) asked ack
ended_as (Some asked) (Err e) = []

abbrev pub ended_by : Client → Act → List Ended
ended_by s (turns c moment sent) = []
ended_by s (gets bytes moment) = ended_as s.asked (ack_reading bytes)
ended_by s (asks bytes) = []

-- the acknowledges that ended a command, in order
abbrev pub ended_in : Client → List Act → List Ended
ended_in s [] = []
ended_in s (a ∷ rest) = ended_by s a ++ ended_in (behind s a) rest

-- ---- commands

-- a command is submitted to a client that has none outstanding
abbrev pub submitted_if : Option Asked → Option PlainCommand → List PlainCommand
submitted_if None c = listed c
submitted_if (Some asked) c = []

abbrev pub submitted_by : Client → Act → List PlainCommand
submitted_by s (turns c moment sent) = submitted_if s.asked c
submitted_by s (gets bytes moment) = []
submitted_by s (asks bytes) = []

-- the commands that were submitted, in order; heartbeats are none
abbrev pub submitted_in : Client → List Act → List PlainCommand
submitted_in s [] = []
submitted_in s (a ∷ rest) = submitted_by s a ++ submitted_in (behind s a) rest

-- what was sent beside the client's commands
abbrev pub asked_by : Act → List (List ℕ)
asked_by (turns c moment sent) = []
asked_by (gets bytes moment) = []
asked_by (asks bytes) = bytes ∷ []

abbrev pub asked_in : List Act → List (List ℕ)
asked_in [] = []
asked_in (a ∷ rest) = asked_by a ++ asked_in rest
