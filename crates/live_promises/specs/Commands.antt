-- Which commands a run of `receive` submits, in order, and what its control link sends beside them (GigE Vision 2.0, GVCP:
-- READREG, WRITEREG, PACKETRESEND).
use Rattle.std.specs.Prelude.{◌≡◌, ◌≢◌, ◌⊎◌, ℕ, ◌+◌, ◌≤◌, Bool, true, List, [], ◌∷◌, ◌++◌, length, Option, Some, None}
use Rattle.std.specs.List.{AllByRecursion}
use Rattle.gvcp_wire.specs.Messages.{PlainCommand}
use Rattle.client_machine.specs.Commands.{next_req}
use Rattle.client_machine.specs.Machine.{Asked, Client}
use Rattle.client_machine.specs.Events.{Request, request_of, new_request}
use Rattle.acquisition_machine.specs.Machine.{Request as Resend, request_bytes}
use Rattle.packet_requests.specs.declared.id_mode.IdMode.{IdMode}
use Rattle.packet_requests.specs.Requests.{control_request}
use Rattle.camera_control.specs.Steps.{CAPABILITY, read_of, allows_resends}
use Rattle.live_promises.specs.Acts.{Act, turns, with_given, behind_all, Ended, ended_in, submitted_in, asked_in}
use Rattle.live_promises.specs.ReceiveCauses.{Answers, value_in}

-- ---- commands, one after the other

-- The command was submitted, and an acknowledge that matches it came; no other was submitted, and nothing else was asked.
pub record IsCarried (c : PlainCommand) (s : Client) (acts : List Act) : Type 0 where
  pub submitted : submitted_in s acts ≡ c ∷ []
  pub unasked : asked_in acts ≡ []
  pub ended : Ended
  pub ends : ended_in s acts ≡ ended ∷ []
  pub answers : Answers c ended

-- These were, each behind the acknowledge of the one before it. Meanwhile nothing else was submitted.
pub data CarriesEach (s : Client) : List PlainCommand → List Act → Type 0 where
  none : CarriesEach s [] []
  more : (cs : List PlainCommand) (front : List Act) (c : PlainCommand) (acts : List Act) → CarriesEach s cs front → IsCarried c (behind_all s front) acts
      → CarriesEach s (cs ++ c ∷ []) (front ++ acts)
  meanwhile : (cs : List PlainCommand) (front : List Act) (acts : List Act) → CarriesEach s cs front → submitted_in (behind_all s front) acts ≡ [] → asked_in acts ≡ []
      → CarriesEach s cs (front ++ acts)

-- A front of these commands was: and the next one was submitted perhaps, as the last.
pub record CarriesFront (s : Client) (all : List PlainCommand) (acts : List Act) : Type 0 where
  pub done : List PlainCommand
  pub last : List PlainCommand
  pub rest : List PlainCommand
  pub are : all ≡ done ++ (last ++ rest)
  pub few : length last ≤ 1
  pub front : List Act
  pub end : List Act
  pub parts : acts ≡ front ++ end
  pub each : CarriesEach s done front
  pub submitted : submitted_in (behind_all s front) end ≡ last
  pub unasked : asked_in end ≡ []

-- ---- a command that is over

-- An acknowledge that matches the request came among these acts.
pub record IsAnsweredIn (r : Request) (s : Client) (acts : List Act) : Type 0 where
  pub before : List Ended
  pub ended : Ended
  pub later : List Ended
  pub are : ended_in s acts ≡ before ++ ended ∷ later
  pub of_request : request_of ended.asked ≡ r

-- Or the client gave it up, the limit of its last send behind that send.
pub record IsGivenUpIn (r : Request) (s : Client) (acts : List Act) : Type 0 where
  pub before : List Act
  pub given : Option PlainCommand
  pub moment : ℕ
  pub sent : Bool
  pub later : List Act
  pub are : acts ≡ before ++ turns given moment sent ∷ later
  pub asked : Asked
  pub outstanding : (with_given given (behind_all s before) moment).asked ≡ Some asked
  pub of_request : request_of asked ≡ r
  pub waited : asked.sent + asked.limit ≤ moment

abbrev pub IsOver : Request → Client → List Act → Type 0
IsOver r s acts = IsAnsweredIn r s acts ⊎ IsGivenUpIn r s acts

-- Once a command was submitted its client has none outstanding, and so can be given the next one, only where an acknowledge
-- that matches the command came, or it was given up.
abbrev pub CommandsWait : Type 0
CommandsWait =
    (s : Client) (c : PlainCommand) (moment : ℕ) (sent : Bool) (acts : List Act) → s.asked ≡ None → (behind_all s (turns (Some c) moment sent ∷ acts)).asked ≡ None
    → IsOver (new_request (next_req s.last_req) c) s (turns (Some c) moment sent ∷ acts)

-- ---- packets that are asked for again

-- a receiver's request for packets, in the form in which it goes out over a control link
abbrev pub IsResend : List ℕ → Type 0
IsResend bytes = (ids : IdMode) × ((request : Resend) × (bytes ≡ control_request ids (request_bytes request)))

-- One of these acknowledges told the camera's capability, and that it sends packets again.
pub record AllowsResends (all : List Ended) : Type 0 where
  pub before : List Ended
  pub ended : Ended
  pub later : List Ended
  pub are : all ≡ before ++ ended ∷ later
  pub answers : Answers (read_of CAPABILITY) ended
  pub allowed : allows_resends (value_in ended.ack) ≡ true

-- ---- the run

-- What was submitted is a front of the commands by which the camera is taken, and behind it a front of those by which it's
-- let go; in each every command comes behind the acknowledge of the one before it. Between them nothing was submitted: the
-- client sent heartbeats alone. Packets were asked for again there alone, and only where the camera allows it.
pub record SendsCommands (takes stops : List PlainCommand) (o : Client) (acts : List Act) : Type 0 where
  pub taking : List Act
  pub watching : List Act
  pub leaving : List Act
  pub are : acts ≡ taking ++ (watching ++ leaving)
  pub takes_front : CarriesFront o takes taking
  pub watches : submitted_in (behind_all o taking) watching ≡ []
  pub resends : AllByRecursion IsResend (asked_in watching)
  pub allowed : asked_in watching ≢ [] → AllowsResends (ended_in o taking)
  pub stops_front : CarriesFront (behind_all (behind_all o taking) watching) stops leaving
