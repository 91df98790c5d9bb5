-- What the client tells while a list of commands is carried out, and what is promised of it.
use Rattle.std.specs.Prelude.{◌≡◌, ◌≢◌, ◌↔◌, ℕ, ◌+◌, List, [], ◌∷◌, ◌++◌, length, take, Option, Some, None}
use Rattle.gvcp_wire.specs.declared.status.Status.TheVariants as statuses
use Rattle.gvcp_wire.specs.Status.{status_code}
use Rattle.gvcp_wire.specs.Messages.{PlainCommand}
use Rattle.client_machine.specs.declared.outcome.Outcome.{Outcome}
use Rattle.client_machine.specs.declared.outcome.Outcome.TheVariants.{Waiting, Idle, Acked, Refused, NoAnswer}
use Rattle.client_machine.specs.Machine.{Asked, Client, ticked, received}
use Rattle.client_machine.specs.Events.{Event, submits, ticks, takes, receives, step}
use Rattle.client_machine.specs.Laws.{IsAnswered}
use Rattle.gev_links.specs.Links.{Address, Answer, nothing, failed, came}
use Rattle.gev_control.specs.declared.turn_end.TurnEnd.{TurnEnd}
use Rattle.gev_control.specs.declared.turn_end.TurnEnd.TheVariants as ends
use Rattle.gev_control.specs.declared.acq_end.AcqEnd.TheVariants as how
use Rattle.gev_control.specs.Controlled.{control_of}
use Rattle.gev_control.specs.OrderTurns.{Progress, progress, OrderTurned, next_part, ticked_order, order_turn}
use Rattle.gev_control.specs.CarriesOut.{HasToWait, orders_after, OrdersGoOn, orders_events}

-- ---- what the client tells in a turn

-- of its tick
abbrev pub tick_outcome : List PlainCommand → Progress → OrderTurned → Outcome
tick_outcome orders s t = (ticked (next_part orders s t.moment).state.client t.moment).outcome

-- of what came, if a datagram came
abbrev pub outcomes_of : Client → ℕ → Option Answer → List Outcome
outcomes_of s moment None = []
outcomes_of s moment (Some nothing) = []
outcomes_of s moment (Some failed) = []
outcomes_of s moment (Some (came bytes peer)) = (received s bytes moment).outcome ∷ []

abbrev pub outcomes_after : TurnEnd → Client → ℕ → Option Answer → List Outcome
outcomes_after ends.GoesOn s moment heard = outcomes_of s moment heard
outcomes_after ends.Fault s moment heard = []
outcomes_after (ends.NoAnswer req) s moment heard = []
outcomes_after (ends.Refused status) s moment heard = []

abbrev pub heard_outcomes : List PlainCommand → Progress → OrderTurned → List Outcome
heard_outcomes orders s t = outcomes_after (ticked_order orders s t.moment).end (ticked_order orders s t.moment).state t.moment t.heard

-- all that it tells in these turns
abbrev pub order_outcomes : List PlainCommand → Progress → List OrderTurned → List Outcome
order_outcomes orders s [] = []
order_outcomes orders s (t ∷ ts) = tick_outcome orders s t ∷ (heard_outcomes orders s t ++ order_outcomes orders (order_turn orders s t).state ts)

-- ---- acknowledges

abbrev pub acks : Outcome → ℕ
acks (Waiting req) = 0
acks Idle = 0
acks Acked = 1
acks (Refused status) = 0
acks (NoAnswer req) = 0

-- how often a command was acknowledged
abbrev pub acks_in : List Outcome → ℕ
acks_in [] = 0
acks_in (o ∷ os) = acks o + acks_in os

-- how many commands are outstanding
abbrev pub outstanding : Option Asked → ℕ
outstanding None = 0
outstanding (Some asked) = 1

-- The turns end with Stopped exactly where all commands were acknowledged, with the one that was outstanding before
-- the first of them.
abbrev pub StopsAtTheLast : List PlainCommand → Client → List OrderTurned → OrderTurned → Type 0
StopsAtTheLast orders s before last =
    HasToWait orders s → OrdersGoOn orders (progress s 0) before
    → ((order_turn orders (orders_after orders (progress s 0) before) last).end ≡ Some how.Stopped)
    ↔ (acks_in (order_outcomes orders (progress s 0) (before ++ last ∷ [])) ≡ length orders + outstanding s.asked)

-- A command is submitted once all before it were acknowledged: while turns go on, the acknowledges, and the command
-- that is outstanding, are as many as the commands that were submitted, and the one that was outstanding before.
abbrev pub WaitsForEach : List PlainCommand → Client → List OrderTurned → Type 0
WaitsForEach orders s ts =
    HasToWait orders s → OrdersGoOn orders (progress s 0) ts
    → acks_in (order_outcomes orders (progress s 0) ts) + outstanding (orders_after orders (progress s 0) ts).client.asked
    ≡ (orders_after orders (progress s 0) ts).begun + outstanding s.asked

-- A turn ends with NoAnswer or Refused exactly where the client tells just that, and never with Spent.
pub record EndsAsTold (orders : List PlainCommand) (s : Progress) (t : OrderTurned) : Type 0 where
  pub no_answer : (req : ℕ) → ((order_turn orders s t).end ≡ Some (how.NoAnswer req)) ↔ (tick_outcome orders s t ≡ NoAnswer req)
  pub refused : (status : ℕ) → ((order_turn orders s t).end ≡ Some (how.Refused status)) ↔ (heard_outcomes orders s t ≡ Refused status ∷ [])
  pub never_spent : (order_turn orders s t).end ≢ Some how.Spent

-- ---- what is submitted

-- the commands that are submitted in these events
abbrev pub submitted_in : List Event → List PlainCommand
submitted_in [] = []
submitted_in (submits c moment ∷ es) = c ∷ submitted_in es
submitted_in (ticks moment ∷ es) = submitted_in es
submitted_in (takes ∷ es) = submitted_in es
submitted_in (receives bytes moment ∷ es) = submitted_in es

-- What turns submit are the first of the commands, in order, each once.
abbrev pub SubmitsInOrder : List PlainCommand → Client → List OrderTurned → Type 0
SubmitsInOrder orders s ts =
    submitted_in (orders_events orders (progress s 0) ts) ≡ take (orders_after orders (progress s 0) ts).begun orders

-- ---- what was read

-- The bytes that came are the acknowledge, with success, of the client's command, and their body is what the client
-- gives on.
pub record IsToldBy (s : Client) (heard : Option Answer) (u : Client) : Type 0 where
  pub bytes : List ℕ
  pub peer : Address
  pub came_so : heard ≡ Some (came bytes peer)
  pub answered : IsAnswered s bytes (status_code statuses.Success)
  pub body : u.body ≡ answered.ack.body

-- Turns that end with Stopped leave the client with what the last acknowledge told.
abbrev pub TellsTheLast : List PlainCommand → Progress → OrderTurned → Type 0
TellsTheLast orders s t = (order_turn orders s t).end ≡ Some how.Stopped → IsToldBy (ticked_order orders s t.moment).state t.heard (order_turn orders s t).state.client

-- ---- the client

-- the client after these events, first in first
abbrev pub steps : Client → List Event → Client
steps s [] = s
steps s (e ∷ es) = steps (step s e) es

-- The client's state is what its machine makes of its events, in turns that carry out a list and in those of the reader.
pub record AreTheClients : Type 0 where
  pub orders : (orders : List PlainCommand) (s : Progress) (ts : List OrderTurned)
      → (orders_after orders s ts).client ≡ steps s.client (orders_events orders s ts)
  pub control : (s : Client) (heard : Option Answer) (moment : ℕ) → (control_of s heard moment).state ≡ steps s (control_of s heard moment).events
