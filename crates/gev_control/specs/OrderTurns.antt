-- A turn in which a list of commands is carried out: the next of them is submitted where none is outstanding, what
-- waits is sent, and one receive is made. Each command comes after the acknowledge of the one before it.
use Rattle.std.specs.Prelude.{◌≡◌, ℕ, ◌+◌, ◌==◌, if◌then◌else◌, List, [], ◌∷◌, ◌++◌, length, slice_get, Option, Some, None, IsSome}
use Rattle.gvcp_wire.specs.Messages.{PlainCommand}
use Rattle.client_machine.specs.declared.outcome.Outcome.{Outcome}
use Rattle.client_machine.specs.declared.outcome.Outcome.TheVariants.{Waiting, Idle, Acked, Refused, NoAnswer}
use Rattle.client_machine.specs.Machine.{Asked, Client, submitted, received}
use Rattle.client_machine.specs.Events.{Event, submits, receives}
use Rattle.gev_links.specs.Links.{Answer, nothing, failed, came}
use Rattle.gev_control.specs.declared.turn_end.TurnEnd.{TurnEnd}
use Rattle.gev_control.specs.declared.turn_end.TurnEnd.TheVariants as ends
use Rattle.gev_control.specs.declared.acq_end.AcqEnd.{AcqEnd}
use Rattle.gev_control.specs.declared.acq_end.AcqEnd.TheVariants as how
use Rattle.gev_control.specs.Controlled.{ControlTurn, ticks_turn, listed}

-- The client, and how many of the commands were submitted to it.
pub record Progress : Type 0 where
  pub client : Client
  pub begun : ℕ

abbrev pub progress : Client → ℕ → Progress
progress client begun = record { client = client; begun = begun }

-- What came from outside in a turn.
pub record OrderTurned : Type 0 where
  pub moment : ℕ
  -- what the receive gave; None: the turn ended before its receive
  pub heard : Option Answer

abbrev pub turned_at : ℕ → Option Answer → OrderTurned
turned_at moment heard = record { moment = moment; heard = heard }

-- What the client goes through, first in first, and how the commands stand then.
pub record OrderPart : Type 0 where
  pub events : List Event
  pub state : Progress

-- A turn: what the client goes through, how the commands stand then, what the client had to send, and how the turns
-- ended, if they did.
pub record OrderTurn : Type 0 where
  pub events : List Event
  pub state : Progress
  pub send : Option (List ℕ)
  pub end : Option AcqEnd

-- ---- the next command

abbrev pub submits_next : Option PlainCommand → Progress → ℕ → OrderPart
submits_next None s moment = record { events = []; state = s }
submits_next (Some c) s moment = record { events = submits c moment ∷ []; state = progress (submitted s.client c moment) (s.begun + 1) }

-- the next command is submitted where no command is outstanding, if one is left
abbrev pub next_with : Option Asked → List PlainCommand → Progress → ℕ → OrderPart
next_with None orders s moment = submits_next (slice_get orders s.begun) s moment
next_with (Some asked) orders s moment = record { events = []; state = s }

abbrev pub next_part : List PlainCommand → Progress → ℕ → OrderPart
next_part orders s moment = next_with s.client.asked orders s moment

-- ---- the receive

-- what came of a list of so many commands, of which so many were submitted
abbrev pub end_at : ℕ → ℕ → Outcome → Option AcqEnd
end_at size begun (Waiting req) = None
end_at size begun Idle = None
end_at size begun Acked = if begun == size then Some how.Stopped else None
end_at size begun (Refused status) = Some (how.Refused status)
end_at size begun (NoAnswer req) = None

-- What a receive makes of the client, and how it ends the turns, if it does.
pub record OrderHeard : Type 0 where
  pub events : List Event
  pub client : Client
  pub end : Option AcqEnd

-- None: a send failed before the receive
abbrev pub hears_order : ℕ → Client → ℕ → ℕ → Option Answer → OrderHeard
hears_order size s begun moment None = record { events = []; client = s; end = Some how.Fault }
hears_order size s begun moment (Some failed) = record { events = []; client = s; end = Some how.Fault }
hears_order size s begun moment (Some nothing) = record { events = []; client = s; end = None }
hears_order size s begun moment (Some (came bytes peer)) = record {
  events = receives bytes moment ∷ [];
  client = (received s bytes moment).client;
  end = end_at size begun (received s bytes moment).outcome;
}

-- ---- the turn

-- what the client does between its next command and the receive: it ticks, and sends what it has to send
abbrev pub ticked_order : List PlainCommand → Progress → ℕ → ControlTurn
ticked_order orders s moment = ticks_turn [] (next_part orders s moment).state.client moment

abbrev pub joins : OrderPart → ControlTurn → OrderHeard → OrderTurn
joins part t heard = record {
  events = part.events ++ (t.events ++ heard.events);
  state = progress heard.client part.state.begun;
  send = t.send;
  end = heard.end;
}

-- the turns end before a receive
abbrev pub ends_with : ControlTurn → AcqEnd → OrderHeard
ends_with t end = record { events = []; client = t.state; end = Some end }

-- they end where the client's command had no answer, else the receive is made
abbrev pub after_send : ℕ → TurnEnd → ControlTurn → ℕ → OrderTurned → OrderHeard
after_send size ends.GoesOn t begun turned = hears_order size t.state begun turned.moment turned.heard
after_send size ends.Fault t begun turned = ends_with t how.Fault
after_send size (ends.NoAnswer req) t begun turned = ends_with t (how.NoAnswer req)
after_send size (ends.Refused status) t begun turned = ends_with t (how.Refused status)

abbrev pub order_turn : List PlainCommand → Progress → OrderTurned → OrderTurn
order_turn orders s turned =
    let part = next_part orders s turned.moment in
    let t = ticked_order orders s turned.moment in
    joins part t (after_send (length orders) t.end t part.state.begun turned)

-- what was sent of what the client had to send: a turn without a receive sent nothing
abbrev pub sent_if_heard : Option Answer → Option (List ℕ) → List (List ℕ)
sent_if_heard None send = []
sent_if_heard (Some answer) send = listed send

-- A turn makes its receive but where the client's command had no answer, or the send failed.
abbrev pub MayHear : TurnEnd → Option (List ℕ) → Option Answer → Type 0
MayHear ends.GoesOn send heard = heard ≡ None → IsSome send
MayHear ends.Fault send heard = heard ≡ None
MayHear (ends.NoAnswer req) send heard = heard ≡ None
MayHear (ends.Refused status) send heard = heard ≡ None

abbrev pub IsHeardBy : List PlainCommand → Progress → OrderTurned → Type 0
IsHeardBy orders s turned = MayHear (ticked_order orders s turned.moment).end (ticked_order orders s turned.moment).send turned.heard
