-- What it is that a list of commands was carried out, over all its turns.
use Rattle.std.specs.Prelude.{◌≡◌, ⊤, ◌⊎◌, ℕ, ◌<◌, List, [], ◌∷◌, ◌++◌, length, Option, Some, None, IsSome}
use Rattle.gvcp_wire.specs.Messages.{PlainCommand}
use Rattle.client_machine.specs.Machine.{Client}
use Rattle.client_machine.specs.Events.{Event}
use Rattle.gev_links.specs.Links.{Address, Answer, Adds}
use Rattle.gev_links.specs.Moments.{Tells, TellsEach}
use Rattle.gev_control.specs.declared.acq_end.AcqEnd.{AcqEnd}
use Rattle.gev_control.specs.declared.carried.Carried.{Carried}
use Rattle.gev_control.specs.Sends.{addressed}
use Rattle.gev_control.specs.Controlled.{ControlTurn, listed}
use Rattle.gev_control.specs.OrderTurns.{Progress, progress, OrderTurned, turned_at, OrderPart, next_part, ticked_order, hears_order, after_send, joins, order_turn, sent_if_heard, MayHear, IsHeardBy}

-- What is told of the outside: what was received and sent on the control link, and the moments; and the client.
pub record ControlSide : Type 0 where
  pub heard : Option (List Answer)
  pub sent : Option (List (Address × List ℕ))
  pub told : Option (List ℕ)
  pub client : Client

-- Something is to be waited for: the list has a command, or one is outstanding.
abbrev pub HasToWait : List PlainCommand → Client → Type 0
HasToWait orders s = (0 < length orders) ⊎ IsSome s.asked

-- ---- turns one after the other

-- how the commands stand after these turns
abbrev pub orders_after : List PlainCommand → Progress → List OrderTurned → Progress
orders_after orders s [] = s
orders_after orders s (t ∷ ts) = orders_after orders (order_turn orders s t).state ts

-- none of these turns is the last
abbrev pub OrdersGoOn : List PlainCommand → Progress → List OrderTurned → Type 0
OrdersGoOn orders s [] = ⊤
OrdersGoOn orders s (t ∷ ts) = ((order_turn orders s t).end ≡ None) × OrdersGoOn orders (order_turn orders s t).state ts

-- what the turns sent
abbrev pub orders_sent : List PlainCommand → Progress → List OrderTurned → List (List ℕ)
orders_sent orders s [] = []
orders_sent orders s (t ∷ ts) = sent_if_heard t.heard (order_turn orders s t).send ++ orders_sent orders (order_turn orders s t).state ts

-- what the client went through, first in first
abbrev pub orders_events : List PlainCommand → Progress → List OrderTurned → List Event
orders_events orders s [] = []
orders_events orders s (t ∷ ts) = (order_turn orders s t).events ++ orders_events orders (order_turn orders s t).state ts

-- what their receives gave
abbrev pub order_heards : List OrderTurned → List Answer
order_heards [] = []
order_heards (t ∷ ts) = listed t.heard ++ order_heards ts

abbrev pub order_moments : List OrderTurned → List ℕ
order_moments [] = []
order_moments (t ∷ ts) = t.moment ∷ order_moments ts

-- ---- what is promised

-- A receive was made, and this became of the client and of the list.
pub record HearsOrder (size : ℕ) (s : Client) (begun moment : ℕ) (received received_after : Option (List Answer)) (u : Client) (end : Option AcqEnd) : Type 0 where
  pub answer : Answer
  pub told : Tells received received_after answer
  pub client : u ≡ (hears_order size s begun moment (Some answer)).client
  pub ended : end ≡ (hears_order size s begun moment (Some answer)).end

-- After the next command's part of a turn the client ticked and sent, and the receive was made where the turn came
-- to it: so the list stands then, and so the turns ended, if they did.
pub record TakesPart (size : ℕ) (camera : Address) (part : OrderPart) (t : ControlTurn) (moment begun_after : ℕ) (u : Client)
    (received received_after : Option (List Answer)) (old new : Option (List (Address × List ℕ))) (end : Option AcqEnd) : Type 0 where
  pub heard : Option Answer
  pub state : progress u begun_after ≡ (joins part t (after_send size t.end t part.state.begun (turned_at moment heard))).state
  pub ended : end ≡ (after_send size t.end t part.state.begun (turned_at moment heard)).end
  pub may_hear : MayHear t.end t.send heard
  pub told : TellsEach received received_after (listed heard)
  pub sent : Adds old new (addressed camera (sent_if_heard heard t.send))

-- a turn at this moment
abbrev pub TakesTurn : Address → List PlainCommand → Progress → Progress → ℕ → Option (List Answer) → Option (List Answer)
    → Option (List (Address × List ℕ)) → Option (List (Address × List ℕ)) → Option AcqEnd → Type 0
TakesTurn camera orders s n moment received received_after old new end =
    TakesPart (length orders) camera (next_part orders s moment) (ticked_order orders s moment) moment n.begun n.client received received_after old new end

-- These turns were made from the first on, and none was the last.
pub record CarriesOn (camera : Address) (orders : List PlainCommand) (o n : ControlSide) (begun : ℕ) (made : List OrderTurned) : Type 0 where
  pub state : progress n.client begun ≡ orders_after orders (progress o.client 0) made
  pub on : OrdersGoOn orders (progress o.client 0) made
  pub heard : TellsEach o.heard n.heard (order_heards made)
  pub told : TellsEach o.told n.told (order_moments made)
  pub sent : Adds o.sent n.sent (addressed camera (orders_sent orders (progress o.client 0) made))

-- Turns were made of which none was the last, and then one that ended them so. Nothing else was received or sent,
-- and no other moment read.
pub record CarriesOut (camera : Address) (orders : List PlainCommand) (o n : ControlSide) (end : AcqEnd) : Type 0 where
  pub before : List OrderTurned
  pub last : OrderTurned
  pub on : OrdersGoOn orders (progress o.client 0) before
  pub ended : (order_turn orders (orders_after orders (progress o.client 0) before) last).end ≡ Some end
  pub may_hear : IsHeardBy orders (orders_after orders (progress o.client 0) before) last
  pub client : n.client ≡ (orders_after orders (progress o.client 0) (before ++ last ∷ [])).client
  pub heard : TellsEach o.heard n.heard (order_heards (before ++ last ∷ []))
  pub told : TellsEach o.told n.told (order_moments (before ++ last ∷ []))
  pub sent : Adds o.sent n.sent (addressed camera (orders_sent orders (progress o.client 0) (before ++ last ∷ [])))

-- So a list was carried out, and so many of its commands were submitted.
pub record CarriesTo (camera : Address) (orders : List PlainCommand) (o n : ControlSide) (done : Carried) : Type 0 where
  pub turns : CarriesOut camera orders o n done.end
  pub begun : done.begun ≡ (orders_after orders (progress o.client 0) (turns.before ++ turns.last ∷ [])).begun
