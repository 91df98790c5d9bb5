-- Turns in which a list is carried out, one after the other.
use Rattle.std.proofs.Common.{◌≡◌, ℕ, List, [], ◌∷◌, ◌++◌, Option, Some, None, refl, ap, sym, ◌∙◌, subst, append_assoc}
use Rattle.std.proofs.lemmas.List.{append-nil}
use Rattle.gev_links.specs.Links.{Address, Answer, Adds}
use Rattle.gev_links.specs.Moments.{Tells, TellsEach}
use Rattle.gev_links.proofs.Growing.{tells_more, tells_none, tells_then, adds_none}
use Rattle.gev_control.specs.declared.acq_end.AcqEnd.{AcqEnd}
use Rattle.gev_control.specs.Sends.{addressed}
use Rattle.gev_control.specs.Controlled.{listed}
use Rattle.gvcp_wire.specs.Messages.{PlainCommand}
use Rattle.gev_control.specs.OrderTurns.{Progress, progress, OrderTurned, turned_at, order_turn, sent_if_heard}
use Rattle.client_machine.specs.Setup.{setup_commands}
use Rattle.gev_control.specs.declared.carried.Carried.{Carried}
use Rattle.gev_control.specs.SetsUp.{SetsUp}
use Rattle.gev_control.specs.CarriesOut.{ControlSide, orders_after, OrdersGoOn, orders_sent, order_heards, order_moments, TakesTurn, CarriesOn, CarriesOut, CarriesTo}
use Rattle.gev_control.proofs.Fronts.{added_then}

-- ---- one turn more

pub after_more : (orders : List PlainCommand) (s : Progress) (ts : List OrderTurned) (t : OrderTurned)
    → orders_after orders s (ts ++ t ∷ []) ≡ (order_turn orders (orders_after orders s ts) t).state
after_more orders s [] t = refl
after_more orders s (x ∷ xs) t = after_more orders (order_turn orders s x).state xs t

on_more : (orders : List PlainCommand) (s : Progress) (ts : List OrderTurned) (t : OrderTurned) → OrdersGoOn orders s ts
    → (order_turn orders (orders_after orders s ts) t).end ≡ None → OrdersGoOn orders s (ts ++ t ∷ [])
on_more orders s [] t on is = (is, tt)
on_more orders s (x ∷ xs) t on is = (on.0, on_more orders (order_turn orders s x).state xs t on.1 is)

sent_more : (orders : List PlainCommand) (s : Progress) (ts : List OrderTurned) (t : OrderTurned)
    → orders_sent orders s (ts ++ t ∷ []) ≡ orders_sent orders s ts ++ sent_if_heard t.heard (order_turn orders (orders_after orders s ts) t).send
sent_more orders s [] t = append-nil (sent_if_heard t.heard (order_turn orders s t).send)
sent_more orders s (x ∷ xs) t =
    ap (λ l. sent_if_heard x.heard (order_turn orders s x).send ++ l) (sent_more orders (order_turn orders s x).state xs t)
    ∙ sym
    (append_assoc (sent_if_heard x.heard (order_turn orders s x).send) (orders_sent orders (order_turn orders s x).state xs)
    (sent_if_heard t.heard (order_turn orders (orders_after orders (order_turn orders s x).state xs) t).send))

heards_more : (ts : List OrderTurned) (t : OrderTurned) → order_heards (ts ++ t ∷ []) ≡ order_heards ts ++ listed t.heard
heards_more [] t = append-nil (listed t.heard)
heards_more (x ∷ xs) t = ap (λ l. listed x.heard ++ l) (heards_more xs t) ∙ sym (append_assoc (listed x.heard) (order_heards xs) (listed t.heard))

moments_more : (ts : List OrderTurned) (t : OrderTurned) → order_moments (ts ++ t ∷ []) ≡ order_moments ts ++ t.moment ∷ []
moments_more [] t = refl
moments_more (x ∷ xs) t = ap (λ l. x.moment ∷ l) (moments_more xs t)

-- ---- so far

pub list_begins : (camera : Address) (orders : List PlainCommand) (o : ControlSide) → CarriesOn camera orders o o 0 []
list_begins camera orders o = record {
  state = refl;
  on = tt;
  heard = tells_none o.heard;
  told = tells_none o.told;
  sent = adds_none o.sent;
}

heard_on : (o m n : Option (List Answer)) (ts : List OrderTurned) (t : OrderTurned) → TellsEach o m (order_heards ts) → TellsEach m n (listed t.heard)
    → TellsEach o n (order_heards (ts ++ t ∷ []))
heard_on o m n ts t first second = subst (TellsEach o n) (sym (heards_more ts t)) (tells_then o m n (order_heards ts) (listed t.heard) first second)

told_on : (o m n : Option (List ℕ)) (ts : List OrderTurned) (t : OrderTurned) → TellsEach o m (order_moments ts) → Tells m n t.moment
    → TellsEach o n (order_moments (ts ++ t ∷ []))
told_on o m n ts t first second = subst (TellsEach o n) (sym (moments_more ts t)) (tells_more o m n (order_moments ts) t.moment first second)

sent_on : (camera : Address) (orders : List PlainCommand) (s : Progress) (o m n : Option (List (Address × List ℕ))) (ts : List OrderTurned) (t : OrderTurned)
    → Adds o m (addressed camera (orders_sent orders s ts))
    → Adds m n (addressed camera (sent_if_heard t.heard (order_turn orders (orders_after orders s ts) t).send))
    → Adds o n (addressed camera (orders_sent orders s (ts ++ t ∷ [])))
sent_on camera orders s o m n ts t first second =
    subst (λ l. Adds o n (addressed camera l)) (sym (sent_more orders s ts t))
    (added_then camera o m n (orders_sent orders s ts) (sent_if_heard t.heard (order_turn orders (orders_after orders s ts) t).send) first second)

-- a turn that was made from where the turns so far have brought it
from_there : (camera : Address) (orders : List PlainCommand) (o m n : ControlSide) (begun next moment : ℕ) (made : List OrderTurned) (end : Option AcqEnd)
    → CarriesOn camera orders o m begun made
    → TakesTurn camera orders (progress m.client begun) (progress n.client next) moment m.heard n.heard m.sent n.sent end
    → TakesTurn camera orders (orders_after orders (progress o.client 0) made) (progress n.client next) moment m.heard n.heard m.sent n.sent end
from_there camera orders o m n begun next moment made end so takes =
    subst (λ s. TakesTurn camera orders s (progress n.client next) moment m.heard n.heard m.sent n.sent end) so.state takes

pub list_goes_on : (camera : Address) (orders : List PlainCommand) (o m n : ControlSide) (begun next moment : ℕ) (made : List OrderTurned) (end : Option AcqEnd)
    → CarriesOn camera orders o m begun made → Tells m.told n.told moment
    → TakesTurn camera orders (progress m.client begun) (progress n.client next) moment m.heard n.heard m.sent n.sent end → end ≡ None
    → (more : List OrderTurned) × CarriesOn camera orders o n next more
list_goes_on camera orders o m n begun next moment made end so told takes is =
    let then : TakesTurn camera orders (orders_after orders (progress o.client 0) made) (progress n.client next) moment m.heard n.heard m.sent n.sent end =
    from_there camera orders o m n begun next moment made end so takes in
    let t : OrderTurned = turned_at moment then.heard in (
      made ++ t ∷ [],
      record {
        state = then.state ∙ sym (after_more orders (progress o.client 0) made t);
        on = on_more orders (progress o.client 0) made t so.on (sym then.ended ∙ is);
        heard = heard_on o.heard m.heard n.heard made t so.heard then.told;
        told = told_on o.told m.told n.told made t so.told told;
        sent = sent_on camera orders (progress o.client 0) o.sent m.sent n.sent made t so.sent then.sent;
      },
    )

pub list_ends : (camera : Address) (orders : List PlainCommand) (o m n : ControlSide) (begun next moment : ℕ) (made : List OrderTurned) (end : Option AcqEnd)
    (how : AcqEnd) → CarriesOn camera orders o m begun made → Tells m.told n.told moment
    → TakesTurn camera orders (progress m.client begun) (progress n.client next) moment m.heard n.heard m.sent n.sent end → end ≡ Some how
    → CarriesTo camera orders o n (record { end = how; begun = next })
list_ends camera orders o m n begun next moment made end how so told takes is =
    let then : TakesTurn camera orders (orders_after orders (progress o.client 0) made) (progress n.client next) moment m.heard n.heard m.sent n.sent end =
    from_there camera orders o m n begun next moment made end so takes in
    let t : OrderTurned = turned_at moment then.heard in
    record {
      turns = record {
        before = made;
        last = t;
        on = so.on;
        ended = sym then.ended ∙ is;
        may_hear = then.may_hear;
        client = ap (λ s. s.client) (then.state ∙ sym (after_more orders (progress o.client 0) made t));
        heard = heard_on o.heard m.heard n.heard made t so.heard then.told;
        told = told_on o.told m.told n.told made t so.told told;
        sent = sent_on camera orders (progress o.client 0) o.sent m.sent n.sent made t so.sent then.sent;
      };
      begun = ap (λ s. s.begun) (then.state ∙ sym (after_more orders (progress o.client 0) made t));
    }

-- the setup is a list
pub as_setup : (camera stream : Address) (orders : List PlainCommand) (o n : ControlSide) (done : Carried) → orders ≡ setup_commands stream
    → CarriesTo camera orders o n done → SetsUp camera stream o n done.end
as_setup camera stream orders o n done is carried = subst (λ l. CarriesOut camera l o n done.end) is carried.turns
