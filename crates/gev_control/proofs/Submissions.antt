-- What turns submit are the first of the commands, in order.
use Rattle.std.proofs.Common.{◌≡◌, ℕ, zero, suc, ◌+◌, List, [], ◌∷◌, ◌++◌, Option, Some, None, refl, ap, sym, ◌∙◌, append_assoc, arith}
use Rattle.std.proofs.lemmas.List.{append-nil}
use Rattle.std.specs.Prelude.{slice_get, take, length}
use Rattle.gvcp_wire.specs.Messages.{PlainCommand}
use Rattle.client_machine.specs.declared.outcome.Outcome.{Outcome}
use Rattle.client_machine.specs.declared.outcome.Outcome.TheVariants.{Waiting, Idle, Acked, Refused, NoAnswer}
use Rattle.client_machine.specs.Machine.{Asked, Client, ticked}
use Rattle.client_machine.specs.Events.{Event, submits, ticks, takes, receives}
use Rattle.gev_links.specs.Links.{Answer, nothing, failed, came}
use Rattle.gev_control.specs.declared.turn_end.TurnEnd.{TurnEnd}
use Rattle.gev_control.specs.declared.turn_end.TurnEnd.TheVariants as ends
use Rattle.gev_control.specs.Controlled.{ControlTurn, after_tick}
use Rattle.gev_control.specs.OrderTurns.{Progress, progress, OrderTurned, OrderPart, submits_next, next_with, next_part, hears_order, ticked_order, after_send, order_turn}
use Rattle.gev_control.specs.CarriesOut.{orders_after, orders_events}
use Rattle.gev_control.specs.OrderLaws.{submitted_in, SubmitsInOrder}

submitted-append : (xs ys : List Event) → submitted_in (xs ++ ys) ≡ submitted_in xs ++ submitted_in ys
submitted-append [] ys = refl
submitted-append (submits c moment ∷ xs) ys = ap (λ l. c ∷ l) (submitted-append xs ys)
submitted-append (ticks moment ∷ xs) ys = submitted-append xs ys
submitted-append (takes ∷ xs) ys = submitted-append xs ys
submitted-append (receives bytes moment ∷ xs) ys = submitted-append xs ys

-- ---- a turn

take_suc : (xs : List PlainCommand) (n : ℕ) (c : PlainCommand) → slice_get xs n ≡ Some c → take n xs ++ c ∷ [] ≡ take (suc n) xs
take_suc [] n c e = absurd (cc)
take_suc (x ∷ xs) zero c e = let same : x ≡ c = cc in ap (λ k. k ∷ []) (sym same)
take_suc (x ∷ xs) (suc n) c e = ap (λ l. x ∷ l) (take_suc xs n c e)

pub take_next : (xs : List PlainCommand) (n : ℕ) (c : PlainCommand) → slice_get xs n ≡ Some c → take n xs ++ c ∷ [] ≡ take (n + 1) xs
take_next xs n c e = take_suc xs n c e ∙ ap (λ k. take k xs) (over n)
  where
    over : (k : ℕ) → suc k ≡ k + 1
    over k = omega arith

part_next : (orders : List PlainCommand) (s : Progress) (moment : ℕ) (c : Option PlainCommand) → slice_get orders s.begun ≡ c
    → take s.begun orders ++ submitted_in (submits_next c s moment).events ≡ take (submits_next c s moment).state.begun orders
part_next orders s moment None is = append-nil (take s.begun orders)
part_next orders s moment (Some c) is = take_next orders s.begun c is

part_submits : (orders : List PlainCommand) (s : Progress) (moment : ℕ) (o : Option Asked)
    → take s.begun orders ++ submitted_in (next_with o orders s moment).events ≡ take (next_with o orders s moment).state.begun orders
part_submits orders s moment None = part_next orders s moment (slice_get orders s.begun) refl
part_submits orders s moment (Some asked) = append-nil (take s.begun orders)

ticks_none : (s : Client) (moment : ℕ) (o : Outcome) → submitted_in (after_tick (ticks moment ∷ []) s o).events ≡ []
ticks_none s moment (Waiting req) = refl
ticks_none s moment Idle = refl
ticks_none s moment Acked = refl
ticks_none s moment (Refused status) = refl
ticks_none s moment (NoAnswer req) = refl

hears_none : (size : ℕ) (s : Client) (begun moment : ℕ) (heard : Option Answer) → submitted_in (hears_order size s begun moment heard).events ≡ []
hears_none size s begun moment None = refl
hears_none size s begun moment (Some failed) = refl
hears_none size s begun moment (Some nothing) = refl
hears_none size s begun moment (Some (came bytes peer)) = refl

after_none : (size : ℕ) (x : TurnEnd) (t : ControlTurn) (begun : ℕ) (turned : OrderTurned) → submitted_in (after_send size x t begun turned).events ≡ []
after_none size ends.GoesOn t begun turned = hears_none size t.state begun turned.moment turned.heard
after_none size ends.Fault t begun turned = refl
after_none size (ends.NoAnswer req) t begun turned = refl
after_none size (ends.Refused status) t begun turned = refl

-- events of which the later two parts submit nothing
first_alone : (xs ys zs : List Event) → submitted_in ys ≡ [] → submitted_in zs ≡ [] → submitted_in (xs ++ (ys ++ zs)) ≡ submitted_in xs
first_alone xs ys zs none nothing_more =
    submitted-append xs (ys ++ zs)
    ∙ (ap (λ l. submitted_in xs ++ l) (submitted-append ys zs ∙ (ap (λ l. l ++ submitted_in zs) none ∙ nothing_more)) ∙ append-nil (submitted_in xs))

turn_submits : (orders : List PlainCommand) (s : Progress) (t : OrderTurned)
    → take s.begun orders ++ submitted_in (order_turn orders s t).events ≡ take (order_turn orders s t).state.begun orders
turn_submits orders s t =
    let part : OrderPart = next_part orders s t.moment in
    let made : ControlTurn = ticked_order orders s t.moment in
    ap (λ l. take s.begun orders ++ l)
    (first_alone part.events made.events (after_send (length orders) made.end made part.state.begun t).events
    (ticks_none (ticked part.state.client t.moment).client t.moment (ticked part.state.client t.moment).outcome)
    (after_none (length orders) made.end made part.state.begun t))
    ∙ part_submits orders s t.moment s.client.asked

-- ---- all turns

turns_submit : (orders : List PlainCommand) (s : Progress) (ts : List OrderTurned)
    → take s.begun orders ++ submitted_in (orders_events orders s ts) ≡ take (orders_after orders s ts).begun orders
turns_submit orders s [] = append-nil (take s.begun orders)
turns_submit orders s (t ∷ ts) =
    let turn = order_turn orders s t in
    ap (λ l. take s.begun orders ++ l) (submitted-append turn.events (orders_events orders turn.state ts))
    ∙ (sym (append_assoc (take s.begun orders) (submitted_in turn.events) (submitted_in (orders_events orders turn.state ts)))
    ∙ (ap (λ l. l ++ submitted_in (orders_events orders turn.state ts)) (turn_submits orders s t) ∙ turns_submit orders turn.state ts))

pub in_order : (orders : List PlainCommand) (s : Client) (ts : List OrderTurned) → SubmitsInOrder orders s ts
in_order orders s ts = turns_submit orders (progress s 0) ts
