-- What a turn makes of the client, as steps of its machine.
use Rattle.std.proofs.Common.{◌≡◌, ℕ, List, [], ◌∷◌, ◌++◌, Option, Some, None, refl, ap, sym, ◌∙◌}
use Rattle.client_machine.specs.declared.outcome.Outcome.{Outcome}
use Rattle.client_machine.specs.declared.outcome.Outcome.TheVariants.{Waiting, Idle, Acked, Refused, NoAnswer}
use Rattle.gvcp_wire.specs.Messages.{PlainCommand}
use Rattle.std.specs.Prelude.{slice_get, length}
use Rattle.client_machine.specs.Machine.{Asked, Client, ticked, received}
use Rattle.client_machine.specs.Events.{Event, step, ticks, takes, receives}
use Rattle.client_machine.specs.Setup.{setup_commands}
use Rattle.client_machine.proofs.Limits.{step_keeps}
use Rattle.gev_links.specs.Links.{Answer, nothing, failed, came}
use Rattle.gev_control.specs.declared.turn_end.TurnEnd.{TurnEnd}
use Rattle.gev_control.specs.declared.turn_end.TurnEnd.TheVariants as ends
use Rattle.gev_control.specs.Controlled.{ControlTurn, after_tick, ticks_turn, after_receive, control_of}
use Rattle.gev_control.specs.OrderTurns.{Progress, OrderTurned, OrderPart, submits_next, next_with, next_part, hears_order, ticked_order, after_send, order_turn}
use Rattle.gev_control.specs.CarriesOut.{orders_after, orders_events}
use Rattle.gev_control.specs.OrderLaws.{steps, AreTheClients}
use Rattle.gev_control.specs.SetupLaws.{IsTheClients}

steps-append : (s : Client) (xs ys : List Event) → steps s (xs ++ ys) ≡ steps (steps s xs) ys
steps-append s [] ys = refl
steps-append s (x ∷ xs) ys = steps-append (step s x) xs ys

-- ---- a reader's turn

tick_steps : (s k : Client) (es : List Event) (o : Outcome) → k ≡ steps s es → (after_tick es k o).state ≡ steps s (after_tick es k o).events
tick_steps s k es (Waiting req) is = ap (λ c. step c takes) is ∙ sym (steps-append s es (takes ∷ []))
tick_steps s k es Idle is = ap (λ c. step c takes) is ∙ sym (steps-append s es (takes ∷ []))
tick_steps s k es Acked is = ap (λ c. step c takes) is ∙ sym (steps-append s es (takes ∷ []))
tick_steps s k es (Refused status) is = ap (λ c. step c takes) is ∙ sym (steps-append s es (takes ∷ []))
tick_steps s k es (NoAnswer req) is = is

ticks_steps : (s k : Client) (es : List Event) (moment : ℕ) → k ≡ steps s es → (ticks_turn es k moment).state ≡ steps s (ticks_turn es k moment).events
ticks_steps s k es moment is =
    tick_steps s (ticked k moment).client (es ++ ticks moment ∷ []) (ticked k moment).outcome
    (ap (λ c. step c (ticks moment)) is ∙ sym (steps-append s es (ticks moment ∷ [])))

receive_steps : (s k : Client) (es : List Event) (o : Outcome) (moment : ℕ) → k ≡ steps s es
    → (after_receive es k o moment).state ≡ steps s (after_receive es k o moment).events
receive_steps s k es (Waiting req) moment is = ticks_steps s k es moment is
receive_steps s k es Idle moment is = ticks_steps s k es moment is
receive_steps s k es Acked moment is = ticks_steps s k es moment is
receive_steps s k es (Refused status) moment is = is
receive_steps s k es (NoAnswer req) moment is = ticks_steps s k es moment is

control_steps : (s : Client) (heard : Option Answer) (moment : ℕ) → (control_of s heard moment).state ≡ steps s (control_of s heard moment).events
control_steps s None moment = refl
control_steps s (Some failed) moment = refl
control_steps s (Some nothing) moment = ticks_steps s s [] moment refl
control_steps s (Some (came bytes peer)) moment =
    receive_steps s (received s bytes moment).client (receives bytes moment ∷ []) (received s bytes moment).outcome moment refl

-- ---- a turn in which a list is carried out

next_steps : (c : Option PlainCommand) (s : Progress) (moment : ℕ) → (submits_next c s moment).state.client ≡ steps s.client (submits_next c s moment).events
next_steps None s moment = refl
next_steps (Some c) s moment = refl

begin_steps : (asked : Option Asked) (orders : List PlainCommand) (s : Progress) (moment : ℕ)
    → (next_with asked orders s moment).state.client ≡ steps s.client (next_with asked orders s moment).events
begin_steps None orders s moment = next_steps (slice_get orders s.begun) s moment
begin_steps (Some asked) orders s moment = refl

hear_steps : (size : ℕ) (s : Client) (begun moment : ℕ) (heard : Option Answer)
    → (hears_order size s begun moment heard).client ≡ steps s (hears_order size s begun moment heard).events
hear_steps size s begun moment None = refl
hear_steps size s begun moment (Some failed) = refl
hear_steps size s begun moment (Some nothing) = refl
hear_steps size s begun moment (Some (came bytes peer)) = refl

after_steps : (size : ℕ) (x : TurnEnd) (t : ControlTurn) (begun : ℕ) (turned : OrderTurned)
    → (after_send size x t begun turned).client ≡ steps t.state (after_send size x t begun turned).events
after_steps size ends.GoesOn t begun turned = hear_steps size t.state begun turned.moment turned.heard
after_steps size ends.Fault t begun turned = refl
after_steps size (ends.NoAnswer req) t begun turned = refl
after_steps size (ends.Refused status) t begun turned = refl

-- three parts of a turn, one after the other
joined_steps : (s a b c : Client) (xs ys zs : List Event) → a ≡ steps s xs → b ≡ steps a ys → c ≡ steps b zs → c ≡ steps s (xs ++ (ys ++ zs))
joined_steps s a b c xs ys zs first second third =
    third
    ∙ (ap (λ k. steps k zs) second
    ∙ (sym (steps-append a ys zs) ∙ (ap (λ k. steps k (ys ++ zs)) first ∙ sym (steps-append s xs (ys ++ zs)))))

turn_steps : (orders : List PlainCommand) (s : Progress) (t : OrderTurned) → (order_turn orders s t).state.client ≡ steps s.client (order_turn orders s t).events
turn_steps orders s t =
    let part : OrderPart = next_part orders s t.moment in
    let made : ControlTurn = ticked_order orders s t.moment in
    joined_steps s.client part.state.client made.state (after_send (length orders) made.end made part.state.begun t).client part.events made.events
    (after_send (length orders) made.end made part.state.begun t).events (begin_steps s.client.asked orders s t.moment)
    (ticks_steps part.state.client part.state.client [] t.moment refl) (after_steps (length orders) made.end made part.state.begun t)

list_steps : (orders : List PlainCommand) (s : Progress) (ts : List OrderTurned) → (orders_after orders s ts).client ≡ steps s.client (orders_events orders s ts)
list_steps orders s [] = refl
list_steps orders s (t ∷ ts) =
    list_steps orders (order_turn orders s t).state ts
    ∙ (ap (λ k. steps k (orders_events orders (order_turn orders s t).state ts)) (turn_steps orders s t)
    ∙ sym (steps-append s.client (order_turn orders s t).events (orders_events orders (order_turn orders s t).state ts)))

pub steps_keep : (s : Client) (es : List Event) → (steps s es).limit ≡ s.limit
steps_keep s [] = refl
steps_keep s (e ∷ es) = steps_keep (step s e) es ∙ step_keeps s e

-- a turn keeps the client's limit
pub turn_keeps : (orders : List PlainCommand) (s : Progress) (t : OrderTurned) → (order_turn orders s t).state.client.limit ≡ s.client.limit
turn_keeps orders s t = ap (λ (k : Client). k.limit) (turn_steps orders s t) ∙ steps_keep s.client (order_turn orders s t).events

pub are_steps : AreTheClients
are_steps = record { orders = list_steps; control = control_steps }

pub are_the_clients : IsTheClients
are_the_clients = record { setup = λ stream. list_steps (setup_commands stream); control = control_steps }
