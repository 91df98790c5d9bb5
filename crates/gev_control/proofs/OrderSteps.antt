-- One turn in which a list is carried out, by how its ticks ended.
use Rattle.std.proofs.Common.{◌≡◌, ℕ, List, [], Option, Some, None, IsSome, refl, ap, sym, ◌∙◌, subst, inl, inr, ◌⊎◌}
use Rattle.client_machine.specs.Machine.{Client}
use Rattle.gev_links.specs.Links.{Address, Answer, Adds}
use Rattle.gev_links.specs.Moments.{Tells, TellsEach}
use Rattle.gev_links.proofs.Growing.{tells_first, tells_none}
use Rattle.gev_control.specs.declared.turn_end.TurnEnd.{TurnEnd}
use Rattle.gev_control.specs.declared.turn_end.TurnEnd.TheVariants as ends
use Rattle.gev_control.specs.declared.acq_end.AcqEnd.{AcqEnd}
use Rattle.gev_control.specs.declared.acq_end.AcqEnd.TheVariants as how
use Rattle.gev_control.specs.Controlled.{ControlTurn, ticks_turn, Does, HadToSend, listed}
use Rattle.gev_control.specs.Sends.{addressed}
use Rattle.gev_control.specs.OrderTurns.{progress, OrderPart, OrderHeard, turned_at, hears_order, after_send, ends_with, MayHear, sent_if_heard}
use Rattle.gev_control.specs.CarriesOut.{HearsOrder, TakesPart}

-- the ticks ended so, and this came after them
after : (size : ℕ) (t : ControlTurn) (begun moment : ℕ) (heard : Option Answer) (x : TurnEnd) → t.end ≡ x
    → after_send size t.end t begun (turned_at moment heard) ≡ after_send size x t begun (turned_at moment heard)
after size t begun moment heard x is = ap (λ v. after_send size v t begun (turned_at moment heard)) is

-- how a part of a turn came to its end, whatever that is
part_taken : (size : ℕ) (camera : Address) (part : OrderPart) (t : ControlTurn) (moment begun : ℕ) (u : Client) (r n : Option (List Answer))
    (w v : Option (List (Address × List ℕ))) (end : Option AcqEnd) (heard : Option Answer) (h : OrderHeard) → begun ≡ part.state.begun
    → after_send size t.end t part.state.begun (turned_at moment heard) ≡ h → u ≡ h.client → end ≡ h.end → MayHear t.end t.send heard
    → TellsEach r n (listed heard) → Adds w v (addressed camera (sent_if_heard heard t.send)) → TakesPart size camera part t moment begun u r n w v end
part_taken size camera part t moment begun u r n w v end heard h begun_is is client ended may told sent = record {
  heard = heard;
  state = ap (λ b. progress u b) begun_is ∙ ap (λ c. progress c part.state.begun) (client ∙ ap (λ x. x.client) (sym is));
  ended = ended ∙ ap (λ x. x.end) (sym is);
  may_hear = may;
  told = told;
  sent = sent;
}

may_at : (t : ControlTurn) (x : TurnEnd) (heard : Option Answer) → t.end ≡ x → MayHear x t.send heard → MayHear t.end t.send heard
may_at t x heard is may = subst (λ v. MayHear v t.send heard) (sym is) may

heard_some : (send : Option (List ℕ)) (answer : Answer) → MayHear ends.GoesOn send (Some answer)
heard_some send answer = λ none. let no : ⊥ = cc in absurd no

-- the receive was made
took_heard : (size : ℕ) (camera : Address) (part : OrderPart) (t : ControlTurn) (moment begun : ℕ) (s u : Client) (r m n : Option (List Answer))
    (w v x : Option (List (Address × List ℕ))) (end : Option AcqEnd) → begun ≡ part.state.begun → t.end ≡ ends.GoesOn → s ≡ t.state
    → Adds w v (addressed camera (listed t.send)) → m ≡ r → HearsOrder size s begun moment m n u end → x ≡ v
    → TakesPart size camera part t moment begun u r n w x end
took_heard size camera part t moment begun s u r m n w v x end begun_is goes_on state sent unheard hears unsent =
    let place : hears_order size s begun moment (Some hears.answer) ≡ hears_order size t.state part.state.begun moment (Some hears.answer) =
    ap (λ c. hears_order size c begun moment (Some hears.answer)) state ∙ ap (λ b. hears_order size t.state b moment (Some hears.answer)) begun_is in
    part_taken size camera part t moment begun u r n w x end (Some hears.answer) (hears_order size t.state part.state.begun moment (Some hears.answer)) begun_is
    (after size t part.state.begun moment (Some hears.answer) ends.GoesOn goes_on) (hears.client ∙ ap (λ h. h.client) place) (hears.ended ∙ ap (λ h. h.end) place)
    (may_at t ends.GoesOn (Some hears.answer) goes_on (heard_some t.send hears.answer))
    (tells_first r n hears.answer (subst (λ o. Tells o n hears.answer) unheard hears.told))
    (subst (λ o. Adds w o (addressed camera (listed t.send))) (sym unsent) sent)

-- no receive was made, and the ticks ended so
took_none : (size : ℕ) (camera : Address) (part : OrderPart) (t : ControlTurn) (moment begun : ℕ) (s : Client) (r m : Option (List Answer))
    (w v : Option (List (Address × List ℕ))) (x : TurnEnd) (end : AcqEnd) → begun ≡ part.state.begun → t.end ≡ x → s ≡ t.state
    → after_send size x t part.state.begun (turned_at moment None) ≡ ends_with t end → MayHear x t.send None
    → Adds w v [] → m ≡ r → TakesPart size camera part t moment begun s r m w v (Some end)
took_none size camera part t moment begun s r m w v x end begun_is is state ends_so may sent unheard =
    part_taken size camera part t moment begun s r m w v (Some end) None (ends_with t end) begun_is
    (after size t part.state.begun moment None x is ∙ ends_so) state refl (may_at t x None is may)
    (subst (λ o. TellsEach r o []) (sym unheard) (tells_none r)) sent

-- a send failed
took_fault : (size : ℕ) (camera : Address) (part : OrderPart) (t : ControlTurn) (moment begun : ℕ) (s : Client) (r m : Option (List Answer))
    (w v : Option (List (Address × List ℕ))) → begun ≡ part.state.begun → (t.end ≡ ends.GoesOn) ⊎ (t.end ≡ ends.Fault) → IsSome t.send → s ≡ t.state
    → Adds w v [] → m ≡ r → TakesPart size camera part t moment begun s r m w v (Some how.Fault)
took_fault size camera part t moment begun s r m w v begun_is (inl is) had state sent unheard =
    took_none size camera part t moment begun s r m w v ends.GoesOn how.Fault begun_is is state refl (λ none. had) sent unheard
took_fault size camera part t moment begun s r m w v begun_is (inr is) had state sent unheard =
    took_none size camera part t moment begun s r m w v ends.Fault how.Fault begun_is is state refl refl sent unheard

-- ---- by what the client's part of the turn did

ticked_part : (size : ℕ) (camera : Address) (part : OrderPart) (c : Client) (begun moment : ℕ) (end : TurnEnd) (s : Client) (w v : Option (List (Address × List ℕ)))
    → progress c begun ≡ part.state → Does (ticks_turn [] c moment) camera end s w v → Does (ticks_turn [] part.state.client moment) camera end s w v
ticked_part size camera part c begun moment end s w v is does = subst (λ k. Does (ticks_turn [] k moment) camera end s w v) (ap (λ x. x.client) is) does

pub turn_hears : (size : ℕ) (camera : Address) (part : OrderPart) (c : Client) (begun moment : ℕ) (s u : Client) (r m n : Option (List Answer))
    (w v x : Option (List (Address × List ℕ))) (end : Option AcqEnd) → progress c begun ≡ part.state
    → Does (ticks_turn [] c moment) camera ends.GoesOn s w v → m ≡ r → HearsOrder size s begun moment m n u end → x ≡ v
    → TakesPart size camera part (ticks_turn [] part.state.client moment) moment begun u r n w x end
turn_hears size camera part c begun moment s u r m n w v x end is does unheard hears unsent =
    let done : Does (ticks_turn [] part.state.client moment) camera ends.GoesOn s w v = ticked_part size camera part c begun moment ends.GoesOn s w v is does in
    took_heard size camera part (ticks_turn [] part.state.client moment) moment begun s u r m n w v x end (ap (λ k. k.begun) is) done.ends_as done.state
    done.sent unheard hears unsent

pub turn_faults : (size : ℕ) (camera : Address) (part : OrderPart) (c : Client) (begun moment : ℕ) (s : Client) (r m : Option (List Answer))
    (w v : Option (List (Address × List ℕ))) → progress c begun ≡ part.state → Does (ticks_turn [] c moment) camera ends.Fault s w v
    → HadToSend ends.Fault (ticks_turn [] c moment).send → m ≡ r
    → TakesPart size camera part (ticks_turn [] part.state.client moment) moment begun s r m w v (Some how.Fault)
turn_faults size camera part c begun moment s r m w v is does had unheard =
    let done : Does (ticks_turn [] part.state.client moment) camera ends.Fault s w v = ticked_part size camera part c begun moment ends.Fault s w v is does in
    took_fault size camera part (ticks_turn [] part.state.client moment) moment begun s r m w v (ap (λ k. k.begun) is) done.ends_as
    (subst (λ k. IsSome (ticks_turn [] k moment).send) (ap (λ x. x.client) is) had) done.state done.sent unheard

pub turn_gives_up : (size : ℕ) (camera : Address) (part : OrderPart) (c : Client) (begun moment req : ℕ) (s : Client) (r m : Option (List Answer))
    (w v : Option (List (Address × List ℕ))) → progress c begun ≡ part.state → Does (ticks_turn [] c moment) camera (ends.NoAnswer req) s w v → m ≡ r
    → TakesPart size camera part (ticks_turn [] part.state.client moment) moment begun s r m w v (Some (how.NoAnswer req))
turn_gives_up size camera part c begun moment req s r m w v is does unheard =
    let done : Does (ticks_turn [] part.state.client moment) camera (ends.NoAnswer req) s w v =
    ticked_part size camera part c begun moment (ends.NoAnswer req) s w v is does in
    took_none size camera part (ticks_turn [] part.state.client moment) moment begun s r m w v (ends.NoAnswer req) (how.NoAnswer req) (ap (λ k. k.begun) is)
    done.ends_as done.state refl refl
    done.sent unheard

pub turn_refused : (size : ℕ) (camera : Address) (part : OrderPart) (c : Client) (begun moment status : ℕ) (s : Client) (r m : Option (List Answer))
    (w v : Option (List (Address × List ℕ))) → progress c begun ≡ part.state → Does (ticks_turn [] c moment) camera (ends.Refused status) s w v → m ≡ r
    → TakesPart size camera part (ticks_turn [] part.state.client moment) moment begun s r m w v (Some (how.Refused status))
turn_refused size camera part c begun moment status s r m w v is does unheard =
    let done : Does (ticks_turn [] part.state.client moment) camera (ends.Refused status) s w v =
    ticked_part size camera part c begun moment (ends.Refused status) s w v is does in
    took_none size camera part (ticks_turn [] part.state.client moment) moment begun s r m w v (ends.Refused status) (how.Refused status)
    (ap (λ k. k.begun) is) done.ends_as done.state refl refl
    done.sent unheard
