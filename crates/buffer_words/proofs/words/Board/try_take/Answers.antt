use Rattle.std.proofs.Common.{rules, arith, refl, subst, sym, ◌∙◌, List, ℕ}
use Rattle.board_machine.specs.declared.events.Event.TheVariants as event
use Rattle.board_machine.specs.declared.events.TakeEnd.TheVariants.{Taken}
use Rattle.buffer_words.specs.Passes.{Token, SameHands, Enters, IsPass}
use Rattle.buffer_words.specs.Output.{TakesOut}
use Rattle.buffer_words.specs.Handing.{HandsOver}
use Rattle.buffer_words.proofs.Carried.{quiet_pass}
use Rattle.buffer_words.proofs.Handling.{token, looks_same, room_of, enters_seat}
use Rattle.buffer_words.proofs.Claimed.{try_lost, try_lost_pass}
use Rattle.buffer_words.proofs.Handed.{reads_fields, take_done, take_pass, hands_over}
use Rattle.buffer_words.proofs.words.Board.try_take.Goals as goal

pub invariant_of-pass : goal.invariant_of-pass
invariant_of-pass c = quiet_pass _ _ _ _ c.pass.invariant (c.see_first-number.ensures.closed c.if-is_marked.ensures.mark) (λ b. refl)

pub returns-then-is_marked-clause-hands : goal.returns-then-is_marked-clause-hands
returns-then-is_marked-clause-hands c =
    subst (λ (s : Token). SameHands s (token c.see_first-number.new.seat.table_id c.see_first-number.new.seat.me)) c.pass.view_is
    (looks_same _ _ _ _ _ c.pass.invariant.carries (c.see_first-number.ensures.closed c.if-is_marked.ensures.mark))

pub invariant_of-pass-then-number-eq0 : goal.invariant_of-pass-then-number-eq0
invariant_of-pass-then-number-eq0 c = quiet_pass _ _ _ _ c.pass.invariant (c.see_first-number.ensures.empty c.if-number-eq0.true) (λ b. refl)

pub returns-then-number-eq0-clause-hands : goal.returns-then-number-eq0-clause-hands
returns-then-number-eq0-clause-hands c =
    subst (λ (s : Token). SameHands s (token c.see_first-number.new.seat.table_id c.see_first-number.new.seat.me)) c.pass.view_is
    (looks_same _ _ _ _ _ c.pass.invariant.carries (c.see_first-number.ensures.empty c.if-number-eq0.true))

pub first_place-place-requires-clause-fields : goal.first_place-place-requires-clause-fields
first_place-place-requires-clause-fields c = reads_fields _ _ _ (c.see_first-number.ensures.some (omega (arith, c.if-number-eq0.false)) c.if-is_marked.ensures.mark) c.if-is_marked.ensures.mark

pub invariant_of-pass-then-found-number : goal.invariant_of-pass-then-found-number
invariant_of-pass-then-found-number c =
    try_lost_pass _ _ _ _ _ _ _ c.pass.invariant (c.see_first-number.ensures.some (omega (arith, c.if-number-eq0.false)) c.if-is_marked.ensures.mark) (c.take_first-found.ensures.lost c.if-found-number.true)

pub returns-then-found-number-clause-lost : goal.returns-then-found-number-clause-lost
returns-then-found-number-clause-lost c =
    try_lost _ _ _ _ _ _ _ _ _ _ c.pass.view_is c.pass.invariant (c.take_first-found.ensures.table ∙ c.see_first-number.ensures.table)
    (c.see_first-number.ensures.some (omega (arith, c.if-number-eq0.false)) c.if-is_marked.ensures.mark) (c.take_first-found.ensures.lost c.if-found-number.true) c.if-found-number.true

pub insert-requires : goal.insert-requires
insert-requires c =
    let told = take_done _ _ _ _ _ (c.see_first-number.ensures.some (omega (arith, c.if-number-eq0.false)) c.if-is_marked.ensures.mark)
    (subst (λ (i : ℕ). TakesOut c.see_first-number.new.seat.me i c.take_first-found.new.seat.me) (sym c.first_place-place.ensures.first) (c.take_first-found.ensures.done c.if-found-number.false)) in
    let now = room_of _ _ _ (take_pass _ _ _ _ c.pass.invariant told) in
    (search rules, (omega arith, omega (arith, now)))

pub invariant_of-pass-2 : goal.invariant_of-pass-2
invariant_of-pass-2 c =
    let told = take_done _ _ _ _ _ (c.see_first-number.ensures.some (omega (arith, c.if-number-eq0.false)) c.if-is_marked.ensures.mark)
    (subst (λ (i : ℕ). TakesOut c.see_first-number.new.seat.me i c.take_first-found.new.seat.me) (sym c.first_place-place.ensures.first) (c.take_first-found.ensures.done c.if-found-number.false)) in
    subst (λ (l : List ℕ). IsPass l c.take_first-found.new.seat.me.0 c.take_first-found.new.seat.me.1) (sym c.insert.ensures.items)
    (take_pass _ _ _ _ c.pass.invariant told)

pub returns-clause-entry : goal.returns-clause-entry
returns-clause-entry c =
    let told = take_done _ _ _ _ _ (c.see_first-number.ensures.some (omega (arith, c.if-number-eq0.false)) c.if-is_marked.ensures.mark)
    (subst (λ (i : ℕ). TakesOut c.see_first-number.new.seat.me i c.take_first-found.new.seat.me) (sym c.first_place-place.ensures.first) (c.take_first-found.ensures.done c.if-found-number.false)) in
    subst (λ (s : Token). Enters s (event.Take (Taken c.first_place-place.result)) (token c.take_first-found.new.seat.table_id c.take_first-found.new.seat.me)) c.pass.view_is
    (enters_seat _ _ _ _ _ (c.take_first-found.ensures.table ∙ c.see_first-number.ensures.table) told.takes.takes.entered)

pub returns-clause-hands : goal.returns-clause-hands
returns-clause-hands c =
    let told = take_done _ _ _ _ _ (c.see_first-number.ensures.some (omega (arith, c.if-number-eq0.false)) c.if-is_marked.ensures.mark)
    (subst (λ (i : ℕ). TakesOut c.see_first-number.new.seat.me i c.take_first-found.new.seat.me) (sym c.first_place-place.ensures.first) (c.take_first-found.ensures.done c.if-found-number.false)) in
    subst (λ (s : Token). HandsOver c.first_place-place.result s (token c.take_first-found.new.seat.table_id c.take_first-found.new.seat.me)) c.pass.view_is
    (hands_over _ _ _ _ _ _ c.pass.invariant told c.first_place-place.ensures.in_range)
