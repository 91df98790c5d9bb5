use Rattle.std.proofs.Common.{rules, arith, refl, subst, sym, ◌∙◌, List, ℕ, Some}
use Rattle.board_machine.specs.declared.events.Event.TheVariants as event
use Rattle.buffer_words.specs.Passes.{Token, SameHands, Enters, Gets, IsPass}
use Rattle.buffer_words.proofs.Carried.{quiet_pass}
use Rattle.buffer_words.proofs.Handling.{token, looks_same, takes_gets, room_of, buffer_pass, enters_seat}
use Rattle.buffer_words.proofs.Claimed.{try_lost, try_lost_pass, try_done}
use Rattle.buffer_words.proofs.words.Board.try_claim.Goals as goal

pub invariant_of-pass : goal.invariant_of-pass
invariant_of-pass c = quiet_pass _ _ _ _ c.pass.invariant (c.see_pool-number.ensures.none c.if-number-eq0.true) (λ b. refl)

pub returns-then-number-eq0-clause-hands : goal.returns-then-number-eq0-clause-hands
returns-then-number-eq0-clause-hands c =
    subst (λ (s : Token). SameHands s (token c.see_pool-number.new.seat.table_id c.see_pool-number.new.seat.me)) c.pass.view_is
    (looks_same _ _ _ _ _ c.pass.invariant.carries (c.see_pool-number.ensures.none c.if-number-eq0.true))

pub invariant_of-pass-then-found-number : goal.invariant_of-pass-then-found-number
invariant_of-pass-then-found-number c =
    try_lost_pass _ _ _ _ _ _ _ c.pass.invariant (c.see_pool-number.ensures.some c.if-number-eq0.false) (c.claim_pooled-found.ensures.lost c.if-found-number.true)

pub returns-then-found-number-clause-lost : goal.returns-then-found-number-clause-lost
returns-then-found-number-clause-lost c =
    try_lost _ _ _ _ _ _ _ _ _ _ c.pass.view_is c.pass.invariant (c.claim_pooled-found.ensures.table ∙ c.see_pool-number.ensures.table)
    (c.see_pool-number.ensures.some c.if-number-eq0.false) (c.claim_pooled-found.ensures.lost c.if-found-number.true) c.if-found-number.true

pub insert-requires : goal.insert-requires
insert-requires c =
    let told = try_done _ _ _ _ _ _ _ (c.see_pool-number.ensures.some c.if-number-eq0.false) (c.claim_pooled-found.ensures.done c.if-found-number.false) in
    let now = room_of _ _ _ (buffer_pass _ _ _ _ _ c.pass.invariant told (λ b. refl)) in
    (search rules, (omega arith, omega (arith, now)))

pub invariant_of-pass-2 : goal.invariant_of-pass-2
invariant_of-pass-2 c =
    let told = try_done _ _ _ _ _ _ _ (c.see_pool-number.ensures.some c.if-number-eq0.false) (c.claim_pooled-found.ensures.done c.if-found-number.false) in
    subst (λ (l : List ℕ). IsPass l c.claim_pooled-found.new.seat.me.0 c.claim_pooled-found.new.seat.me.1) (sym c.insert.ensures.items)
    (buffer_pass _ _ _ _ _ c.pass.invariant told (λ b. refl))

pub returns-clause-entry : goal.returns-clause-entry
returns-clause-entry c =
    let told = try_done _ _ _ _ _ _ _ (c.see_pool-number.ensures.some c.if-number-eq0.false) (c.claim_pooled-found.ensures.done c.if-found-number.false) in
    subst (λ (s : Token). Enters s (event.Claim (Some c.lowest_of-place.result)) (token c.claim_pooled-found.new.seat.table_id c.claim_pooled-found.new.seat.me)) c.pass.view_is
    (enters_seat _ _ _ _ _ (c.claim_pooled-found.ensures.table ∙ c.see_pool-number.ensures.table) told.takes.entered)

pub returns-clause-hands : goal.returns-clause-hands
returns-clause-hands c =
    let told = try_done _ _ _ _ _ _ _ (c.see_pool-number.ensures.some c.if-number-eq0.false) (c.claim_pooled-found.ensures.done c.if-found-number.false) in
    subst (λ (s : Token). Gets c.lowest_of-place.result s (token c.claim_pooled-found.new.seat.table_id c.claim_pooled-found.new.seat.me)) c.pass.view_is
    (takes_gets _ _ _ _ _ _ _ c.lowest_of-place.ensures.in_range c.pass.invariant.carries told (buffer_pass _ _ _ _ _ c.pass.invariant told (λ b. refl)))
