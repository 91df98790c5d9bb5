use Rattle.std.proofs.Common.{rules, arith, refl, subst, sym, List, ℕ, ◌≡◌}
use Rattle.buffer_words.specs.Passes.{Token, SameHands, Has, IsPass, gone, down, slot_at}
use Rattle.buffer_words.proofs.Carried.{quiet_pass}
use Rattle.buffer_words.proofs.Handling.{token, looks_same, takes_has, was_gone, room_of}
use Rattle.buffer_words.proofs.Partings.{enrol_pass}
use Rattle.buffer_words.proofs.words.Board.enrol.Goals as goal

pub insert-requires : goal.insert-requires
insert-requires c = let now = room_of _ _ _ (enrol_pass _ _ _ _ _ _ c.requires.in_range c.pass.invariant c.in-Ok.ensures.done) in
    (search rules, (omega arith, omega (arith, now)))

pub invariant_of-pass : goal.invariant_of-pass
invariant_of-pass c =
    subst (λ (l : List ℕ). IsPass l c.enrol_front.new.seat.me.0 c.enrol_front.new.seat.me.1) (sym c.insert.ensures.items)
    (enrol_pass _ _ _ _ _ _ c.requires.in_range c.pass.invariant c.in-Ok.ensures.done)

pub invariant_of-pass-in-Err : goal.invariant_of-pass-in-Err
invariant_of-pass-in-Err c = quiet_pass _ _ _ _ c.pass.invariant c.in-Err.ensures.refused.1 (λ b. refl)

pub returns-in-Ok-clause-new : goal.returns-in-Ok-clause-new
returns-in-Ok-clause-new c =
    subst (λ (s : Token). slot_at s c.args.place ≡ gone) c.pass.view_is
    (was_gone _ _ _ _ _ _ c.in-Ok.ensures.done (enrol_pass _ _ _ _ _ _ c.requires.in_range c.pass.invariant c.in-Ok.ensures.done))

pub returns-in-Ok-clause-done : goal.returns-in-Ok-clause-done
returns-in-Ok-clause-done c =
    subst (λ (s : Token). Has c.args.place (down c.args.buf) s (token c.enrol_front.new.seat.table_id c.enrol_front.new.seat.me)) c.pass.view_is
    (takes_has _ _ _ _ _ _ _ c.pass.invariant.carries c.in-Ok.ensures.done)

pub returns-in-Err-clause-refused : goal.returns-in-Err-clause-refused
returns-in-Err-clause-refused c =
    subst (λ (s : Token). SameHands s (token c.enrol_front.new.seat.table_id c.enrol_front.new.seat.me)) c.pass.view_is
    (looks_same _ _ _ _ _ c.pass.invariant.carries c.in-Err.ensures.refused.1)
