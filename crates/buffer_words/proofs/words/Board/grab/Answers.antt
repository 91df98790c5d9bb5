use Rattle.std.proofs.Common.{rules, arith, refl, subst, List, ℕ, sym}
use Rattle.buffer_words.specs.Passes.{Token, SameHands, Gets, IsPass}
use Rattle.buffer_words.proofs.Carried.{quiet_pass}
use Rattle.buffer_words.proofs.Handling.{token, looks_same, takes_gets, room_of, buffer_pass, on_err}
use Rattle.buffer_words.proofs.words.Board.grab.Goals as goal

pub invariant_of-pass : goal.invariant_of-pass
invariant_of-pass c = quiet_pass _ _ _ _ c.pass.invariant c.in_err-grab_front.ensures.refused (λ b. refl)

pub returns-in_err-grab_front-clause-refused : goal.returns-in_err-grab_front-clause-refused
returns-in_err-grab_front-clause-refused c =
    on_err _ _ (subst (λ (s : Token). SameHands s (token c.grab_front.new.seat.table_id c.grab_front.new.seat.me)) c.pass.view_is
    (looks_same _ _ _ _ _ c.pass.invariant.carries c.in_err-grab_front.ensures.refused))

pub insert-requires : goal.insert-requires
insert-requires c = let now = room_of _ _ _ (buffer_pass _ _ _ _ _ c.pass.invariant c.in_ok-grab_front.ensures.done (λ b. refl)) in
    (search rules, (omega arith, omega (arith, now)))

pub invariant_of-pass-2 : goal.invariant_of-pass-2
invariant_of-pass-2 c =
    subst (λ (l : List ℕ). IsPass l c.grab_front.new.seat.me.0 c.grab_front.new.seat.me.1) (sym c.insert.ensures.items)
    (buffer_pass _ _ _ _ _ c.pass.invariant c.in_ok-grab_front.ensures.done (λ b. refl))

pub returns-clause-done : goal.returns-clause-done
returns-clause-done c =
    let told = c.in_ok-grab_front.ensures.done in
    subst (λ (s : Token). Gets c.args.place s (token c.grab_front.new.seat.table_id c.grab_front.new.seat.me)) c.pass.view_is
    (takes_gets _ _ _ _ _ _ _ c.requires.in_range c.pass.invariant.carries told (buffer_pass _ _ _ _ _ c.pass.invariant told (λ b. refl)))
