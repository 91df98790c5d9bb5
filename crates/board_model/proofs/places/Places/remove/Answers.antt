use Rattle.std.proofs.Common.{ℕ, ◌≤◌, List, sym, subst, arith}
use Rattle.board_machine.specs.Places.{times}
use Rattle.board_model.specs.Collected.{collect}
use Rattle.board_model.proofs.Collected.{remove_shown, flag_within}
use Rattle.board_model.proofs.places.Places.remove.Goals as goal

pub bounds-self-inside-place : goal.bounds-self-inside-place
bounds-self-inside-place c =
    let some : 1 ≤ times c.args.place (collect 0 c.self.inside.flags) = subst (λ (xs : List ℕ). 1 ≤ times c.args.place xs) (sym c.self.view_is) c.requires in
    omega (arith, flag_within c.args.place c.self.inside.flags some)

pub returns : goal.returns
returns c =
    rw (← c.self.view_is)
    (remove_shown c.args.place c.self.inside.flags (subst (λ (xs : List ℕ). 1 ≤ times c.args.place xs) (sym c.self.view_is) c.requires))
