use Rattle.std.proofs.Common.{◌≡◌, ℕ, List, sym, subst, arith}
use Rattle.board_machine.specs.Places.{times}
use Rattle.board_model.proofs.Collected.{put_shown}
use Rattle.board_model.proofs.places.Places.put.Goals as goal

pub returns : goal.returns
returns c =
    rw (← c.self.view_is)
    (put_shown c.args.place c.self.inside.flags (omega arith) (subst (λ (xs : List ℕ). times c.args.place xs ≡ 0) (sym c.self.view_is) c.requires.missing))
