use Rattle.std.proofs.Common.{nat_lt, arith}
use Rattle.gev_types.specs.Limits.{place_count}
use Rattle.std.proofs.lemmas.Bool.{le-ltb}
use Rattle.board_model.proofs.Collected.{flag_tells, past_tells}
use Rattle.board_model.proofs.places.Places.has.Goals as goal

pub returns-then-place-lt-PLACES : goal.returns-then-place-lt-PLACES
returns-then-place-lt-PLACES c = rw (← c.self.view_is) (flag_tells c.args.place c.self.inside.flags)

pub returns-else-place-lt-PLACES : goal.returns-else-place-lt-PLACES
returns-else-place-lt-PLACES c =
    rw (← c.self.view_is)
    (past_tells c.args.place (nat_lt c.args.place place_count) c.self.inside.flags (omega (arith, c.self.told, c.if-place-lt-PLACES.false)) (le-ltb c.args.place place_count c.if-place-lt-PLACES.false))
