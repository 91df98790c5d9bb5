use Rattle.std.proofs.Common.{◌≡◌, ℕ, arith, subst}
use Rattle.soak_receiver.specs.Stocking.{IsStocked}
use Rattle.soak_receiver.proofs.starting.begin_host.Goals as goal

pub start_stream-requires : goal.start_stream-requires
start_stream-requires c =
    let all : c.loop-place.place ≡ 4 = omega arith in
    subst (λ (n : ℕ). IsStocked n c.loop-place.running) all c.loop-place.invariant
