use Rattle.std.proofs.Common.{refl, ◌∙◌, arith}
use Rattle.buffer_words.proofs.Grown.{grows_none, grows_takes, grows_looks}
use Rattle.buffer_words.proofs.Holders.{loses_grown}
use Rattle.buffer_words.proofs.words.Board.occupy.Goals as goal

pub tries-init : goal.tries-init
tries-init c = (refl, record { grows = grows_none _; slots = refl; idle = c.requires.idle })

pub returns-in-Some-Ok-clause-done : goal.returns-in-Some-Ok-clause-done
returns-in-Some-Ok-clause-done c =
    let end = rw c.in-Some-Ok.field-0-is at c.in-Some-Ok.ensures.done in
    grows_takes _ _ _ _ _ _ c.tries.invariant.1.grows c.tries.invariant.1.slots end

pub returns-in-Some-Err-clause-refused : goal.returns-in-Some-Err-clause-refused
returns-in-Some-Err-clause-refused c =
    let end = rw c.in-Some-Err.field-0-is at c.in-Some-Err.ensures.refused in
    grows_looks _ _ _ _ c.tries.invariant.1.grows c.tries.invariant.1.slots end

pub tries-preserved : goal.tries-preserved
tries-preserved c = (c.in-None.ensures.table ∙ c.tries.invariant.0, loses_grown _ _ _ _ c.tries.invariant.1 c.in-None.ensures.lost)

pub tries-smaller : goal.tries-smaller
tries-smaller c = omega (arith, c.in-None.ensures.lost.later, c.in-None.ensures.lost.bound)
