use Rattle.std.proofs.Common.{ℕ, ap, sym, ◌∙◌}
use Rattle.gev_capture.specs.Numbers.{number}
use Rattle.gev_capture.specs.Files.{body_told}
use Rattle.gev_capture.proofs.blocks.sized_block.Goals as goal

pub returns-in-None-clause-told : goal.returns-in-None-clause-told
returns-in-None-clause-told c =
    let order = c.args.order in
    let bytes = c.args.bytes.now in
    let next = body_told order c.args.interfaces.now c.args.time c.args.total (number order 0 4 bytes) bytes in
    c.body_told.ensures.told
    ∙ ap (λ (kind : ℕ). body_told order c.args.interfaces.now c.args.time c.args.total kind bytes) c.u32_in.ensures
    ∙ sym (c.in-None.ensures.told c.args.interfaces.now next)
