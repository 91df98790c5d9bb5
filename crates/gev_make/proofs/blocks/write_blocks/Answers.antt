use Rattle.std.proofs.Common.{refl, ap}
use Rattle.std.proofs.lemmas.Result.{err_from_is_err_and}
use Rattle.gev_make.specs.declared.network.Network.{Network}
use Rattle.gev_make.proofs.Texts.{leads_on, leads_stops, leads_end}
use Rattle.gev_make.proofs.Turns.{blocks_turn, blocks_end}
use Rattle.gev_make.proofs.blocks.write_blocks.Goals as goal

pub returns-in_err-write_block : goal.returns-in_err-write_block
returns-in_err-write_block g c =
    let p = err_from_is_err_and c.from_residual.result c.from_residual.ensures.1 in
    rw (p.1, p.2)
    (leads_stops _ _ _ _ _ _ _ _ _ _ _ c.loop-made.invariant.leads (blocks_turn c.loop-made.network _ c.args.seed c.loop-made.made c.args.frames c.loop-made-test.true refl)
    c.in_err-write_block.ensures.written)

pub loop-made-preserved : goal.loop-made-preserved
loop-made-preserved g c = record {
  leads =
      leads_on _ _ _ _ _ _ _ _ _ _ c.loop-made.invariant.leads
      (blocks_turn c.loop-made.network c.write_block.new.network c.args.seed c.loop-made.made c.args.frames c.loop-made-test.true c.in_ok-write_block.ensures.emptied)
      c.in_ok-write_block.ensures.written;
  empty = ap (λ (n : Network). n.queue) c.in_ok-write_block.ensures.emptied;
}

pub returns : goal.returns
returns g c =
    leads_end _ _ _ _ _ _ c.loop-made.invariant.leads (blocks_end c.loop-made.network c.args.seed _ c.loop-made.made c.args.frames c.loop-made-test.false)
