use Rattle.std.proofs.Common.{sym, subst}
use Rattle.std.specs.List.{All}
use Rattle.std.proofs.lemmas.Result.{err_from_is_err_and}
use Rattle.std.proofs.lemmas.List.Elements.{All-nil}
use Rattle.gev_make.specs.declared.network.Network.{Network}
use Rattle.gev_make.specs.MakeText.{FitsLine}
use Rattle.gev_make.proofs.Fitting.{block_fits}
use Rattle.gev_make.proofs.Texts.{writes_then, writes_stops}
use Rattle.gev_make.proofs.Turns.{block_text}
use Rattle.gev_make.proofs.blocks.write_block.Goals as goal

pub write_datagrams-requires : goal.write_datagrams-requires
write_datagrams-requires g c =
    subst (λ (n : Network). All FitsLine n.queue) (sym c.in_ok-carry_block.ensures)
    (block_fits c.args.network.now c.args.seed c.args.block (subst (All FitsLine) (sym c.requires.empty) (All-nil FitsLine)))

pub returns-in_err-write_datagrams-clause-written : goal.returns-in_err-write_datagrams-clause-written
returns-in_err-write_datagrams-clause-written g c =
    let p = err_from_is_err_and c.from_residual-in_err-write_datagrams.result c.from_residual-in_err-write_datagrams.ensures.1 in
    rw (p.1, p.2, block_text c.args.network.now c.carry_block.new.network c.args.seed c.args.block c.in_ok-carry_block.ensures)
    (writes_stops _ _ _ _ _ _ _ c.in_err-write_datagrams.ensures.written)

pub returns-clause-written : goal.returns-clause-written
returns-clause-written g c =
    rw (block_text c.args.network.now c.carry_block.new.network c.args.seed c.args.block c.in_ok-carry_block.ensures)
    (writes_then c.write_turn.result _ (g.K.Sink.written c.write_datagrams.new.sink) _ _ (g.K.Sink.faults c.write_datagrams.new.sink) _ _ _
    c.in_ok-write_datagrams.ensures.written c.write_turn.ensures)
