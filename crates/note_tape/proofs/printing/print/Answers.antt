use Rattle.note_tape.proofs.Prints.{prints_more}
use Rattle.note_tape.proofs.printing.print.Goals as goal

pub loop-told-preserved : goal.loop-told-preserved
loop-told-preserved c ns noted =
    prints_more c.args.at.line c.args.at.moment c.loop-told.told-index c.args.tape.now _ c.args.out.now.items c.loop-told.out.items c.print_one.new.out.items c.args.counts.now c.loop-told.counts c.count.new.counts ns
    c.loop-told-test.true (c.loop-told.invariant ns noted)
    (c.in_ok-print_one.ensures {u = tt}) c.count.ensures
