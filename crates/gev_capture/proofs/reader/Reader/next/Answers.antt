use Rattle.std.specs.Prelude.{Ok, Err}
use Rattle.gev_capture.proofs.ReaderSteps.{found_in, next_ok, next_err, reader_ok}
use Rattle.gev_capture.proofs.reader.Reader.next.Goals as goal

pub returns-in-Err-clause-next : goal.returns-in-Err-clause-next
returns-in-Err-clause-next g c =
    next_err c.self.inside.form c.self.inside.interfaces.items c.self.inside.records c.self.inside.size c.self.inside.entry c.self.inside.room c.find_record.new.room c.in-Err.end c.args.self.now
    (g.S.Source.left c.args.source.now) (g.S.Source.left c.find_record.new.source) (g.S.Source.faults c.args.source.now) (g.S.Source.faults c.find_record.new.source)
    c.self.view_is
    (found_in (Err c.in-Err.end) c.self.inside.form c.as_slice.result.now c.self.inside.interfaces.items c.skip.new.self _ c.find_record.new.room (g.S.Source.left c.args.source.now) (g.S.Source.left c.find_record.new.source) (g.S.Source.faults c.args.source.now) (g.S.Source.faults c.find_record.new.source) c.as_slice.ensures.value c.skip.ensures (c.in-Err.ensures {u = tt}).finds)

pub invariant_of-self-2 : goal.invariant_of-self-2
invariant_of-self-2 g c =
    reader_ok c.self.inside.form c.self.inside.interfaces.items c.change_interfaces.new.interfaces.items c.self.inside.size c.self.inside.room c.find_record.new.room c.in-Ok.found
    (g.S.Source.left c.args.source.now) (g.S.Source.left c.find_record.new.source) (g.S.Source.faults c.args.source.now) (g.S.Source.faults c.find_record.new.source)
    (found_in (Ok c.in-Ok.found) c.self.inside.form c.as_slice.result.now c.self.inside.interfaces.items c.skip.new.self _ c.find_record.new.room (g.S.Source.left c.args.source.now) (g.S.Source.left c.find_record.new.source) (g.S.Source.faults c.args.source.now) (g.S.Source.faults c.find_record.new.source) c.as_slice.ensures.value c.skip.ensures (c.in-Ok.ensures {u = tt}).finds)
    c.self.invariant.interface_parts c.change_interfaces.ensures (c.in-Ok.ensures {u = tt}).few

pub returns-clause-next : goal.returns-clause-next
returns-clause-next g c =
    next_ok c.self.inside.form c.self.inside.interfaces.items c.change_interfaces.new.interfaces.items c.self.inside.records c.saturating_add-self-inside.result c.self.inside.size c.self.inside.entry c.self.inside.room c.find_record.new.room c.in-Ok.found c.args.self.now
    (g.S.Source.left c.args.source.now) (g.S.Source.left c.find_record.new.source) (g.S.Source.faults c.args.source.now) (g.S.Source.faults c.find_record.new.source)
    c.self.view_is
    (found_in (Ok c.in-Ok.found) c.self.inside.form c.as_slice.result.now c.self.inside.interfaces.items c.skip.new.self _ c.find_record.new.room (g.S.Source.left c.args.source.now) (g.S.Source.left c.find_record.new.source) (g.S.Source.faults c.args.source.now) (g.S.Source.faults c.find_record.new.source) c.as_slice.ensures.value c.skip.ensures (c.in-Ok.ensures {u = tt}).finds)
    c.change_interfaces.ensures c.saturating_add-self-inside.ensures
