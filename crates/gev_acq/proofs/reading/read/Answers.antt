-- The setup and the turns, and then the stop of the receiver and of the acquisition.
use Rattle.std.proofs.Common.{◌∙◌}
use Rattle.acq_core.specs.Receiver.{config_of, buffers, Stands}
use Rattle.live_crew.proofs.Stopped.{comes_back}
use Rattle.gev_acq.specs.Kinds.{is_readers}
use Rattle.gev_acq.proofs.Joined.{reads_all, alone_none}
use Rattle.gev_acq.proofs.OfKind.{reads_work}
use Rattle.gev_acq.proofs.reading.read.Goals as goal

pub returns-clause-reads : goal.returns-clause-reads
returns-clause-reads g c =
    reads_all c.args.reader.mode (config_of c.args.reader.acq) (config_of c.read_turns-end.new.reader.acq) c.args.reader.camera c.args.reader.own (Stands c.read_turns-end.new.reader.acq) (Stands c.drain.new.acq)
    _ _ c.args.reader.journal.items c.read_turns-end.new.reader.journal.items c.args.reader.turns c.read_turns-end.result c.stop-stopped.result c.args.pass
    c.read_turns-end.new.pass c.drain.new.pass c.stop-stopped.new.pass c.read_turns-end.ensures.reads c.read_turns-end.ensures.config
    c.drain.ensures.serves c.stop-stopped.ensures.entry

pub returns-clause-works : goal.returns-clause-works
returns-clause-works g c =
    reads_work c.args.reader.mode (config_of c.args.reader.acq) c.args.reader.camera c.args.reader.own _ _ c.args.reader.journal.items c.read_turns-end.new.reader.journal.items c.args.reader.turns
    c.read_turns-end.result c.args.pass c.stop-stopped.new.pass (returns-clause-reads g c)

pub returns-clause-back : goal.returns-clause-back
returns-clause-back g c =
    comes_back (is_readers c.args.reader.mode) c.args.pass c.stop-stopped.new.pass (returns-clause-works g c)
    (λ i. (c.stop-stopped.ensures.hands i).slot
    ∙ c.drain.ensures.empty (c.read_turns-end.ensures.alone (alone_none c.args.pass (buffers c.args.reader.acq) c.requires.buffers c.requires.hands)) i)
