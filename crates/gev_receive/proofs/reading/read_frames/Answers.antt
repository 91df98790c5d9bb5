use Rattle.std.proofs.Common.{◌∙◌}
use Rattle.acq_core.specs.Receiver.{config_of, Stands}
use Rattle.live_crew.proofs.Stopped.{comes_back}
use Rattle.gev_acq.specs.Kinds.{is_readers}
use Rattle.gev_receive.proofs.ReaderWork.{reads_frames, frames_work}
use Rattle.gev_receive.proofs.reading.read_frames.Goals as goal

pub returns-clause-reads : goal.returns-clause-reads
returns-clause-reads g c =
    reads_frames c.args.words.mode (config_of c.args.acq) (config_of c.read_on-read.new.acq) (config_of c.drain.new.acq) c.args.words.ids c.args.words.camera c.args.words.silence
    (Stands c.read_on-read.new.acq) (Stands c.drain.new.acq) _ _ c.read_on-read.result.refused c.counts.result c.with_refused.result c.read_on-read.result.end c.stop-stopped.result c.args.pass
    c.read_on-read.new.pass c.drain.new.pass c.stop-stopped.new.pass c.read_on-read.ensures.reads c.read_on-read.ensures.config
    c.drain.ensures.serves c.stop-stopped.ensures.entry c.drain.ensures.config c.counts.ensures c.with_refused.ensures

pub returns-clause-works : goal.returns-clause-works
returns-clause-works g c =
    frames_work c.args.words.mode (config_of c.args.acq) c.args.words.ids c.args.words.camera c.args.words.silence _ _ c.with_refused.result c.read_on-read.result.end c.args.pass
    c.stop-stopped.new.pass (returns-clause-reads g c)

pub returns-clause-back : goal.returns-clause-back
returns-clause-back g c =
    comes_back (is_readers c.args.words.mode) c.args.pass c.stop-stopped.new.pass (returns-clause-works g c)
    (λ i. (c.stop-stopped.ensures.hands i).slot ∙ c.drain.ensures.empty c.read_on-read.ensures.alone i)
