use Rattle.acq_core.specs.Receiver.{config_of, buffers, Stands}
use Rattle.gev_acq.proofs.Joined.{alone_none}
use Rattle.gev_receive.proofs.ReaderWork.{reads_to, no_backs}
use Rattle.gev_receive.proofs.reading.read_on.Goals as goal

pub read_camera-requires-clause-backs : goal.read_camera-requires-clause-backs
read_camera-requires-clause-backs g c = no_backs c.args.pass.now (buffers c.begin_receiver.new.acq) c.begin_receiver.ensures.buffers

pub returns-clause-reads : goal.returns-clause-reads
returns-clause-reads g c =
    reads_to c.args.words.mode (config_of c.args.acq.now) (config_of c.begin_receiver.new.acq) c.args.words.ids c.args.words.camera c.args.words.silence c.now-begin.result
    (Stands c.begin_receiver.new.acq) (Stands c.read_camera.new.acq)
    _ _ _ _ _ _ _ _ _ _ _ c.read_camera.result.refused c.read_camera.result.end c.args.pass.now c.read_camera.new.pass c.begin_receiver.ensures.stands c.now-begin.ensures.told
    c.begin_receiver.ensures.config c.read_camera.ensures.reads

pub returns-clause-alone : goal.returns-clause-alone
returns-clause-alone g c =
    c.read_camera.ensures.alone (alone_none c.args.pass.now (buffers c.begin_receiver.new.acq) c.begin_receiver.ensures.buffers c.requires.hands)
