use Rattle.std.proofs.Common.{[], sym}
use Rattle.gev_script.specs.Lines as script_line
use Rattle.acq_core.specs.Receiver.{config_of}
use Rattle.script_replay.proofs.Decoding.{DatagramIn}
use Rattle.script_replay.proofs.Replaying.{drives_go}
use Rattle.script_replay.proofs.adding.run_datagram.Goals as goal

pub returns : goal.returns
returns c =
    drives_go (script_line.datagram c.args.digits.now) (DatagramIn (config_of c.args.running.now.acq) c.args.running.now.mode c.args.digits.now) c.datagram-idle.result c.args.running.now [] c.datagram-idle.new.board c.datagram-idle.new.acq c.datagram-idle.new.counts
    c.requires.keeps c.datagram-idle.ensures.drives (λ t part stands spells. spells (sym stands.mode)) c.datagram-idle.ensures.rest c.datagram-idle.ensures.config c.saturating_add-running.result c.saturating_add-running.ensures
