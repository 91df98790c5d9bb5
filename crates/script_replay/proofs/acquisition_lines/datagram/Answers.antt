use Rattle.std.proofs.Common.{◌∙◌}
use Rattle.acq_core.specs.Receiver.{config_of}
use Rattle.script_replay.proofs.Decoding.{idle_drives}
use Rattle.script_replay.proofs.acquisition_lines.datagram.Goals as goal

pub returns-then-run-ne1-clause-drives : goal.returns-then-run-ne1-clause-drives
returns-then-run-ne1-clause-drives c =
    idle_drives (config_of c.args.acq.now) c.args.mode c.args.board.now c.args.acq.now c.args.counts.now c.args.digits.now c.requires.spelled (λ e. c.if-run-ne1.true (c.run.ensures ∙ e))
