use Rattle.std.proofs.Common.{refl}
use Rattle.std.proofs.lemmas.Result.{on_ok_weaker}
use Rattle.script_replay.proofs.Replaying.{none_open, start_goes}
use Rattle.soak_receiver.proofs.Announcing.{started}
use Rattle.soak_receiver.proofs.starting.start_stream.Goals as goal

pub start-requires-clause-none_open : goal.start-requires-clause-none_open
start-requires-clause-none_open c = λ stopped. none_open c.args.running.now c.requires.keeps stopped

pub returns : goal.returns
returns c =
    on_ok_weaker c.start.result
    (λ drives. started c.args.running.now _ c.start.new.out.items c.requires
    (start_goes c.args.running.now c.start.new.out.items c.start.new.board c.start.new.acq c.requires.keeps (drives c.args.running.now.counts) c.start.ensures.rest c.start.ensures.config) refl refl)
    c.start.ensures.drives
