use Rattle.std.proofs.Common.{refl}
use Rattle.std.proofs.lemmas.Result.{on_ok_weaker}
use Rattle.gev_script.specs.Lines as script_line
use Rattle.script_replay.proofs.Replaying.{call_goes}
use Rattle.soak_receiver.proofs.Announcing.{queued_one}
use Rattle.soak_receiver.proofs.starting.queue_announced.Goals as goal

pub returns : goal.returns
returns c =
    on_ok_weaker c.queue.result
    (λ acts_so. queued_one c.args.place c.args.running.now _ c.queue.new.out.items c.requires.few c.requires.announced
    (call_goes (script_line.queue c.args.place 1) c.args.running.now c.queue.new.out.items c.queue.new.board c.requires.announced.keeps acts_so c.queue.ensures.ready c.queue.ensures.lifted) refl refl)
    c.queue.ensures.acts
