use Rattle.std.proofs.Common.{refl}
use Rattle.std.proofs.lemmas.Result.{on_ok_weaker}
use Rattle.gev_script.specs.Lines as script_line
use Rattle.world_laws.specs.Receiver.{SOAK_BUFFER_SIZE}
use Rattle.script_replay.proofs.Replaying.{call_goes}
use Rattle.soak_receiver.proofs.Announcing.{announced_one}
use Rattle.soak_receiver.proofs.starting.announce_buffer.Goals as goal

pub returns : goal.returns
returns c =
    on_ok_weaker c.announce.result
    (λ acts_so. announced_one c.args.place c.args.running.now _ c.announce.new.out.items c.requires.few c.requires.stocked
    (call_goes (script_line.announce SOAK_BUFFER_SIZE) c.args.running.now c.announce.new.out.items c.announce.new.board c.requires.stocked.keeps acts_so c.announce.ensures.ready c.announce.ensures.lifted) refl refl)
    c.announce.ensures.acts
