use Rattle.std.proofs.Common.{◌∙◌}
use Rattle.world_laws.specs.Receiver.{soak_host}
use Rattle.gev_world.proofs.Steps.{on_ok}
use Rattle.gev_world.proofs.Asking.{asked, told_all}
use Rattle.gev_world.proofs.host_turn.ask.Goals as goal

pub returns : goal.returns
returns c =
    on_ok c.put_all.result
    (asked c.args.stage.now c.put_all.new.stage c.args.host.now c.tick.new.self c.as_slice.result.now c.tick.ensures.stands
    (λ lines r h. c.as_slice.ensures.value
    ∙ told_all c.tick.new.requests.items c.clear.new.self.items (soak_host.requests r c.args.stage.now.moment) (c.in_ok-tick.ensures.requests lines r h) c.clear.ensures.items))
    c.put_all.ensures
