use Rattle.std.proofs.Common.{◌∙◌}
use Rattle.gev_world.proofs.Closing.{done_is}
use Rattle.gev_world.proofs.rounds.is_done.Goals as goal

pub returns : goal.returns
returns c = λ acts w stands.
    c.are_all.ensures
    ∙ done_is c.args.stage.now c.args.host.now acts w stands c.is_sent_out.result c.is_idle.result c.is_quiet.result c.is_sent_out.ensures
    (c.is_idle.ensures _ w.host stands.hosts.stands) c.is_quiet.ensures
