use Rattle.std.proofs.Common.{sym, ◌∙◌}
use Rattle.gev_world.proofs.Coming.{comes_to_end, rests_for_frame, comes_on}
use Rattle.gev_world.proofs.rounds.come_to_host.Goals as goal

pub returns-in-Some-clause-comes : goal.returns-in-Some-clause-comes
returns-in-Some-clause-comes c =
    comes_to_end c.args.stage.now c.client_turn.new.stage c.in_ok-outcome.outcome c.in-Some.end (sym c.in-Some.is ∙ c.end_of.ensures) c.in_ok-outcome.ensures.does

pub make-requires-clause-idle : goal.make-requires-clause-idle
make-requires-clause-idle c =
    (rests_for_frame c.args.stage.now c.client_turn.new.stage c.camera_turn.new.stage c.in_ok-outcome.outcome c.requires.between
    c.in_ok-outcome.ensures.does c.in_ok-camera_turn.ensures.does).0

pub make-requires-clause-count : goal.make-requires-clause-count
make-requires-clause-count c =
    (rests_for_frame c.args.stage.now c.client_turn.new.stage c.camera_turn.new.stage c.in_ok-outcome.outcome c.requires.between
    c.in_ok-outcome.ensures.does c.in_ok-camera_turn.ensures.does).1

pub returns-clause-comes : goal.returns-clause-comes
returns-clause-comes c =
    comes_on c.args.stage.now c.client_turn.new.stage c.camera_turn.new.stage c.make.new.stage c.in_ok-outcome.outcome (sym c.in_default.is ∙ c.end_of.ensures)
    c.requires.between c.in_ok-outcome.ensures.does c.client_turn.ensures.few c.in_ok-camera_turn.ensures.does c.in_ok-make.ensures.does
