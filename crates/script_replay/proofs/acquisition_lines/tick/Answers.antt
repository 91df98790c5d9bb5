use Rattle.std.proofs.lemmas.Result.{on_ok_weaker}
use Rattle.script_replay.proofs.Driving.{tick_drives}
use Rattle.script_replay.proofs.acquisition_lines.tick.Goals as goal

pub returns-clause-drives : goal.returns-clause-drives
returns-clause-drives c =
    on_ok_weaker c.write_requests.result
    (λ said. tick_drives c.args.mode _ _ _ _ _ _ _ _ c.args.moment _ _ c.requires.rest c.tick.ensures.takes c.fill_retired.ensures.fills c.fill_retired.ensures.rest c.fill_retired.ensures.requests c.write_requests.ensures.rest c.requires.empty said)
    c.write_requests.ensures.lines
