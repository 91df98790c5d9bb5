use Rattle.std.proofs.Common.{List, [], ◌++◌, map, ap, ◌∙◌}
use Rattle.acquisition_machine.specs.declared.retired.Retired.{Retired}
use Rattle.acquisition_machine.specs.Blocks.{fills}
use Rattle.acquisition_machine.specs.Machine.{tick, request_bytes}
use Rattle.acquisition_machine.specs.Runs.{turn}
use Rattle.acq_core.specs.Receiver.{config_of}
use Rattle.gev_receive.proofs.reading.begin_receiver.Goals as goal

pub returns-clause-stands : goal.returns-clause-stands
returns-clause-stands c = c.tick.ensures.takes.stands [] c.requires.new

pub returns-clause-fills : goal.returns-clause-fills
returns-clause-fills c =
    c.tick.ensures.takes.fills [] c.requires.new
    ∙ ap (λ (l : List Retired). l ++ fills (config_of c.args.acq.now).p (turn (config_of c.args.acq.now) [] (tick c.args.moment)).retired) c.requires.fills

pub returns-clause-requests : goal.returns-clause-requests
returns-clause-requests c =
    c.tick.ensures.takes.requests [] c.requires.new
    ∙ ap (λ l. l ++ map request_bytes (turn (config_of c.args.acq.now) [] (tick c.args.moment)).requests) c.requires.requests

pub returns-clause-buffers : goal.returns-clause-buffers
returns-clause-buffers c = c.tick.ensures.takes.buffers [] c.requires.new
