use Rattle.std.proofs.Common.{refl, Ok, Err}
use Rattle.gvsp_wire.specs.View.{view}
use Rattle.block_assembly.proofs.ReadPackets.{read_as}
use Rattle.acquisition_machine.specs.Machine.{unasked}
use Rattle.acq_core.proofs.Listening.{acts_unasked, sound_unasked, some_unasked, hears_read}
use Rattle.acq_core.proofs.hearing.hear.Goals as goal

pub listen-requires-clause-acts : goal.listen-requires-clause-acts
listen-requires-clause-acts c = some_unasked c.args.window.now c.requires.acts

pub listen-requires-clause-read : goal.listen-requires-clause-read
listen-requires-clause-read c =
    read_as c.args.bytes.now (view c.in-Ok.packet) ((c.in-Ok.ensures.packet (view c.in-Ok.packet)).0 refl)

pub returns-in-Ok-clause-answers : goal.returns-in-Ok-clause-answers
returns-in-Ok-clause-answers c s acts sound =
    hears_read c.args.window.now c.listen.new.window s c.args.bytes.now (Ok (view c.in-Ok.packet)) c.listen.result c.in-Ok.ensures.reading
    (c.listen.ensures.answers (unasked s) (acts_unasked c.args.window.now s acts) (sound_unasked c.args.window.now s sound))

pub returns-in-Err-clause-answers : goal.returns-in-Err-clause-answers
returns-in-Err-clause-answers c s acts sound =
    hears_read c.args.window.now c.ignore.new.window s c.args.bytes.now (Err c.in-Err.error) c.ignore.result c.in-Err.ensures.reading
    (c.ignore.ensures.answers (unasked s) (acts_unasked c.args.window.now s acts))
