use Rattle.std.proofs.Common.{refl}
use Rattle.wire_fields.specs.Fields.{number_at}
use Rattle.bootstrap_regs.specs.Registers.{register_at}
use Rattle.camera_machine.specs.Words.{words_from, initial_words}
use Rattle.camera_machine.proofs.rows.hostile_commands_are_answered.Goals as goal

pub returns : goal.returns
unfolding number_at register_at words_from initial_words
returns c = record { acks_are = refl; executed_are = refl }
