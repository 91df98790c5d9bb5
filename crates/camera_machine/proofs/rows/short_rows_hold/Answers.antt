use Rattle.std.proofs.Common.{refl}
use Rattle.wire_fields.specs.Fields.{number_at}
use Rattle.gev_frames.specs.Generator.{noise}
use Rattle.bootstrap_regs.specs.Registers.{register_at}
use Rattle.camera_machine.specs.Words.{words_from, initial_words}
use Rattle.camera_machine.proofs.rows.short_rows_hold.Goals as goal

pub returns : goal.returns
unfolding number_at noise register_at words_from initial_words
returns c = record { short = refl; whole = refl; set_back = refl; waits = refl; stays = refl }
