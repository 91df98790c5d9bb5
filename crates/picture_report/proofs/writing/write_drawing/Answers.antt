use Rattle.std.proofs.Common.{refl}
use Rattle.picture_report.proofs.Held.{last_front}
use Rattle.picture_report.proofs.writing.write_drawing.Goals as goal

pub returns-clause-front : goal.returns-clause-front
returns-clause-front g c =
    last_front c.write_all.result _ _ _ _ _ _ _ c.in_ok-write_rows.ensures.held c.as_slice-2.ensures.value refl c.write_all.ensures.front
