use Rattle.std.proofs.Common.{refl}
use Rattle.picture_report.proofs.Held.{last_front}
use Rattle.picture_report.proofs.plain.write_both.Goals as goal

pub returns-clause-front : goal.returns-clause-front
returns-clause-front g c =
    last_front c.write_all-2.result _ _ _ _ c.args.second.now _ _
    (record { front = c.args.first.now; parts = refl; appended = c.in_ok-write_all.ensures.written }) refl refl c.write_all-2.ensures.front
