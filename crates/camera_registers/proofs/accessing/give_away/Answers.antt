use Rattle.std.proofs.Common.{sym}
use Rattle.camera_registers.specs.Registers.{given}
use Rattle.camera_registers.proofs.accessing.give_away.Goals as goal

pub returns-clause-gives : goal.returns-clause-gives
returns-clause-gives g c = given (sym c.if-is_fault.ensures) c.make_access-gave.result c.make_access-gave.ensures.makes c.behind.ensures
