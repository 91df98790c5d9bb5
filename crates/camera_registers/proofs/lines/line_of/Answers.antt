use Rattle.std.specs.Prelude.{codes}
use Rattle.camera_registers.specs.Lines.{hex_of}
use Rattle.camera_registers.proofs.Made.{joined}
use Rattle.camera_registers.proofs.lines.line_of.Goals as goal

pub returns : goal.returns
returns c =
    rw (c.add-5.ensures, c.add-4.ensures, c.add-3.ensures, c.add-2.ensures, c.add.ensures, c.new-line.ensures, c.digits_of.ensures, c.digits_of-2.ensures)
    (joined (codes "register 0x") (hex_of c.args.register) (codes " value=0x") (hex_of c.args.value) (codes "\n"))
