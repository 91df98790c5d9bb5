use Rattle.std.proofs.Common.{arith, ◌≤◌, length}
use Rattle.wire_fields.specs.Fields.{spelled}
use Rattle.gvsp_wire.specs.Wire.{trailer_fields}
use Rattle.gvsp_wire.specs.Plain.{plain_header}
use Rattle.gvsp_wire.proofs.Spellings.{trailer_read_again}
use Rattle.wire_fields.proofs.Placed.{put_after}
use Rattle.gvsp_wire.proofs.Writings.{length-plain_header}
use Rattle.gvsp_wire.proofs.writing.write_trailer.Goals as goal

pub returns-clause-written : goal.returns-clause-written
returns-clause-written c =
    let room : 28 ≤ length c.args.out.now = c.requires.room in
    put_after c.args.out.now (plain_header c.args.head 2) (spelled (trailer_fields 0 1 c.args.size_y)) c.write_header.new.out c.write_lines.new.out 20 8
    (length-plain_header c.args.head 2) room c.write_header.ensures.written c.write_lines.ensures

pub returns-clause-read_again : goal.returns-clause-read_again
returns-clause-read_again c =
    trailer_read_again c.args.head c.args.size_y c.requires.form c.write_header.ensures.fits (omega arith)
