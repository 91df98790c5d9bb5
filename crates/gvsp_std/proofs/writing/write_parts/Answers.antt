use Rattle.std.proofs.Common.{arith}
use Rattle.gvsp_std.proofs.Written.{parts_written}
use Rattle.gvsp_std.proofs.writing.write_parts.Goals as goal

pub returns : goal.returns
returns c =
    parts_written c.args.out.now c.write_header.new.out c.args.body.now c.copy_from_slice.new.self c.args.head c.args.format_byte _ (omega arith)
    c.write_header.ensures c.copy_from_slice.ensures.after
