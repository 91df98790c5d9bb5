use Rattle.std.proofs.Common.{◌+◌, ◌%◌, ◌≤◌, ◌++◌, length, refl, arith}
use Rattle.byteorder.specs.Endian.{big_bytes}
use Rattle.wire_fields.proofs.Placed.{byte_after, put_after}
use Rattle.gvsp_std.specs.Widening.{wide_header}
use Rattle.gvsp_std.proofs.writing.write_header.Goals as goal

pub returns : goal.returns
unfolding wide_header
returns c =
    let room : 20 ≤ length c.args.out.now = c.requires in
    let byte = 128 + c.args.format_byte % 16 in
    let flags = big_bytes 2 c.args.head.status ++ big_bytes 2 c.args.head.flags in
    let format = flags ++ big_bytes 1 byte in
    let block = (format ++ big_bytes 3 0) ++ big_bytes 8 c.args.head.block in
    let two = put_after c.args.out.now (big_bytes 2 c.args.head.status) (big_bytes 2 c.args.head.flags) _ _ 2 2 refl (omega arith) c.write_u16.ensures c.write_u16-2.ensures in
    let three = byte_after c.args.out.now flags _ 4 byte (byte % 256) refl (omega arith) two (omega arith) in
    let four = put_after c.args.out.now format (big_bytes 3 0) _ _ 5 3 refl (omega arith) three c.write_u24.ensures in
    let five = put_after c.args.out.now (format ++ big_bytes 3 0) (big_bytes 8 c.args.head.block) _ _ 8 8 refl (omega arith) four c.write_u64.ensures in
    put_after c.args.out.now block (big_bytes 4 c.args.head.id) _ _ 16 4 refl (omega arith) five c.write_u32.ensures
