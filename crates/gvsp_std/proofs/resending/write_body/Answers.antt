use Rattle.std.proofs.Common.{arith, refl, ◌≤◌, ◌++◌, length}
use Rattle.byteorder.specs.Endian.{big_bytes}
use Rattle.wire_fields.proofs.Placed.{put_after}
use Rattle.gvsp_std.specs.Blocks.{narrow}
use Rattle.gvsp_std.proofs.resending.write_body.Goals as goal

pub returns-clause-written : goal.returns-clause-written
returns-clause-written c =
    let room : 12 ≤ length c.args.out.now = c.requires.room in
    let channel = big_bytes 2 c.args.resend.channel in
    let block = big_bytes 2 (narrow c.args.resend.block) in
    let first = big_bytes 4 c.args.resend.first in
    let last = big_bytes 4 c.args.resend.last in
    let narrowed = rw c.narrow.ensures at c.write_u16-2.ensures in
    let two = put_after c.args.out.now channel block _ _ 2 2 refl (omega arith) c.write_u16.ensures narrowed in
    let three = put_after c.args.out.now (channel ++ block) first _ _ 4 4 refl (omega arith) two c.write_u32.ensures in
    put_after c.args.out.now ((channel ++ block) ++ first) last _ _ 8 4 refl (omega arith) three c.write_u32-2.ensures
