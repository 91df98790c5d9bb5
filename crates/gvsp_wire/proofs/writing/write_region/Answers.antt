use Rattle.std.proofs.Common.{arith, refl, ◌≤◌, ◌++◌, length}
use Rattle.byteorder.specs.Endian.{big_bytes}
use Rattle.wire_fields.proofs.Placed.{put_after}
use Rattle.gvsp_wire.proofs.writing.write_region.Goals as goal

pub returns-clause-written : goal.returns-clause-written
returns-clause-written c =
    let room : 20 ≤ length c.args.out.now = c.requires in
    let size_x = big_bytes 4 c.args.info.size_x in
    let size_y = big_bytes 4 c.args.info.size_y in
    let offset_x = big_bytes 4 c.args.info.offset_x in
    let offset_y = big_bytes 4 c.args.info.offset_y in
    let padding_x = big_bytes 2 c.args.info.padding_x in
    let padding_y = big_bytes 2 c.args.info.padding_y in
    let two = put_after c.args.out.now size_x size_y _ _ 4 4 refl (omega arith) c.write_u32.ensures c.write_u32-2.ensures in
    let three = put_after c.args.out.now (size_x ++ size_y) offset_x _ _ 8 4 refl (omega arith) two c.write_u32-3.ensures in
    let four = put_after c.args.out.now ((size_x ++ size_y) ++ offset_x) offset_y _ _ 12 4 refl (omega arith) three c.write_u32-4.ensures in
    let five = put_after c.args.out.now (((size_x ++ size_y) ++ offset_x) ++ offset_y) padding_x _ _ 16 2 refl (omega arith) four c.write_u16.ensures in
    put_after c.args.out.now ((((size_x ++ size_y) ++ offset_x) ++ offset_y) ++ padding_x) padding_y _ _ 18 2 refl (omega arith) five c.write_u16-2.ensures
