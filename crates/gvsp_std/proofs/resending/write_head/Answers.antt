-- The header is written part by part.
use Rattle.std.proofs.Common.{◌≤◌, [], ◌∷◌, ◌++◌, length, refl, arith}
use Rattle.byteorder.specs.Endian.{big_bytes}
use Rattle.wire_fields.proofs.Placed.{byte_after, put_after}
use Rattle.gvsp_std.proofs.resending.write_head.Goals as goal

pub returns : goal.returns
returns c =
    let room : 8 ≤ length c.args.out.now = c.requires in
    let one = byte_after c.args.out.now [] c.args.out.now 0 66 66 refl (omega arith) refl refl in
    let two = byte_after c.args.out.now (66 ∷ []) _ 1 0 0 refl (omega arith) one refl in
    let code = put_after c.args.out.now (66 ∷ 0 ∷ []) (big_bytes 2 64) _ _ 2 2 refl (omega arith) two c.write_u16.ensures in
    let size = put_after c.args.out.now ((66 ∷ 0 ∷ []) ++ big_bytes 2 64) (big_bytes 2 12) _ _ 4 2 refl (omega arith) code c.write_u16-2.ensures in
    put_after c.args.out.now (((66 ∷ 0 ∷ []) ++ big_bytes 2 64) ++ big_bytes 2 12) (big_bytes 2 c.args.req) _ _ 6 2 refl (omega arith) size c.write_u16-3.ensures
