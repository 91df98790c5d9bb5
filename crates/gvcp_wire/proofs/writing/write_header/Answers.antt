-- The header is written field by field.
use Rattle.std.proofs.Common.{◌≤◌, ◌%◌, [], ◌∷◌, ◌++◌, length, refl, arith}
use Rattle.byteorder.specs.Endian.{big_bytes}
use Rattle.wire_fields.proofs.Placed.{put_after, byte_after}
use Rattle.gvcp_wire.proofs.writing.write_header.Goals as goal

pub returns-clause-written : goal.returns-clause-written
returns-clause-written c =
    let room : 8 ≤ length c.args.out.now = c.requires in
    let old = c.args.out.now in
    let flags = c.args.head.flags in
    let marks = 66 ∷ flags % 256 ∷ [] in
    let code = big_bytes 2 c.args.head.code in
    let size = big_bytes 2 c.args.len in
    let one = byte_after old [] old 0 66 66 refl (omega arith) refl refl in
    let two = byte_after old (66 ∷ []) _ 1 flags (flags % 256) refl (omega arith) one (omega arith) in
    let three = put_after old marks code _ _ 2 2 refl (omega arith) two c.write_u16.ensures in
    let four = put_after old (marks ++ code) size _ _ 4 2 refl (omega arith) three c.write_u16-2.ensures in
    put_after old ((marks ++ code) ++ size) (big_bytes 2 c.args.head.req) _ _ 6 2 refl (omega arith) four c.write_u16-3.ensures
