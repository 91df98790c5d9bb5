use Rattle.std.proofs.Common.{◌≡◌, ℕ, ◌≤◌, List, [], ◌∷◌, ◌++◌, length, set, drop, refl, arith}
use Rattle.byteorder.specs.Endian.{big_bytes}
use Rattle.wire_fields.proofs.Placed.{put_after}
use Rattle.gvsp_wire.proofs.writing.write_kind.Goals as goal

zeros_first : (old : List ℕ) → 2 ≤ length old → set (set old 0 0) 1 0 ≡ 0 ∷ 0 ∷ drop 2 old
zeros_first [] room = absurd (omega arith)
zeros_first (a ∷ []) room = absurd (omega arith)
zeros_first (a ∷ b ∷ old) room = refl

pub returns-clause-written : goal.returns-clause-written
returns-clause-written c =
    let room : 16 ≤ length c.args.out.now = c.requires in
    let image = 0 ∷ 0 ∷ big_bytes 2 1 in
    let timestamp = big_bytes 8 c.args.info.timestamp in
    let pixel = big_bytes 4 c.args.info.pixel in
    let zeros = zeros_first c.args.out.now (omega arith) in
    let two = put_after c.args.out.now (0 ∷ 0 ∷ []) (big_bytes 2 1) _ _ 2 2 refl (omega arith) zeros c.write_u16.ensures in
    let three = put_after c.args.out.now image timestamp _ _ 4 8 refl (omega arith) two c.write_u64.ensures in
    put_after c.args.out.now (image ++ timestamp) pixel _ _ 12 4 refl (omega arith) three c.write_u32.ensures
