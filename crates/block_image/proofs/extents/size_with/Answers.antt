use Rattle.std.proofs.Common.{◌≡◌, ◌≤◌, true, arith, rules}
use Rattle.std.specs.Prelude.{◌&&◌, nat_le}
use Rattle.std.proofs.lemmas.Bool.{and_parts, leb-true}
use Rattle.gev_types.specs.FrameSize.{image_size, IsImageSize}
use Rattle.gev_types.proofs.Shorter.{fewer_lines}
use Rattle.block_image.proofs.extents.size_with.Goals as goal

pub unwrap-requires : goal.unwrap-requires
unwrap-requires c =
    let i = c.args.info in
    let told = c.requires in
    let some : (nat_le 1 c.args.lines && nat_le c.args.lines i.size_y) ≡ true = search rules in
    let parts = and_parts (nat_le 1 c.args.lines) (nat_le c.args.lines i.size_y) some in
    let fewer : c.args.lines ≤ i.size_y = leb-true c.args.lines i.size_y parts.1 in
    let fits : IsImageSize (image_size i.pixel i.size_x c.args.lines i.padding_x i.padding_y) =
    (fewer_lines i.pixel i.size_x i.size_y i.padding_x i.padding_y c.args.lines fewer).in_limits (leb-true 1 c.args.lines parts.0)
    (omega (arith, told.0, told.1.0), omega (arith, told.0, told.1.1)) in
    search (rules, fits)
