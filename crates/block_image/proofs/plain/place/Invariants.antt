use Rattle.std.proofs.Common.{◌≡◌, ◌-◌, ◌++◌, replicate}
use Rattle.gvsp_wire.specs.View.{views}
use Rattle.block_image.specs.Image.{image_bytes, placed_count, placed_end}
use Rattle.block_image.proofs.plain.place.Given as goal

-- The positions that were looked at are done, and the others are 0.
abbrev pub invariant-loop-position : goal.invariant-loop-position
invariant-loop-position l = record {
  bytes : l.buf.bytes ≡ image_bytes l.p (views l.kept) l.position ++ replicate (l.size - l.position) 0;
  rec : l.buf.rec ≡ l.fn.buf.rec;
  count : l.count ≡ placed_count l.p (views l.kept) l.position;
  end : l.end ≡ placed_end l.p (views l.kept) l.position;
}
