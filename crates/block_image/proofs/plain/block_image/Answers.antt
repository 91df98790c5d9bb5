use Rattle.std.proofs.Common.{◌≡◌, List, arith, ap, length, rules}
use Rattle.stream_packets.specs.Packets.{StreamPacket}
use Rattle.gvsp_wire.specs.View.{views}
use Rattle.block_image.specs.Image.{extent_in}
use Rattle.block_image.specs.Kept.{kept}
use Rattle.block_image.specs.KeptFacts.{TellsSize}
use Rattle.block_image.proofs.IsKept.{kept-all}
use Rattle.block_image.proofs.FewerLines.{leader_tells}
use Rattle.block_image.proofs.CountLemmas.{placed_count-le}
use Rattle.block_image.proofs.ImageLemmas.{length-image_bytes}
use Rattle.block_image.proofs.PlainSteps.{image_len-le}
use Rattle.block_image.proofs.plain.block_image.Goals as goal

pub set_rec-requires-clause-data_len : goal.set_rec-requires-clause-data_len
set_rec-requires-clause-data_len c =
    let ks = views c.deref-2.result.now in
    omega (
      arith,
      ap (λ r. r.data_len) c.record_with.ensures,
      ap length c.place-placed.ensures.bytes,
      length-image_bytes c.args.p (views c.deref.result.now) c.args.size,
      image_len-le c.args.p c.args.size ks (extent_in ks),
    )

pub set_rec-requires-clause-filled : goal.set_rec-requires-clause-filled
set_rec-requires-clause-filled c =
    let ks = views c.deref-2.result.now in
    omega (
      arith,
      ap (λ r. r.filled) c.record_with.ensures,
      ap length c.place-placed.ensures.bytes,
      length-image_bytes c.args.p (views c.deref.result.now) c.args.size,
      placed_count-le c.args.p ks c.args.size,
    )

pub record_with-requires-clause-told : goal.record_with-requires-clause-told
record_with-requires-clause-told c =
    let ks : List StreamPacket = views c.deref-2.result.now in
    let is : ks ≡ kept c.args.p c.args.block (views c.args.packets.now) = search rules in
    leader_tells ks (rw is (kept-all c.args.p c.args.block TellsSize (views c.args.packets.now) c.requires.told))
