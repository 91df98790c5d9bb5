use Rattle.std.proofs.Common.{◌+◌, length, subst, sym, arith}
use Rattle.block_image.specs.Kept.{kept}
use Rattle.block_assembly.specs.declared.progress.Progress.{Progress}
use Rattle.stream_packets.specs.FramePackets.{payload_count}
use Rattle.packet_bitmap.specs.Bits.{has}
use Rattle.block_assembly.specs.Zeroed.{Zeroes}
use Rattle.block_assembly.specs.Assembly.{AssemblyStands, IsSound}
use Rattle.block_assembly.proofs.Accepts.{sound, finished}
use Rattle.block_assembly.proofs.assembly.Assembly.finish.Goals as goal

pub record-rec-requires-clause-sound : goal.record-rec-requires-clause-sound
record-rec-requires-clause-sound c = sound c.self.inside.progress c.self.invariant

pub set_rec-requires-clause-data_len : goal.set_rec-requires-clause-data_len
set_rec-requires-clause-data_len c =
    let s : IsSound c.self.inside.progress = sound c.self.inside.progress c.self.invariant in omega (arith, c.record-rec.ensures.data_len, s.buffer, c.zero_missing.ensures.bytes.size)

pub set_rec-requires-clause-filled : goal.set_rec-requires-clause-filled
set_rec-requires-clause-filled c =
    let s : IsSound c.self.inside.progress = sound c.self.inside.progress c.self.invariant in omega (arith, c.record-rec.ensures.filled, s.buffer, c.zero_missing.ensures.bytes.size)

pub returns-clause-image : goal.returns-clause-image
returns-clause-image c p b size heard s =
    let a = c.self.inside.progress in
    let stood : AssemblyStands a p b size heard = subst (λ (x : Progress). AssemblyStands x p b size heard) (sym c.self.view_is) s in
    finished c.args.cause a c.set_rec.new.self c.record-rec.result p b size heard stood (subst (Zeroes (has a.kept) a.payload_size (payload_count a.payload_size (length a.buf.bytes) + 1) a.buf.bytes) (sym c.set_rec.ensures.bytes) c.zero_missing.ensures.bytes) c.set_rec.ensures.rec
    (c.record-rec.ensures.value (kept a.payload_size a.block heard) stood.assembly)
