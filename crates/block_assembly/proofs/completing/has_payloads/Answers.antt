use Rattle.std.proofs.Common.{◌≡◌, ◌+◌, ◌-◌, ◌∙◌, sym, arith}
use Rattle.std.proofs.lemmas.Bool.{leb-true}
use Rattle.stream_packets.specs.FramePackets.{payload_start}
use Rattle.block_assembly.proofs.Wholes.{all_there, one_misses, too_few}
use Rattle.block_assembly.proofs.completing.has_payloads.Goals as goal
use Rattle.block_assembly.proofs.completing.has_payloads.Goals.{then-last-assembly, else-last-assembly}

remains : (c : goal.After-are_long) → c.saturating_sub-rest.result ≡ c.args.len - payload_start c.args.assembly.now.payload_size c.args.last
remains c = cc (c.saturating_sub-rest.ensures, c.from.ensures, c.start_of_payload.ensures)

pub returns-then-covers : goal.returns-then-covers
returns-then-covers c ks s leads trails =
    elim c.if-last-assembly.branch [
      | then-last-assembly w ↦
          all_there c.args.assembly.now c.args.len c.args.last c.saturating_sub-rest.result c.are_long.result ks s c.requires.last leads trails
          (remains c) c.are_long.ensures (w.covers.ensures.covered (sym w.value-is ∙ c.if-covers.true))
      | else-last-assembly w ↦ absurd (omega (arith, leb-true (c.args.last + 2) c.args.assembly.now.count (sym w.value-is ∙ c.if-covers.true)))
    ]

pub returns-else-covers : goal.returns-else-covers
returns-else-covers c ks s leads trails =
    elim c.if-last-assembly.branch [
      | then-last-assembly w ↦
          c.if-covers.false ∙ one_misses c.args.assembly.now c.args.len c.args.last ks s c.requires.last leads trails (w.covers.ensures.not_covered (sym w.value-is ∙ c.if-covers.false))
      | else-last-assembly w ↦
          c.if-covers.false ∙ too_few c.args.assembly.now c.args.len c.args.last ks s c.requires.last leads trails c.requires.in_range w.if-last-assembly.false
    ]
