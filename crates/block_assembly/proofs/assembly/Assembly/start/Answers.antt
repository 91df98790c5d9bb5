use Rattle.std.proofs.Common.{◌≡◌, ◌∙◌, ℕ, ap, sym, refl, length, replicate, false, subst, arith, [], None}
use Rattle.block_image.specs.Sizes.{IsBufferSize}
use Rattle.block_assembly.specs.declared.progress.Progress.{Progress}
use Rattle.block_assembly.specs.Assembly.{AssemblyStands}
use Rattle.block_assembly.proofs.Accepts.{started}
use Rattle.block_assembly.proofs.assembly.Assembly.start.Goals as goal

-- what the call makes
abbrev made : goal.After-reset-2 → Progress
made c = record {
  payload_size = c.args.payload_size;
  block = c.args.block;
  size = length c.bytes.result.now;
  buf = c.args.buf;
  kept = c.reset.new.self;
  refused = c.reset-2.new.self;
  leader = None;
  trailer = None;
  count = 0;
  highest = None;
  shortest = None;
  placed = 0;
  end = 0;
  past = false;
}

stands : (c : goal.After-reset-2) → AssemblyStands (made c) c.args.payload_size c.args.block (length c.args.buf.bytes) []
stands c =
    let size : length c.bytes.result.now ≡ length c.args.buf.bytes = ap length c.bytes.ensures.value in
    let fits : IsBufferSize (length c.bytes.result.now) = record { some = omega (arith, size, c.bytes.ensures.some); in_limits = omega (arith, size, c.bytes.ensures.in_limits) } in
    subst (λ (n : ℕ). AssemblyStands (made c) c.args.payload_size c.args.block n []) size
    (started (made c) c.requires.payload_size fits
    (sym size)
    (c.reset.ensures.bits ∙ ap (λ (n : ℕ). replicate n false) c.requires.kept)
    (c.reset-2.ensures.bits ∙ ap (λ (n : ℕ). replicate n false) c.requires.refused)
    refl refl refl refl refl refl refl refl)

pub invariant_of-result : goal.invariant_of-result
invariant_of-result c = record { p = c.args.payload_size; b = c.args.block; size = length c.args.buf.bytes; heard = []; stands = stands c }

pub returns-clause-stands : goal.returns-clause-stands
returns-clause-stands c = stands c
