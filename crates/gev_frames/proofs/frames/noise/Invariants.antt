use Rattle.std.proofs.Common.{◌≡◌, ◌++◌, ◌-◌, vec_len}
use Rattle.std.specs.Vec.{vec_capacity}
use Rattle.gev_frames.specs.Generator.{noise}
use Rattle.gev_frames.proofs.frames.noise.Given as goal

abbrev pub invariant-loop-drawn : goal.invariant-loop-drawn
invariant-loop-drawn l = record {
  -- what was drawn and what is left to be drawn are all the bytes
  drawn : l.bytes.items ++ noise (l.count - l._drawn) l.generator ≡ noise l.count l.fn.generator;
  len : vec_len l.bytes ≡ l._drawn;
  room : vec_capacity l.bytes ≡ l.count;
}
