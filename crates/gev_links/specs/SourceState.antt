-- What a source in memory is seen as.
use Rattle.std.specs.Prelude.{ℕ, List}

pub record SourceState : Type 0 where
  -- the bytes that are left
  pub left : List ℕ
  -- how many calls failed
  pub faults : ℕ
