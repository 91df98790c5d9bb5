-- What a sink in memory is seen as.
use Rattle.std.specs.Prelude.{ℕ, List}

pub record SinkState : Type 0 where
  -- the bytes that were written
  pub written : List ℕ
  -- how many calls failed
  pub faults : ℕ
