-- What links that stand on links are seen as.
use Rattle.std.specs.Prelude.{ℕ}

pub record OnlyFromState (L : Type 0) : Type 0 where
  -- the link it stands on
  pub inner : L
  -- how many datagrams were passed over
  pub strangers : ℕ

pub record WidenedState (L : Type 0) : Type 0 where
  pub inner : L
  -- how many datagrams were refused
  pub refused : ℕ
