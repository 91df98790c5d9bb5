-- What the rows keep of an actor of the shared board.
use Rattle.std.specs.Prelude.{◌≡◌, ℕ, Option, IfSome}
use Rattle.atomic_table.specs.Seated.{TableId}
use Rattle.buffer_words.specs.Passes.{Token, IsWhole}

-- The pass is one of this board, and has the place in hand that is remembered, if one is.
abbrev pub IsReady : TableId → Token → Option ℕ → Type 0
IsReady table pass held = (pass.table ≡ table) × IfSome held (λ place. IsWhole pass place)
