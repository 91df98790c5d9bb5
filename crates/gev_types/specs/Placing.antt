-- Bytes written into a buffer from a position on.
use Rattle.std.specs.Prelude.{ℕ, ◌+◌, ◌-◌, List, ◌++◌, length, take, drop}

-- The piece stands from position at on, as far as the buffer goes; every other byte is as it was.
abbrev pub put_at : List ℕ → ℕ → List ℕ → List ℕ
put_at bytes at piece = take at bytes ++ take (length bytes - at) piece ++ drop (at + length piece) bytes
