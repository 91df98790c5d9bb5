-- The flag bits of a command's header.
use Rattle.std.specs.Prelude.{ℕ, Bool, ◌==◌}
use Rattle.std.specs.Int.RustNames.{bit_and}

-- a flag bit, as 0x10, is set
abbrev pub has_flag : ℕ → ℕ → Bool
has_flag flag flags = bit_and flags flag == flag
