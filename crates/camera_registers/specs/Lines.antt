-- The line of a register that was read.
use Rattle.std.specs.Prelude.{ℕ, List, [], ◌++◌, codes, Option, Some, None}
use Rattle.byteorder.specs.Endian.{big_bytes}
use Rattle.hex.specs.Hex.{encode_lower}
use Rattle.camera_words.specs.declared.access.Access.{Access}
use Rattle.camera_words.specs.declared.access.Access.TheVariants.{Read, Write}

-- eight lower-case hex digits
abbrev pub hex_of : ℕ → List ℕ
hex_of number = encode_lower (big_bytes 4 number)

-- the register and its value
abbrev pub register_line : ℕ → ℕ → List ℕ
register_line register value = codes "register 0x" ++ (hex_of register ++ (codes " value=0x" ++ (hex_of value ++ codes "\n")))

-- the line of an access whose acknowledge told this: nothing is written of a write
abbrev pub line_of : Access → Option ℕ → List ℕ
line_of (Read register) None = []
line_of (Read register) (Some value) = register_line register value
line_of (Write register value) told = []
