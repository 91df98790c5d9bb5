-- The registers' first words, and words as bytes.
use Rattle.std.specs.Prelude.{ℕ, zero, suc, ◌+◌, List, [], ◌∷◌, flat_map}
use Rattle.byteorder.specs.Endian.{big_bytes}
use Rattle.bootstrap_regs.specs.Addresses.{WORDS}
use Rattle.bootstrap_regs.specs.Registers.{initial_at}

-- what so many words hold at first, from an address on
unfoldable pub words_from : ℕ → ℕ → List ℕ
words_from zero address = []
words_from (suc n) address = initial_at address ∷ words_from n (address + 4)

-- what each word holds at first
unfoldable pub initial_words : List ℕ
initial_words = words_from WORDS 0

-- the words as bytes, each with its most significant byte first
abbrev pub bytes_of : List ℕ → List ℕ
bytes_of words = flat_map (big_bytes 4) words

-- the words at so many addresses, one after the other
abbrev pub addresses_from : ℕ → ℕ → List ℕ
addresses_from zero address = []
addresses_from (suc n) address = address ∷ addresses_from n (address + 4)
