-- The fields of lines: a number, a buffer id, and the others that the words after the first say.
use Rattle.std.specs.Prelude.{ℕ, ◌^◌, ◌-◌, ◌==◌, List, codes, Option, Some, None, Ok, Err, if◌then◌else◌}
use Rattle.std.specs.Str.{bytes_eq}
use Rattle.gev_script.specs.declared.kind.ScriptKind.TheVariants.{Word, Number}
use Rattle.gev_script.specs.Words.{Read, ◌>>=◌, refused_as, parts_of, next_of, one_of, two_of}
use Rattle.gev_script.specs.Numbers.{number_in}

-- the largest numbers of one, four and eight bytes
abbrev pub most_u8 : ℕ
most_u8 = 2 ^ 8 - 1

abbrev pub most_u32 : ℕ
most_u32 = 2 ^ 32 - 1

abbrev pub most_u64 : ℕ
most_u64 = 2 ^ 64 - 1

-- the most bytes of a payload packet in a script of this version: packets of 9000 bytes, less the headers
-- of IP, UDP and the stream, of which the last has 20 bytes in version 1 and may have 8 in version 2
abbrev pub most_p : ℕ → ℕ
most_p version = if version == 2 then 8964 else 8952

-- the one word that is left, as a number of at most so much
abbrev pub number_after : ℕ → List (List ℕ) → Read ℕ
number_after most words = do
  word ← one_of words
  number_in 0 most word

-- the number that the next word is, and the words after it
abbrev pub next_number : ℕ → ℕ → List (List ℕ) → Read (ℕ × List (List ℕ))
next_number low high words = do
  word ← next_of words
  number ← number_in low high word.0
  Ok (number, word.1)

-- place and generation of a buffer id's two parts
abbrev pub id_parts : List (List ℕ) → Read (ℕ × ℕ)
id_parts parts = do
  numbers ← two_of parts
  place ← number_in 0 most_u8 numbers.0
  generation ← number_in 0 most_u32 numbers.1
  Ok (place, generation)

-- a buffer id, `<place>.<generation>`
abbrev pub id_of : List ℕ → Read (ℕ × ℕ)
id_of word = refused_as Number (id_parts (parts_of 46 word))

abbrev pub id_after : List (List ℕ) → Read (ℕ × ℕ)
id_after words = do
  word ← one_of words
  id_of word

-- a handle's serial, or `-` for none
abbrev pub parent_of : List ℕ → Read (Option ℕ)
parent_of word =
    if bytes_eq word (codes "-") then Ok None
    else (do
      serial ← number_in 0 most_u64 word
      Ok (Some serial))

-- the words after one that has to stand first
abbrev pub after_word : List ℕ → List (List ℕ) → Read (List (List ℕ))
after_word wanted words = do
  word ← next_of words
  if bytes_eq word.0 wanted then Ok word.1 else Err Word
