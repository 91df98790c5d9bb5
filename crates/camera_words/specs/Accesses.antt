-- The words of `register`: a camera, and then 1 to 64 registers that are read or written, in order.
use Rattle.std.specs.Prelude.{ℕ, ◌+◌, ◌≤◌, ◌%◌, ◌==◌, nat_lt, Bool, if◌then◌else◌, List, [], ◌∷◌, ◌++◌, length, drop, Option, Some, None, Ok, Err, slice_get}
use Rattle.camera_words.specs.declared.register_write.Stage.TheVariants.{Set}
use Rattle.camera_words.specs.declared.register_write.RegisterWrite.{RegisterWrite}
use Rattle.camera_words.specs.declared.access.Access.{Access}
use Rattle.camera_words.specs.declared.access.Access.TheVariants.{Read, Write}
use Rattle.camera_words.specs.declared.access.RegisterWords.{RegisterWords}
use Rattle.camera_words.specs.Parts.{behind_byte}
use Rattle.camera_words.specs.Words.{Said, camera_of}
use Rattle.camera_words.specs.Writes.{equals_sign, register_number, write_in}

-- ---- one access

-- every register may be read
abbrev pub may_read : ℕ → Bool
may_read register = register % 4 == 0

abbrev pub as_read : Option ℕ → Option Access
as_read None = None
as_read (Some register) = if may_read register then Some (Read register) else None

abbrev pub as_write : Option RegisterWrite → Option Access
as_write None = None
as_write (Some write) = Some (Write write.register write.value)

-- a word with an equals sign is a write, and another a read
abbrev pub access_by : List ℕ → Option (List ℕ) → Option Access
access_by word None = as_read (register_number word)
access_by word (Some value) = as_write (write_in Set word)

-- the access that `<register>` or `<register>=<value>` is
abbrev pub access_in : List ℕ → Option Access
access_in word = access_by word (behind_byte equals_sign word)

-- ---- all of them

-- the most accesses
abbrev pub MOST_ACCESSES : ℕ
MOST_ACCESSES = 64

-- with one more, where it's one and there aren't too many
abbrev pub with_access : List Access → Option Access → Option (List Access)
with_access accesses None = None
with_access accesses (Some access) = if nat_lt (length accesses) MOST_ACCESSES then Some (accesses ++ access ∷ []) else None

-- what follows, or the place of the word with which nothing goes on
abbrev pub go_on : ℕ → Option (List Access) → (List Access → Said (List Access)) → Said (List Access)
go_on place None rest = Err place
go_on place (Some accesses) rest = rest accesses

-- the words from this place on, behind these accesses
abbrev pub accesses_from : ℕ → List Access → List (List ℕ) → Said (List Access)
accesses_from place accesses [] = Ok accesses
accesses_from place accesses (word ∷ words) =
    go_on place (with_access accesses (access_in word)) (λ more. accesses_from (place + 1) more words)

-- one at least
abbrev pub some_accesses : ℕ → List (List ℕ) → Said (List Access)
some_accesses place [] = Err place
some_accesses place (word ∷ words) = accesses_from place [] (word ∷ words)

abbrev pub with_accesses : Said ℕ → Said (List Access) → Said RegisterWords
with_accesses (Err place) said = Err place
with_accesses (Ok camera) (Err place) = Err place
with_accesses (Ok camera) (Ok accesses) = Ok (record { camera = camera; accesses = record { items = accesses } })

-- `register <camera> <access> [<access>..]`
abbrev pub register_of : List (List ℕ) → Said RegisterWords
register_of words = with_accesses (camera_of 1 (slice_get words 1)) (some_accesses 2 (drop 2 words))

-- the place of the next word, behind the command's name, the camera and these accesses
abbrev pub place_of : List Access → ℕ
place_of accesses = 2 + length accesses
