-- The words of the commands that look for cameras.
use Rattle.std.specs.Prelude.{ℕ, List, Option, Some, None, Result, Ok, Err, slice_get, ◌-◌, ◌^◌}
use Rattle.camera_words.specs.Addresses.{address_in}

-- What words say, or the place of the first word with which no command line goes on, from 0. Where more words are
-- wanted it is their number.
abbrev pub Said : Type 0 → Type 0
Said A = Result A ℕ

-- this was read, or the place
abbrev pub read_at : ℕ → Option ℕ → Said ℕ
read_at place None = Err place
read_at place (Some address) = Ok address

-- no further word, or its place
abbrev pub and_none : {A : Type 0} → ℕ → Option (List ℕ) → Said A → Said A
and_none place word (Err other) = Err other
and_none place None (Ok said) = Ok said
and_none place (Some word) (Ok said) = Err place

-- a camera's address
abbrev pub camera_of : ℕ → Option (List ℕ) → Said ℕ
camera_of place None = Err place
camera_of place (Some word) = read_at place (address_in word)

-- the address to which DISCOVERY goes where none is given: the broadcast of the own network
abbrev pub BROADCAST : ℕ
BROADCAST = 2 ^ 32 - 1

abbrev pub search_of : ℕ → Option (List ℕ) → Said ℕ
search_of place None = Ok BROADCAST
search_of place (Some word) = read_at place (address_in word)

-- `discover [<address>]`
abbrev pub discover_of : List (List ℕ) → Said ℕ
discover_of words = and_none 2 (slice_get words 2) (search_of 1 (slice_get words 1))

-- `description <camera>`
abbrev pub description_of : List (List ℕ) → Said ℕ
description_of words = and_none 2 (slice_get words 2) (camera_of 1 (slice_get words 1))
