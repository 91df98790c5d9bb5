-- A piece that is put into a list, by its elements.
use Rattle.std.proofs.Common.{◌≡◌, ℕ, ◌+◌, ◌-◌, ◌<◌, ◌≤◌, List, length, get_or, arith, rules}
use Rattle.std.proofs.lemmas.List.{places, length-append, length-take, length-drop}
use Rattle.gev_types.specs.Placing.{put_at}

pub length-put_at : (bytes : List ℕ) (at : ℕ) (piece : List ℕ) → length (put_at bytes at piece) ≡ length bytes
length-put_at bytes at piece =
    simp (length-append, length-take, length-drop) (omega arith)

pub get_or-put_at_inside : (bytes : List ℕ) (at : ℕ) (piece : List ℕ) (j : ℕ) → at ≤ j → j < at + length piece → j < length bytes → get_or (put_at bytes at piece) j 0 ≡ get_or piece (j - at) 0
get_or-put_at_inside bytes at piece j low high within = search (rules, places)

pub get_or-put_at_before : (bytes : List ℕ) (at : ℕ) (piece : List ℕ) (j : ℕ) → j < at → j < length bytes → get_or (put_at bytes at piece) j 0 ≡ get_or bytes j 0
get_or-put_at_before bytes at piece j low within = search (rules, places)

pub get_or-put_at_after : (bytes : List ℕ) (at : ℕ) (piece : List ℕ) (j : ℕ) → at + length piece ≤ j → j < length bytes → get_or (put_at bytes at piece) j 0 ≡ get_or bytes j 0
get_or-put_at_after bytes at piece j high within = search (rules, places)
