-- What an object of the outside tells of its bytes. None means that it tells nothing, then or later.
use Rattle.std.specs.Prelude.{◌≡◌, ◌≢◌, ⊤, ℕ, ◌<◌, List, [], ◌++◌, length, Option, Some, None}

-- These bytes came from the front of what was left.
abbrev pub Gives : Option (List ℕ) → Option (List ℕ) → List ℕ → Type 0
Gives None new bytes = new ≡ None
Gives (Some old) None bytes = ⊥
Gives (Some old) (Some new) bytes = old ≡ bytes ++ new

-- nothing was left
abbrev pub IsSpent : Option (List ℕ) → Type 0
IsSpent None = ⊤
IsSpent (Some left) = left ≡ []

-- A front of what was left was dropped, or nothing of it.
abbrev pub Drops : Option (List ℕ) → Option (List ℕ) → Type 0
Drops left left_after = (front : List ℕ) × Gives left left_after front

-- less is left than was
abbrev pub IsShorter : Option (List ℕ) → Option (List ℕ) → Type 0
IsShorter None new = ⊤
IsShorter (Some old) None = ⊥
IsShorter (Some old) (Some new) = length new < length old

-- These bytes were written after what stood there.
abbrev pub Appends : Option (List ℕ) → Option (List ℕ) → List ℕ → Type 0
Appends None new bytes = new ≡ None
Appends (Some old) new bytes = new ≡ Some (old ++ bytes)

-- A front of this text was written, and no more of it.
pub record WritesFront (written written_after : Option (List ℕ)) (text : List ℕ) : Type 0 where
  pub front : List ℕ
  pub rest : List ℕ
  pub parts : text ≡ front ++ rest
  pub appended : Appends written written_after front

-- A front of this text was written, and something of the text wasn't.
pub record WritesPart (written written_after : Option (List ℕ)) (text : List ℕ) : Type 0 where
  pub front : List ℕ
  pub rest : List ℕ
  pub parts : text ≡ front ++ rest
  pub some_left : rest ≢ []
  pub appended : Appends written written_after front
