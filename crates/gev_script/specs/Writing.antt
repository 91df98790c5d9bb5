-- How a text grows.
use Rattle.std.specs.Prelude.{◌≡◌, ℕ, List, ◌++◌, Result, Ok, Err}
use Rattle.gev_types.specs.declared.memory.NoMemory.{NoMemory}

-- The new text begins with the old one.
pub record IsGrown (old new : List ℕ) : Type 0 where
  pub more : List ℕ
  pub parts : new ≡ old ++ more

-- This was added, or where there was no memory some text.
abbrev pub Adds : Result (Unit {0}) NoMemory → List ℕ → List ℕ → List ℕ → Type 0
Adds (Ok done) old new added = new ≡ old ++ added
Adds (Err failure) old new added = IsGrown old new
