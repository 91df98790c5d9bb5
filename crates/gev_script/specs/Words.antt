-- The words of a line, and what is refused where there are too few or too many.
use Rattle.std.specs.Prelude.{ℕ, ◌==◌, List, [], ◌∷◌, Option, Some, None, Result, Ok, Err}
use Rattle.std.specs.List.{slice_split}
use Rattle.gev_script.specs.declared.kind.ScriptKind.{ScriptKind}
use Rattle.gev_script.specs.declared.kind.ScriptKind.TheVariants.{Word}

-- a value, or the kind of a line that isn't in the grammar
abbrev pub Read : Type 0 → Type 0
Read A = Result A ScriptKind

infixl 10 ◌>>=◌
abbrev pub ◌>>=◌ : {A B : Type 0} → Read A → (A → Read B) → Read B
(Ok x) >>= f = f x
(Err kind) >>= f = Err kind

-- the same value, or a refusal of this kind
abbrev pub refused_as : {A : Type 0} → ScriptKind → Read A → Read A
refused_as kind (Ok x) = Ok x
refused_as kind (Err other) = Err kind

-- the value seen otherwise
abbrev pub read_map : {A B : Type 0} → (A → B) → Read A → Read B
read_map f (Ok x) = Ok (f x)
read_map f (Err kind) = Err kind

-- what single separators separate; a part may be empty
abbrev pub parts_of : ℕ → List ℕ → List (List ℕ)
parts_of separator text = slice_split (λ b. b == separator) text

-- the parts of what follows a separator, if one was there
abbrev pub parts_after : ℕ → Option (List ℕ) → List (List ℕ)
parts_after separator None = []
parts_after separator (Some rest) = parts_of separator rest

-- words are what single spaces separate
abbrev pub words_of : List ℕ → List (List ℕ)
words_of line = parts_of 32 line

-- no word is left
abbrev pub none_left : List (List ℕ) → Read (Unit {0})
none_left [] = Ok tt
none_left (word ∷ words) = Err Word

-- the next word, and those after it
abbrev pub next_of : List (List ℕ) → Read (List ℕ × List (List ℕ))
next_of [] = Err Word
next_of (word ∷ words) = Ok (word, words)

-- just one word
abbrev pub one_of : List (List ℕ) → Read (List ℕ)
one_of words = do
  first ← next_of words
  done ← none_left first.1
  Ok first.0

-- just two words
abbrev pub two_of : List (List ℕ) → Read (List ℕ × List ℕ)
two_of words = do
  first ← next_of words
  second ← one_of first.1
  Ok (first.0, second)
