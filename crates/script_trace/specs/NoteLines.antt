-- Lines of a text, and those that are notes.
use Rattle.std.specs.Prelude.{◌≡◌, ℕ, ◌==◌, ◌&&◌, not, List, [], ◌∷◌, Bool, true, false}
use Rattle.std.specs.List.{AllByRecursion, filter}
use Rattle.script_runs.specs.Runs.{lines_text}

-- no line feed is in it
abbrev pub lacks_feed : List ℕ → Bool
lacks_feed [] = true
lacks_feed (b ∷ bs) = not (b == 10) && lacks_feed bs

-- it begins with `# `
abbrev pub is_note_line : List ℕ → Bool
is_note_line [] = false
is_note_line (a ∷ []) = false
is_note_line (a ∷ b ∷ bs) = a == 35 && b == 32

-- The second text is the first with the lines left out that begin with `# `.
pub record LeavesOut (told said : List ℕ) : Type 0 where
  pub lines : List (List ℕ)
  pub are : told ≡ lines_text lines
  pub whole : AllByRecursion (λ l. lacks_feed l ≡ true) lines
  pub rest : said ≡ lines_text (filter (λ l. not (is_note_line l)) lines)
