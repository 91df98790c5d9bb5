-- Laws of the grammar, which `src/laws.rt` proves.
use Rattle.std.specs.Prelude.{◌≡◌, ◌≢◌, ◌↔◌, ⊤, ℕ, ◌≤◌, List, length, Ok, Err, IsOkAnd}
use Rattle.gev_script.specs.declared.kind.ScriptKind.{ScriptKind}
use Rattle.gev_script.specs.declared.kind.ScriptKind.TheVariants as kinds
use Rattle.gev_script.specs.declared.name.Name.{Name}
use Rattle.gev_script.specs.declared.name.Name.TheVariants.{Header, CameraHeader}
use Rattle.gev_script.specs.Lines.{ScriptLine}
use Rattle.gev_script.specs.Words.{Read}
use Rattle.gev_script.specs.Grammar.{line_of, first_name}
use Rattle.gev_script.specs.Spelling.{spelling, IsScriptLine}

-- The spelling of a line is read as that line.
abbrev pub SpelledIsRead : Type 0
SpelledIsRead = (l : ScriptLine) → IsScriptLine l → line_of (spelling l) ≡ Ok l

-- The value is a line, and the bytes are its spelling.
pub record Spells (bytes : List ℕ) (l : ScriptLine) : Type 0 where
  pub is_line : IsScriptLine l
  pub spelled : bytes ≡ spelling l

-- Bytes that are read as a line are its spelling.
abbrev pub ReadIsSpelled : Type 0
ReadIsSpelled = (bytes : List ℕ) (l : ScriptLine) → length bytes ≤ 20000 → line_of bytes ≡ Ok l → Spells bytes l

-- the names of headers
abbrev pub IsHeaderName : Name → Type 0
IsHeaderName Header = ⊤
IsHeaderName CameraHeader = ⊤
IsHeaderName _ = ⊥

-- the kinds that a line has by its words
abbrev pub IsLineKind : ScriptKind → Type 0
IsLineKind kinds.Header = ⊤
IsLineKind kinds.Word = ⊤
IsLineKind kinds.Number = ⊤
IsLineKind kinds.Hex = ⊤
IsLineKind kinds.Long = ⊥
IsLineKind kinds.NoEnd = ⊥
IsLineKind kinds.Many = ⊥

-- The line begins as a header does, and isn't one.
pub record IsBadHeader (named : Read Name) (read : Read ScriptLine) : Type 0 where
  pub header_name : IsOkAnd named IsHeaderName
  pub refused : (l : ScriptLine) → read ≢ Ok l

-- what a line's first word names, and what the line is read as
pub record HasKinds (named : Read Name) (read : Read ScriptLine) : Type 0 where
  pub header : (read ≡ Err kinds.Header) ↔ IsBadHeader named read
  pub kinds_of : (kind : ScriptKind) → read ≡ Err kind → IsLineKind kind

-- A line is of kind Header exactly where it begins as a header does and isn't one, and never of a kind
-- that doesn't come from its words.
abbrev pub KindsOfLines : Type 0
KindsOfLines = (bytes : List ℕ) → HasKinds (first_name bytes) (line_of bytes)
