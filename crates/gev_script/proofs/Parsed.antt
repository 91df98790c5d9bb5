-- What was read is a line.
use Rattle.std.proofs.Common.{◌≡◌, ℕ, ◌≤◌, List, length, sym, Result, Ok, Err}
use Rattle.std.specs.Result.{IfOk}
use Rattle.gev_script.specs.declared.kind.ScriptKind.{ScriptKind}
use Rattle.gev_script.specs.declared.line.Line.{Line}
use Rattle.gev_script.specs.Lines.{view, seen}
use Rattle.gev_script.specs.Grammar.{line_of}
use Rattle.gev_script.specs.Spelling.{IsScriptLine}
use Rattle.gev_script.proofs.Unspelled.{unspelled}

pub is_line : (bytes : List ℕ) (r : Result Line ScriptKind) → length bytes ≤ 20000 → seen r ≡ line_of bytes → IfOk r (λ l. IsScriptLine (view l))
is_line bytes (Ok l) small h = (unspelled bytes (view l) small (sym h)).is_line
is_line bytes (Err kind) small h = tt
