-- A line that begins as one of a camera script, as it is read.
use Rattle.std.proofs.Common.{◌≡◌, ℕ, Bool, true, List, Option, Some, None, Result, Ok, Err, sym, ap, ◌∙◌}
use Rattle.std.specs.Prelude.{if◌then◌else◌, IfOk}
use Rattle.gev_script.specs.declared.kind.ScriptKind.{ScriptKind}
use Rattle.gev_script.specs.declared.kind.ScriptKind.TheVariants as kinds
use Rattle.gev_script.specs.declared.line.Line.{Line}
use Rattle.gev_script.specs.Lines.{view, seen}
use Rattle.gev_script.specs.Spelling.{IsScriptLine}
use Rattle.gev_script.specs.Grammar.{line_of, first_name}
use Rattle.camera_replay.specs.Standing.{is_in_place, kind_of_read, later_kind}
use Rattle.camera_replay.proofs.InPlace.{in_place}
use Rattle.camera_replay.specs.Lines.{Reads}

abbrev word : Option ScriptKind
word = Some kinds.Word

kind_by_read : (text : List ℕ) → is_in_place (first_name text) ≡ true → later_kind text ≡ kind_of_read (line_of text)
kind_by_read text place = ap (λ (b : Bool). if b then kind_of_read (line_of text) else word) place

pub reads : (text : List ℕ) (r : Result Line ScriptKind) → is_in_place (first_name text) ≡ true → seen r ≡ line_of text
    → IfOk r (λ l. IsScriptLine (view l)) → IfOk r (λ l. Reads text (view l))
reads text (Ok l) place is is_line =
    let allowed : later_kind text ≡ None = kind_by_read text place ∙ ap kind_of_read (sym is) in
    record { in_place = allowed; read = sym is; is_line = is_line; own = in_place text (view l) allowed (sym is) }
reads text (Err kind) place is is_line = tt
