-- The lines of a camera script by their bytes: what they are read as, and what they leave.
use Rattle.std.specs.Prelude.{◌≡◌, ◌≢◌, ℕ, List, None, Ok}
use Rattle.gev_script.specs.declared.kind.ScriptKind.{ScriptKind}
use Rattle.gev_script.specs.declared.kind.ScriptKind.TheVariants as kinds
use Rattle.gev_script.specs.Lines as line
use Rattle.gev_script.specs.Lines.{ScriptLine}
use Rattle.gev_script.specs.Grammar.{line_of}
use Rattle.gev_script.specs.Spelling.{IsScriptLine}
use Rattle.camera_replay.specs.Serving.{opening}
use Rattle.camera_replay.specs.Standing.{later_kind, IsCameraLine}
use Rattle.camera_replay.specs.declared.running.Running.{Running}
use Rattle.camera_replay.specs.Running.{serving_of}

-- The bytes are the header, and a new camera stands behind it.
pub record Begins (text : List ℕ) (new : Running) : Type 0 where
  pub read : line_of text ≡ Ok line.camera_header
  pub opens : serving_of new ≡ opening

-- The bytes are no header.
pub record IsNoHeader (text : List ℕ) (kind : ScriptKind) : Type 0 where
  pub kind_is : kind ≡ kinds.Header
  pub none : line_of text ≢ Ok line.camera_header

-- The bytes are read as this line, which a camera script may have behind its header.
pub record Reads (text : List ℕ) (l : ScriptLine) : Type 0 where
  pub in_place : later_kind text ≡ None
  pub read : line_of text ≡ Ok l
  pub is_line : IsScriptLine l
  pub own : IsCameraLine l
