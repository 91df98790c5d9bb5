-- The text of lines that are written, and of the takes among them.
use Rattle.std.specs.Prelude.{ℕ, List, map, replicate}
use Rattle.gev_script.specs.Lines as line
use Rattle.gev_script.specs.Lines.{ScriptLine}
use Rattle.gev_script.specs.Spelling.{spelling}
use Rattle.script_runs.specs.Runs.{lines_text}

-- the text of lines, each with its line feed
abbrev pub text_of : List ScriptLine → List ℕ
text_of ls = lines_text (map spelling ls)

-- a `take` line for each of so many buffers
abbrev pub take_lines : ℕ → List ScriptLine
take_lines n = replicate n line.take
