-- Laws of the script that is made, which `src/laws.rt` proves.
use Rattle.std.specs.Prelude.{◌≡◌, ℕ, ◌<◌, ◌^◌, All, Ok}
use Rattle.lossy_queue.specs.declared.rates.Rates.{Rates}
use Rattle.gev_script.specs.Lines.{ScriptLine}
use Rattle.gev_script.specs.Grammar.{line_of}
use Rattle.gev_script.specs.Spelling.{spelling, IsScriptLine}
use Rattle.gev_make.specs.MakeText.{make_lines}

-- The line is one of a script, and its spelling is read as that line.
pub record IsReadAgain (l : ScriptLine) : Type 0 where
  pub is_line : IsScriptLine l
  pub read : line_of (spelling l) ≡ Ok l

-- Each line that is made is one of a script, and is read again as it was meant.
abbrev pub MadeLinesAreRead : Type 0
MadeLinesAreRead = (seed frames : ℕ) (rates : Rates) → frames < 2 ^ 32 → All IsReadAgain (make_lines seed frames rates)
