-- How the code writes a script.
use Rattle.std.specs.Prelude.{◌≡◌, ℕ, List, ◌++◌, Bool}
use Rattle.capture_script.specs.Standing.{PlayingState, StandsAt}
use Rattle.capture_script.specs.Script.{Scripted, Written, Lines, text_of}

pub record ScriptingState : Type 0 where
  pub port : ℕ
  pub playing : PlayingState
  pub moment : ℕ

-- It stands so behind the lines.
pub record StandsFor (now : ScriptingState) (s : Scripted) : Type 0 where
  pub port : now.port ≡ s.port
  pub p : now.playing.p ≡ s.p
  pub size : now.playing.size ≡ s.size
  pub played : StandsAt now.playing s.played
  pub moment : now.moment ≡ s.moment

-- These lines were added.
pub record AddsLines (lines : Lines) (new : ScriptingState) (text text_new : List ℕ) : Type 0 where
  pub stands : StandsFor new lines.after
  pub text_is : text_new ≡ text ++ text_of lines.lines

-- It stands so, and so it's known whether a `d` line is written.
pub record IsWritten (now : ScriptingState) (told : Bool) (w : Written) : Type 0 where
  pub stands : StandsFor now w.script
  pub told_is : told ≡ w.told
