-- How the code plays.
use Rattle.std.specs.Prelude.{◌≡◌, ℕ, List, ◌++◌, length, Some}
use Rattle.acquisition_machine.specs.Blocks.{fills}
use Rattle.acquisition_machine.specs.Machine.{Input, claimed}
use Rattle.acquisition_machine.specs.Runs.{After, retired_from}
use Rattle.take_lines.specs.Players.{PlayerState, Took}
use Rattle.capture_script.specs.Playing.{Played, Line, config}

-- These inputs came, and so many buffers were filled.
pub record Plays (p : ℕ) (q is : List Input) (player : PlayerState) (filled : ℕ) : Type 0 where
  pub stands : Took player (q ++ is)
  pub filled_is : filled ≡ length (fills p (retired_from (config p) (After (config p) q) is))

-- A line was played, and so many buffers were filled.
pub record Hears (line : Line) (player : PlayerState) (top filled : ℕ) : Type 0 where
  pub stands : Took player line.after.inputs
  pub top_is : top ≡ line.after.top
  pub filled_is : filled ≡ line.filled

-- the outcome of a claim that finds a buffer
abbrev pub found : ℕ → Input
found size = claimed (Some (record { place = 0; size = size }))

-- what callers know of a playing acquisition
pub record PlayingState : Type 0 where
  pub player : PlayerState
  pub p : ℕ
  pub size : ℕ
  pub top : ℕ

-- It has played so.
pub record StandsAt (s : PlayingState) (played : Played) : Type 0 where
  pub stands : Took s.player played.inputs
  pub top : s.top ≡ played.top

-- A line was played, and so many buffers were filled.
pub record PlaysLine (line : Line) (old new : PlayingState) (filled : ℕ) : Type 0 where
  pub stands : StandsAt new line.after
  pub filled_is : filled ≡ line.filled
  pub p : new.p ≡ old.p
  pub size : new.size ≡ old.size
