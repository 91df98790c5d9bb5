-- Three workers and lanes that a pass split off. It joined the workers again, of which one had joined the lanes.
use Rattle.std.specs.Prelude.{◌≡◌, ℕ, List, []}
use Rattle.board_machine.specs.Machine.{IsActor}
use Rattle.board_machine.specs.Histories.{Run, After}
use Rattle.board_machine.specs.Actors.{born}
use Rattle.buffer_words.specs.Passes.{Token, own}
use Rattle.live_crew.specs.Homes.{CameHome}
use Rattle.live_crew.specs.HomeLaws.{SplitsEach}

-- The first actor's pass, which had split nobody off, split one off for each lane from the token s on up to the token
-- off, and then three, and joined the three again up to the token u, in the same order.
pub record LanesHome (s off one two three home back u a worked_a b worked_b d worked_d : Token) (lanes : List ℕ) : Type 0 where
  pub number : s.number ≡ 0
  pub run : Run s.seen
  pub childless : born (own s) ≡ []
  pub lanes_off : SplitsEach s lanes off
  pub first : CameHome off one a worked_a three home
  pub second : CameHome one two b worked_b home back
  pub third : CameHome two three d worked_d back u
  pub ended_run : Run u.seen
  pub actor : IsActor (After u.seen) u.number
