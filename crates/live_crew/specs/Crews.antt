-- Workers as threads: each gets a pass that was split off for it and gives it back, and then it's joined.
use Rattle.std.specs.Prelude.{◌≡◌, []}
use Rattle.atomic_table.specs.Seated.{TableId}
use Rattle.board_machine.specs.Machine.{IsActor}
use Rattle.board_machine.specs.Histories.{Run, After}
use Rattle.board_machine.specs.Owners.{IsOwned}
use Rattle.board_machine.specs.Handout.{IsLegal}
use Rattle.buffer_words.specs.Passes.{Token, own, IsEmptyHanded}
use Rattle.live_crew.specs.Homes.{CameHome}

-- A pass of this board that did nothing yet.
pub record IsNewPass (board : TableId) (p : Token) : Type 0 where
  pub table : p.table ≡ board
  pub unborn : own p ≡ []
  pub empty : IsEmptyHanded p

-- It's the same pass, with nothing in its hands.
pub record ComesBack (p q : Token) : Type 0 where
  pub table : q.table ≡ p.table
  pub number : q.number ≡ p.number
  pub empty : IsEmptyHanded q

-- Two passes were split off from the token s on and joined up to the token u, in the same order. Each worker did with
-- its pass what `First` and `Second` say.
pub record RanTwo (First Second : Token → Token → Type 0) (s u : Token) : Type 0 where
  pub one : Token
  pub two : Token
  pub home : Token
  pub a : Token
  pub worked_a : Token
  pub b : Token
  pub worked_b : Token
  pub run : Run s.seen
  pub first : CameHome s one a worked_a two home
  pub second : CameHome one two b worked_b home u
  pub did_first : First a worked_a
  pub did_second : Second b worked_b
  pub ended_run : Run u.seen
  pub actor : IsActor (After u.seen) u.number
  pub owned : IsOwned (After u.seen)
  pub legal : IsLegal u.seen

-- The same of three.
pub record RanThree (First Second Third : Token → Token → Type 0) (s u : Token) : Type 0 where
  pub one : Token
  pub two : Token
  pub three : Token
  pub home : Token
  pub back : Token
  pub a : Token
  pub worked_a : Token
  pub b : Token
  pub worked_b : Token
  pub d : Token
  pub worked_d : Token
  pub run : Run s.seen
  pub first : CameHome s one a worked_a three home
  pub second : CameHome one two b worked_b home back
  pub third : CameHome two three d worked_d back u
  pub did_first : First a worked_a
  pub did_second : Second b worked_b
  pub did_third : Third d worked_d
  pub ended_run : Run u.seen
  pub actor : IsActor (After u.seen) u.number
  pub owned : IsOwned (After u.seen)
  pub legal : IsLegal u.seen
