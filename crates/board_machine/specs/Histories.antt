-- Histories: lists of entries, first in first, and those that the machine can make.
use Rattle.std.specs.Prelude.{◌≡◌, ℕ, ◌+◌, ◌==◌, cond, List, [], ◌∷◌}
use Rattle.board_machine.specs.declared.events.Entry.{Entry}
use Rattle.board_machine.specs.declared.events.Event.{Event}
use Rattle.board_machine.specs.declared.events.Event.TheVariants.{Split}
use Rattle.board_machine.specs.Machine.{Board, CanBeNext, next, empty_board}

-- the board after these entries
abbrev pub after_from : Board → List Entry → Board
after_from b [] = b
after_from b (e ∷ es) = after_from (next b e) es

-- Each entry can be the next one on the board that those before it leave.
abbrev pub RunsFrom : Board → List Entry → Type 0
RunsFrom b [] = Unit {0}
RunsFrom b (e ∷ es) = CanBeNext b e × RunsFrom (next b e) es

abbrev pub After : List Entry → Board
After h = after_from empty_board h

-- Each answer is the one that the machine gives after the entries before it.
abbrev pub Run : List Entry → Type 0
Run h = RunsFrom empty_board h

-- the entries of actor k
abbrev pub own_of : ℕ → List Entry → List Entry
own_of k [] = []
own_of k (e ∷ es) = cond (e.by == k) (e ∷ own_of k es) (own_of k es)

-- how many actors an event adds
abbrev pub split_by : Event → ℕ
split_by (Split n) = 1
split_by _ = 0

-- how many splits a history has
abbrev pub splits : List Entry → ℕ
splits [] = 0
splits (e ∷ es) = split_by e.event + splits es

-- the board is the one that this history leaves
pub record StandsFor (b : Board) (h : List Entry) : Type 0 where
  pub run : Run h
  pub state : b ≡ After h
