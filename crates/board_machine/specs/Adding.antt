-- What one actor adds to a board: an entry, or an entry for each event of a list.
use Rattle.std.specs.Prelude.{◌≡◌, ℕ, List, [], ◌∷◌}
use Rattle.board_machine.specs.declared.events.Entry.{Entry}
use Rattle.board_machine.specs.declared.events.Event.{Event}
use Rattle.board_machine.specs.Machine.{Board, IsActor, CanBeNext, entry, next}
use Rattle.board_machine.specs.Histories.{after_from, RunsFrom}

-- Actor k's act with this answer can be the next one on the board, and leaves the new board.
pub record AddsEntry (b : Board) (k : ℕ) (event : Event) (new : Board) : Type 0 where
  pub may : CanBeNext b (entry k event)
  pub after : new ≡ next b (entry k event)

-- the entries of actor k with these events
abbrev pub entries_of : ℕ → List Event → List Entry
entries_of k [] = []
entries_of k (e ∷ es) = entry k e ∷ entries_of k es

-- Actor k adds an entry for each of these events, with the machine's answers, and nothing comes between.
pub record Adds (b : Board) (k : ℕ) (es : List Event) (new : Board) : Type 0 where
  pub runs : RunsFrom b (entries_of k es)
  pub after : new ≡ after_from b (entries_of k es)

-- Every actor of the one board is an actor of the other.
abbrev pub KeepsActors : Board → Board → Type 0
KeepsActors b new = (n : ℕ) → IsActor b n → IsActor new n

-- Actor k adds a list of events that is of this kind, and every actor stays one.
pub record AddsOf (b : Board) (k : ℕ) (Kind : List Event → Type 0) (new : Board) : Type 0 where
  pub events : List Event
  pub kind : Kind events
  pub adds : Adds b k events new
  pub actors : KeepsActors b new
