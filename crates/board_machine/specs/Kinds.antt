-- Histories that have no act of a kind, and those whose takes are one actor's.
use Rattle.std.specs.Prelude.{◌≡◌, ℕ, Bool, true, false, List, [], ◌∷◌}
use Rattle.board_machine.specs.declared.events.Entry.{Entry}
use Rattle.board_machine.specs.declared.events.Event.{Event}
use Rattle.board_machine.specs.declared.events.Event.TheVariants.{Fill, Take, Close, Stop}
use Rattle.board_machine.specs.declared.events.TakeEnd.TheVariants.{Taken}

abbrev pub is_close : Event → Bool
is_close Close = true
is_close _ = false

-- a stop, also one that found the acquisition stopped
abbrev pub is_stop : Event → Bool
is_stop (Stop kill answer) = true
is_stop _ = false

-- a fill that put its buffer into the output
abbrev pub is_filled : Event → Bool
is_filled (Fill place filling true) = true
is_filled _ = false

-- a fill that found the close mark
abbrev pub is_fill_refused : Event → Bool
is_fill_refused (Fill place filling false) = true
is_fill_refused _ = false

-- a take that got a buffer
abbrev pub is_taken : Event → Bool
is_taken (Take (Taken place)) = true
is_taken _ = false

-- No entry is of this kind.
abbrev pub HasNone : (Event → Bool) → List Entry → Type 0
HasNone kind [] = Unit {0}
HasNone kind (e ∷ es) = (kind e.event ≡ false) × HasNone kind es

-- Each take that got a buffer is actor k's.
abbrev pub TakesAreBy : ℕ → List Entry → Type 0
TakesAreBy k [] = Unit {0}
TakesAreBy k (e ∷ es) = (is_taken e.event ≡ true → e.by ≡ k) × TakesAreBy k es
