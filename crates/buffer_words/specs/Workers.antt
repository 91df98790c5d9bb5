-- Whose the entries of a history are, where the first actor's pass splits workers off and joins them again:
-- each worker does acts of its kind, and the host acts of its own kind.
use Rattle.std.specs.Prelude.{◌≡◌, ◌⊎◌, ℕ, ◌≤◌, Bool, true, false, List, [], ◌∷◌, ◌++◌}
use Rattle.board_machine.specs.declared.events.Entry.{Entry}
use Rattle.board_machine.specs.declared.events.Event.{Event}
use Rattle.board_machine.specs.declared.events.Event.TheVariants.{Split}
use Rattle.board_machine.specs.Places.{times}
use Rattle.board_machine.specs.Histories.{Run, After, own_of}
use Rattle.board_machine.specs.Actors.{born, AllBy}
use Rattle.board_machine.specs.Laws.{IsEnded, IsAlone}
use Rattle.buffer_words.specs.Passes.{Token}

-- Each of these entries is of the kind.
abbrev pub AreOf : (Event → Bool) → List Entry → Type 0
AreOf kind [] = Unit {0}
AreOf kind (e ∷ es) = (kind e.event ≡ true) × AreOf kind es

-- Each of these events is of the kind.
abbrev pub AreEvents : (Event → Bool) → List Event → Type 0
AreEvents kind [] = Unit {0}
AreEvents kind (event ∷ events) = (kind event ≡ true) × AreEvents kind events

-- Each of these entries that is of the kind is by one of these actors.
abbrev pub OnlyBy : (Event → Bool) → List ℕ → List Entry → Type 0
OnlyBy kind ks [] = Unit {0}
OnlyBy kind ks (e ∷ es) = (kind e.event ≡ true → 1 ≤ times e.by ks) × OnlyBy kind ks es

-- no event is of both kinds
abbrev pub AreApart : (Event → Bool) → (Event → Bool) → Type 0
AreApart one other = (event : Event) → one event ≡ true → other event ≡ false

-- an actor that does only acts of this kind splits nobody off
abbrev pub IsChildless : (Event → Bool) → Type 0
IsChildless kind = (n : ℕ) → kind (Split n) ≡ false

-- The pass has seen more, and each entry of its own in it is of the kind.
pub record Works (kind : Event → Bool) (s t : Token) : Type 0 where
  pub table : t.table ≡ s.table
  pub number : t.number ≡ s.number
  pub between : List Entry
  pub seen : t.seen ≡ s.seen ++ between
  pub of_kind : AreOf kind (own_of s.number between)

-- A worker that was joined: the number of its pass, the kind of its acts, and all its entries.
pub record Worker : Type 0 where
  pub number : ℕ
  pub kind : Event → Bool
  pub did : List Entry

abbrev pub numbers : List Worker → List ℕ
numbers [] = []
numbers (w ∷ ws) = w.number ∷ numbers ws

-- The worker's actor has ended in this history, whose entries by it are what it did, each of its kind.
pub record IsHome (seen : List Entry) (w : Worker) : Type 0 where
  pub ended : IsEnded (After seen) w.number
  pub did : own_of w.number seen ≡ w.did
  pub of_kind : AreOf w.kind w.did

abbrev pub AreHome : List Entry → List Worker → Type 0
AreHome seen [] = Unit {0}
AreHome seen (w ∷ ws) = IsHome seen w × AreHome seen ws

-- A pass of the first actor, the host, which began when it had seen `front` and had split nobody off: since
-- then its own acts are of a kind, it has split off these numbers in this order, and has joined these workers,
-- the last one first.
pub record Hosts (front : List Entry) (kind : Event → Bool) (s : Token) (away : List ℕ) (home : List Worker) : Type 0 where
  pub number : s.number ≡ 0
  pub run : Run s.seen
  pub since : List Entry
  pub seen : s.seen ≡ front ++ since
  pub of_kind : AreOf kind (own_of 0 since)
  pub bore : born (own_of 0 s.seen) ≡ away
  pub are_home : AreHome s.seen home

-- each of these workers splits nobody off
abbrev pub AreChildless : List Worker → Type 0
AreChildless [] = Unit {0}
AreChildless (w ∷ ws) = IsChildless w.kind × AreChildless ws

-- Each of these workers is one of these actors, or does nothing of the kind.
abbrev pub OthersAreApart : (Event → Bool) → List ℕ → List Worker → Type 0
OthersAreApart kind ks [] = Unit {0}
OthersAreApart kind ks (w ∷ ws) = ((1 ≤ times w.number ks) ⊎ AreApart w.kind kind) × OthersAreApart kind ks ws

-- Each worker that was split off is home, and no other actor ever acted: each entry is the host's or a
-- worker's, the host is alone, and what only some of them do is by those alone.
pub record HostedAll (front : List Entry) (kind : Event → Bool) (seen : List Entry) (home : List Worker) : Type 0 where
  pub entries : AllBy (0 ∷ numbers home) seen
  pub alone : IsAlone (After seen) 0
  pub since : List Entry
  pub seen_since : seen ≡ front ++ since
  pub only : (part : Event → Bool) (ks : List ℕ) → ((1 ≤ times 0 ks) ⊎ AreApart kind part) → OthersAreApart part ks home → OnlyBy part ks since
