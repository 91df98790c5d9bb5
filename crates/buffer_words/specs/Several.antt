-- Calls that add several entries: what they add, and how calls that follow one another compose.
use Rattle.std.specs.Prelude.{◌≡◌, ℕ, List, [], ◌∷◌, ◌++◌}
use Rattle.board_machine.specs.declared.events.Entry.{Entry}
use Rattle.board_machine.specs.declared.events.Event.{Event}
use Rattle.board_machine.specs.Machine.{entry}
use Rattle.board_machine.specs.Histories.{Run, After, own_of}
use Rattle.board_machine.specs.Adding.{entries_of}
use Rattle.board_machine.specs.Actors.{born_by}
use Rattle.board_machine.specs.Laws.{IsAlone}
use Rattle.buffer_words.specs.Passes.{Token, Enters, GrowsTo, Stays}

-- The last of these entries is that of actor n's last event; where there is no event there is no entry.
abbrev pub EndsWith : ℕ → List Event → List Entry → Type 0
EndsWith n [] between = between ≡ []
EndsWith n (event ∷ []) between = (front : List Entry) × (between ≡ front ++ entry n event ∷ [])
EndsWith n (event ∷ later ∷ events) between = EndsWith n (later ∷ events) between

-- Nothing but actor n's entries with these events was added, and it's alone still.
pub record AddsAlone (n : ℕ) (events : List Event) (between seen : List Entry) : Type 0 where
  pub only : between ≡ entries_of n events
  pub alone : IsAlone (After seen) n

-- The call adds an entry for each of these events, in order. Others' entries may stand between them, and
-- none where the pass is alone.
pub record EntersEach (s : Token) (events : List Event) (t : Token) : Type 0 where
  pub table : t.table ≡ s.table
  pub number : t.number ≡ s.number
  pub between : List Entry
  pub seen : t.seen ≡ s.seen ++ between
  pub own : own_of s.number between ≡ entries_of s.number events
  pub last : EndsWith s.number events between
  pub alone : IsAlone (After s.seen) s.number → AddsAlone s.number events between t.seen
  pub run : Run s.seen → Run t.seen

-- The call adds entries whose events, in order, are of this kind.
pub record EntersOf (s : Token) (Kind : List Event → Type 0) (t : Token) : Type 0 where
  pub events : List Event
  pub kind : Kind events
  pub enters : EntersEach s events t

-- The same, and after its last entry the call may have seen more of others'.
pub record EntersThen (s : Token) (Kind : List Event → Type 0) (t : Token) : Type 0 where
  pub middle : Token
  pub enters : EntersOf s Kind middle
  pub grows : GrowsTo middle t

-- the event adds no actor
abbrev pub BearsNobody : Event → Type 0
BearsNobody event = born_by event ≡ []

abbrev pub BearNone : List Event → Type 0
BearNone [] = Unit {0}
BearNone (event ∷ events) = BearsNobody event × BearNone events

-- A call that does nothing adds no entry;
abbrev pub NothingAddsNone : Type 0
NothingAddsNone = (s t : Token) → Stays s t → EntersEach s [] t

-- a call that adds one entry adds it;
abbrev pub OneAddsOne : Type 0
OneAddsOne = (s t : Token) (event : Event) → Enters s event t → BearsNobody event → EntersEach s (event ∷ []) t

-- and of two calls the second adds its entries after the first one's.
abbrev pub BothAddBoth : Type 0
BothAddBoth = (s t u : Token) (es fs : List Event) → EntersEach s es t → EntersEach t fs u → EntersEach s (es ++ fs) u
