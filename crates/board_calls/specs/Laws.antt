-- Laws of the buffer handling modes, which `src/laws.rt` proves.
use Rattle.std.specs.Prelude.{◌≡◌, ◌⊎◌, ◌↔◌, ℕ, ◌+◌, Bool, true, List, [], ◌∷◌, ◌++◌, length, Option, Some, None}
use Rattle.gev_types.specs.Filling.{Filling}
use Rattle.board_machine.specs.declared.events.Entry.{Entry}
use Rattle.board_machine.specs.declared.events.Event.{Event}
use Rattle.board_machine.specs.declared.events.Event.TheVariants.{Claim, Take}
use Rattle.board_machine.specs.declared.events.TakeEnd.TheVariants.{Taken}
use Rattle.board_machine.specs.Places.{times}
use Rattle.board_machine.specs.Machine.{Board, Item, item, places, entry}
use Rattle.board_machine.specs.Histories.{Run, RunsFrom, after_from, own_of}
use Rattle.board_machine.specs.Adding.{entries_of}
use Rattle.board_machine.specs.Owners.{IsOwned}
use Rattle.board_machine.specs.Handout.{marks, removed}
use Rattle.board_calls.specs.declared.mode.Mode.{Mode}
use Rattle.board_calls.specs.declared.mode.Mode.TheVariants.{OldestFirst, OldestFirstOverwrite, NewestOnly}
use Rattle.board_calls.specs.Modes.{ClaimsFor, FillsFor}
use Rattle.board_calls.specs.Dropped.{dropped_items, handed_out_items, others, sweep_marks, swept_items, ExactlyOne}

-- Whoever acquires: of each place that left the output exactly one is true, that it was dropped, handed
-- out or swept; and each of them has its bytes and its record.
pub record IsSplit (acquires : ℕ → Bool) (h : List Entry) : Type 0 where
  pub wide : length (sweep_marks h) ≡ length (removed h)
  pub once : ExactlyOne (marks acquires h) (marks (others acquires) h) (sweep_marks h)
  pub counted : (i : ℕ) → times i (places (dropped_items acquires h)) + times i (places (handed_out_items acquires h)) + times i (places (swept_items h))
      ≡ times i (removed h)

abbrev pub EachRemovedIsOne : Type 0
EachRemovedIsOne = (acquires : ℕ → Bool) (h : List Entry) → Run h → IsSplit acquires h

-- The place was the output's first.
pub record WaitsLongest (b : Board) (i : ℕ) : Type 0 where
  pub filling : Filling
  pub rest : List Item
  pub first : b.out ≡ item i filling ∷ rest

-- ---- a claim on a board that others act on too

-- The two steps of a claim that took a buffer, and what others did before, between and behind them. The pool was empty at the first, and what
-- the second took waited longest then.
pub record TookAmongOthers (b : Board) (k i : ℕ) (h : List Entry) : Type 0 where
  pub before : List Entry
  pub between : List Entry
  pub behind : List Entry
  pub are : h ≡ before ++ entry k (Claim None) ∷ (between ++ entry k (Take (Taken i)) ∷ behind)
  pub of_others_before : own_of k before ≡ []
  pub of_others_between : own_of k between ≡ []
  pub of_others_behind : own_of k behind ≡ []
  pub no_pool : (after_from b before).pool ≡ []
  pub oldest : WaitsLongest (after_from b (before ++ entry k (Claim None) ∷ between)) i

-- A place that a claim took waited longest at the step of its take, whatever others did meanwhile.
abbrev pub ClaimsTakeOldest : Type 0
ClaimsTakeOldest =
    (mode : Mode) (b : Board) (k i : ℕ) (es : List Event) (h : List Entry) → ClaimsFor mode (Some (i, true)) es → RunsFrom b h
    → own_of k h ≡ entries_of k es → TookAmongOthers b k i h

-- ---- a call between whose steps nobody else acts

-- The pool was empty, and the place was the output's first.
pub record WasOldest (b : Board) (i : ℕ) : Type 0 where
  pub no_pool : b.pool ≡ []
  pub oldest : WaitsLongest b i

-- A place that a claim took waited longest when it began.
abbrev pub OldestIsDropped : Type 0
OldestIsDropped =
    (mode : Mode) (b : Board) (k i : ℕ) (es : List Event) → ClaimsFor mode (Some (i, true)) es → RunsFrom b (entries_of k es) → WasOldest b i

-- No buffer waits, or the stream is closed.
abbrev pub NoneWaits : Board → Type 0
NoneWaits b = (b.out ≡ []) ⊎ (b.closed ≡ true)

-- There is no buffer for a new block.
abbrev pub HasNothing : Mode → Board → Type 0
HasNothing OldestFirst b = b.pool ≡ []
HasNothing OldestFirstOverwrite b = (b.pool ≡ []) × NoneWaits b
HasNothing NewestOnly b = (b.pool ≡ []) × NoneWaits b

abbrev pub NothingIsClaimed : Type 0
NothingIsClaimed =
    (mode : Mode) (b : Board) (k : ℕ) (answer : Option (ℕ × Bool)) (es : List Event) → ClaimsFor mode answer es → RunsFrom b (entries_of k es)
    → (answer ≡ None) ↔ HasNothing mode b

-- All that waited was dropped, and the new entry waits alone.
pub record WaitsAlone (b : Board) (dropped : List ℕ) (i : ℕ) (f : Filling) (new : Board) : Type 0 where
  pub dropped_all : dropped ≡ places b.out
  pub alone : new.out ≡ item i f ∷ []

abbrev pub NewestIsAlone : Type 0
NewestIsAlone =
    (b : Board) (k i : ℕ) (f : Filling) (dropped : List ℕ) (es : List Event) → IsOwned b → FillsFor NewestOnly dropped i f true es
    → RunsFrom b (entries_of k es) → WaitsAlone b dropped i f (after_from b (entries_of k es))
