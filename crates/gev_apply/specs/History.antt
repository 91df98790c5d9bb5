-- The application's part in the whole history of a live run.
use Rattle.std.specs.Prelude.{◌≡◌, ℕ, Bool, true, false, List, [], ◌∷◌, ◌++◌, Option, Result}
use Rattle.board_machine.specs.declared.events.Entry.{Entry}
use Rattle.board_machine.specs.declared.events.Event.{Event}
use Rattle.board_machine.specs.declared.events.Event.TheVariants.{Stop}
use Rattle.board_machine.specs.Histories.{Run, own_of}
use Rattle.board_machine.specs.Handout.{taken_items}
use Rattle.board_machine.specs.Adding.{entries_of}
use Rattle.board_machine.specs.Places.{IsPrefix}
use Rattle.buffer_words.specs.Passes.{Token, Enters, own}
use Rattle.gev_apply.specs.TakenIds.{taken_ids}
use Rattle.gev_apply.specs.Looks.{Looked, LookEach, lent_in, items_of, ids_of}
use Rattle.gev_apply.specs.Applied.{Looks}

-- The pass stopped the run, where it had to, and did nothing more.
abbrev pub StopsAfter : Bool → Token → Token → Type 0
StopsAfter true t u = (answer : Result (Unit {0}) ℕ) × Enters t (Stop false answer) u
StopsAfter false t u = u ≡ t

-- One stop of the run, where there had to be one, and else no event.
abbrev pub IsStopAfter : Bool → List Event → Type 0
IsStopAfter true stops = (answer : Result (Unit {0}) ℕ) × (stops ≡ Stop false answer ∷ [])
IsStopAfter false stops = stops ≡ []

-- All entries of actor n are those of these turns, and behind them, just where `stopped` is true, one stop of the run.
-- What it took out of the output in this history, with the bytes and the record of its fill, are the turns' buffers in
-- order, each with its id.
pub record LiveTakes (n : ℕ) (stopped : Bool) (made : List Looked) (h : List Entry) : Type 0 where
  pub looked : List Event
  pub looks : LookEach made looked
  pub stops : List Event
  pub are_stops : IsStopAfter stopped stops
  pub own : own_of n h ≡ entries_of n (looked ++ stops)
  pub taken : taken_items n h ≡ items_of (lent_in made)
  pub ids : taken_ids n h ≡ ids_of (lent_in made)

-- The application's part is so in each history that begins with what it has seen and has no further entry of it.
abbrev pub ApplicationsPartStays : Type 0
ApplicationsPartStays =
    (told now : Option (List ℕ)) (made : List Looked) (stopped : Bool) (s t u : Token) (h : List Entry) → Looks told now made s t → StopsAfter stopped t u
    → own s ≡ [] → Run h → IsPrefix u.seen h → own_of s.number h ≡ own u → LiveTakes s.number stopped made h
