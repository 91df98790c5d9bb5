-- What holds of every run, stated over the definitions.
use Rattle.std.specs.Prelude.{◌≡◌, ◌≢◌, ◌↔◌, ◌⊎◌, ℕ, ◌+◌, ◌<◌, ◌≤◌, false, List, [], ◌∷◌, ◌++◌, length, drop, Some}
use Rattle.gentl_types.specs.declared.word.Word.{Word}
use Rattle.board_machine.specs.declared.events.Entry.{Entry}
use Rattle.board_machine.specs.declared.events.Event.{Event}
use Rattle.board_machine.specs.declared.events.Event.TheVariants.{Claim, Take, Split, Join}
use Rattle.board_machine.specs.declared.events.TakeEnd.TheVariants.{Taken}
use Rattle.gev_types.specs.Filling.{Filling}
use Rattle.gev_types.specs.Limits.{place_count}
use Rattle.board_machine.specs.Places.{times, IsRising}
use Rattle.board_machine.specs.Machine.{Board, Item, item, word_at, hand_at, hand, places, no_actor, empty_hands, IsActor, InHand, Meets, CanBeNext, next}
use Rattle.board_machine.specs.Histories.{Run, After, own_of, splits, StandsFor}
use Rattle.board_machine.specs.Adding.{Adds, entries_of}
use Rattle.board_machine.specs.Actors.{BearOnly, AllBy, ActorsIn, IsNeverJoined}
use Rattle.board_machine.specs.Kinds.{is_close, is_stop, is_filled, is_fill_refused, HasNone, TakesAreBy}
use Rattle.board_machine.specs.Sizes.{KeepsBuffer, BringOneSize, HaveOneSize}
use Rattle.board_machine.specs.Owners.{IsOwned, IsCounted}
use Rattle.board_machine.specs.Handout.{filled, removed, handed, removed_items, handed_items, taken_items, IsLegal}
use Rattle.board_machine.specs.Acts.{Act, MayStand, Answers, OneAnswer}

-- the number was given to an actor, which was joined into another since
pub record IsEnded (b : Board) (n : ℕ) : Type 0 where
  pub given : n < length b.hands
  pub ended : hand_at b n ≡ no_actor

-- k is the only actor
pub record IsAlone (b : Board) (k : ℕ) : Type 0 where
  pub actor : IsActor b k
  pub only : (n : ℕ) → IsActor b n → n ≡ k

-- From the old word to the new one the generation doesn't fall, and where it stays the size stays.
pub record Renews (old new : Word) : Type 0 where
  pub rises : old.generation ≤ new.generation
  pub one_size : new.generation ≡ old.generation → new.size ≡ old.size

-- An act of one actor leaves another actor's hands, and the words of the places in them.
pub record LeavesOthers (b : Board) (e : Entry) (n : ℕ) : Type 0 where
  pub hands : hand (next b e) n ≡ hand b n
  pub words : (i : ℕ) → InHand b n i → word_at (next b e) i ≡ word_at b i
  pub actor : IsActor b n → e.event ≢ Join n → hand_at (next b e) n ≡ hand_at b n

-- The pool and the hands of each actor are rising lists of places.
pub record AreRising (b : Board) : Type 0 where
  pub pool : IsRising b.pool
  pub hands : (k : ℕ) → IsRising (hand b k)

-- What was removed is the front of what was filled, place by place, and what was taken, by all actors
-- or by one, is a part of it; the output is the rest.
pub record HandsOut (h : List Entry) : Type 0 where
  pub fills : places (removed_items h) ≡ removed h
  pub takes : places (handed_items h) ≡ handed h
  pub own_takes : (k : ℕ) → places (taken_items k h) ≡ handed (own_of k h)
  pub waiting : (After h).out ≡ drop (length (removed h)) (filled h)

-- Each act that may stand has one answer,
abbrev pub EachActHasOneAnswer : Type 0
EachActHasOneAnswer = (b : Board) (k : ℕ) (a : Act) → MayStand b k a → OneAnswer b k a

-- and any other act has none.
abbrev pub NoOtherActHasAnswer : Type 0
NoOtherActHasAnswer = (b : Board) (k : ℕ) (a : Act) (event : Event) → Answers b k a event → MayStand b k a

abbrev pub OwnersAreCounted : Type 0
OwnersAreCounted = (b : Board) → IsOwned b ↔ IsCounted b

abbrev pub EachActKeepsOwners : Type 0
EachActKeepsOwners = (b : Board) (e : Entry) → IsOwned b → CanBeNext b e → IsOwned (next b e)

-- at each prefix of a run
abbrev pub RunsAreOwned : Type 0
RunsAreOwned = (h front rest : List Entry) → Run h → h ≡ front ++ rest → IsOwned (After front)

abbrev pub RunsAreLegal : Type 0
RunsAreLegal = (h : List Entry) → Run h → IsLegal h

abbrev pub RunsHandOut : Type 0
RunsHandOut = (h : List Entry) → Run h → HandsOut h

-- A take hands its actor the output's first entry, with the bytes and the record of its fill.
pub record TakesFirst (h : List Entry) (i : ℕ) (e : Entry) : Type 0 where
  pub filling : Filling
  pub rest : List Item
  pub first : (After h).out ≡ item i filling ∷ rest
  pub removes : removed_items (h ++ e ∷ []) ≡ removed_items h ++ item i filling ∷ []
  pub hands : handed_items (h ++ e ∷ []) ≡ handed_items h ++ item i filling ∷ []
  pub taken : taken_items e.by (h ++ e ∷ []) ≡ taken_items e.by h ++ item i filling ∷ []

abbrev pub TakesHandFirst : Type 0
TakesHandFirst = (h : List Entry) (e : Entry) (i : ℕ) → Run (h ++ e ∷ []) → e.event ≡ Take (Taken i) → TakesFirst h i e

abbrev pub ActsLeaveOthers : Type 0
ActsLeaveOthers = (b : Board) (e : Entry) (n : ℕ) → IsOwned b → CanBeNext b e → n ≢ e.by → LeavesOthers b e n

-- the number was no actor's, and is that of an actor with empty hands
pub record AddsActor (b : Board) (e : Entry) (n : ℕ) : Type 0 where
  pub new : hand_at b n ≡ no_actor
  pub empty : hand_at (next b e) n ≡ empty_hands

abbrev pub SplitsAddActors : Type 0
SplitsAddActors = (b : Board) (e : Entry) (n : ℕ) → CanBeNext b e → e.event ≡ Split n → AddsActor b e n

-- there is one number for the first actor and one for each split
abbrev pub SplitsAreCounted : Type 0
SplitsAreCounted = (h : List Entry) → Run h → length (After h).hands ≡ splits h + 1

abbrev pub JoinsEndActors : Type 0
JoinsEndActors = (b : Board) (e : Entry) (n : ℕ) → CanBeNext b e → e.event ≡ Join n → IsEnded (next b e) n

-- an actor that ended has no entry after that
abbrev pub EndedActorsDoNothing : Type 0
EndedActorsDoNothing = (front rest : List Entry) (n : ℕ) → Run (front ++ rest) → IsEnded (After front) n → own_of n rest ≡ []

-- where an actor is the only one, the next entry of any run is its own
abbrev pub LoneActorsActNext : Type 0
LoneActorsActNext = (h : List Entry) (e : Entry) (k : ℕ) → Run (h ++ e ∷ []) → IsAlone (After h) k → e.by ≡ k

abbrev pub GenerationsNeverFall : Type 0
GenerationsNeverFall = (front rest : List Entry) (i : ℕ) → Run (front ++ rest) → Renews (word_at (After front) i) (word_at (After (front ++ rest)) i)

abbrev pub PlacesRise : Type 0
PlacesRise = (h : List Entry) → Run h → AreRising (After h)

-- a claim gets the lowest place of the pool
abbrev pub ClaimsAreLowest : Type 0
ClaimsAreLowest = (h : List Entry) (k i j : ℕ) → Run h → Meets (After h) k (Claim (Some i)) → 1 ≤ times j (After h).pool → i ≤ j

-- what is in hand after a run is a place
abbrev pub HandsHoldPlaces : Type 0
HandsHoldPlaces = (h : List Entry) (k i : ℕ) → Run h → InHand (After h) k i → i < place_count

-- an actor stays one by its own act
abbrev pub ActorsStay : Type 0
ActorsStay = (b : Board) (e : Entry) → CanBeNext b e → IsActor (next b e) e.by

-- An act leaves every actor an actor, but for one that it joins into another.
abbrev pub OnlyJoinsEnd : Type 0
OnlyJoinsEnd = (b : Board) (e : Entry) (n : ℕ) → CanBeNext b e → IsActor b n → e.event ≢ Join n → IsActor (next b e) n

-- an actor was one before, or was born by a split
abbrev pub ActorsAreBorn : Type 0
ActorsAreBorn = (b : Board) (e : Entry) (n : ℕ) → CanBeNext b e → IsActor (next b e) n → IsActor b n ⊎ (e.event ≡ Split n)

-- a number that wasn't given yet has no entry
abbrev pub UnbornDoNothing : Type 0
UnbornDoNothing = (h : List Entry) (n : ℕ) → Run h → length (After h).hands ≤ n → own_of n h ≡ []

-- a lone actor stays alone while it splits nobody
abbrev pub LoneActorsStayAlone : Type 0
LoneActorsStayAlone = (b : Board) (e : Entry) → CanBeNext b e → IsAlone b e.by → ((n : ℕ) → e.event ≢ Split n) → IsAlone (next b e) e.by

abbrev pub RunWordIsSmall : Type 0
RunWordIsSmall = (h : List Entry) → (After h).run ≤ 2

-- An actor's hands, and the words of the places in them, are as they were.
pub record KeepsHands (b new : Board) (n : ℕ) : Type 0 where
  pub hands : hand_at new n ≡ hand_at b n
  pub words : (i : ℕ) → InHand b n i → word_at new i ≡ word_at b i

-- entries of others leave the hands of an actor that isn't joined
abbrev pub OthersLeaveHands : Type 0
OthersLeaveHands = (front between : List Entry) (n : ℕ) → Run (front ++ between) → IsActor (After front) n
    → own_of n between ≡ [] → IsNeverJoined n between → KeepsHands (After front) (After (front ++ between)) n

-- Each entry is one of these actors', and so is every actor at the end.
pub record OnlyTheseAct (ks : List ℕ) (h : List Entry) : Type 0 where
  pub entries : AllBy ks h
  pub actors : ActorsIn ks (After h)

-- where some actors, the first one among them, bear only each other, all entries are theirs
abbrev pub EntriesAreTheirs : Type 0
EntriesAreTheirs = (ks : List ℕ) (h : List Entry) → Run h → 1 ≤ times 0 ks → BearOnly ks h → OnlyTheseAct ks h

-- an act, its holder's own too, leaves size and generation of what an actor holds
abbrev pub HeldBuffersStay : Type 0
HeldBuffersStay = (b : Board) (e : Entry) (k i : ℕ) → IsOwned b → CanBeNext b e → InHand b k i → KeepsBuffer (word_at b i) (word_at (next b e) i)

-- where each buffer that was brought has one size, each word that isn't Vacant has it
abbrev pub OneSizeStays : Type 0
OneSizeStays = (h : List Entry) (size : ℕ) → Run h → BringOneSize size h → HaveOneSize size (After h)

-- where an actor took nothing more, it has taken what it had
abbrev pub OnlyOwnTakesCount : Type 0
OnlyOwnTakesCount = (front more : List Entry) (k : ℕ) → Run (front ++ more) → handed (own_of k more) ≡ [] → taken_items k (front ++ more) ≡ taken_items k front

-- where an open stream isn't closed, no fill is refused
abbrev pub OpenStreamsTakeFills : Type 0
OpenStreamsTakeFills = (front later : List Entry) → Run (front ++ later) → (After front).closed ≡ false → HasNone is_close later → HasNone is_fill_refused later

-- where a started acquisition isn't stopped, it stays started
abbrev pub RunWordStays : Type 0
RunWordStays = (front later : List Entry) → (After front).run ≡ 1 → HasNone is_stop later → (After (front ++ later)).run ≡ 1

-- where an empty output isn't filled, it stays empty
abbrev pub EmptyOutputStays : Type 0
EmptyOutputStays = (front later : List Entry) → (After front).out ≡ [] → HasNone is_filled later → (After (front ++ later)).out ≡ []

-- where all takes are one actor's, what it took is what was handed out
abbrev pub HandedAreOwn : Type 0
HandedAreOwn = (k : ℕ) (h : List Entry) → TakesAreBy k h → taken_items k h ≡ handed_items h

-- A board that stands for a history stands, after one more entry that can be the next one, for the history with it;
abbrev pub HistoriesGrow : Type 0
HistoriesGrow = (b : Board) (h : List Entry) (e : Entry) → StandsFor b h → CanBeNext b e → StandsFor (next b e) (h ++ e ∷ [])

-- and after a list of one actor's events, for the history with their entries.
abbrev pub HistoriesGrowByLists : Type 0
HistoriesGrowByLists = (b new : Board) (h : List Entry) (k : ℕ) (es : List Event) → StandsFor b h → Adds b k es new → StandsFor new (h ++ entries_of k es)
