-- The parts of calls that go over several places.
use Rattle.std.specs.Prelude.{◌≡◌, ◌≢◌, ℕ, ◌+◌, Bool, true, false, List, [], ◌∷◌, ◌++◌, length, Option, Some, None, Result, Ok, Err}
use Rattle.gev_types.specs.Limits.{place_count}
use Rattle.gentl_types.specs.declared.buffer_id.BufferId.{BufferId}
use Rattle.gentl_types.specs.declared.word.Word.{Word}
use Rattle.gentl_types.specs.declared.word.State.TheVariants.{Held}
use Rattle.gev_types.specs.Filling.{Filling, empty_record}
use Rattle.board_machine.specs.declared.events.Event.{Event}
use Rattle.board_machine.specs.declared.events.Event.TheVariants.{Look, Enrol, Grab, Lay, Pool, Fill}

-- an enrol at each place from i on, refused by these words
abbrev pub refused_from : ℕ → ℕ → List Word → List Event
refused_from i size [] = []
refused_from i size (w ∷ words) = Enrol i size (Err w) ∷ refused_from (i + 1) size words

-- An enrol at each place below n is tried, from 0 on, and refused.
pub record RefusedBelow (n size : ℕ) (es : List Event) : Type 0 where
  pub words : List Word
  pub all : length words ≡ n
  pub is : es ≡ refused_from 0 size words

-- Each place is tried in turn, from 0 on, until one takes the buffer of this size.
abbrev pub EnrolsLowest : ℕ → Option BufferId → List Event → Type 0
EnrolsLowest size None es = RefusedBelow place_count size es
EnrolsLowest size (Some id) es =
    (words : List Word) × (length words ≡ id.place)
    × (es ≡ refused_from 0 size words ++ Enrol id.place size (Ok id.generation) ∷ [])

-- a look at each place from i on, which found these words
abbrev pub looks_from : ℕ → List Word → List Event
looks_from i [] = []
looks_from i (w ∷ words) = Look i w ∷ looks_from (i + 1) words

-- Each of these places is laid, in order.
abbrev pub lays : List ℕ → List Event
lays [] = []
lays (i ∷ is) = Lay i ∷ lays is

-- Each of these places is pooled, in order.
abbrev pub pools : List ℕ → List Event
pools [] = []
pools (i ∷ is) = Pool i ∷ pools is

-- the same, as what a list of events is
abbrev pub LaysEach : List ℕ → List Event → Type 0
LaysEach is es = es ≡ lays is

abbrev pub PoolsEach : List ℕ → List Event → Type 0
PoolsEach is es = es ≡ pools is

-- A place's buffer is filled, and laid instead where the close mark stood.
abbrev pub filled_or_laid : ℕ → Filling → Bool → List Event
filled_or_laid i f true = Fill i f true ∷ []
filled_or_laid i f false = Fill i f false ∷ Lay i ∷ []

-- Each of these places is filled, in order, with the empty record, or laid where the close mark stood.
abbrev pub FillsEach : List ℕ → List Event → Type 0
FillsEach [] es = es ≡ []
FillsEach (i ∷ is) es =
    (f : Filling) × (filled : Bool) × (rest : List Event) × (f.rec ≡ empty_record)
    × (es ≡ filled_or_laid i f filled ++ rest) × FillsEach is rest

-- One of them.
pub record FillsOne (i : ℕ) (es : List Event) : Type 0 where
  pub filling : Filling
  pub filled : Bool
  pub empty : filling.rec ≡ empty_record
  pub is : es ≡ filled_or_laid i filling filled

-- what a flush finds at one place: the word that it saw, and the answer of its grab, if it makes one
pub record Seen : Type 0 where
  pub word : Word
  pub grab : Option (Result (Unit {0}) Word)

-- A grab is made exactly where the word is Held.
abbrev pub IsGrabOf : Word → Option (Result (Unit {0}) Word) → Type 0
IsGrabOf word None = word.state ≢ Held
IsGrabOf word (Some answer) = word.state ≡ Held

-- The place is looked at; a Held one is grabbed with the generation that was seen, and pooled. A refused
-- grab is left.
abbrev pub pools_seen : ℕ → Word → Option (Result (Unit {0}) Word) → List Event
pools_seen i w None = Look i w ∷ []
pools_seen i w (Some (Ok done)) = Look i w ∷ Grab i w.generation (Ok tt) ∷ Pool i ∷ []
pools_seen i w (Some (Err found)) = Look i w ∷ Grab i w.generation (Err found) ∷ []

abbrev pub pools_from : ℕ → List Seen → List Event
pools_from i [] = []
pools_from i (seen ∷ more) = pools_seen i seen.word seen.grab ++ pools_from (i + 1) more

abbrev pub AreGrabbedIfHeld : List Seen → Type 0
AreGrabbedIfHeld [] = Unit {0}
AreGrabbedIfHeld (seen ∷ more) = IsGrabOf seen.word seen.grab × AreGrabbedIfHeld more

-- One place is looked at, and a Held one is grabbed and pooled.
pub record PoolsIfHeld (i : ℕ) (es : List Event) : Type 0 where
  pub seen : Seen
  pub grabbed : IsGrabOf seen.word seen.grab
  pub is : es ≡ pools_seen i seen.word seen.grab

-- The places below n are looked at in turn, from 0 on, and the Held ones are grabbed and pooled.
pub record PoolsHeldBelow (n : ℕ) (es : List Event) : Type 0 where
  pub seen : List Seen
  pub all : length seen ≡ n
  pub grabbed : AreGrabbedIfHeld seen
  pub is : es ≡ pools_from 0 seen

-- Each of the 15 places is looked at in turn, and a Held one is grabbed and pooled.
abbrev pub PoolsHeld : List Event → Type 0
PoolsHeld es = PoolsHeldBelow place_count es
