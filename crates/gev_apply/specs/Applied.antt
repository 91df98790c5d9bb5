-- What a live run's application did.
use Rattle.std.specs.Prelude.{◌≡◌, ◌≢◌, ◌⊎◌, ⊤, ℕ, ◌<◌, ◌≤◌, List, [], ◌∷◌, ◌++◌, length, Option, Result, Ok, Err}
use Rattle.gentl_types.specs.declared.errors.GcError.{GcError}
use Rattle.board_machine.specs.declared.events.Event.{Event}
use Rattle.buffer_words.specs.Passes.{Token}
use Rattle.buffer_words.specs.Loans.{Lent}
use Rattle.buffer_words.specs.Several.{EntersEach, EntersOf}
use Rattle.gev_links.specs.Moments.{TellsEach}
use Rattle.gentl_events.specs.Turns.{TakesMore}
use Rattle.gev_apply.specs.declared.look_end.LookEnd.{LookEnd}
use Rattle.gev_apply.specs.declared.look_end.LookEnd.TheVariants.{Handed, Idle, Over}
use Rattle.gev_apply.specs.TakenIds.{TakesIds}
use Rattle.gev_apply.specs.Looks.{Looked, GivesBack, LookEach, lent_by, lent_in, moments_in, items_of, ids_of, lines_of}

-- The pass's own entries are those of these turns. What it has taken has grown by the turns' buffers, each with
-- the id that its place had and with the bytes and the record of its fill. The clock told their moments.
pub record Looks (told now : Option (List ℕ)) (made : List Looked) (s t : Token) : Type 0 where
  pub events : List Event
  pub enters : EntersEach s events t
  pub looks : LookEach made events
  pub takes : TakesMore (items_of (lent_in made)) s t
  pub ids : TakesIds (ids_of (lent_in made)) s t
  pub tells : TellsEach told now (moments_in made)

abbrev pub GotNothing : Result Lent GcError → Type 0
GotNothing (Ok loan) = ⊥
GotNothing (Err error) = ⊤

-- The turn found that the run is over and no buffer was left.
pub record IsLast (t : Looked) : Type 0 where
  pub stopped : t.run ≢ 1
  pub nothing : GotNothing t.answer

-- No turn was such a one.
abbrev pub AllGoOn : List Looked → Type 0
AllGoOn [] = ⊤
AllGoOn (t ∷ ts) = (¬ IsLast t) × AllGoOn ts

-- The last turn was such a one, and none before it.
pub record EndsStopped (made : List Looked) : Type 0 where
  pub before : List Looked
  pub last : Looked
  pub is : made ≡ before ++ last ∷ []
  pub on : AllGoOn before
  pub over : IsLast last

-- ---- one turn

-- The buffer was given back, and then queued.
pub record IsGivenBack (loan : Lent) (s t : Token) : Type 0 where
  pub queued : Result (Unit {0}) GcError
  pub enters : EntersOf s (GivesBack loan queued) t

-- how a turn ended, by what it found
abbrev pub EndsAs : LookEnd → Looked → Type 0
EndsAs Handed t = (loan : Lent) × (t.answer ≡ Ok loan)
EndsAs Idle t = GotNothing t.answer × (t.run ≡ 1)
EndsAs Over t = IsLast t

-- It made one turn, and added the line of the turn's buffer.
pub record LooksWell (told now : Option (List ℕ)) (old new : List ℕ) (end : LookEnd) (s t : Token) : Type 0 where
  pub turn : Looked
  pub looks : Looks told now (turn ∷ []) s t
  pub ends : EndsAs end turn
  pub lines : new ≡ old ++ lines_of (lent_by turn.answer)

-- It made one turn, whose buffer's line wanted memory.
pub record LooksShort (told now : Option (List ℕ)) (old new : List ℕ) (s t : Token) : Type 0 where
  pub turn : Looked
  pub looks : Looks told now (turn ∷ []) s t
  pub loan : Lent
  pub got : turn.answer ≡ Ok loan
  pub unchanged : new ≡ old

abbrev pub LooksTo : {E : Type 0} → Option (List ℕ) → Option (List ℕ) → List ℕ → List ℕ → Result LookEnd E → Token → Token → Type 0
LooksTo told now old new (Ok end) s t = LooksWell told now old new end s t
LooksTo told now old new (Err error) s t = LooksShort told now old new s t

-- ---- all turns

-- It ended with the asked number of frames, or when the run was over and no buffer was left.
abbrev pub IsEnough : ℕ → ℕ → List Looked → Type 0
IsEnough frames taken made = ((taken ≡ frames) × AllGoOn made) ⊎ EndsStopped made

-- It made these turns, took so many buffers, and added their lines.
pub record AppliesWell (frames taken : ℕ) (told now : Option (List ℕ)) (old new : List ℕ) (s t : Token) : Type 0 where
  pub made : List Looked
  pub looks : Looks told now made s t
  pub number : taken ≡ length (lent_in made)
  pub few : taken ≤ frames
  pub enough : IsEnough frames taken made
  pub lines : new ≡ old ++ lines_of (lent_in made)

-- The last turn's line wanted memory: the buffer was given back and queued, and the lines before it were added.
pub record AppliesShort (frames : ℕ) (told now : Option (List ℕ)) (old new : List ℕ) (s t : Token) : Type 0 where
  pub made : List Looked
  pub last : Looked
  pub loan : Lent
  pub got : last.answer ≡ Ok loan
  pub looks : Looks told now (made ++ last ∷ []) s t
  pub on : AllGoOn made
  pub few : length (lent_in made) < frames
  pub lines : new ≡ old ++ lines_of (lent_in made)

abbrev pub Applies : {E : Type 0} → ℕ → Option (List ℕ) → Option (List ℕ) → List ℕ → List ℕ → Result ℕ E → Token → Token → Type 0
Applies frames told now old new (Ok taken) s t = AppliesWell frames taken told now old new s t
Applies frames told now old new (Err error) s t = AppliesShort frames told now old new s t
