-- The room in which lines are found, and what its steps do.
use Rattle.std.specs.Prelude.{◌≡◌, ◌≢◌, ℕ, ◌+◌, ◌<◌, ◌≤◌, List, ◌++◌, length, slice_index, Option, Some, None, Result, Ok, Err, nat_lt, if◌then◌else◌}
use Rattle.std.specs.List.{between}
use Rattle.gev_links.specs.Told.{Gives, IsSpent}
use Rattle.gev_script.specs.declared.line_end.LineEnd.{LineEnd}
use Rattle.gev_script.specs.declared.line_end.LineEnd.TheVariants.{Long, NoEnd, Many, ReadFault}
use Rattle.gev_script.specs.declared.window.Found.{Found}
use Rattle.gev_script.specs.declared.window.Found.TheVariants as found
use Rattle.gev_script.specs.Streams.{IsOpen, IsLong, IsLine, ReadsOn, CauseOfEnd}

-- the line that was given last, and the bytes that are held
pub record WindowState : Type 0 where
  pub line : List ℕ
  pub held : List ℕ

-- none of the first n bytes is a line feed
abbrev pub NoFeedBelow : ℕ → List ℕ → Type 0
NoFeedBelow n bytes = (i : ℕ) → i < n → slice_index bytes i ≢ 10

-- The room has 32,768 bytes, the places stand in order, and what was searched has no line feed.
pub record IsWindow (room : List ℕ) (line_start line_end start end searched : ℕ) : Type 0 where
  pub size : length room ≡ 32768
  pub line_order : line_start ≤ line_end
  pub line_within : line_end ≤ 32768
  pub order : start ≤ end
  pub within : end ≤ 32768
  pub searched_within : start + searched ≤ end
  pub no_feed : NoFeedBelow searched (between start end room)

-- the first line feed from a place on, if there is one
abbrev pub FindsFeed : List ℕ → ℕ → Option ℕ → Type 0
FindsFeed bytes from None = (i : ℕ) → from ≤ i → i < length bytes → slice_index bytes i ≢ 10
FindsFeed bytes from (Some place) =
    (from ≤ place) × (place < length bytes) × (slice_index bytes place ≡ 10)
    × ((i : ℕ) → from ≤ i → i < place → slice_index bytes i ≢ 10)

-- what is found in the held bytes
abbrev pub Finds : Found → WindowState → WindowState → Type 0
Finds found.Line old new = IsLine old.held new.line new.held
Finds found.Long old new = IsLong old.held × (new.held ≡ old.held)
Finds found.Open old new = IsOpen old.held × (new.held ≡ old.held)

-- Bytes came behind those that were held, or none are left.
pub record Holds (count : ℕ) (held held_after : List ℕ) (left left_after : Option (List ℕ)) : Type 0 where
  pub piece : List ℕ
  pub size : length piece ≡ count
  pub is : held_after ≡ held ++ piece
  pub given : Gives left left_after piece
  pub spent : count ≡ 0 → IsSpent left_after

-- a line was taken, or why not
abbrev pub Takes : Result (Unit {0}) LineEnd → WindowState → WindowState → Option (List ℕ) → Option (List ℕ) → ℕ → ℕ → Type 0
Takes (Ok done) old new left left_after faults faults_after =
    ReadsOn old.held left left_after (λ bytes. IsLine bytes new.line new.held)
Takes (Err Many) old new left left_after faults faults_after = ⊥
Takes (Err Long) old new left left_after faults faults_after =
    ReadsOn old.held left left_after (λ bytes. CauseOfEnd Long 0 bytes new.held left_after faults faults_after)
Takes (Err NoEnd) old new left left_after faults faults_after =
    ReadsOn old.held left left_after (λ bytes. CauseOfEnd NoEnd 0 bytes new.held left_after faults faults_after)
Takes (Err ReadFault) old new left left_after faults faults_after =
    ReadsOn old.held left left_after (λ bytes. CauseOfEnd ReadFault 0 bytes new.held left_after faults faults_after)

-- the number of a line that was taken, unless it's a line too many
abbrev pub numbered : ℕ → Result (Unit {0}) LineEnd → Result ℕ LineEnd
numbered given (Ok done) = if nat_lt given 4294967295 then Ok (given + 1) else Err Many
numbered given (Err end) = Err end
