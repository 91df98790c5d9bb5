-- What an actor has in its hands after a call, and what lies at the places then.
use Rattle.std.specs.Prelude.{◌≡◌, ◌≢◌, ℕ, ◌+◌, ◌≤◌, Bool, true, false, List, [], ◌∷◌, ◌++◌, Option, Some, None, replicate, slice_set}
use Rattle.gev_types.specs.Filling.{Filling, empty_record}
use Rattle.board_machine.specs.declared.events.Event.{Event}
use Rattle.board_machine.specs.declared.events.Event.TheVariants.{SweepPool}
use Rattle.board_machine.specs.Places.{times, tail}
use Rattle.board_machine.specs.Machine.{Board, item, hand}
use Rattle.board_calls.specs.Rounds.{filled_or_laid}
use Rattle.board_model.specs.Plain.{PlainState, content_at, lying, nothing}

-- Each of these places is in the hands of actor k.
pub record AreInHand (b : Board) (k : ℕ) (is : List ℕ) : Type 0 where
  pub there : (i : ℕ) → times i is ≤ times i (hand b k)

-- These places came into the hands of actor k.
pub record CameToHand (b : Board) (k : ℕ) (is : List ℕ) (new : Board) : Type 0 where
  pub there : (i : ℕ) → times i (hand new k) ≡ times i is + times i (hand b k)

-- These places left the hands of actor k.
pub record LeftHand (b : Board) (k : ℕ) (is : List ℕ) (new : Board) : Type 0 where
  pub there : (i : ℕ) → times i is + times i (hand new k) ≡ times i (hand b k)

-- At each of these places a buffer lies.
pub record HaveBufs (contents : List (Option Filling)) (is : List ℕ) : Type 0 where
  pub there : (i : ℕ) → 1 ≤ times i is → lying contents i ≢ nothing

-- The place was the output's first one, and the bytes and the record of its entry lie there.
pub record WasFirst (s : PlainState) (place : ℕ) (new : PlainState) : Type 0 where
  pub filling : Filling
  pub first : s.board.out ≡ item place filling ∷ tail s.board.out
  pub lies : content_at new place ≡ Some filling

-- what lies at the places after a fill
abbrev pub contents_after_fill : List (Option Filling) → ℕ → Filling → Bool → List (Option Filling)
contents_after_fill contents i f true = slice_set contents i (Some f)
contents_after_fill contents i f false = contents

-- the buffer with its bytes and the empty record
abbrev pub emptied : Option Filling → Option Filling
emptied None = None
emptied (Some f) = Some (record { bytes = f.bytes; rec = empty_record })

-- what lies at the places once the buffers of these have the empty record
abbrev pub with_empty_records : List ℕ → List (Option Filling) → List (Option Filling)
with_empty_records [] contents = contents
with_empty_records (i ∷ is) contents = with_empty_records is (slice_set contents i (emptied (lying contents i)))

-- Each of these places is filled, in order, or laid where the close mark stood: with the bytes that lay
-- there, and the empty record.
abbrev pub FillsAsLying : List (Option Filling) → List ℕ → List Event → Type 0
FillsAsLying contents [] es = es ≡ []
FillsAsLying contents (i ∷ is) es =
    (f : Filling) × (filled : Bool) × (rest : List Event) × (Some f ≡ emptied (lying contents i))
    × (es ≡ filled_or_laid i f filled ++ rest) × FillsAsLying contents is rest

-- One of them.
pub record FillsOneAsLying (contents : List (Option Filling)) (i : ℕ) (es : List Event) : Type 0 where
  pub filling : Filling
  pub filled : Bool
  pub lay_there : Some filling ≡ emptied (lying contents i)
  pub is : es ≡ filled_or_laid i filling filled

-- Flush 0, INPUT_TO_OUTPUT, by what lies at the places: the pool is swept, and its places are filled so.
pub record FlushesAsLying (contents : List (Option Filling)) (es : List Event) : Type 0 where
  pub pooled : List ℕ
  pub rest : List Event
  pub is : es ≡ SweepPool pooled ∷ rest
  pub fills : FillsAsLying contents pooled rest

-- a new buffer of this size, in bytes: zeros, and the empty record
abbrev pub fresh : ℕ → Filling
fresh size = record { bytes = replicate size 0; rec = empty_record }
