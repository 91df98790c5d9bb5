-- The information calls on a data stream and on one of its buffers: for each its answer and the list of
-- its own events.
use Rattle.std.specs.Prelude.{◌≡◌, ◌≢◌, ℕ, ◌+◌, ◌<◌, ◌≤◌, ◌⊎◌, Bool, List, [], ◌∷◌, length, Result, Ok, Err}
use Rattle.gev_types.specs.Limits.{place_count}
use Rattle.gentl_types.specs.declared.buffer_id.BufferId.{BufferId}
use Rattle.gentl_types.specs.declared.errors.GcError.{GcError}
use Rattle.gentl_types.specs.declared.errors.GcError.TheVariants.{InvalidHandle, NotAvailable}
use Rattle.gentl_types.specs.declared.errors.Shown.TheVariants as shown
use Rattle.gentl_types.specs.declared.word.Word.{Word}
use Rattle.gentl_types.specs.declared.word.State.{State}
use Rattle.gentl_types.specs.declared.word.State.TheVariants.{Vacant, Held, Away}
use Rattle.board_machine.specs.declared.events.Event.{Event}
use Rattle.board_machine.specs.declared.events.Event.TheVariants.{Look, LookPool, LookOut, LookRun}
use Rattle.board_machine.specs.Places.{times}
use Rattle.board_calls.specs.Rounds.{looks_from}
use Rattle.board_calls.specs.Calls.{IsGone}

-- 1 where the fact holds, and 0 where it doesn't
abbrev pub IsOneWhere : ℕ → Type 0 → Type 0
IsOneWhere value P = ((value ≡ 1) × P) ⊎ ((value ≡ 0) × ¬ P)

-- how many buffers a place has whose word is in this state
abbrev pub used : State → ℕ
used Vacant = 0
used Held = 1
used Away = 1

-- how many of these words aren't Vacant
abbrev pub announced : List Word → ℕ
announced [] = 0
announced (w ∷ words) = used w.state + announced words

-- The places below n are looked at in turn, from 0 on, and those that aren't Vacant count.
pub record CountsBelow (n told : ℕ) (es : List Event) : Type 0 where
  pub words : List Word
  pub all : length words ≡ n
  pub is : es ≡ looks_from 0 words
  pub value : told ≡ announced words

-- 3, NUM_ANNOUNCED: how many of the 15 places aren't Vacant
abbrev pub CountsAnnounced : ℕ → List Event → Type 0
CountsAnnounced value es = CountsBelow place_count value es

-- 5, NUM_AWAIT_DELIVERY: the length of the output
pub record CountsOutput (told : ℕ) (es : List Event) : Type 0 where
  pub output : List ℕ
  pub closed : Bool
  pub is : es ≡ LookOut output closed ∷ []
  pub value : told ≡ length output

-- 8, IS_GRABBING: 1 where the run word is 1
pub record TellsGrabbing (told : ℕ) (es : List Event) : Type 0 where
  pub run : ℕ
  pub is : es ≡ LookRun run ∷ []
  pub value : IsOneWhere told (run ≡ 1)

-- 1000, a value of this project's own: how many buffers the pool has
pub record CountsPool (told : ℕ) (es : List Event) : Type 0 where
  pub pooled : List ℕ
  pub is : es ≡ LookPool pooled ∷ []
  pub value : told ≡ length pooled

-- the numbers of the stream's information values
abbrev pub IsStreamInfo : ℕ → Type 0
IsStreamInfo which = (which ≡ 3) ⊎ (which ≡ 5) ⊎ (which ≡ 8) ⊎ (which ≡ 1000)

-- how a stream's information value comes about
pub record InfosBy (which told : ℕ) (es : List Event) : Type 0 where
  pub known : IsStreamInfo which
  pub announced : which ≡ 3 → CountsAnnounced told es
  pub awaiting : which ≡ 5 → CountsOutput told es
  pub grabbing : which ≡ 8 → TellsGrabbing told es
  pub pooled : which ≡ 1000 → CountsPool told es

abbrev pub Infos : ℕ → Result ℕ GcError → List Event → Type 0
Infos which (Ok value) es = InfosBy which value es
Infos which (Err (NotAvailable n)) es = (n ≡ which) × ¬ IsStreamInfo which × (es ≡ [])
Infos which (Err _) es = ⊥

-- the word of a buffer that is announced: not Vacant, and with this generation
abbrev pub IsLive : Word → ℕ → Type 0
IsLive w g = (w.state ≢ Vacant) × (w.generation ≡ g)

-- 1, SIZE: the size in the place's word, in bytes
pub record TellsSize (place : ℕ) (word : Word) (told : ℕ) (es : List Event) : Type 0 where
  pub is : es ≡ Look place word ∷ []
  pub value : told ≡ word.size

-- The pool is looked at, then the output: 1 where one of them has the place.
pub record LooksForPlace (place : ℕ) (told : ℕ) (es : List Event) : Type 0 where
  pub pooled : List ℕ
  pub output : List ℕ
  pub closed : Bool
  pub is : es ≡ LookPool pooled ∷ LookOut output closed ∷ []
  pub value : IsOneWhere told (1 ≤ times place pooled + times place output)

-- 1000, a value of this project's own: 1 where the pool or the output has the place
pub record TellsQueued (place : ℕ) (word : Word) (told : ℕ) (es : List Event) : Type 0 where
  pub rest : List Event
  pub is : es ≡ Look place word ∷ rest
  pub looks : LooksForPlace place told rest

-- how a buffer's information value comes about
pub record BufferInfosBy (id : BufferId) (which told : ℕ) (es : List Event) : Type 0 where
  pub in_range : id.place < place_count
  pub word : Word
  pub live : IsLive word id.generation
  pub known : (which ≡ 1) ⊎ (which ≡ 1000)
  pub size : which ≡ 1 → TellsSize id.place word told es
  pub queued : which ≡ 1000 → TellsQueued id.place word told es

abbrev pub BufferInfos : BufferId → ℕ → Result ℕ GcError → List Event → Type 0
BufferInfos id which (Ok value) es = BufferInfosBy id which value es
BufferInfos id which (Err (InvalidHandle (shown.NoHandle n))) es = (place_count ≤ id.place) × (n ≡ id.place) × (es ≡ [])
BufferInfos id which (Err (InvalidHandle (shown.Word w))) es =
    (id.place < place_count) × IsGone w id.generation × (es ≡ Look id.place w ∷ [])
BufferInfos id which (Err (NotAvailable n)) es =
    (id.place < place_count) × (n ≡ which) × (which ≢ 1) × (which ≢ 1000)
    × ((word : Word) × IsLive word id.generation × (es ≡ Look id.place word ∷ []))
BufferInfos id which (Err _) es = ⊥
