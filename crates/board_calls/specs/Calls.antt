-- The calls on a data stream and on its event, as EMVA GenTL has them: for each call, its answer and the
-- list of its own events.
--
-- Each act follows from the answers before it, and never from the board. That each answer is the
-- machine's is said by the history in which the events stand.
use Rattle.std.specs.Prelude.{◌≡◌, ◌≢◌, ℕ, ◌<◌, ◌≤◌, ◌==◌, ◌⊎◌, Bool, true, false, List, [], ◌∷◌, ◌++◌, length, Result, Ok, Err}
use Rattle.gev_types.specs.Limits.{place_count, max_buffer_size}
use Rattle.gentl_types.specs.declared.buffer_id.BufferId.{BufferId}
use Rattle.gentl_types.specs.declared.errors.GcError.{GcError}
use Rattle.gentl_types.specs.declared.errors.GcError.TheVariants.{InvalidHandle, InvalidParameter, ResourceInUse, ResourceExhausted, OutOfMemory, Busy, Timeout, Abort}
use Rattle.gentl_types.specs.declared.errors.Shown.TheVariants as shown
use Rattle.gentl_types.specs.declared.word.Word.{Word}
use Rattle.gentl_types.specs.declared.word.State.TheVariants.{Vacant, Held, Away}
use Rattle.board_machine.specs.declared.events.Event.{Event}
use Rattle.board_machine.specs.declared.events.Event.TheVariants.{LookOut, Enrol, Grab, Lay, Vacate, Pool, SweepPool, Take, SweepOut, Close, Post, Unpost, Start, Stop}
use Rattle.board_machine.specs.declared.events.TakeEnd.TheVariants as taken
use Rattle.board_calls.specs.Rounds.{refused_from, lays, pools, FillsEach, PoolsHeld}

-- the word of a buffer that was taken away from its place: Vacant, or with another generation
abbrev pub IsGone : Word → ℕ → Type 0
IsGone w g = (w.state ≡ Vacant) ⊎ (w.generation ≢ g)

-- Away, with this generation
abbrev pub IsAwayAs : Word → ℕ → Type 0
IsAwayAs w g = (w.state ≡ Away) × (w.generation ≡ g)

-- the run word, as a refusal shows it
abbrev pub run_word : ℕ → Word
run_word r = record { state = Held; size = 0; generation = r }

-- the refusal of a closed stream
abbrev pub closed_refusal : GcError
closed_refusal = InvalidHandle shown.Closed

-- a size that a buffer can have, in bytes
abbrev pub IsSize : ℕ → Type 0
IsSize size = (1 ≤ size) × (size ≤ max_buffer_size)

-- The output is looked at, and the close mark stands there or not.
pub record LooksOut (closed : Bool) (es : List Event) : Type 0 where
  pub output : List ℕ
  pub is : es ≡ LookOut output closed ∷ []

-- The output is looked at, has no close mark, and these events follow.
pub record OpensWith (rest es : List Event) : Type 0 where
  pub output : List ℕ
  pub is : es ≡ LookOut output false ∷ rest

-- Announce looks at the output, then tries each place from 0 on until one takes the buffer, and lays it.
abbrev pub Announces : ℕ → Result BufferId GcError → List Event → Type 0
Announces size (Ok id) es =
    IsSize size × ((words : List Word) × (length words ≡ id.place)
    × OpensWith (refused_from 0 size words ++ Enrol id.place size (Ok id.generation) ∷ Lay id.place ∷ []) es)
Announces size (Err (InvalidHandle shown.Closed)) es = LooksOut true es
Announces size (Err (InvalidParameter n)) es = (n ≡ size) × ¬ IsSize size × LooksOut false es
Announces size (Err OutOfMemory) es = IsSize size × LooksOut false es
Announces size (Err ResourceExhausted) es =
    IsSize size × ((words : List Word) × (length words ≡ place_count) × OpensWith (refused_from 0 size words) es)
Announces size (Err _) es = ⊥

-- a grab of the buffer with this id that is refused, in a queue or a borrow
abbrev pub RefusesGrab : BufferId → GcError → List Event → Type 0
RefusesGrab id (InvalidHandle (shown.NoHandle n)) es = (place_count ≤ id.place) × (n ≡ id.place) × (es ≡ [])
RefusesGrab id (InvalidHandle (shown.Word w)) es =
    (id.place < place_count) × IsGone w id.generation × (es ≡ Grab id.place id.generation (Err w) ∷ [])
RefusesGrab id (ResourceInUse (shown.Word w)) es =
    (id.place < place_count) × IsAwayAs w id.generation × (es ≡ Grab id.place id.generation (Err w) ∷ [])
RefusesGrab id _ es = ⊥

-- Queue looks at the output, grabs the buffer, and puts it into the input pool.
abbrev pub Queues : BufferId → Result (Unit {0}) GcError → List Event → Type 0
Queues id (Ok done) es =
    (id.place < place_count) × OpensWith (Grab id.place id.generation (Ok tt) ∷ Pool id.place ∷ []) es
Queues id (Err (InvalidHandle shown.Closed)) es = LooksOut true es
Queues id (Err error) es = (rest : List Event) × RefusesGrab id error rest × OpensWith rest es

-- Borrow grabs the buffer.
abbrev pub Borrows : {T : Type 0} → BufferId → Result T GcError → List Event → Type 0
Borrows id (Ok loan) es = (id.place < place_count) × (es ≡ Grab id.place id.generation (Ok tt) ∷ [])
Borrows id (Err error) es = RefusesGrab id error es

-- what a revoke answers where a grab is refused so
abbrev pub busy_of : GcError → GcError
busy_of (ResourceInUse (shown.Word w)) = Busy w
busy_of error = error

-- Revoke grabs the buffer and takes it away from its place.
abbrev pub Revokes : {T : Type 0} → BufferId → Result T GcError → List Event → Type 0
Revokes id (Ok buffer) es =
    (id.place < place_count) × (es ≡ Grab id.place id.generation (Ok tt) ∷ Vacate id.place ∷ [])
Revokes id (Err (InvalidHandle (shown.NoHandle n))) es = (place_count ≤ id.place) × (n ≡ id.place) × (es ≡ [])
Revokes id (Err (InvalidHandle (shown.Word w))) es =
    (id.place < place_count) × IsGone w id.generation × (es ≡ Grab id.place id.generation (Err w) ∷ [])
Revokes id (Err (Busy w)) es =
    (id.place < place_count) × IsAwayAs w id.generation × (es ≡ Grab id.place id.generation (Err w) ∷ [])
Revokes id (Err _) es = ⊥

-- Return lays the buffer.
abbrev pub Returns : ℕ → List Event → Type 0
Returns place es = es ≡ Lay place ∷ []

-- Start looks at the output, and starts the acquisition.
abbrev pub Starts : Result (Unit {0}) GcError → List Event → Type 0
Starts (Ok done) es = OpensWith (Start (Ok tt) ∷ []) es
Starts (Err (InvalidHandle shown.Closed)) es = LooksOut true es
Starts (Err (ResourceInUse (shown.Word w))) es = (r : ℕ) × (w ≡ run_word r) × OpensWith (Start (Err r) ∷ []) es
Starts (Err _) es = ⊥

-- Stop stops the acquisition: flag 1 is a kill stop.
abbrev pub Stops : ℕ → Result (Unit {0}) GcError → List Event → Type 0
Stops flags (Ok done) es = (flags ≤ 1) × (es ≡ Stop (flags == 1) (Ok tt) ∷ [])
Stops flags (Err (InvalidParameter n)) es = (n ≡ flags) × (1 < flags) × (es ≡ [])
Stops flags (Err (ResourceInUse (shown.Word w))) es =
    (flags ≤ 1) × ((r : ℕ) × (w ≡ run_word r) × (es ≡ Stop (flags == 1) (Err r) ∷ []))
Stops flags (Err _) es = ⊥

-- Flush 0, INPUT_TO_OUTPUT: the pool is swept, and its places, lowest first, are filled with the empty record.
pub record FlushesToOutput (es : List Event) : Type 0 where
  pub pooled : List ℕ
  pub rest : List Event
  pub is : es ≡ SweepPool pooled ∷ rest
  pub fills : FillsEach pooled rest

-- Flush 1, OUTPUT_DISCARD, and the flush of the event: the output is swept and laid.
pub record DiscardsOutput (es : List Event) : Type 0 where
  pub output : List ℕ
  pub is : es ≡ SweepOut output ∷ lays output

-- Flush 2, ALL_TO_INPUT: the output is swept and pooled, then each Held place is grabbed and pooled.
pub record FlushesToInput (es : List Event) : Type 0 where
  pub output : List ℕ
  pub rest : List Event
  pub is : es ≡ SweepOut output ∷ pools output ++ rest
  pub held : PoolsHeld rest

-- Flush 4, ALL_DISCARD: pool and output are swept, then both are laid, the pool's places first.
pub record DiscardsAll (es : List Event) : Type 0 where
  pub pooled : List ℕ
  pub output : List ℕ
  pub is : es ≡ SweepPool pooled ∷ SweepOut output ∷ lays pooled ++ lays output

-- what a flush with this operation does
pub record FlushesBy (operation : ℕ) (es : List Event) : Type 0 where
  pub in_range : operation ≤ 4
  pub to_output : operation ≡ 0 → FlushesToOutput es
  pub discards_output : operation ≡ 1 → DiscardsOutput es
  pub to_input : operation ≡ 2 → FlushesToInput es
  -- flush 3, UNQUEUED_TO_INPUT: each Held place is grabbed and pooled
  pub unqueued_to_input : operation ≡ 3 → PoolsHeld es
  pub discards_all : operation ≡ 4 → DiscardsAll es

abbrev pub Flushes : ℕ → Result (Unit {0}) GcError → List Event → Type 0
Flushes operation (Ok done) es = FlushesBy operation es
Flushes operation (Err (InvalidParameter n)) es = (n ≡ operation) × (4 < operation) × (es ≡ [])
Flushes operation (Err _) es = ⊥

-- Close sets the mark, sweeps output and pool, and lays what it swept, the output's places first.
pub record Closes (es : List Event) : Type 0 where
  pub output : List ℕ
  pub pooled : List ℕ
  pub is : es ≡ Close ∷ SweepOut output ∷ SweepPool pooled ∷ lays output ++ lays pooled

-- the place of an answer that is a place
abbrev pub itself : ℕ → ℕ
itself place = place

-- One turn of the wait for a buffer: take; where the output was empty, unpost; where no kill stood, the
-- moment is told.
abbrev pub Gets : {T : Type 0} → ℕ → (T → ℕ) → Result T GcError → List Event → Type 0
Gets moment place (Ok loan) es = es ≡ Take (taken.Taken (place loan)) ∷ []
Gets moment place (Err (InvalidHandle shown.Closed)) es = es ≡ Take taken.Closed ∷ []
Gets moment place (Err Abort) es = es ≡ Take taken.Empty ∷ Unpost true ∷ []
Gets moment place (Err (Timeout first last)) es =
    (first ≡ moment) × (last ≡ moment) × (es ≡ Take taken.Empty ∷ Unpost false ∷ [])
Gets moment place (Err _) es = ⊥

-- The kill sets the kill mark.
abbrev pub Kills : List Event → Type 0
Kills es = es ≡ Post ∷ []
