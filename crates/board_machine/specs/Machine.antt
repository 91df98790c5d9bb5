-- The board of one data stream as plain data (GenTL: announced buffers, input buffer pool, output
-- buffer queue), and each act on it: its condition with its answer, and its effect.
--
-- The condition reads the state. The effect is chosen by the answer that was recorded.
use Rattle.std.specs.Prelude.{◌≡◌, ◌≢◌, ℕ, ◌+◌, ◌<◌, ◌≤◌, ◌^◌, Bool, true, false, cond, List, [], ◌∷◌, ◌++◌, length, replicate, Option, Some, None, Ok, Err, slice_index_or, slice_set}
use Rattle.gentl_types.specs.declared.word.Word.{Word}
use Rattle.gentl_types.specs.declared.word.State.{State}
use Rattle.gentl_types.specs.declared.word.State.TheVariants.{Vacant, Held, Away}
use Rattle.gev_types.specs.Filling.{Filling}
use Rattle.gev_types.specs.Limits.{place_count, max_buffer_size}
use Rattle.board_machine.specs.declared.events.Entry.{Entry}
use Rattle.board_machine.specs.declared.events.Event.{Event}
use Rattle.board_machine.specs.declared.events.Event.TheVariants.{Look, LookPool, LookOut, LookRun, Enrol, Grab, Lay, Vacate, Pool, Claim, SweepPool, Fill, Take, SweepOut, Close, Post, Unpost, Start, Stop, Split, Join}
use Rattle.board_machine.specs.declared.events.TakeEnd.TheVariants.{Taken, Empty, Closed}
use Rattle.board_machine.specs.Places.{times, put_in, without, put_all, tail}

-- an entry of the output: a place, with the bytes and the record that its fill gave it
pub record Item : Type 0 where
  pub place : ℕ
  pub filling : Filling

pub record Board : Type 0 where
  -- the ownership words of the 15 places
  pub words : List Word
  -- the input pool, lowest place first
  pub pool : List ℕ
  -- the output queue, first in first
  pub out : List Item
  -- for each actor by its number the places in its hands, lowest first; None once it was joined
  pub hands : List (Option (List ℕ))
  -- whether the close mark stands
  pub closed : Bool
  -- whether the kill mark stands
  pub kill : Bool
  -- the run word: 1 while running, 0 before a start and after a stop, 2 after a kill stop
  pub run : ℕ

-- the word of a place before its first buffer
abbrev pub vacant : Word
vacant = record { state = Vacant; size = 0; generation = 0 }

abbrev pub empty_hands : Option (List ℕ)
empty_hands = Some []

abbrev pub no_actor : Option (List ℕ)
no_actor = None

-- the board before any act, with actor 0
abbrev pub empty_board : Board
empty_board = record {
  words = replicate place_count vacant;
  pool = [];
  out = [];
  hands = empty_hands ∷ [];
  closed = false;
  kill = false;
  run = 0;
}

-- the word of a place; a vacant one for a number that is no place
abbrev pub word_at : Board → ℕ → Word
word_at b i = slice_index_or b.words i vacant

-- the hands of actor k; None where there is no such actor
abbrev pub hand_at : Board → ℕ → Option (List ℕ)
hand_at b k = slice_index_or b.hands k no_actor

abbrev pub held : Option (List ℕ) → List ℕ
held None = []
held (Some is) = is

-- the places in the hands of actor k
abbrev pub hand : Board → ℕ → List ℕ
hand b k = held (hand_at b k)

-- k is an actor: 0, or one that a split gave, and not joined into another
abbrev pub IsActor : Board → ℕ → Type 0
IsActor b k = hand_at b k ≢ no_actor

-- place i is in the hands of actor k
abbrev pub InHand : Board → ℕ → ℕ → Type 0
InHand b k i = 1 ≤ times i (hand b k)

-- the places of the output's entries, in order
abbrev pub places : List Item → List ℕ
places [] = []
places (x ∷ xs) = x.place ∷ places xs

abbrev pub item : ℕ → Filling → Item
item i f = record { place = i; filling = f }

-- Held, with this generation
abbrev pub IsHeldAs : Word → ℕ → Type 0
IsHeldAs w g = (w.state ≡ Held) × (w.generation ≡ g)

-- Vacant, and the last generation not yet used up
abbrev pub CanEnrol : Word → Type 0
CanEnrol w = (w.state ≡ Vacant) × (w.generation + 1 < 2 ^ 32)

-- The act with this answer can be actor k's in this state.
abbrev pub Meets : Board → ℕ → Event → Type 0
Meets b k (Look i w) = (i < place_count) × (w ≡ word_at b i)
Meets b k (LookPool is) = is ≡ b.pool
Meets b k (LookOut is closed) = (is ≡ places b.out) × (closed ≡ b.closed)
Meets b k (LookRun r) = r ≡ b.run
Meets b k (Enrol i size (Ok g)) = (i < place_count) × (1 ≤ size) × (size ≤ max_buffer_size) × CanEnrol (word_at b i) × (g ≡ (word_at b i).generation + 1)
Meets b k (Enrol i size (Err w)) = (i < place_count) × (1 ≤ size) × (size ≤ max_buffer_size) × (w ≡ word_at b i) × (¬ CanEnrol w)
Meets b k (Grab i g (Ok done)) = (i < place_count) × IsHeldAs (word_at b i) g
Meets b k (Grab i g (Err w)) = (i < place_count) × (w ≡ word_at b i) × (¬ IsHeldAs w g)
Meets b k (Lay i) = InHand b k i
Meets b k (Vacate i) = InHand b k i
Meets b k (Pool i) = InHand b k i
Meets b k (Claim (Some i)) = (rest : List ℕ) × (b.pool ≡ i ∷ rest)
Meets b k (Claim None) = b.pool ≡ []
Meets b k (SweepPool is) = is ≡ b.pool
Meets b k (Fill i f true) = InHand b k i × (length f.bytes ≡ (word_at b i).size) × (b.closed ≡ false)
Meets b k (Fill i f false) = InHand b k i × (length f.bytes ≡ (word_at b i).size) × (b.closed ≡ true)
Meets b k (Take (Taken i)) = (b.closed ≡ false) × ((f : Filling) × (rest : List Item) × (b.out ≡ item i f ∷ rest))
Meets b k (Take Empty) = (b.closed ≡ false) × (b.out ≡ [])
Meets b k (Take Closed) = b.closed ≡ true
Meets b k (SweepOut is) = is ≡ places b.out
Meets b k Close = Unit {0}
Meets b k Post = Unit {0}
Meets b k (Unpost stood) = stood ≡ b.kill
Meets b k (Start (Ok done)) = b.run ≢ 1
Meets b k (Start (Err r)) = (r ≡ b.run) × (r ≡ 1)
Meets b k (Stop kill (Ok done)) = b.run ≡ 1
Meets b k (Stop kill (Err r)) = (r ≡ b.run) × (r ≢ 1)
Meets b k (Split n) = n ≡ length b.hands
Meets b k (Join n) = (hand_at b n ≡ empty_hands) × (n ≢ k)

abbrev pub with_state : Word → State → Word
with_state w s = record w { state = s }

abbrev pub set_word : Board → ℕ → Word → Board
set_word b i w = record b { words = slice_set b.words i w }

abbrev pub set_hand : Board → ℕ → List ℕ → Board
set_hand b k is = record b { hands = slice_set b.hands k (Some is) }

-- place i comes into the hands of actor k
abbrev pub picks : Board → ℕ → ℕ → Board
picks b k i = set_hand b k (put_in i (hand b k))

-- place i leaves the hands of actor k
abbrev pub drops : Board → ℕ → ℕ → Board
drops b k i = set_hand b k (without i (hand b k))

-- the board after the act with this answer
abbrev pub after_event : Board → ℕ → Event → Board
after_event b k (Look i w) = b
after_event b k (LookPool is) = b
after_event b k (LookOut is closed) = b
after_event b k (LookRun r) = b
after_event b k (Enrol i size (Ok g)) = set_word (picks b k i) i (record { state = Away; size = size; generation = g })
after_event b k (Enrol i size (Err w)) = b
after_event b k (Grab i g (Ok done)) = set_word (picks b k i) i (with_state (word_at b i) Away)
after_event b k (Grab i g (Err w)) = b
after_event b k (Lay i) = set_word (drops b k i) i (with_state (word_at b i) Held)
after_event b k (Vacate i) = set_word (drops b k i) i (with_state (word_at b i) Vacant)
after_event b k (Pool i) = record (drops b k i) { pool = put_in i b.pool }
after_event b k (Claim (Some i)) = record (picks b k i) { pool = tail b.pool }
after_event b k (Claim None) = b
after_event b k (SweepPool is) = record (set_hand b k (put_all is (hand b k))) { pool = [] }
after_event b k (Fill i f true) = record (drops b k i) { out = b.out ++ item i f ∷ [] }
after_event b k (Fill i f false) = b
after_event b k (Take (Taken i)) = record (picks b k i) { out = tail b.out }
after_event b k (Take Empty) = b
after_event b k (Take Closed) = b
after_event b k (SweepOut is) = record (set_hand b k (put_all is (hand b k))) { out = [] }
after_event b k Close = record b { closed = true }
after_event b k Post = record b { kill = true }
after_event b k (Unpost stood) = record b { kill = false }
after_event b k (Start (Ok done)) = record b { run = 1 }
after_event b k (Start (Err r)) = b
after_event b k (Stop kill (Ok done)) = record b { run = cond kill 2 0 }
after_event b k (Stop kill (Err r)) = b
after_event b k (Split n) = record b { hands = b.hands ++ empty_hands ∷ [] }
after_event b k (Join n) = record b { hands = slice_set b.hands n no_actor }

abbrev pub entry : ℕ → Event → Entry
entry k event = record { by = k; event = event }

-- The entry can be the next one: its actor is one, and its answer is the machine's.
pub record CanBeNext (b : Board) (e : Entry) : Type 0 where
  pub actor : IsActor b e.by
  pub meets : Meets b e.by e.event

-- the board after the entry
abbrev pub next : Board → Entry → Board
next b e = after_event b e.by e.event
