-- Who owns each buffer: by cases, for a reader, and by counting, for proofs.
use Rattle.std.specs.Prelude.{◌≡◌, ◌≢◌, ℕ, ◌+◌, ◌<◌, ◌≤◌, ◌^◌, List, [], ◌∷◌, length, Option, Some, slice_get}
use Rattle.gev_types.specs.Limits.{place_count, max_buffer_size}
use Rattle.gentl_types.specs.declared.word.Word.{Word}
use Rattle.gentl_types.specs.declared.word.State.{State}
use Rattle.gentl_types.specs.declared.word.State.TheVariants.{Vacant, Held, Away}
use Rattle.board_machine.specs.Places.{times}
use Rattle.board_machine.specs.Machine.{Board, Item, word_at, hand, held, places}

-- who has the buffer of a place; nobody where there is none
pub data Owner : Type 0 where
  nobody : Owner
  application : Owner
  input_pool : Owner
  output_queue : Owner
  actor : ℕ → Owner

-- the place is in no actor's hands
abbrev pub InNoHands : Board → ℕ → Type 0
InNoHands b i = (k : ℕ) → times i (hand b k) ≡ 0

-- the place is once in the hands of actor k, and in no other hands
pub record InOneHand (b : Board) (i k : ℕ) : Type 0 where
  pub once : times i (hand b k) ≡ 1
  pub others : (n : ℕ) → n ≢ k → times i (hand b n) ≡ 0

-- place i has this owner
abbrev pub Owns : Board → ℕ → Owner → Type 0
Owns b i nobody = ((word_at b i).state ≡ Vacant) × (times i b.pool ≡ 0) × (times i (places b.out) ≡ 0) × InNoHands b i
Owns b i application = ((word_at b i).state ≡ Held) × (times i b.pool ≡ 0) × (times i (places b.out) ≡ 0) × InNoHands b i
Owns b i input_pool = ((word_at b i).state ≡ Away) × (times i b.pool ≡ 1) × (times i (places b.out) ≡ 0) × InNoHands b i
Owns b i output_queue = ((word_at b i).state ≡ Away) × (times i b.pool ≡ 0) × (times i (places b.out) ≡ 1) × InNoHands b i
Owns b i (actor k) = ((word_at b i).state ≡ Away) × (times i b.pool ≡ 0) × (times i (places b.out) ≡ 0) × InOneHand b i k

-- a word within its limits; where a buffer is announced it has a size and a generation
pub record IsWord (w : Word) : Type 0 where
  pub size : w.size ≤ max_buffer_size
  pub generation : w.generation < 2 ^ 32
  pub some_size : w.state ≢ Vacant → 1 ≤ w.size
  pub some_generation : w.state ≢ Vacant → 1 ≤ w.generation

-- each entry of the output has as many bytes as its place's word says
abbrev pub AreSized : Board → Type 0
AreSized b = (n : ℕ) (x : Item) → slice_get b.out n ≡ Some x → length x.filling.bytes ≡ (word_at b x.place).size

-- Each place has exactly one owner. A number that is no place has nobody.
pub record IsOwned (b : Board) : Type 0 where
  pub wide : length b.words ≡ place_count
  pub owner : (i : ℕ) → (o : Owner) × Owns b i o
  pub single : (i : ℕ) (o p : Owner) → Owns b i o → Owns b i p → o ≡ p
  pub words : (i : ℕ) → IsWord (word_at b i)
  pub sized : AreSized b

-- how often a place stands in all hands together
abbrev pub in_hands : ℕ → List (Option (List ℕ)) → ℕ
in_hands i [] = 0
in_hands i (h ∷ hs) = times i (held h) + in_hands i hs

-- how often a place stands anywhere
abbrev pub tally : Board → ℕ → ℕ
tally b i = times i b.pool + times i (places b.out) + in_hands i b.hands

-- how often a place with a word in this state has to stand somewhere
abbrev pub due : State → ℕ
due Vacant = 0
due Held = 0
due Away = 1

-- the same as IsOwned, with one equation for each place: for proofs
pub record IsCounted (b : Board) : Type 0 where
  pub wide : length b.words ≡ place_count
  pub once : (i : ℕ) → tally b i ≡ due (word_at b i).state
  pub words : (i : ℕ) → IsWord (word_at b i)
  pub sized : AreSized b
