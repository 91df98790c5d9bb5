-- What the plain board means: the board machine's state, and beside it what lies at each place.
use Rattle.std.specs.Prelude.{◌≡◌, ◌≢◌, ℕ, ◌≤◌, Bool, List, [], ◌∷◌, length, Option, Some, None, slice_get, slice_index_or}
use Rattle.gentl_types.specs.declared.word.Word.{Word}
use Rattle.gentl_types.specs.declared.word.State.TheVariants.{Vacant, Held}
use Rattle.gev_types.specs.Filling.{Filling, empty_record}
use Rattle.gev_types.specs.Limits.{place_count}
use Rattle.board_machine.specs.Places.{times}
use Rattle.board_machine.specs.Machine.{Board, Item, item, word_at}
use Rattle.board_machine.specs.Owners.{IsCounted, in_hands}
use Rattle.board_calls.specs.Infos.{used}

pub record PlainState : Type 0 where
  -- the board machine's state
  pub board : Board
  -- for each place the bytes and the record of its buffer; None where it is vacant or the buffer is lifted
  pub contents : List (Option Filling)

abbrev pub nothing : Option Filling
nothing = None

-- what lies in these contents at a place
abbrev pub lying : List (Option Filling) → ℕ → Option Filling
lying contents i = slice_index_or contents i nothing

-- what lies at a place
abbrev pub content_at : PlainState → ℕ → Option Filling
content_at s i = lying s.contents i

-- the place is neither vacant nor lifted
abbrev pub HasBuf : PlainState → ℕ → Type 0
HasBuf s i = content_at s i ≢ nothing

-- no buffer lies at the place: of a place in hand, that its buffer is lifted
abbrev pub IsLifted : PlainState → ℕ → Type 0
IsLifted s i = content_at s i ≡ nothing

-- what a place that holds nothing is read as
abbrev pub no_filling : Filling
no_filling = record { bytes = []; rec = empty_record }

abbrev pub filling_of : Option Filling → Filling
filling_of None = no_filling
filling_of (Some f) = f

-- the items of these places
abbrev pub items_of : List (Option Filling) → List ℕ → List Item
items_of contents [] = []
items_of contents (i ∷ is) = item i (filling_of (lying contents i)) ∷ items_of contents is

-- what each plain board keeps
pub record IsPlain (b : Board) (contents : List (Option Filling)) : Type 0 where
  pub owned : IsCounted b
  pub wide : length contents ≡ place_count
  -- a buffer has its word's size
  pub sized : (i : ℕ) (f : Filling) → lying contents i ≡ Some f → length f.bytes ≡ (word_at b i).size
  -- at a vacant place nothing lies
  pub empty : (i : ℕ) → (word_at b i).state ≡ Vacant → lying contents i ≡ nothing
  -- where nothing lies, the place is vacant or in a hand
  pub lifted : (i : ℕ) → lying contents i ≡ nothing → used (word_at b i).state ≡ in_hands i b.hands
  -- an entry of the output has the bytes and the record that lie at its place
  pub kept : (n : ℕ) (x : Item) → slice_get b.out n ≡ Some x → lying contents x.place ≡ Some x.filling

-- Whose buffers lie at their places: the application's, the pool's and the output's.
pub record AreKept (s : PlainState) : Type 0 where
  pub held : (i : ℕ) → (word_at s.board i).state ≡ Held → HasBuf s i
  pub pooled : (i : ℕ) → 1 ≤ times i s.board.pool → HasBuf s i
  pub output : (n : ℕ) (x : Item) → slice_get s.board.out n ≡ Some x → content_at s x.place ≡ Some x.filling

-- every buffer that lies at a place has its word's size
abbrev pub AreOfWordSize : PlainState → Type 0
AreOfWordSize s = (i : ℕ) (f : Filling) → content_at s i ≡ Some f → length f.bytes ≡ (word_at s.board i).size

-- the board that a plain board's parts show
abbrev pub shown : List Word → List ℕ → List ℕ → List (Option Filling) → List (Option (List ℕ)) → Bool → Bool → ℕ → Board
shown words pool out contents hands closed kill run = record {
  words = words;
  pool = pool;
  out = items_of contents out;
  hands = hands;
  closed = closed;
  kill = kill;
  run = run;
}
