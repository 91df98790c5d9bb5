-- What an actor asks for, without the answer, and where it may ask.
use Rattle.std.specs.Prelude.{◌≡◌, ◌≢◌, ℕ, ◌<◌, ◌≤◌, Bool, length}
use Rattle.gev_types.specs.Filling.{Filling}
use Rattle.gev_types.specs.Limits.{place_count, max_buffer_size}
use Rattle.board_machine.specs.declared.events.Event.{Event}
use Rattle.board_machine.specs.declared.events.Event.TheVariants.{Look, LookPool, LookOut, LookRun, Enrol, Grab, Lay, Vacate, Pool, Claim, SweepPool, Fill, Take, SweepOut, Close, Post, Unpost, Start, Stop, Split, Join}
use Rattle.board_machine.specs.Machine.{Board, CanBeNext, entry, IsActor, InHand, word_at, hand_at, empty_hands}

pub data Act : Type 0 where
  to_look : ℕ → Act
  to_look_pool : Act
  to_look_out : Act
  to_look_run : Act
  to_enrol : ℕ → ℕ → Act
  to_grab : ℕ → ℕ → Act
  to_lay : ℕ → Act
  to_vacate : ℕ → Act
  to_pool : ℕ → Act
  to_claim : Act
  to_sweep_pool : Act
  to_fill : ℕ → Filling → Act
  to_take : Act
  to_sweep_out : Act
  to_close : Act
  to_post : Act
  to_unpost : Act
  to_start : Act
  to_stop : Bool → Act
  to_split : Act
  to_join : ℕ → Act

-- an event without its answer
abbrev pub act_of : Event → Act
act_of (Look i w) = to_look i
act_of (LookPool is) = to_look_pool
act_of (LookOut is closed) = to_look_out
act_of (LookRun r) = to_look_run
act_of (Enrol i size answer) = to_enrol i size
act_of (Grab i g answer) = to_grab i g
act_of (Lay i) = to_lay i
act_of (Vacate i) = to_vacate i
act_of (Pool i) = to_pool i
act_of (Claim answer) = to_claim
act_of (SweepPool is) = to_sweep_pool
act_of (Fill i f answer) = to_fill i f
act_of (Take answer) = to_take
act_of (SweepOut is) = to_sweep_out
act_of Close = to_close
act_of Post = to_post
act_of (Unpost stood) = to_unpost
act_of (Start answer) = to_start
act_of (Stop kill answer) = to_stop kill
act_of (Split n) = to_split
act_of (Join n) = to_join n

-- what actor k may ask for, whatever the answer will be
abbrev pub IsAllowed : Board → ℕ → Act → Type 0
IsAllowed b k (to_look i) = i < place_count
IsAllowed b k to_look_pool = Unit {0}
IsAllowed b k to_look_out = Unit {0}
IsAllowed b k to_look_run = Unit {0}
IsAllowed b k (to_enrol i size) = (i < place_count) × (1 ≤ size) × (size ≤ max_buffer_size)
IsAllowed b k (to_grab i g) = i < place_count
IsAllowed b k (to_lay i) = InHand b k i
IsAllowed b k (to_vacate i) = InHand b k i
IsAllowed b k (to_pool i) = InHand b k i
IsAllowed b k to_claim = Unit {0}
IsAllowed b k to_sweep_pool = Unit {0}
IsAllowed b k (to_fill i f) = InHand b k i × (length f.bytes ≡ (word_at b i).size)
IsAllowed b k to_take = Unit {0}
IsAllowed b k to_sweep_out = Unit {0}
IsAllowed b k to_close = Unit {0}
IsAllowed b k to_post = Unit {0}
IsAllowed b k to_unpost = Unit {0}
IsAllowed b k to_start = Unit {0}
IsAllowed b k (to_stop kill) = Unit {0}
IsAllowed b k to_split = Unit {0}
IsAllowed b k (to_join n) = (hand_at b n ≡ empty_hands) × (n ≢ k)

-- k is an actor that may ask for this
pub record MayStand (b : Board) (k : ℕ) (a : Act) : Type 0 where
  pub actor : IsActor b k
  pub allowed : IsAllowed b k a

-- the event is this act of actor k with the machine's answer
pub record Answers (b : Board) (k : ℕ) (a : Act) (event : Event) : Type 0 where
  pub act : act_of event ≡ a
  pub is_next : CanBeNext b (entry k event)

-- the act has an answer, and no other
pub record OneAnswer (b : Board) (k : ℕ) (a : Act) : Type 0 where
  pub event : Event
  pub answers : Answers b k a event
  pub only : (other : Event) → Answers b k a other → other ≡ event
