-- The receiver of a soak run with its board and its application, and what it does: the acts of a replay
-- script's lines `d`, `t`, `take` and `queue`, computed.
use Rattle.std.specs.Prelude.{ℕ, ◌+◌, ◌==◌, Bool, true, false, not, if◌then◌else◌, List, [], ◌∷◌, ◌++◌, map, replicate, slice_get, Option, Some, None, Ok}
use Rattle.gentl_types.specs.declared.word.Word.{Word}
use Rattle.gentl_types.specs.declared.word.State.TheVariants.{Away}
use Rattle.gev_report.specs.ReplayLines.{take_line}
use Rattle.board_machine.specs.declared.events.Event.{Event}
use Rattle.board_machine.specs.declared.events.Event.TheVariants.{LookOut, Grab, Lay, Pool, Claim, Take}
use Rattle.board_machine.specs.declared.events.TakeEnd.TheVariants.{Taken}
use Rattle.board_machine.specs.Machine.{Board, Item, word_at, places, vacant, empty_hands}
use Rattle.board_machine.specs.Places.{tail}
use Rattle.board_machine.specs.Histories.{after_from}
use Rattle.board_machine.specs.Adding.{entries_of}
use Rattle.board_calls.specs.Rounds.{filled_or_laid}
use Rattle.acquisition_machine.specs.declared.config.AcqConfig.{AcqConfig}
use Rattle.acquisition_machine.specs.declared.retired.Retired.{Retired}
use Rattle.acquisition_machine.specs.Blocks.{fills}
use Rattle.acquisition_machine.specs.Machine.{State, Input, datagram, claimed, tick, step, request_bytes}
use Rattle.acquisition_machine.specs.Runs.{first_state}
use Rattle.acquisition_machine.specs.TurnLaws.{asked_by}
use Rattle.script_trace.specs.Trace.{caller, acquirer}
use Rattle.board_machine.specs.Ids.{buffer_at}
use Rattle.script_trace.specs.StreamLines.{outcome}
use Rattle.script_trace.specs.Ending.{as_count}
use Rattle.world_machine.specs.State.{HostNumbers, Host}
use Rattle.world_machine.specs.Rounds.{is_nothing}

pub record Receiver : Type 0 where
  pub acquisition : State
  pub board : Board
  -- how many buffers the application took, those of them with a complete record, and those without
  pub taken : ℕ
  pub complete : ℕ
  pub incomplete : ℕ

-- payloads of 1452 bytes, two open blocks, a timeout of 200 ms, requests after 20 ms, three rounds of them
abbrev pub soak_config : AcqConfig
soak_config = record { p = 1452; window = 2; timeout = 200; age = 20; rounds = 3 }

-- ---- the beginning

-- how many bytes each buffer has: as many as an image of all lines
abbrev pub SOAK_BUFFER_SIZE : ℕ
SOAK_BUFFER_SIZE = 3072

-- the word of a buffer in the pool, the first of its place
abbrev pub pooled_word : Word
pooled_word = record { state = Away; size = SOAK_BUFFER_SIZE; generation = 1 }

-- four buffers, all in the pool; the actors 0 to 5, with nothing in hand; the stream is started
abbrev pub start_board : Board
start_board = record {
  words = replicate 4 pooled_word ++ replicate 11 vacant;
  pool = 0 ∷ 1 ∷ 2 ∷ 3 ∷ [];
  out = [];
  hands = replicate 6 empty_hands;
  closed = false;
  kill = false;
  run = 1;
}

abbrev pub start : Receiver
start = record { acquisition = first_state; board = start_board; taken = 0; complete = 0; incomplete = 0 }

-- ---- what it is told

-- the board after these events of an actor
abbrev pub acts_on : ℕ → List Event → Board → Board
acts_on k es b = after_from b (entries_of k es)

-- Buffers that come back are filled into the output, in order, or laid where the close mark stands.
abbrev pub fills_all : List Retired → Board → Board
fills_all [] b = b
fills_all (x ∷ xs) b = fills_all xs (acts_on acquirer (filled_or_laid x.place x.buf (not b.closed)) b)

-- after one input, with what retires filled
abbrev pub told : Input → Receiver → Receiver
told i r = record r {
  acquisition = (step soak_config r.acquisition i).after;
  board = fills_all (fills soak_config.p (step soak_config r.acquisition i).retired) r.board;
}

-- the place that a claim takes: the pool's lowest
abbrev pub claim_of : Board → Option ℕ
claim_of b = slice_get b.pool 0

-- A place is claimed, and the outcome is told.
abbrev pub claims : Receiver → Receiver
claims r = record r {
  acquisition = (step soak_config r.acquisition (claimed (outcome r.board (claim_of r.board)))).after;
  board = acts_on acquirer (Claim (claim_of r.board) ∷ []) r.board;
}

-- Where a buffer is wanted, one is claimed, and the datagram is told again.
abbrev pub told_again : Option ℕ → List ℕ → Receiver → Receiver
told_again None bytes r = r
told_again (Some block) bytes r = told (datagram bytes) (claims r)

-- a datagram, where the stream is running
abbrev pub hears : Receiver → List ℕ → Receiver
hears r bytes =
    if r.board.run == 1
    then told_again (asked_by (step soak_config r.acquisition (datagram bytes)).need) bytes (told (datagram bytes) r)
    else r

-- ---- what its application takes

-- The output's first buffer is taken, returned, and queued.
abbrev pub take_events : Board → Item → List Event
take_events b x =
    Take (Taken x.place) ∷ Lay x.place ∷ LookOut (places (tail b.out)) b.closed
    ∷ Grab x.place (word_at b x.place).generation (Ok tt) ∷ Pool x.place ∷ []

abbrev pub takes_one : Item → Receiver → Receiver
takes_one x r = record r {
  board = acts_on caller (take_events r.board x) r.board;
  taken = r.taken + 1;
  complete = if x.filling.rec.complete then r.complete + 1 else r.complete;
  incomplete = if x.filling.rec.complete then r.incomplete else r.incomplete + 1;
}

abbrev pub takes_each : List Item → Receiver → Receiver
takes_each [] r = r
takes_each (x ∷ xs) r = takes_each xs (takes_one x r)

-- the take lines of these buffers
abbrev pub lines_each : List Item → Receiver → List ℕ
lines_each [] r = []
lines_each (x ∷ xs) r = take_line (buffer_at r.board x.place) x.filling ++ lines_each xs (takes_one x r)

-- what there is to take: the output, where the close mark doesn't stand
abbrev pub waiting : Board → List Item
waiting b = if b.closed then [] else b.out

-- ---- as the world sees it

abbrev pub numbers : Receiver → HostNumbers
numbers r = record {
  taken = as_count r.taken;
  complete = as_count r.complete;
  incomplete = as_count r.incomplete;
  underrun = as_count r.acquisition.counts.underrun;
  requests = as_count r.acquisition.counts.requests;
}

abbrev pub soak_host : Host Receiver
soak_host = record {
  hears = hears;
  ticks = λ r moment. told (tick moment) r;
  requests = λ r moment. map request_bytes (step soak_config r.acquisition (tick moment)).requests;
  takes = λ r. takes_each (waiting r.board) r;
  lines = λ r. lines_each (waiting r.board) r;
  is_idle = λ r. is_nothing r.acquisition.opens;
  numbers = numbers;
}
