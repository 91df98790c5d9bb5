-- What each lane did: what came to it, what it served, and its part in the board's history.
use Rattle.std.specs.Prelude.{◌≡◌, ⊤, ℕ, suc, ◌+◌, ◌≤◌, List, [], ◌∷◌, ◌++◌, length, slice_get, Some}
use Rattle.board_machine.specs.declared.events.Entry.{Entry}
use Rattle.board_machine.specs.declared.events.Event.{Event}
use Rattle.board_machine.specs.Machine.{empty_board}
use Rattle.board_machine.specs.Adding.{entries_of}
use Rattle.acquisition_machine.specs.declared.config.AcqConfig.{AcqConfig}
use Rattle.acquisition_machine.specs.Machine.{stop}
use Rattle.acquisition_machine.specs.Runs.{first_state}
use Rattle.acq_core.specs.Receiver.{config_of}
use Rattle.buffer_words.specs.Workers.{IsHome}
use Rattle.gev_lanes.specs.LineEnds.{gave, took}
use Rattle.board_calls.specs.declared.mode.Mode.{Mode}
use Rattle.gev_acq.specs.Serving.{Serves}
use Rattle.gev_acq.specs.Claims.{claims_in, claims_by}
use Rattle.gev_lanes.specs.declared.cell.Cell.{Cell}
use Rattle.gev_lanes.specs.declared.parts.ReaderLane.{ReaderLane}
use Rattle.gev_lanes.specs.declared.parts.LaneHands.{LaneHands}
use Rattle.gev_lanes.specs.Sides.{LaneEnd, Met}
use Rattle.gev_lanes.specs.Messages.{ended, message_of, messages, GoOn}
use Rattle.lane_reader.specs.LanesTurns.{ReaderTurn}
use Rattle.lane_reader.specs.Brought.{IsSublist, datagrams_in, parts_of, news_of}
use Rattle.lane_crew.specs.Cells.{CellServed, inputs_in}
use Rattle.lane_crew.specs.Lane.{messages_in, ClaimEach, PutsEach}
use Rattle.lane_crew.specs.declared.lane_tools.LaneTools.{LaneTools}
use Rattle.lane_crew.specs.Kinds.{is_lanes}

-- What lane k of n served, up to the end, is what the reader brought to it in these turns: its datagrams are some of
-- those that came for it, in order, and its messages some of the turns' datagrams for it and moments.
pub record IsHeard (n k : ℕ) (made : List ReaderTurn) (served : List CellServed) : Type 0 where
  pub go_on : GoOn (messages_in served)
  pub datagrams : IsSublist (datagrams_in (messages_in served)) (parts_of n k made)
  pub news : IsSublist (messages_in served) (news_of n k made)

-- What is known of lane k's queues at the end: the lane took all cells that the reader gave it, the last one with the
-- end and moment 0, and gave each back; no more of the datagrams that came for it in these turns are left out than
-- tries of the reader for a free cell of it found none; it gave its machine's requests in order, each unless a try found
-- the queue full; and what the reader took of it is the front of what it gave.
pub record IsQueued (c : AcqConfig) (n k : ℕ) (made : List ReaderTurn) (us : List ReaderLane) (e : LaneEnd) (served : List CellServed) : Type 0 where
  pub cells : List Cell
  pub last : Cell
  pub are : messages_in served ≡ messages cells
  pub ends : message_of last ≡ record { moment = 0; says = ended }
  pub side : ReaderLane
  pub at : slice_get us k ≡ Some side
  pub all : side.cells.given ≡ cells ++ last ∷ []
  pub left_out : length (parts_of n k made) ≤ length (datagrams_in (messages_in served)) + side.free.misses
  pub hands : LaneHands
  pub taken : hands.cells ≡ took e.hands.cells (cells ++ last ∷ [])
  pub given_back : hands.free ≡ gave e.hands.free (cells ++ last ∷ [])
  pub puts : PutsEach c [] served e.hands.requests hands.requests
  pub met : Met side hands

-- The lane's part in this history, in its buffer handling mode: a new receiver served the messages, and then its stop;
-- the actor of its pass has ended, and its entries are just those. The outcomes of claims among the inputs are what its
-- claims gave.
pub record LanePart (mode : Mode) (c : AcqConfig) (a : ℕ) (h : List Entry) (served : List CellServed) : Type 0 where
  pub events : List Event
  pub serves : Serves mode c first_state (inputs_in served ++ stop ∷ []) events
  pub claimed : ClaimEach c [] served
  pub home : IsHome h (record { number = a; kind = is_lanes mode; did = entries_of a events })
  pub claims : claims_in (inputs_in served) ≡ claims_by mode a empty_board h

-- What lane k of n did with these tools, where the reader made these turns and its ends became these, in this history.
pub record LaneDid (mode : Mode) (n k : ℕ) (made : List ReaderTurn) (us : List ReaderLane) (x : LaneTools) (h : List Entry) : Type 0 where
  pub served : List CellServed
  pub heard : IsHeard n k made served
  pub queued : IsQueued (config_of x.acq) n k made us x.ends served
  pub part : LanePart mode (config_of x.acq) x.pass.number h served

-- The same of each lane, with numbers from k on.
abbrev pub LanesDid : Mode → ℕ → ℕ → List ReaderTurn → List ReaderLane → List LaneTools → List Entry → Type 0
LanesDid mode n k made us [] h = ⊤
LanesDid mode n k made us (x ∷ xs) h = LaneDid mode n k made us x h × LanesDid mode n (suc k) made us xs h
