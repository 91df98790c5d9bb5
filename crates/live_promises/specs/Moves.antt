-- What goes over the control link of a live run, turn by turn: what is sent, and the datagrams that come.
use Rattle.std.specs.Prelude.{ℕ, Bool, false, List, [], ◌∷◌, ◌++◌, Option, Some, None}
use Rattle.gvcp_wire.specs.Reading.{ack_reading}
use Rattle.client_machine.specs.Machine.{Client}
use Rattle.client_machine.specs.Events.{Request, is_answer}
use Rattle.acquisition_machine.specs.declared.config.AcqConfig.{AcqConfig}
use Rattle.acquisition_machine.specs.Machine.{Input}
use Rattle.gev_links.specs.Links.{Address, Answer, nothing, failed, came}
use Rattle.gev_control.specs.Controlled.{sent_by, control_of}
use Rattle.gev_control.specs.SetupTurns.{SetUp, SetupTurned, setup_turn, sent_if_heard}
use Rattle.gev_acq.specs.Turns.{Turned, inputs_of, asks_of}

pub data Move : Type 0 where
  -- these bytes were sent
  sends : List ℕ → Move
  -- a datagram with these bytes came
  hears : List ℕ → Move

abbrev pub sends_all : List (List ℕ) → List Move
sends_all [] = []
sends_all (bytes ∷ rest) = sends bytes ∷ sends_all rest

-- the datagram of a receive, if one came
abbrev pub hears_of : Option Answer → List Move
hears_of None = []
hears_of (Some nothing) = []
hears_of (Some failed) = []
hears_of (Some (came bytes peer)) = hears bytes ∷ []

-- ---- the moves of turns, first in first

-- a turn of the setup sends, and then receives
abbrev pub setup_moves : Address → SetUp → List SetupTurned → List Move
setup_moves stream s [] = []
setup_moves stream s (t ∷ ts) =
    (sends_all (sent_if_heard t.heard (setup_turn stream s t).send) ++ hears_of t.heard) ++ setup_moves stream (setup_turn stream s t).state ts

-- a turn of the reader sends its requests, receives, and sends what its client has to send
abbrev pub turn_moves : AcqConfig → List Input → Client → Turned → List Move
turn_moves c q s t = sends_all (asks_of c q t) ++ (hears_of t.heard ++ sends_all (sent_by t.end (control_of s t.heard t.moment).send))

abbrev pub reader_moves : AcqConfig → List Input → Client → List Turned → List Move
reader_moves c q s [] = []
reader_moves c q s (t ∷ ts) = turn_moves c q s t ++ reader_moves c (q ++ inputs_of t) (control_of s t.heard t.moment).state ts

-- ---- what they send and hear

abbrev pub moves_sent : List Move → List (List ℕ)
moves_sent [] = []
moves_sent (sends bytes ∷ ms) = bytes ∷ moves_sent ms
moves_sent (hears bytes ∷ ms) = moves_sent ms

abbrev pub moves_heard : List Move → List (List ℕ)
moves_heard [] = []
moves_heard (sends bytes ∷ ms) = moves_heard ms
moves_heard (hears bytes ∷ ms) = bytes ∷ moves_heard ms

-- the datagrams among what receives gave
abbrev pub datagrams : List Answer → List (List ℕ)
datagrams [] = []
datagrams (nothing ∷ rest) = datagrams rest
datagrams (failed ∷ rest) = datagrams rest
datagrams (came bytes peer ∷ rest) = bytes ∷ datagrams rest

-- whether a move is a matching acknowledge of the request
abbrev pub is_answering : Request → Move → Bool
is_answering r (sends bytes) = false
is_answering r (hears bytes) = is_answer r (ack_reading bytes)

-- moves with the latest first, and then these, first in first
abbrev pub later_moves : List Move → List Move → List Move
later_moves done [] = done
later_moves done (m ∷ ms) = later_moves (m ∷ done) ms
