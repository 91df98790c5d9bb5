-- A whole world: a control client and a camera, a network that loses, repeats and reorders, and a receiver
-- with its board and its application. What may happen, and what it does to each part.
use Rattle.std.specs.Prelude.{⊤, ℕ, List, [], ◌∷◌, ◌++◌}
use Rattle.hex.specs.Hex.{encode_lower}
use Rattle.gev_types.specs.declared.peer.Peer.{Peer}
use Rattle.gev_script.specs.Lines as line
use Rattle.gev_script.specs.Lines.{ScriptLine}
use Rattle.gev_script.specs.Spelling.{IsStep}
use Rattle.world_machine.specs.Schedule.{Act, Line, after, IsAllowed}
use Rattle.world_machine.specs.HostActs.{given_in, IsGiven}

pub data WorldEvent : Type 0 where
  -- something happens to the client or to the camera
  at_session : Act → WorldEvent
  -- a datagram arrives at the receiver's stream port
  hears : List ℕ → WorldEvent
  -- the receiver's time comes to a moment
  passes : ℕ → WorldEvent
  -- the application calls the stream or its event, or makes a step on the board: a line of a replay script
  applies : ScriptLine → WorldEvent

-- ---- what is done to each part

-- what happened to the client and the camera, the latest first as in the list of events
abbrev pub session_acts : List WorldEvent → List Act
session_acts [] = []
session_acts (at_session a ∷ es) = a ∷ session_acts es
session_acts (hears bytes ∷ es) = session_acts es
session_acts (passes moment ∷ es) = session_acts es
session_acts (applies l ∷ es) = session_acts es

-- what an event does to the receiver, as lines of a replay script
abbrev pub lines_of : WorldEvent → List ScriptLine
lines_of (at_session a) = []
lines_of (hears bytes) = line.datagram (encode_lower bytes) ∷ []
lines_of (passes moment) = line.tick moment ∷ []
lines_of (applies l) = l ∷ []

-- what happened to the receiver, in the order in which it was done
abbrev pub host_lines : List WorldEvent → List ScriptLine
host_lines [] = []
host_lines (e ∷ es) = host_lines es ++ lines_of e

-- ---- which events may come

-- The line is one of the application, and a step is of an actor that scripts have. Other numbers are any. No
-- line sets the buffer handling mode: in a world each buffer that is taken is handed out.
abbrev pub IsApplied : ScriptLine → Type 0
IsApplied (line.header config) = ⊥
IsApplied (line.announce size) = ⊤
IsApplied (line.queue place generation) = ⊤
IsApplied (line.revoke place generation) = ⊤
IsApplied (line.flush operation) = ⊤
IsApplied line.start = ⊤
IsApplied (line.stop flags) = ⊤
IsApplied (line.tick moment) = ⊥
IsApplied (line.datagram digits) = ⊥
IsApplied line.take = ⊤
IsApplied line.kill = ⊤
IsApplied line.event_flush = ⊤
IsApplied (line.info which) = ⊤
IsApplied (line.buffer_info place generation which) = ⊤
IsApplied (line.open_child parent index) = ⊤
IsApplied (line.close_all serial) = ⊤
IsApplied (line.step actor act place) = IsStep actor act place
IsApplied (line.mode n) = ⊥
IsApplied line.end_of_script = ⊥
IsApplied line.camera_header = ⊥
IsApplied (line.command peer digits) = ⊥
IsApplied line.frame = ⊥

-- The event may come after these. What reaches the client and the camera is as in a control session, where
-- packet resend commands and anything else that reads or writes no register come from anyone. What reaches
-- the receiver is a packet that the camera gave: late, again, in any order, or never. Moments are any numbers.
abbrev pub MayCome : Peer → Line → List WorldEvent → WorldEvent → Type 0
MayCome peer start es (at_session a) = IsAllowed peer (after start (session_acts es)) a
MayCome peer start es (hears bytes) = IsGiven (given_in start (session_acts es)) bytes
MayCome peer start es (passes moment) = ⊤
MayCome peer start es (applies l) = IsApplied l

-- A schedule of a world whose client has this peer. The latest event comes first.
abbrev pub IsWorld : Peer → Line → List WorldEvent → Type 0
IsWorld peer start [] = ⊤
IsWorld peer start (e ∷ es) = MayCome peer start es e × IsWorld peer start es
