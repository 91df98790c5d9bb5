-- What a line of a script says, in plain values.
use Rattle.std.specs.Prelude.{ℕ, List, Option, Result, Ok, Err}
use Rattle.gev_script.specs.declared.act.Act.{Act}
use Rattle.gev_script.specs.declared.kind.ScriptKind.{ScriptKind}
use Rattle.gev_script.specs.declared.line.Line.{Line}
use Rattle.gev_script.specs.declared.line.Line.TheVariants.{Header, Announce, Queue, Revoke, Flush, Start, Stop, Tick, Datagram, Take, Kill, EventFlush, Info, BufferInfo, OpenChild, CloseAll, Step, Mode, End, CameraHeader, Command, Frame}

-- the numbers of a replay script's header
pub record Config : Type 0 where
  -- of the script's form: in version 2 datagrams may have standard headers
  pub version : ℕ
  -- the most bytes of a payload packet
  pub p : ℕ
  -- the most blocks that are open at once
  pub window : ℕ
  -- how old a block grows, in milliseconds
  pub timeout : ℕ
  -- the age at which what is missing is requested, in milliseconds
  pub age : ℕ
  -- how often it is requested
  pub rounds : ℕ

-- A line, with the digits of its hex word as a list. Lines of the camera's scripts stand last.
pub data ScriptLine : Type 0 where
  header : Config → ScriptLine
  announce : ℕ → ScriptLine
  queue : ℕ → ℕ → ScriptLine
  revoke : ℕ → ℕ → ScriptLine
  flush : ℕ → ScriptLine
  start : ScriptLine
  stop : ℕ → ScriptLine
  tick : ℕ → ScriptLine
  datagram : List ℕ → ScriptLine
  take : ScriptLine
  kill : ScriptLine
  event_flush : ScriptLine
  info : ℕ → ScriptLine
  buffer_info : ℕ → ℕ → ℕ → ScriptLine
  open_child : Option ℕ → ℕ → ScriptLine
  close_all : ℕ → ScriptLine
  step : ℕ → Act → Option ℕ → ScriptLine
  mode : ℕ → ScriptLine
  end_of_script : ScriptLine
  camera_header : ScriptLine
  command : ℕ → List ℕ → ScriptLine
  frame : ScriptLine

abbrev pub view : Line → ScriptLine
view (Header version p window timeout age rounds) = header (record { version = version; p = p; window = window; timeout = timeout; age = age; rounds = rounds })
view (Announce size) = announce size
view (Queue place generation) = queue place generation
view (Revoke place generation) = revoke place generation
view (Flush operation) = flush operation
view Start = start
view (Stop flags) = stop flags
view (Tick moment) = tick moment
view (Datagram hex) = datagram hex.now
view Take = take
view Kill = kill
view EventFlush = event_flush
view (Info which) = info which
view (BufferInfo place generation which) = buffer_info place generation which
view (OpenChild parent index) = open_child parent index
view (CloseAll serial) = close_all serial
view (Step actor act place) = step actor act place
view (Mode n) = mode n
view End = end_of_script
view CameraHeader = camera_header
view (Command peer hex) = command peer hex.now
view Frame = frame

-- an answer of parsing, with the line in this sense
abbrev pub seen : Result Line ScriptKind → Result ScriptLine ScriptKind
seen (Ok l) = Ok (view l)
seen (Err kind) = Err kind
