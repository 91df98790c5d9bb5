-- Which answers a command has where nothing outside of it failed.
use Rattle.std.specs.Prelude.{⊤, ℕ, List, Option}
use Rattle.gev_links.specs.Faults.{Rose}
use Rattle.script_runs.specs.Verdicts.{IfTold}
use Rattle.gev_status.specs.declared.status.Status.{Status}
use Rattle.gev_status.specs.declared.status.Status.TheVariants.{Done, BadScript, NoMemory, NoAnswer, Refused, RefusedAt, TurnsSpent, BadCapture, NoDatagram, NoPicture, NoDescription, Silent, Controlled, ControlLost}
use Rattle.gev_top.specs.declared.command.Command.{Command}
use Rattle.gev_top.specs.declared.command.Command.TheVariants.{Replay, Explain, Image, Streams, Capture, Camera, Make, Soak}
use Rattle.gev_top.specs.Answers.{IsDecided}
use Rattle.gev_top.specs.declared.errand.Errand.{Errand}
use Rattle.gev_top.specs.declared.errand.Errand.TheVariants.{Plain, Live, Record, Discover, Description, Simulate, Receive, Register}

-- the count of faults didn't rise
abbrev pub NoneRose : ℕ → ℕ → Type 0
NoneRose old new = Rose old new → ⊥

-- ---- the answers, by what is done; want of memory is one of each

-- a script was run to its end, or to a line that is refused
abbrev pub EndsScript : Status → Type 0
EndsScript Done = ⊤
EndsScript (BadScript line kind) = ⊤
EndsScript NoMemory = ⊤
EndsScript _ = ⊥

-- a picture was written, or there is none; or a line before it is refused
abbrev pub EndsImage : Status → Type 0
EndsImage Done = ⊤
EndsImage (NoPicture why) = ⊤
EndsImage (BadScript line kind) = ⊤
EndsImage NoMemory = ⊤
EndsImage _ = ⊥

-- a capture was read to its end, or to a record that is refused
abbrev pub EndsCapture : Status → Type 0
EndsCapture Done = ⊤
EndsCapture (BadCapture number kind) = ⊤
EndsCapture NoMemory = ⊤
EndsCapture _ = ⊥

-- the same for its script, which has a datagram or none
abbrev pub EndsCaptured : Status → Type 0
EndsCaptured (NoDatagram port) = ⊤
EndsCaptured Done = ⊤
EndsCaptured (BadCapture number kind) = ⊤
EndsCaptured NoMemory = ⊤
EndsCaptured _ = ⊥

-- a text was made
abbrev pub EndsText : Status → Type 0
EndsText Done = ⊤
EndsText NoMemory = ⊤
EndsText _ = ⊥

-- a world's run came to its end, or to a command that had no answer or was refused
abbrev pub EndsWorld : Status → Type 0
EndsWorld Done = ⊤
EndsWorld (NoAnswer req) = ⊤
EndsWorld (Refused status) = ⊤
EndsWorld NoMemory = ⊤
EndsWorld _ = ⊥

-- a live run handed out its frames or made its turns, or came to a command that had no answer or was refused
abbrev pub EndsLive : Status → Type 0
EndsLive Done = ⊤
EndsLive (NoAnswer req) = ⊤
EndsLive (Refused status) = ⊤
EndsLive (TurnsSpent turns frames) = ⊤
EndsLive NoMemory = ⊤
EndsLive _ = ⊥

-- cameras were looked for until the time was over
abbrev pub EndsSearch : Status → Type 0
EndsSearch Done = ⊤
EndsSearch NoMemory = ⊤
EndsSearch _ = ⊥

-- a description was fetched or isn't in the camera, or a read had no answer or was refused
abbrev pub EndsDescription : Status → Type 0
EndsDescription Done = ⊤
EndsDescription NoDescription = ⊤
EndsDescription (NoAnswer req) = ⊤
EndsDescription (Refused status) = ⊤
EndsDescription _ = ⊥

-- a simulated camera made its turns, or standard input had ended
abbrev pub EndsSimulation : Status → Type 0
EndsSimulation Done = ⊤
EndsSimulation NoMemory = ⊤
EndsSimulation _ = ⊥

-- the frames of a camera were handed out, or standard input had ended; a command had no answer or was refused, the
-- frames have no picture, the camera was silent, another application controlled it, or it gave its control away
abbrev pub EndsReception : Status → Type 0
EndsReception Done = ⊤
EndsReception (NoAnswer req) = ⊤
EndsReception (RefusedAt register code) = ⊤
EndsReception (NoPicture why) = ⊤
EndsReception (Silent frames) = ⊤
EndsReception Controlled = ⊤
EndsReception (ControlLost frames) = ⊤
EndsReception NoMemory = ⊤
EndsReception _ = ⊥

-- the registers were read and written; a command had no answer or was refused, or another application controlled the
-- camera
abbrev pub EndsRegisters : Status → Type 0
EndsRegisters Done = ⊤
EndsRegisters (NoAnswer req) = ⊤
EndsRegisters (RefusedAt register code) = ⊤
EndsRegisters Controlled = ⊤
EndsRegisters NoMemory = ⊤
EndsRegisters _ = ⊥

-- ---- the commands, a row each

abbrev pub IsComplete : Command → Status → Type 0
IsComplete Replay = EndsScript
IsComplete Explain = EndsScript
IsComplete (Image wanted) = EndsImage
IsComplete Streams = EndsCapture
IsComplete (Capture port p bytes) = EndsCaptured
IsComplete Camera = EndsScript
IsComplete (Make seed frames rates) = EndsText
IsComplete (Soak seed frames rates short) = EndsWorld

-- The command has one of its answers, and where the source told beforehand what it has left, that decides which one,
-- but for want of memory. So a whole script is Done, and a whole capture.
pub record Completes (command : Command) (left : Option (List ℕ)) (status : Status) : Type 0 where
  pub answer : IsComplete command status
  pub decided : IfTold left (λ content. IsDecided command status content)

abbrev pub CompletesErrand : Errand → Option (List ℕ) → Status → Type 0
CompletesErrand (Plain command) left status = Completes command left status
CompletesErrand (Live n) left status = EndsLive status
CompletesErrand (Record n) left status = EndsLive status
CompletesErrand (Discover address) left status = EndsSearch status
CompletesErrand (Description camera) left status = EndsDescription status
CompletesErrand (Simulate asked) left status = EndsSimulation status
CompletesErrand (Receive s) left status = EndsReception status
CompletesErrand (Register asked) left status = EndsRegisters status
