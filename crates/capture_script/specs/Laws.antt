-- What holds of the script of every capture.
use Rattle.std.specs.Prelude.{◌≡◌, ℕ, ◌≤◌, List, length, Option}
use Rattle.std.specs.List.{AllByRecursion}
use Rattle.gev_script.specs.Spelling.{IsScriptLine}
use Rattle.script_runs.specs.Verdicts.{outcome, whole}
use Rattle.script_trace.specs.Standing.{replay_verdict}
use Rattle.gev_capture.specs.Files.{Packet}
use Rattle.gev_capture.specs.Captures.{Refusal, HasCaptured}
use Rattle.gev_capture.specs.Laws.{AreBytes, HasBytes}
use Rattle.gev_capture.specs.Sightings.{sightings}
use Rattle.capture_script.specs.Script.{script_lines, capture_script, has_datagram}
use Rattle.capture_script.specs.Datagrams.{datagrams_to, has_told, told_from}

-- The script's `d` lines are the capture's datagrams to the port, in order; and of each the greatest moment of the
-- `t` lines before it, 0 where there is none, is its moment. So there is a `d` line just where the capture has a datagram
-- for the script.
pub record AreTold (port p size : ℕ) (packets : List Packet) : Type 0 where
  pub told : told_from 0 (script_lines port p size (sightings packets)) ≡ datagrams_to port (sightings packets)
  pub some : has_datagram port (sightings packets) ≡ has_told (told_from 0 (script_lines port p size (sightings packets)))

abbrev pub DatagramsAreTold : Type 0
DatagramsAreTold = (port p size : ℕ) (packets : List Packet) → AreTold port p size packets

-- Each line of it is a line of the grammar; and where there are at most 4,294,967,295, it is a script for `replay`, none of
-- whose lines is refused.
pub record IsScript (port p size : ℕ) (packets : List Packet) : Type 0 where
  pub lines : AllByRecursion IsScriptLine (script_lines port p size (sightings packets))
  pub script : length (script_lines port p size (sightings packets)) ≤ 4294967295 → outcome replay_verdict (capture_script port p size (sightings packets)) ≡ whole

-- So is that of any packets of bytes, for payloads and buffers of sizes that a script may have.
abbrev pub PacketsMakeScripts : Type 0
PacketsMakeScripts =
    (port p size : ℕ) (packets : List Packet) → 528 ≤ p → p ≤ 8964 → size ≤ 67108864 → AllByRecursion HasBytes packets → IsScript port p size packets

-- So is that of every capture of bytes, whether it's whole or refused somewhere.
abbrev pub CapturesMakeScripts : Type 0
CapturesMakeScripts =
    (port p size : ℕ) (bytes : List ℕ) (packets : List Packet) (end : Option Refusal) → 528 ≤ p → p ≤ 8964 → size ≤ 67108864 → AreBytes bytes
    → HasCaptured bytes packets end → IsScript port p size packets
