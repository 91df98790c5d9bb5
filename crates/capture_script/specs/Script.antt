-- The replay script of the datagrams to one port of a capture, as a function of the capture's packets.
use Rattle.std.specs.Prelude.{ℕ, ◌==◌, ◌&&◌, ◌||◌, nat_lt, nat_le, List, [], ◌∷◌, ◌++◌, length, replicate, Bool, false, if◌then◌else◌}
use Rattle.hex.specs.Hex.{encode_lower}
use Rattle.gev_script.specs.Lines as line
use Rattle.gev_script.specs.Lines.{ScriptLine}
use Rattle.gev_capture.specs.Contents.{Seen, other, fragment, cut, datagram, lost}
use Rattle.gev_capture.specs.Sightings.{Sighting}
use Rattle.capture_runs.specs.Texts.{Texts}
pub use Rattle.take_lines.specs.Texts.{text_of, take_lines}
use Rattle.capture_script.specs.Playing.{open_blocks, Played, Line, nothing_played, heard, ticked, stopped}

abbrev pub header_line : ℕ → ScriptLine
header_line p = line.header (record { version = 2; p = p; window = open_blocks; timeout = 200; age = 20; rounds = 0 })

-- a buffer for each open block, and one that is in the pool whatever comes
abbrev pub script_buffers : ℕ
script_buffers = 5

-- a line for each of so many buffers of this size
abbrev pub announce_lines : ℕ → ℕ → List ScriptLine
announce_lines n size = replicate n (line.announce size)

-- a receiver whose payloads have at most p bytes, with its buffers of this size
abbrev pub opening_lines : ℕ → ℕ → List ScriptLine
opening_lines p size =
    header_line p ∷ announce_lines script_buffers size ++ line.flush 3 ∷ line.start ∷ []

-- Each buffer that was filled is taken, and they go back.
abbrev pub taking : ℕ → List ScriptLine
taking n = if n == 0 then [] else take_lines n ++ line.flush 3 ∷ []

-- a line, and the takes of what is filled there
abbrev pub with_takes : ScriptLine → Line → List ScriptLine
with_takes l played = l ∷ taking played.filled

-- the script so far
pub record Scripted : Type 0 where
  -- its datagrams go to this port
  pub port : ℕ
  -- the most bytes of a payload
  pub p : ℕ
  -- the size of a buffer
  pub size : ℕ
  pub played : Played
  -- of the last `t` line, 0 before the first
  pub moment : ℕ

abbrev pub new_script : ℕ → ℕ → ℕ → Scripted
new_script port p size = record { port = port; p = p; size = size; played = nothing_played; moment = 0 }

-- lines, and the script behind them
pub record Lines : Type 0 where
  pub lines : List ScriptLine
  pub after : Scripted

abbrev pub no_lines : Scripted → Lines
no_lines s = record { lines = []; after = s }

-- the one and then the other
abbrev pub both : Lines → (Scripted → Lines) → Lines
both first next = record { lines = first.lines ++ (next first.after).lines; after = (next first.after).after }

-- time goes on
abbrev pub goes_on : ℕ → Scripted → Lines
goes_on moment s = record {
  lines = with_takes (line.tick moment) (ticked s.p moment s.played);
  after = record s { played = (ticked s.p moment s.played).after; moment = moment };
}

-- where the moment is above that of the last `t` line
abbrev pub ticks : ℕ → Scripted → Lines
ticks moment s = if nat_lt s.moment moment then goes_on moment s else no_lines s

-- the datagram comes
abbrev pub carries : List ℕ → Scripted → Lines
carries bytes s = record {
  lines = with_takes (line.datagram (encode_lower bytes)) (heard s.p s.size bytes s.played);
  after = record s { played = (heard s.p s.size bytes s.played).after };
}

-- these bytes go to this port, and have a length that a script's line may hold
abbrev pub is_for : ℕ → ℕ → List ℕ → Bool
is_for port to bytes = to == port && nat_le 1 (length bytes) && nat_le (length bytes) 9999

-- these bytes come at this moment, sent to this port
abbrev pub carried : ℕ → ℕ → List ℕ → Scripted → Lines
carried moment to bytes s = if is_for s.port to bytes then both (ticks moment s) (carries bytes) else no_lines s

abbrev pub seen : ℕ → Seen → Scripted → Lines
seen moment other s = no_lines s
seen moment fragment s = no_lines s
seen moment cut s = no_lines s
seen moment (datagram c) s = carried moment c.receiver.port c.bytes s
seen moment (lost before now) s = no_lines s

-- the lines of a packet
abbrev pub sighted : Scripted → Sighting → Lines
sighted s x = seen x.moment x.what s

-- the stream stops, and the script ends
abbrev pub closing_lines : Scripted → List ScriptLine
closing_lines s = with_takes (line.stop 0) (stopped s.p s.played) ++ line.end_of_script ∷ []

-- a datagram that stands in the script of this port: its `d` line is written
abbrev pub stands_in : ℕ → Seen → Bool
stands_in port other = false
stands_in port fragment = false
stands_in port cut = false
stands_in port (datagram c) = is_for port c.receiver.port c.bytes
stands_in port (lost before now) = false

-- the script so far, and whether a `d` line is written
pub record Written : Type 0 where
  pub script : Scripted
  pub told : Bool

abbrev pub not_written : ℕ → ℕ → ℕ → Written
not_written port p size = record { script = new_script port p size; told = false }

-- the text behind the opening
abbrev pub script_texts : Texts Written
script_texts = record {
  says = λ w x. text_of (sighted w.script x).lines;
  after = λ w x. record { script = (sighted w.script x).after; told = w.told || stands_in w.script.port x.what };
  finish = λ w. [];
  close = λ w. text_of (closing_lines w.script);
  some = λ w. w.told;
}

-- one of these packets is a datagram to this port that stands in its script
abbrev pub has_datagram : ℕ → List Sighting → Bool
has_datagram port [] = false
has_datagram port (x ∷ xs) = stands_in port x.what || has_datagram port xs

-- the lines of these packets, and the script behind them
abbrev pub lines_from : Scripted → List Sighting → List ScriptLine
lines_from s [] = []
lines_from s (x ∷ xs) = (sighted s x).lines ++ lines_from (sighted s x).after xs

abbrev pub script_behind : Scripted → List Sighting → Scripted
script_behind s [] = s
script_behind s (x ∷ xs) = script_behind (sighted s x).after xs

-- the lines where reading failed behind these packets: there is no end
abbrev pub begun_lines : ℕ → ℕ → ℕ → List Sighting → List ScriptLine
begun_lines port p size xs = opening_lines p size ++ lines_from (new_script port p size) xs

-- the lines of the script of a capture with these packets
abbrev pub script_lines : ℕ → ℕ → ℕ → List Sighting → List ScriptLine
script_lines port p size xs = begun_lines port p size xs ++ closing_lines (script_behind (new_script port p size) xs)

abbrev pub capture_script : ℕ → ℕ → ℕ → List Sighting → List ℕ
capture_script port p size xs = text_of (script_lines port p size xs)

abbrev pub begun_script : ℕ → ℕ → ℕ → List Sighting → List ℕ
begun_script port p size xs = text_of (begun_lines port p size xs)
