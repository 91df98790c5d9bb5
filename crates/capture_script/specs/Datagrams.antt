-- The datagrams of a capture to a port, and those that the lines of a script tell.
use Rattle.std.specs.Prelude.{ℕ, max, List, [], ◌∷◌, ◌++◌, Bool, true, false}
use Rattle.hex.specs.Hex.{encode_lower}
use Rattle.gev_script.specs.Lines as line
use Rattle.gev_script.specs.Lines.{ScriptLine}
use Rattle.gev_capture.specs.Contents.{Seen, other, fragment, cut, datagram, lost}
use Rattle.gev_capture.specs.Sightings.{Sighting}
use Rattle.capture_script.specs.Script.{is_for}

-- a datagram that is told at a moment, in milliseconds
pub record Told : Type 0 where
  pub moment : ℕ
  -- two lower-case hex digits a byte
  pub digits : List ℕ

abbrev pub told_if : Bool → ℕ → List ℕ → List Told
told_if true moment bytes = record { moment = moment; digits = encode_lower bytes } ∷ []
told_if false moment bytes = []

abbrev pub told_of : ℕ → ℕ → Seen → List Told
told_of port moment other = []
told_of port moment fragment = []
told_of port moment cut = []
told_of port moment (lost before now) = []
told_of port moment (datagram c) = told_if (is_for port c.receiver.port c.bytes) moment c.bytes

-- those of the packets that are datagrams of 1 to 9,999 bytes to this port
abbrev pub datagrams_to : ℕ → List Sighting → List Told
datagrams_to port [] = []
datagrams_to port (x ∷ xs) = told_of port x.moment x.what ++ datagrams_to port xs

-- there is one
abbrev pub has_told : List Told → Bool
has_told [] = false
has_told (told ∷ ts) = true

-- the `d` lines, each with the greatest moment of the `t` lines before it, which was this so far
abbrev pub told_from : ℕ → List ScriptLine → List Told
told_from now [] = []
told_from now (line.tick moment ∷ ls) = told_from (max now moment) ls
told_from now (line.datagram digits ∷ ls) = record { moment = now; digits = digits } ∷ told_from now ls
told_from now (_ ∷ ls) = told_from now ls
