-- Laws of captures, in words of their own.
use Rattle.std.specs.Prelude.{⊤, ◌≡◌, ℕ, ◌<◌, ◌≤◌, List, ◌++◌, length, Option}
use Rattle.std.specs.List.{AllByRecursion}
use Rattle.gev_capture.specs.Files.{Packet, captured, dropped, Format, Told, wants, refused, given, told}
use Rattle.gev_capture.specs.Captures.{Refusal, HasCaptured}

-- What n bytes tell, beside what they tell with more behind them: more bytes are wanted than there are, or the
-- same is told; and a record is among the bytes and has some.
abbrev pub Stays : ℕ → Told → Told → Type 0
Stays n (wants k) t = n < k
Stays n (refused kind) t = t ≡ refused kind
Stays n (given k format packet) t = (t ≡ given k format packet) × (1 ≤ k) × (k ≤ n)

-- What the bytes so far tell is what all bytes tell, so that a capture may be read in any pieces.
abbrev pub PiecesTell : Type 0
PiecesTell = (format : Format) (bytes more : List ℕ) → Stays (length bytes) (told format bytes) (told format (bytes ++ more))

-- a capture's packets, and its end
pub record Capture (bytes : List ℕ) : Type 0 where
  pub packets : List Packet
  pub refusal : Option Refusal
  pub captured : HasCaptured bytes packets refusal

-- Any bytes are a capture in exactly one way.
pub record CapturesAreOne : Type 0 where
  pub some : (bytes : List ℕ) → Capture bytes
  pub one :
      (bytes : List ℕ) (packets others : List Packet) (end other : Option Refusal)
      → HasCaptured bytes packets end → HasCaptured bytes others other → (packets ≡ others) × (end ≡ other)

-- ---- bytes

abbrev pub AreBytes : List ℕ → Type 0
AreBytes bytes = AllByRecursion (λ b. b < 256) bytes

-- the bytes of a packet are bytes
abbrev pub HasBytes : Packet → Type 0
HasBytes (captured frame) = AreBytes frame.bytes
HasBytes (dropped before now) = ⊤

-- The packets of a capture of bytes have bytes.
abbrev pub PacketsHaveBytes : Type 0
PacketsHaveBytes = (bytes : List ℕ) (packets : List Packet) (end : Option Refusal) → AreBytes bytes → HasCaptured bytes packets end → AllByRecursion HasBytes packets
