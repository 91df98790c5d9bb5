-- Laws of the wire relations, which `src/laws.rt` proves.
use Rattle.std.specs.Prelude.{◌≡◌, ◌⊎◌, ◌↔◌, ℕ, List, Ok, Err}
use Rattle.stream_packets.specs.declared.fields.Head.{Head}
use Rattle.stream_packets.specs.Packets.{StreamPacket, notice}
use Rattle.gvsp_wire.specs.declared.wire_error.WireError.{WireError}
use Rattle.gvsp_wire.specs.declared.wire_error.WireError.TheVariants.{ZeroBlock}
use Rattle.gvsp_wire.specs.Wire.{IsNotice, Stream, Refused}
use Rattle.gvsp_wire.specs.Plain.{AreBytes, HeadFits, HasSpelling, plain}
use Rattle.gvsp_wire.specs.Reading.{reading}

-- Bytes are one packet or have one refusal, and never both.
pub record HasOneAnswer (bytes : List ℕ) : Type 0 where
  pub some : ((x : StreamPacket) × Stream bytes x) ⊎ ((e : WireError) × Refused bytes e)
  pub one_packet : (x y : StreamPacket) → Stream bytes x → Stream bytes y → x ≡ y
  pub one_refusal : (d e : WireError) → Refused bytes d → Refused bytes e → d ≡ e
  pub never_both : (x : StreamPacket) (e : WireError) → Stream bytes x → Refused bytes e → ⊥

abbrev pub OneAnswer : Type 0
OneAnswer = (bytes : List ℕ) → HasOneAnswer bytes

-- What reading computes is what the relations say.
pub record ReadsBytes (bytes : List ℕ) : Type 0 where
  pub packet : (x : StreamPacket) → (reading bytes ≡ Ok x) ↔ Stream bytes x
  pub refusal : (e : WireError) → (reading bytes ≡ Err e) ↔ Refused bytes e

abbrev pub ReadingIsExact : Type 0
ReadingIsExact = (bytes : List ℕ) → ReadsBytes bytes

-- The plain spelling of a packet is a datagram of it.
abbrev pub PlainIsRead : Type 0
PlainIsRead = (x : StreamPacket) → HasSpelling x → Stream (plain x) x

-- A notice of block 0, which answers a resend command for block 0, is spelled as any notice, and
-- reading refuses it for its block.
abbrev pub ZeroNoticeIsRefused : Type 0
ZeroNoticeIsRefused = (h : Head) → HeadFits h → IsNotice h → h.block ≡ 0 → Refused (plain (notice h)) ZeroBlock

-- Two packets with one plain spelling are one.
abbrev pub PlainIsOne : Type 0
PlainIsOne = (x y : StreamPacket) → HasSpelling x → HasSpelling y → plain x ≡ plain y → x ≡ y

-- Each packet that bytes are has a plain spelling.
abbrev pub PacketsHaveSpellings : Type 0
PacketsHaveSpellings = (bytes : List ℕ) (x : StreamPacket) → AreBytes bytes → Stream bytes x → HasSpelling x
