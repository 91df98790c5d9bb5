-- A whole capture: its records one after the other, and how it ends.
use Rattle.std.specs.Prelude.{◌≡◌, ◌⊎◌, ℕ, ◌+◌, List, [], ◌∷◌, drop, Bool, true, false, Option, Some, None}
use Rattle.gev_capture.specs.declared.kind.CaptureKind.{CaptureKind}
use Rattle.gev_capture.specs.declared.kind.CaptureKind.TheVariants.{Cut}
use Rattle.gev_capture.specs.Files.{Packet, Format, fresh, classic, section, wants, refused, given, told}

-- A record that was read: its size in bytes, the format behind it, and the packet in it.
pub record Read : Type 0 where
  pub size : ℕ
  pub format : Format
  pub packet : Option Packet

-- The first record that is refused, counted from 1, and why.
pub record Refusal : Type 0 where
  pub number : ℕ
  pub kind : CaptureKind

-- A further record could begin, so an input that ends there is at its end. An empty input is none.
abbrev pub may_begin : Format → Bool
may_begin fresh = false
may_begin (classic order parts link) = true
may_begin (section order interfaces time) = true

-- what is told is that more bytes are needed
abbrev pub IsOpen : Format → List ℕ → Type 0
IsOpen format bytes = (k : ℕ) × (told format bytes ≡ wants k)

abbrev pub IsAtEnd : Format → List ℕ → Type 0
IsAtEnd format bytes = (bytes ≡ []) × (may_begin format ≡ true)

-- the record is refused, or its bytes end before it does
abbrev pub IsRefused : CaptureKind → Format → List ℕ → Type 0
IsRefused kind format bytes =
    (told format bytes ≡ refused kind) ⊎ ((kind ≡ Cut) × IsOpen format bytes × (IsAtEnd format bytes → ⊥))

-- how the bytes that are left behind n records end
abbrev pub EndsAs : Format → ℕ → List ℕ → Option Refusal → Type 0
EndsAs format n bytes None = IsAtEnd format bytes
EndsAs format n bytes (Some refusal) = (refusal.number ≡ n + 1) × IsRefused refusal.kind format bytes

-- The bytes that are left behind n records are these records, and then the capture ends.
abbrev pub AreRecords : Format → ℕ → List ℕ → List Read → Option Refusal → Type 0
AreRecords format n bytes [] end = EndsAs format n bytes end
AreRecords format n bytes (r ∷ rs) end =
    (told format bytes ≡ given r.size r.format r.packet) × AreRecords r.format (n + 1) (drop r.size bytes) rs end

-- the packets of records, in order
abbrev pub with_packet : Option Packet → List Packet → List Packet
with_packet None packets = packets
with_packet (Some packet) packets = packet ∷ packets

abbrev pub packets_in : List Read → List Packet
packets_in [] = []
packets_in (r ∷ rs) = with_packet r.packet (packets_in rs)

-- The bytes of a capture have these packets, and end so.
pub record HasCaptured (bytes : List ℕ) (packets : List Packet) (end : Option Refusal) : Type 0 where
  pub records : List Read
  pub are : AreRecords fresh 0 bytes records end
  pub packets_are : packets ≡ packets_in records
