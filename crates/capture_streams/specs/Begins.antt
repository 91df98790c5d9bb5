-- When a capture begins.
use Rattle.std.specs.Prelude.{◌≡◌, ℕ, ◌+◌, ◌*◌, ◌^◌, ◌<◌, ◌≤◌, List, [], ◌∷◌, Option, Some, None}
use Rattle.gev_capture.specs.Files.{Packet, captured, dropped}
use Rattle.gev_capture.specs.Sightings.{sightings}
use Rattle.capture_streams.specs.Texts.{table_of}

-- the time of the first packet that was captured, in nanoseconds since 1970
abbrev pub first_time_in : List Packet → Option ℕ
first_time_in [] = None
first_time_in (captured frame ∷ packets) = Some frame.time
first_time_in (dropped before now ∷ packets) = first_time_in packets

-- That is in this millisecond since 1970: a million nanoseconds each.
pub record IsIn (millisecond time : ℕ) : Type 0 where
  pub from : millisecond * 1000000 ≤ time
  pub before : time < (millisecond + 1) * 1000000

-- The beginning of a capture is the millisecond of its first packet, where 64 bits hold it; 0 where there is none.
pub record BeginsInMilliseconds : Type 0 where
  pub some : (packets : List Packet) (time : ℕ) → first_time_in packets ≡ Some time → time < 2 ^ 64 * 1000000 → IsIn (table_of (sightings packets)).counts.begin time
  pub none : (packets : List Packet) → first_time_in packets ≡ None → (table_of (sightings packets)).counts.begin ≡ 0
