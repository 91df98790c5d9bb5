-- Zeros in the places of packets that weren't kept.
use Rattle.std.specs.Prelude.{◌≡◌, ℕ, ◌+◌, ◌-◌, ◌≤◌, ◌<◌, min, List, length, replicate, slice_index_or, Bool, true, false}
use Rattle.gev_types.specs.Placing.{put_at}
use Rattle.stream_packets.specs.FramePackets.{payload_start}

-- the places of the payloads from the first to the last, as far as the bytes go
abbrev pub places_zeroed : ℕ → ℕ → ℕ → List ℕ → List ℕ
places_zeroed p first last bytes =
    let start = min (payload_start p first) (length bytes) in
    put_at bytes start (replicate (min (payload_start p last + p) (length bytes) - start) 0)

-- Of the payloads below `upto` the places of those that aren't there are zero now, and each place of one that is there has what it had.
pub record Zeroes (there : ℕ → Bool) (p upto : ℕ) (old new : List ℕ) : Type 0 where
  pub size : length new ≡ length old
  pub stays : (k j : ℕ) → 1 ≤ k → there k ≡ true → payload_start p k ≤ j → j < payload_start p k + p → j < length old
      → slice_index_or new j 0 ≡ slice_index_or old j 0
  pub zero : (k j : ℕ) → 1 ≤ k → k < upto → there k ≡ false → payload_start p k ≤ j → j < payload_start p k + p → j < length old
      → slice_index_or new j 0 ≡ 0
