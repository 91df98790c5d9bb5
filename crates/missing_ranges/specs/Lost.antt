-- Which packets of a block were lost: of the ids up to its last one, those of which no packet was kept. A notice
-- is no packet here.
use Rattle.std.specs.Prelude.{ℕ, zero, suc, ◌+◌, ◌-◌, List, [], ◌∷◌, Bool, Option, Some, None, if◌then◌else◌}
use Rattle.stream_packets.specs.Packets.{StreamPacket}
use Rattle.block_image.specs.Kept.{has_id}
use Rattle.missing_ranges.specs.Missing.{top_of}
use Rattle.missing_ranges.specs.Ranges.{holes}

-- the maximal ranges of ids from 0 to the top of which no packet was kept, lowest first
abbrev pub lost_to : List StreamPacket → Option ℕ → List (ℕ × ℕ)
lost_to ks None = []
lost_to ks (Some top) = holes (λ k. has_id k ks) 0 (top + 1)

-- The lost ranges of a block with these kept packets, with payloads of p bytes at most.
abbrev pub lost : ℕ → List StreamPacket → List (ℕ × ℕ)
lost p ks = lost_to ks (top_of p ks)

-- how many ids the ranges have together
abbrev pub ids_in : List (ℕ × ℕ) → ℕ
ids_in [] = 0
ids_in (r ∷ rs) = (r.1 + 1 - r.0) + ids_in rs

-- of how many of the n ids from k on the test says false
abbrev pub count_false : (ℕ → Bool) → ℕ → ℕ → ℕ
count_false there k zero = 0
count_false there k (suc n) = (if there k then 0 else 1) + count_false there (k + 1) n
