-- Which block ids notes tell of.
use Rattle.std.specs.Prelude.{◌≡◌, ℕ, ◌+◌, ◌<◌, ◌≤◌, ◌&&◌, nat_le, List, [], ◌∷◌, if◌then◌else◌}
use Rattle.script_trace.specs.Notes.{Note, idle, ignored, unwidened, leads, opens, asks, first, absent, drops, done, unbuffered}

-- the block ids of blocks that retired and of absent ones, as spans
abbrev pub spans : List Note → List (ℕ × ℕ)
spans [] = []
spans (idle bytes ∷ xs) = spans xs
spans (ignored why x ∷ xs) = spans xs
spans (unwidened e ∷ xs) = spans xs
spans (leads b i ∷ xs) = spans xs
spans (opens b buffer ∷ xs) = spans xs
spans (asks b r round ∷ xs) = spans xs
spans (first b ∷ xs) = spans xs
spans (absent r ∷ xs) = r ∷ spans xs
spans (drops b buffer ∷ xs) = spans xs
spans (done o ∷ xs) = (o.block, o.block) ∷ spans xs
spans (unbuffered b cause ∷ xs) = (b, b) ∷ spans xs

-- in how many of the spans an id stands
abbrev pub times_in : ℕ → List (ℕ × ℕ) → ℕ
times_in k [] = 0
times_in k (r ∷ rs) = (if nat_le r.0 k && nat_le k r.1 then 1 else 0) + times_in k rs

-- each id from low on, below high, stands in exactly one of the spans, and no other id in any
pub record AreCovered (low high : ℕ) (rs : List (ℕ × ℕ)) : Type 0 where
  pub rise : low ≤ high
  pub within : (k : ℕ) → low ≤ k → k < high → times_in k rs ≡ 1
  pub below : (k : ℕ) → k < low → times_in k rs ≡ 0
  pub above : (k : ℕ) → high ≤ k → times_in k rs ≡ 0

-- The spans tell of each id from the first block that retired to the one below the floor.
abbrev pub AreAccounted : List (ℕ × ℕ) → ℕ → Type 0
AreAccounted [] floor = floor ≡ 1
AreAccounted (r ∷ rs) floor = (r.0 ≡ r.1) × AreCovered r.0 floor (r ∷ rs)
