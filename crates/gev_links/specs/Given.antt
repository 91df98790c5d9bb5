-- Links and clocks that ports gave and that came back, and the addresses that they gave.
use Rattle.std.specs.Prelude.{◌≡◌, ℕ, zero, suc, ◌+◌, ◌-◌, ◌<◌, ◌^◌, min, List, [], ◌∷◌, ◌++◌, length, Option, Some, None}
use Rattle.gev_links.specs.Faults.{Rose}

-- One more, up to the counter's last value.
abbrev pub one_more : ℕ → ℕ
one_more n = min (n + 1) (2 ^ 64 - 1)

-- This was told behind those. Ports that tell do so of three at least.
abbrev pub ToldOfThree : {A : Type 0} → Option (List A) → Option (List A) → A → Type 0
ToldOfThree None new member = new ≡ None
ToldOfThree (Some old) new member = length old < 3 → new ≡ Some (old ++ member ∷ [])

-- The ports' count of faults, by the count of the link that came back: it rises exactly where the link had one.
abbrev pub Raises : ℕ → ℕ → ℕ → Type 0
Raises zero old new = new ≡ old
Raises (suc n) old new = Rose old new
