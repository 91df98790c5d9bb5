-- The text of a capture: what is written of each packet, and behind the last. A teller's states are of some type.
use Rattle.std.specs.Prelude.{◌≡◌, ℕ, Bool, List, [], ◌∷◌, ◌++◌}
use Rattle.gev_capture.specs.Sightings.{Sighting}

pub record Texts (P : Type 0) : Type 0 where
  -- of a packet
  pub says : P → Sighting → List ℕ
  -- the state behind a packet
  pub after : P → Sighting → P
  -- behind the last packet that was read
  pub finish : P → List ℕ
  -- behind that, where the capture is at its end or refused
  pub close : P → List ℕ
  -- something was told of
  pub some : P → Bool

-- what is written of packets, and the state behind them
abbrev pub said : {P : Type 0} → Texts P → P → List Sighting → List ℕ
said t p [] = []
said t p (x ∷ xs) = t.says p x ++ said t (t.after p x) xs

abbrev pub state : {P : Type 0} → Texts P → P → List Sighting → P
state t p [] = p
state t p (x ∷ xs) = state t (t.after p x) xs

-- something is told of these packets
abbrev pub tells : {P : Type 0} → Texts P → P → List Sighting → Bool
tells t p xs = t.some (state t p xs)

-- the text of a capture whose reading failed behind these packets
abbrev pub broken : {P : Type 0} → Texts P → P → List Sighting → List ℕ
broken t p xs = said t p xs ++ t.finish (state t p xs)

-- the text of a capture with these packets
abbrev pub whole : {P : Type 0} → Texts P → P → List Sighting → List ℕ
whole t p xs = said t p xs ++ (t.finish (state t p xs) ++ t.close (state t p xs))

-- Packets were told of: their text stands behind the old one, and `Stands` holds of the state behind them.
pub record Tells {P : Type 0} (t : Texts P) (p : P) (xs : List Sighting) (Stands : P → Type 0) (old new : List ℕ) : Type 0 where
  pub stands : Stands (state t p xs)
  pub added : new ≡ old ++ said t p xs
