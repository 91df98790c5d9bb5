-- Texts of packets behind other packets.
use Rattle.std.proofs.Common.{◌≡◌, ℕ, List, [], ◌∷◌, ◌++◌, refl, ap, sym, ◌∙◌, append_assoc}
use Rattle.gev_capture.specs.declared.moments.Moments.{Moments}
use Rattle.gev_capture.specs.Files.{Packet}
use Rattle.gev_capture.specs.Sightings.{Sighting, moments_with, sighting_of, sighted}
use Rattle.capture_runs.specs.Texts.{Texts, said, state}
use Rattle.capture_runs.specs.Turns.{moments_behind}

pub moments_behind-append : (m : Moments) (xs ys : List Packet) → moments_behind m (xs ++ ys) ≡ moments_behind (moments_behind m xs) ys
moments_behind-append m [] ys = refl
moments_behind-append m (x ∷ xs) ys = moments_behind-append (moments_with m x) xs ys

pub sighted-append : (m : Moments) (xs ys : List Packet) → sighted m (xs ++ ys) ≡ sighted m xs ++ sighted (moments_behind m xs) ys
sighted-append m [] ys = refl
sighted-append m (x ∷ xs) ys = ap (λ (l : List Sighting). sighting_of m x ∷ l) (sighted-append (moments_with m x) xs ys)

module _ {P : Type 0} where
  pub said-append : (t : Texts P) (p : P) (xs ys : List Sighting) → said t p (xs ++ ys) ≡ said t p xs ++ said t (state t p xs) ys
  said-append t p [] ys = refl
  said-append t p (x ∷ xs) ys =
      ap (λ (l : List ℕ). t.says p x ++ l) (said-append t (t.after p x) xs ys) ∙ sym (append_assoc (t.says p x) (said t (t.after p x) xs) (said t (state t (t.after p x) xs) ys))

  pub state-append : (t : Texts P) (p : P) (xs ys : List Sighting) → state t p (xs ++ ys) ≡ state t (state t p xs) ys
  state-append t p [] ys = refl
  state-append t p (x ∷ xs) ys = state-append t (t.after p x) xs ys
