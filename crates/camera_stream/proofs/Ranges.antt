-- Ranges of a list by its places.
use Rattle.std.proofs.Common.{◌≡◌, ℕ, zero, suc, ◌+◌, ◌-◌, ◌<◌, ◌≤◌, Bool, true, false, List, [], ◌∷◌, ◌++◌, length, take, drop, Some, refl, ap, sym, ◌∙◌, arith, add-one}
use Rattle.std.specs.Prelude.{nat_lt, slice_get, if◌then◌else◌}
use Rattle.std.proofs.lemmas.Bool.{ltb-true, ltb-false}
use Rattle.std.proofs.lemmas.Option.{slice_get-get_or}
use Rattle.stream_packets.specs.Packets.{StreamPacket}
use Rattle.camera_machine.specs.Camera.{Job}
use Rattle.camera_machine.specs.Stream.{first_of, rest_of}

-- the members from place n to place l
abbrev pub range : {A : Type 0} → List A → ℕ → ℕ → List A
range xs n l = take (l + 1 - n) (drop n xs)

pub slice_get_here : {A : Type 0} (xs ys : List A) (y : A) → slice_get (xs ++ y ∷ ys) (length xs) ≡ Some y
slice_get_here [] ys y = refl
slice_get_here (x ∷ xs) ys y = slice_get_here xs ys y

pub slice_get_left : {A : Type 0} (xs ys : List A) (i : ℕ) → i < length xs → slice_get (xs ++ ys) i ≡ slice_get xs i
slice_get_left [] ys i h = absurd (omega arith)
slice_get_left (x ∷ xs) ys zero h = refl
slice_get_left (x ∷ xs) ys (suc i) h = slice_get_left xs ys i (omega arith)

take_drop : {A : Type 0} (xs : List A) (n k : ℕ) (x : A) → slice_get xs n ≡ Some x → take (suc k) (drop n xs) ≡ x ∷ take k (drop (suc n) xs)
take_drop [] n k x e = absurd (cc)
take_drop (y ∷ ys) zero k x e = let same : y ≡ x = cc in ap (λ z. z ∷ take k ys) same
take_drop (y ∷ ys) (suc n) k x e = take_drop ys n k x e

-- a range is its first member and the range behind it
pub range_cons : {A : Type 0} (xs : List A) (n l : ℕ) (x : A) → slice_get xs n ≡ Some x → n ≤ l → range xs n l ≡ x ∷ range xs (n + 1) l
range_cons xs n l x e h =
    let more : l + 1 - n ≡ suc (l + 1 - (n + 1)) = omega arith in
    ap (λ (k : ℕ). take k (drop n xs)) more
    ∙ (take_drop xs n (l + 1 - (n + 1)) x e ∙ ap (λ (k : ℕ). x ∷ take (l + 1 - (n + 1)) (drop k xs)) (sym (add-one n)))

range_none : {A : Type 0} (xs : List A) (n l : ℕ) → l < n → range xs n l ≡ []
range_none xs n l h = let none : l + 1 - n ≡ 0 = omega arith in rw none refl

-- ---- the first and the rest of a job

pub first_of_range : (xs : List StreamPacket) (n l : ℕ) (x : StreamPacket) → slice_get xs n ≡ Some x → n ≤ l → first_of (range xs n l) ≡ Some x
first_of_range xs n l x e h = ap first_of (range_cons xs n l x e h)

rest_of_none : (b : Bool) (x : StreamPacket) (ys : List StreamPacket) (jobs : List Job) → ys ≡ [] → rest_of b (x ∷ ys) jobs ≡ jobs
rest_of_none b x [] jobs e = refl
rest_of_none b x (y ∷ ys) jobs e = absurd (cc)

rest_of_some : (b : Bool) (x y : StreamPacket) (ys zs : List StreamPacket) (jobs : List Job) → ys ≡ y ∷ zs
    → rest_of b (x ∷ ys) jobs ≡ record { is_reply = b; packets = ys } ∷ jobs
rest_of_some b x y [] zs jobs e = absurd (cc)
rest_of_some b x y (z ∷ ys) zs jobs e = refl

pub rest_of_range : (b : Bool) (xs : List StreamPacket) (n l : ℕ) (x : StreamPacket) (jobs : List Job) → slice_get xs n ≡ Some x → n ≤ l → l < length xs
    → rest_of b (range xs n l) jobs ≡ (if nat_lt n l then record { is_reply = b; packets = range xs (n + 1) l } ∷ jobs else jobs)
rest_of_range b xs n l x jobs e order within =
    ap (λ (ys : List StreamPacket). rest_of b ys jobs) (range_cons xs n l x e order) ∙ go (nat_lt n l) refl
  where
    go : (t : Bool) → nat_lt n l ≡ t → rest_of b (x ∷ range xs (n + 1) l) jobs ≡ (if t then record { is_reply = b; packets = range xs (n + 1) l } ∷ jobs else jobs)
    go true t =
        let more : n + 1 ≤ l = omega (arith, ltb-true n l t) in
        let place : n + 1 < length xs = omega arith in
        rest_of_some b x _ (range xs (n + 1) l) _ jobs (range_cons xs (n + 1) l _ (slice_get-get_or xs (n + 1) x place) more)
    go false t = rest_of_none b x (range xs (n + 1) l) jobs (range_none xs (n + 1) l (omega (arith, ltb-false n l t)))
