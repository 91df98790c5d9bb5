-- Lists of blocks in order of their ids.
use Rattle.std.proofs.Common.{◌≡◌, ◌≢◌, ◌⊎◌, inl, inr, ℕ, ◌+◌, ◌<◌, ◌≤◌, List, [], ◌∷◌, ◌++◌, length, Bool, true, false, refl, sym, ap, arith}
use Rattle.std.specs.Prelude.{◌==◌, Option, Some, None, if◌then◌else◌}
use Rattle.std.specs.List.{AllByRecursion}
use Rattle.std.proofs.lemmas.Bool.{cases_order, lt-ltb, le-ltb, eq-eqb, ne_eqb, eqb-true, eqb-false}
use Rattle.std.proofs.lemmas.List.{length-append}
use Rattle.acquisition_machine.specs.Blocks.{Open}
use Rattle.acquisition_machine.specs.Machine.{put, open_at}
use Rattle.acquisition_machine.specs.Sound.{RiseFrom, AreOthers}

-- ---- what holds of each member

pub all_append : {X : Type 0} (P : X → Type 0) (xs ys : List X) → AllByRecursion P xs → AllByRecursion P ys → AllByRecursion P (xs ++ ys)
all_append P [] ys a b = b
all_append P (x ∷ xs) ys a b = (a.0, all_append P xs ys a.1 b)

pub all_front : {X : Type 0} (P : X → Type 0) (xs ys : List X) → AllByRecursion P (xs ++ ys) → AllByRecursion P xs
all_front P [] ys a = tt
all_front P (x ∷ xs) ys a = (a.0, all_front P xs ys a.1)

pub all_back : {X : Type 0} (P : X → Type 0) (xs ys : List X) → AllByRecursion P (xs ++ ys) → AllByRecursion P ys
all_back P [] ys a = a
all_back P (x ∷ xs) ys a = all_back P xs ys a.1

pub all_weaker : {X : Type 0} (P Q : X → Type 0) → ((x : X) → P x → Q x) → (xs : List X) → AllByRecursion P xs → AllByRecursion Q xs
all_weaker P Q f [] a = tt
all_weaker P Q f (x ∷ xs) a = (f x a.0, all_weaker P Q f xs a.1)

pub all_both : {X : Type 0} (P Q R : X → Type 0) → ((x : X) → P x → Q x → R x) → (xs : List X) → AllByRecursion P xs → AllByRecursion Q xs → AllByRecursion R xs
all_both P Q R f [] a b = tt
all_both P Q R f (x ∷ xs) a b = (f x a.0 b.0, all_both P Q R f xs a.1 b.1)

-- ---- ids that rise

pub rise_lower : (low lower : ℕ) (os : List Open) → lower ≤ low → RiseFrom low os → RiseFrom lower os
rise_lower low lower [] h r = tt
rise_lower low lower (o ∷ os) h r = let above : low ≤ o.block = r.0 in let first : lower ≤ o.block = omega arith in (first, r.1)

-- what lies below them is none of them
pub rise_others : (b low : ℕ) (os : List Open) → b < low → RiseFrom low os → AreOthers b os
rise_others b low [] h r = tt
rise_others b low (o ∷ os) h r =
    let above : low ≤ o.block = r.0 in
    let apart : o.block ≢ b = λ e. omega arith in
    let further : b < o.block + 1 = omega arith in
    (apart, rise_others b (o.block + 1) os further r.1)

-- the first id may be the lowest
pub rise_here : (low : ℕ) (o : Open) (os : List Open) → RiseFrom low (o ∷ os) → RiseFrom o.block (o ∷ os)
rise_here low o os r = let here : o.block ≤ o.block = omega arith in (here, r.1)

pub rise_at : (low : ℕ) (front : List Open) (o : Open) (back : List Open) → RiseFrom low (front ++ o ∷ back) → low ≤ o.block
rise_at low [] o back r = r.0
rise_at low (f ∷ front) o back r =
    let above : low ≤ f.block = r.0 in
    let rest : f.block + 1 ≤ o.block = rise_at (f.block + 1) front o back r.1 in
    omega arith

-- a block with the same id in the place of one
pub rise_swap : (low : ℕ) (front : List Open) (o n : Open) (back : List Open) → n.block ≡ o.block → RiseFrom low (front ++ o ∷ back) → RiseFrom low (front ++ n ∷ back)
rise_swap low [] o n back e r = rw e r
rise_swap low (f ∷ front) o n back e r = (r.0, rise_swap (f.block + 1) front o n back e r.1)

pub length-swap : {X : Type 0} (front : List X) (o n : X) (back : List X) → length (front ++ n ∷ back) ≡ length (front ++ o ∷ back)
length-swap [] o n back = refl
length-swap (f ∷ front) o n back = let same : length (front ++ n ∷ back) ≡ length (front ++ o ∷ back) = length-swap front o n back in rw same refl

pub length-put : {X : Type 0} (front : List X) (n : X) (back : List X) → length (front ++ n ∷ back) ≡ length (front ++ back) + 1
length-put front n back = let a = length-append front (n ∷ back) in let b = length-append front back in omega (arith, a, b)

-- ---- finding

-- The block with this id stands there, among others.
pub record IsFound (b : ℕ) (os : List Open) (o : Open) : Type 0 where
  pub front : List Open
  pub back : List Open
  pub parts : os ≡ front ++ o ∷ back
  pub of_block : o.block ≡ b
  pub others_before : AreOthers b front
  pub others_behind : AreOthers b back

abbrev pub Finds : ℕ → List Open → Option Open → Type 0
Finds b os None = AreOthers b os
Finds b os (Some o) = IsFound b os o

find_step : (b : ℕ) (o : Open) (os : List Open) (v : Bool) (found : Option Open) → (v ≡ true → IsFound b (o ∷ os) o) → (v ≡ false → o.block ≢ b) → Finds b os found → Finds b (o ∷ os) (if v then Some o else found)
find_step b o os true found hit miss rest = hit refl
find_step b o os false None hit miss rest = (miss refl, rest)
find_step b o os false (Some n) hit miss rest = record {
  front = o ∷ rest.front;
  back = rest.back;
  parts = ap (λ l. o ∷ l) rest.parts;
  of_block = rest.of_block;
  others_before = (miss refl, rest.others_before);
  others_behind = rest.others_behind;
}

pub find : (b low : ℕ) (os : List Open) → RiseFrom low os → Finds b os (open_at b os)
find b low [] r = tt
find b low (o ∷ os) r =
    find_step b o os (o.block == b) (open_at b os)
    (λ e. let same : o.block ≡ b = eqb-true o.block b e in
    let below : b < o.block + 1 = omega arith in
    record { front = []; back = os; parts = refl; of_block = same; others_before = tt; others_behind = rise_others b (o.block + 1) os below r.1 })
    (λ e. eqb-false o.block b e)
    (find b (o.block + 1) os r.1)

-- ---- putting

-- a block with the id of an open one takes its place
pub put_found : (low : ℕ) (front : List Open) (o n : Open) (back : List Open) → n.block ≡ o.block → RiseFrom low (front ++ o ∷ back) → put n (front ++ o ∷ back) ≡ front ++ n ∷ back
put_found low [] o n back e r =
    let above : o.block ≤ n.block = omega arith in
    rw (le-ltb n.block o.block above, eq-eqb n.block o.block e) refl
put_found low (f ∷ front) o n back e r =
    let later : f.block + 1 ≤ o.block = rise_at (f.block + 1) front o back r.1 in
    let above : f.block ≤ n.block = omega arith in
    let apart : n.block ≢ f.block = λ same. omega arith in
    rw (le-ltb n.block f.block above, ne_eqb n.block f.block apart) (ap (λ l. f ∷ l) (put_found (f.block + 1) front o n back e r.1))

-- The block stands among the others, which stay in order.
pub record IsPut (n : Open) (os ps : List Open) : Type 0 where
  pub front : List Open
  pub back : List Open
  pub was : os ≡ front ++ back
  pub now : ps ≡ front ++ n ∷ back

pub put_new : (n : Open) (os : List Open) → AreOthers n.block os → IsPut n os (put n os)
put_new n [] a = record { front = []; back = []; was = refl; now = refl }
put_new n (f ∷ os) a = go (cases_order n.block f.block) (put_new n os a.1) where
  go : (n.block ≡ f.block) ⊎ ((n.block < f.block) ⊎ (f.block < n.block)) → IsPut n os (put n os) → IsPut n (f ∷ os) (put n (f ∷ os))
  go (inl e) rest = absurd (a.0 (sym e))
  go (inr (inl l)) rest = record { front = []; back = f ∷ os; was = refl; now = rw (lt-ltb n.block f.block l) refl }
  go (inr (inr l)) rest =
      let above : f.block ≤ n.block = omega arith in
      let apart : n.block ≢ f.block = λ same. omega arith in
      record {
        front = f ∷ rest.front;
        back = rest.back;
        was = ap (λ l. f ∷ l) rest.was;
        now = rw (le-ltb n.block f.block above, ne_eqb n.block f.block apart) (ap (λ l. f ∷ l) rest.now);
      }

pub rise_put : (low : ℕ) (n : Open) (os : List Open) → low ≤ n.block → AreOthers n.block os → RiseFrom low os → RiseFrom low (put n os)
rise_put low n [] h a r = (h, tt)
rise_put low n (f ∷ os) h a r = go (cases_order n.block f.block) (λ later. rise_put (f.block + 1) n os later a.1 r.1) where
  go : (n.block ≡ f.block) ⊎ ((n.block < f.block) ⊎ (f.block < n.block)) → (f.block + 1 ≤ n.block → RiseFrom (f.block + 1) (put n os)) → RiseFrom low (put n (f ∷ os))
  go (inl e) rest = absurd (a.0 (sym e))
  go (inr (inl l)) rest =
      let later : n.block + 1 ≤ f.block = omega arith in
      rw (lt-ltb n.block f.block l) (h, (later, r.1))
  go (inr (inr l)) rest =
      let above : f.block ≤ n.block = omega arith in
      let apart : n.block ≢ f.block = λ same. omega arith in
      let later : f.block + 1 ≤ n.block = omega arith in
      rw (le-ltb n.block f.block above, ne_eqb n.block f.block apart) (r.0, rest later)
