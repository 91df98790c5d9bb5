-- Laws of `&&` and `||`.
use Rattle.std.proofs.Common.{◌≡◌, ℕ, Bool, true, false, refl}
use Rattle.std.specs.Prelude.{◌&&◌, ◌||◌, Option, Some, None, is_some, if◌then◌else◌}

pub or_assoc : (x y z : Bool) → (x || y || z) ≡ (x || (y || z))
or_assoc true y z = refl
or_assoc false y z = refl

pub or_false : (x : Bool) → (x || false) ≡ x
or_false true = refl
or_false false = refl

pub and_false : (x : Bool) → (x && false) ≡ false
and_false true = refl
and_false false = refl

-- the first value, or else the second
abbrev pub first_some : {T : Type 0} → Option T → Option T → Option T
first_some None b = b
first_some (Some v) b = Some v

pub first_some-none : {T : Type 0} (a : Option T) → first_some a None ≡ a
first_some-none None = refl
first_some-none (Some v) = refl

pub first_some_assoc : {T : Type 0} (a b c : Option T) → first_some (first_some a b) c ≡ first_some a (first_some b c)
first_some_assoc None b c = refl
first_some_assoc (Some v) b c = refl

pub first_some_if : {T : Type 0} (a b : Option T) → (if is_some a then a else b) ≡ first_some a b
first_some_if None b = refl
first_some_if (Some v) b = refl

pub is_some-first_some : {T : Type 0} (a b : Option T) → is_some (first_some a b) ≡ (is_some a || is_some b)
is_some-first_some None b = refl
is_some-first_some (Some v) b = refl

-- a test as a number
abbrev pub one_if : Bool → ℕ
one_if b = if b then 1 else 0
