-- Steps of reading, one after another.
use Rattle.std.proofs.Common.{◌≡◌, refl, ap, Ok, Err}
use Rattle.gev_script.specs.declared.kind.ScriptKind.{ScriptKind}
use Rattle.gev_script.specs.Words.{Read, ◌>>=◌, refused_as}

-- a step whose value is known
pub bound : {A B : Type 0} (r : Read A) (x : A) (f : A → Read B) → r ≡ Ok x → (r >>= f) ≡ f x
bound r x f e = ap (λ s. s >>= f) e

-- what a step gave, and what was made of it
pub record Bound {A B : Type 0} (r : Read A) (f : A → Read B) (y : B) : Type 0 where
  pub value : A
  pub was : r ≡ Ok value
  pub gives : f value ≡ Ok y

pub bind_ok : {A B : Type 0} (r : Read A) (f : A → Read B) (y : B) → (r >>= f) ≡ Ok y → Bound r f y
bind_ok (Ok x) f y h = record { value = x; was = refl; gives = h }
bind_ok (Err kind) f y h = absurd (cc)

pub refused_ok : {A : Type 0} (kind : ScriptKind) (r : Read A) (x : A) → refused_as kind r ≡ Ok x → r ≡ Ok x
refused_ok kind (Ok y) x h = h
refused_ok kind (Err other) x h = absurd (cc)
