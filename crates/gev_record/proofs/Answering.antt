-- Answers that say more than they did.
use Rattle.std.proofs.Common.{◌≡◌, ℕ, ◌≤◌, ◌==◌, false, List, [], ◌∷◌, length, arith}
use Rattle.std.specs.Prelude.{Result, Ok, Err, OnOk}

pub on_ok : {E : Type 0} {P Q : Type 0} (r : Result (Unit {0}) E) → OnOk r P → (P → Q) → OnOk r Q
on_ok (Ok done) p f = f p
on_ok (Err e) p f = tt

pub some_length : (bytes : List ℕ) → (length bytes == 0) ≡ false → 1 ≤ length bytes
some_length [] e = absurd cc
some_length (b ∷ bytes) e = omega arith

pub known_ok : {E : Type 0} {P : Type 0} (r : Result (Unit {0}) E) (x : Unit {0}) → OnOk r P → r ≡ Ok x → P
known_ok (Ok done) x p e = p
known_ok (Err error) x p e = absurd cc
