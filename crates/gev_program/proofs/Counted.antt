-- Links whose count of faults rose.
use Rattle.std.proofs.Common.{◌≡◌, ◌⊎◌, ℕ, ◌+◌, ◌≤◌, inl, inr, arith}
use Rattle.gev_links.specs.Faults.{Rose}

rose_from_none : (a b : ℕ) → a ≡ 0 → Rose a b → 1 ≤ b
rose_from_none a b none (inl more) = omega (arith, more)
rose_from_none a b none (inr last) = omega (arith, last)

pub one_rose : (a b x y z w : ℕ) → a ≡ 0 → x ≡ 0 → z ≡ 0 → Rose a b ⊎ (Rose x y ⊎ Rose z w) → 1 ≤ b + y + w
one_rose a b x y z w first second third (inl rose) = omega (arith, rose_from_none a b first rose)
one_rose a b x y z w first second third (inr (inl rose)) = omega (arith, rose_from_none x y second rose)
one_rose a b x y z w first second third (inr (inr rose)) = omega (arith, rose_from_none z w third rose)
