-- The wide form that is heard of a datagram.
use Rattle.std.proofs.Common.{◌≡◌, ℕ, List, ◌++◌, length, take, drop, ap, sym, ◌∙◌, arith}
use Rattle.std.specs.Prelude.{min}
use Rattle.std.proofs.lemmas.List.{take-append-le, take_min}
use Rattle.gvsp_std.specs.Widening.{widened, IsWidened}
use Rattle.first_leader.specs.Leaders.{leader_in, wide_leader}

cut : (n : ℕ) (xs : List ℕ) → n ≡ length xs → take (min n 9000) xs ≡ take 9000 xs
cut n xs is = let same : min n 9000 ≡ min 9000 (length xs) = omega (arith, is) in ap (λ (m : ℕ). take m xs) same ∙ take_min 9000 xs

pub front_heard : (len n : ℕ) (wide rest : List ℕ) → len ≡ length wide → n ≡ min len 9000 → take n (wide ++ rest) ≡ take 9000 wide
front_heard len n wide rest is low =
    take-append-le n wide rest (omega (arith, is, low)) ∙ (ap (λ (m : ℕ). take m wide) low ∙ cut len wide is)

pub widened_leader : (top : ℕ) (bytes out : List ℕ) (len top_new n : ℕ) (out_new : List ℕ) → top ≡ 0 → IsWidened top bytes out len top_new out_new
    → n ≡ min len 9000 → leader_in (take n out_new) ≡ wide_leader (widened 0 bytes)
widened_leader top bytes out len top_new n out_new zero w low =
    ap (λ (l : List ℕ). leader_in (take n l)) w.written
    ∙ (ap leader_in (front_heard len n w.wide (drop len out) w.len_is low)
    ∙ sym (ap wide_leader (ap (λ (t : ℕ). widened t bytes) (sym zero) ∙ w.is)))
