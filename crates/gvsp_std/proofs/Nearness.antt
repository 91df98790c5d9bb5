-- An id names the one block near the greatest that has it.
use Rattle.std.proofs.Common.{◌≡◌, ℕ, ◌+◌, ◌-◌, ◌≤◌, true, Some, refl, inl, inr, arith}
use Rattle.std.specs.Prelude.{nat_le}
use Rattle.std.proofs.lemmas.Bool.{cases_Bool, cases_eq, leb-true, leb-false, le-leb, ne_eqb, eq-eqb}
use Rattle.gvsp_std.specs.Blocks.{cycle, reach, narrow, IsNear, IsInReach, first, later, ahead, near, chosen}
use Rattle.gvsp_std.specs.Laws.{NamesNear}

some_is : (a b : ℕ) → Some a ≡ Some b → a ≡ b
some_is a b e = cc

near_found : (top s b : ℕ) → 1 ≤ top → 1 ≤ s → s ≤ cycle → near top s ≡ Some b → IsNear top s b
near_found top s b some one low e =
    elim (cases_Bool (nat_le (ahead top s) reach)) [
      | inl close ↦
          let le = leb-true (ahead top s) reach close in
          let is : top + ahead top s ≡ b = some_is (top + ahead top s) b (rw close at e) in
          record { from_one = omega arith; bits = omega arith; not_above = omega arith; not_below = omega arith }
      | inr far ↦
          let lt = leb-false (ahead top s) reach far in
          elim (cases_Bool (nat_le (cycle + 1) (top + ahead top s))) [
            | inl above ↦
                let le = leb-true (cycle + 1) (top + ahead top s) above in
                let is : top + ahead top s - cycle ≡ b = some_is (top + ahead top s - cycle) b (rw (far, above) at e) in
                record { from_one = omega arith; bits = omega arith; not_above = omega arith; not_below = omega arith }
            | inr below ↦ let never = rw (far, below) at e in absurd (cc)
          ]
    ]

near_given : (top s b : ℕ) → 1 ≤ top → 1 ≤ s → s ≤ cycle → IsNear top s b → near top s ≡ Some b
near_given top s b some one low is =
    let from_one = is.from_one in
    let bits = is.bits in
    let not_above = is.not_above in
    let not_below = is.not_below in
    elim (cases_Bool (nat_le (ahead top s) reach)) [
      | inl close ↦
          let le = leb-true (ahead top s) reach close in
          let same : top + ahead top s ≡ b = omega arith in
          rw (close, same) refl
      | inr far ↦
          let lt = leb-false (ahead top s) reach far in
          let same : top + ahead top s ≡ b + cycle = omega arith in
          let back : top + ahead top s - cycle ≡ b = omega arith in
          let above : nat_le (cycle + 1) (top + ahead top s) ≡ true = le-leb (cycle + 1) (top + ahead top s) (omega arith) in
          rw (far, above, back) refl
    ]

pub later_chosen : (top s : ℕ) → 1 ≤ top → chosen top s ≡ near top s
later_chosen top s some = rw (ne_eqb top 0 (λ e. omega arith)) refl

pub names_near : (s : ℕ) → 1 ≤ s → s ≤ cycle → NamesNear s
names_near s one low = record {
  at_first = refl;
  later = λ top b some. (
    λ e. near_found top s b some one low (rw (← later_chosen top s some) e),
    λ is. rw (later_chosen top s some) (near_given top s b some one low is),
  );
}

pub chooses_itself : (top b : ℕ) → 1 ≤ b → IsInReach top b → chosen top (narrow b) ≡ Some b
chooses_itself top b one (first zero low) =
    let same : narrow b ≡ b = omega arith in
    rw (eq-eqb top 0 zero, same) refl
chooses_itself top b one (later some not_above not_below) =
    ((names_near (narrow b) (omega arith) (omega arith)).later top b some).1
    (record { from_one = one; bits = refl; not_above = not_above; not_below = not_below })

-- The block that is chosen is from 1 on, and not far above the greatest.
pub record IsBlock (top b : ℕ) : Type 0 where
  pub from_one : 1 ≤ b
  pub near : b ≤ top + cycle

pub chosen_block : (top s b : ℕ) → 1 ≤ s → s ≤ cycle → chosen top s ≡ Some b → IsBlock top b
chosen_block top s b one low e =
    elim (cases_eq top 0) [
      | inl zero ↦
          let is : s ≡ b = some_is s b (rw (eq-eqb top 0 zero) at e) in
          record { from_one = omega arith; near = omega arith }
      | inr some ↦
          let is = near_found top s b (omega (arith, some)) one low (rw (ne_eqb top 0 some) at e) in
          record { from_one = is.from_one; near = omega (arith, is.not_above) }
    ]
