-- A run has one text and one end, and ends with the first round that has one.
use Rattle.std.proofs.Common.{◌≡◌, ◌⊎◌, ℕ, zero, suc, ◌<◌, List, ◌++◌, Some, None, refl, sym, ap, ◌∙◌, subst, inl, inr, arith, append_assoc}
use Rattle.world_machine.specs.State.{Host, Run, World, new_world}
use Rattle.world_machine.specs.ClientTurn.{End}
use Rattle.world_machine.specs.Rounds.{round, world_after}
use Rattle.world_machine.specs.Soak.{Runs, last_round, round_more}
use Rattle.world_machine.specs.Laws.{AreSame, HasOneText, text_after, EndsAfter, EndsInARound}

same_some : {B : Type 0} (x y : B) → Some x ≡ Some y → x ≡ y
same_some x y h = cc

no_some : {B : Type 0} (x : B) → Some x ≡ None → ⊥
no_some x h = cc

-- ---- one text

one_last : {A : Type 0} (run : Run) (host : Host A) (w : World A) (other : List ℕ) (other_end : End) → Runs run host w other other_end
    → (text : List ℕ) (e : End) → (round run host w).end ≡ Some e → text ≡ (round run host w).text → AreSame text other e other_end
one_last run host _ _ _ (last_round w other other_end k u) text e h t = record { text_is = t ∙ sym u; end_is = same_some e other_end (sym h ∙ k) }
one_last run host _ _ _ (round_more w other rest other_end k r u) text e h t = absurd (no_some e (sym h ∙ k))

one_more : {A : Type 0} (run : Run) (host : Host A) (w : World A) (other : List ℕ) (other_end : End) → Runs run host w other other_end
    → (text rest : List ℕ) (e : End) → (round run host w).end ≡ None → text ≡ (round run host w).text ++ rest
    → ((ys : List ℕ) (f : End) → Runs run host (round run host w).world ys f → AreSame rest ys e f) → AreSame text other e other_end
one_more run host _ _ _ (last_round w other other_end k u) text rest e h t same = absurd (no_some other_end (sym k ∙ h))
one_more run host _ _ _ (round_more w other ys other_end k r u) text rest e h t same =
    let s = same ys other_end r in
    record { text_is = t ∙ ap (λ (zs : List ℕ). (round run host w).text ++ zs) s.text_is ∙ sym u; end_is = s.end_is }

same_runs : {A : Type 0} (run : Run) (host : Host A) (w : World A) (text : List ℕ) (e : End) → Runs run host w text e
    → (other : List ℕ) (other_end : End) → Runs run host w other other_end → AreSame text other e other_end
same_runs run host _ _ _ (last_round w text e h t) other other_end s = one_last run host w other other_end s text e h t
same_runs run host _ _ _ (round_more w text rest e h r t) other other_end s =
    one_more run host w other other_end s text rest e h t (λ ys f q. same_runs run host (round run host w).world rest e r ys f q)

pub one_text : {A : Type 0} (run : Run) (host : Host A) (start : A) → HasOneText run host start
one_text run host start text other e other_end r s = same_runs run host (new_world run start) text e r other other_end s

-- ---- the round that ends it

below_or_last : (k n : ℕ) → k < suc n → (k < n) ⊎ (k ≡ n)
below_or_last zero zero h = inr refl
below_or_last zero (suc n) h = inl (omega arith)
below_or_last (suc k) zero h = absurd (omega arith)
below_or_last (suc k) (suc n) h = go (below_or_last k n (omega arith))
  where
    go : (k < n) ⊎ (k ≡ n) → (suc k < suc n) ⊎ (suc k ≡ suc n)
    go (inl p) = inl (omega arith)
    go (inr p) = inr (ap suc p)

ends_from : {A : Type 0} (run : Run) (host : Host A) (start : A) (w : World A) (text : List ℕ) (e : End) → Runs run host w text e
    → (m : ℕ) → w ≡ world_after run host start m → ((k : ℕ) → k < m → (round run host (world_after run host start k)).end ≡ None)
    → (n : ℕ) × EndsAfter run host start (text_after run host start m ++ text) e n
ends_from run host start _ _ _ (last_round w text e h t) m is before = (
  m,
  record {
    goes_on = before;
    ends = ap (λ v. (round run host v).end) (sym is) ∙ h;
    text_is = ap (λ (zs : List ℕ). text_after run host start m ++ zs) (t ∙ ap (λ v. (round run host v).text) is);
  },
)
ends_from run host start _ _ _ (round_more w text rest e h r t) m is before =
    let front : List ℕ = text_after run host start m in
    let this : List ℕ = (round run host (world_after run host start m)).text in
    let same : (front ++ this) ++ rest ≡ front ++ text =
    append_assoc front this rest ∙ ap (λ (zs : List ℕ). front ++ zs) (ap (λ v. (round run host v).text ++ rest) (sym is) ∙ sym t) in
    let later = ends_from run host start (round run host w).world rest e r (suc m) (ap (λ v. (round run host v).world) is) upto in
    (later.0, subst (λ (zs : List ℕ). EndsAfter run host start zs e later.0) same later.1)
  where
    upto : (k : ℕ) → k < suc m → (round run host (world_after run host start k)).end ≡ None
    upto k below = go (below_or_last k m below)
      where
        go : (k < m) ⊎ (k ≡ m) → (round run host (world_after run host start k)).end ≡ None
        go (inl p) = before k p
        go (inr p) =
            ap (λ (j : ℕ). (round run host (world_after run host start j)).end) p ∙ ap (λ v. (round run host v).end) (sym is) ∙ h

pub ends_in_a_round : {A : Type 0} (run : Run) (host : Host A) (start : A) → EndsInARound run host start
ends_in_a_round run host start text e r = ends_from run host start (new_world run start) text e r zero refl (λ k h. absurd (omega arith))
