-- What a claim took on a board that others act on too.
use Rattle.std.proofs.Common.{◌≡◌, ℕ, ◌==◌, Bool, true, false, List, [], ◌∷◌, ◌++◌, Some, None, refl, sym, ap, subst, ◌∙◌}
use Rattle.std.specs.Prelude.{cond}
use Rattle.std.proofs.lemmas.Bool.{cond-false}
use Rattle.board_machine.specs.declared.events.Entry.{Entry}
use Rattle.board_machine.specs.declared.events.Event.{Event}
use Rattle.board_machine.specs.declared.events.Event.TheVariants.{Claim, Take}
use Rattle.board_machine.specs.declared.events.TakeEnd.TheVariants.{Taken}
use Rattle.board_machine.specs.Machine.{Board, entry, next}
use Rattle.board_machine.specs.Histories.{after_from, RunsFrom, own_of}
use Rattle.board_machine.specs.Adding.{entries_of}
use Rattle.board_machine.proofs.Runs.{after-append, runs_rest}
use Rattle.board_calls.specs.declared.mode.Mode.{Mode}
use Rattle.board_calls.specs.declared.mode.Mode.TheVariants.{OldestFirst, OldestFirstOverwrite, NewestOnly}
use Rattle.board_calls.specs.Modes.{ClaimsOrTakes, ClaimsFor}
use Rattle.board_calls.specs.Laws.{WaitsLongest, TookAmongOthers}

-- where an actor's own entries begin with one, the first of them among those of others
record Begins (k : ℕ) (h : List Entry) (e : Entry) (es : List Entry) : Type 0 where
  before : List Entry
  behind : List Entry
  are : h ≡ before ++ e ∷ behind
  none : own_of k before ≡ []
  later : own_of k behind ≡ es

same_first : {A : Type 0} (x y : A) (xs ys : List A) → x ∷ xs ≡ y ∷ ys → x ≡ y
same_first x y xs ys e = cc

same_rest : {A : Type 0} (x y : A) (xs ys : List A) → x ∷ xs ≡ y ∷ ys → xs ≡ ys
same_rest x y xs ys e = cc

begins_behind : (k : ℕ) (x e : Entry) (h es : List Entry) → (x.by == k) ≡ false → Begins k h e es → Begins k (x ∷ h) e es
begins_behind k x e h es other found = record {
  before = x ∷ found.before;
  behind = found.behind;
  are = ap (λ l. x ∷ l) found.are;
  none = cond-false (x.by == k) (x ∷ own_of k found.before) (own_of k found.before) other ∙ found.none;
  later = found.later;
}

begins : (k : ℕ) (h : List Entry) (e : Entry) (es : List Entry) → own_of k h ≡ e ∷ es → Begins k h e es
begins k [] e es is = absurd cc
begins k (x ∷ h) e es is = go (x.by == k) refl is (λ found. begins k h e es found)
  where
    go : (v : Bool) → (x.by == k) ≡ v → cond v (x ∷ own_of k h) (own_of k h) ≡ e ∷ es → (own_of k h ≡ e ∷ es → Begins k h e es) → Begins k (x ∷ h) e es
    go true own found rest = record {
      before = [];
      behind = h;
      are = ap (λ y. y ∷ h) (same_first x e (own_of k h) es found);
      none = refl;
      later = same_rest x e (own_of k h) es found;
    }
    go false other found rest = begins_behind k x e h es other (rest found)

took_among : (b : Board) (k i : ℕ) (es : List Event) (h : List Entry) → ClaimsOrTakes (Some (i, true)) es → RunsFrom b h → own_of k h ≡ entries_of k es → TookAmongOthers b k i h
took_among b k i es h is runs own =
    let claim : Begins k h (entry k (Claim None)) (entry k (Take (Taken i)) ∷ []) = begins k h (entry k (Claim None)) (entry k (Take (Taken i)) ∷ []) (own ∙ ap (entries_of k) is) in
    let take : Begins k claim.behind (entry k (Take (Taken i))) [] = begins k claim.behind (entry k (Take (Taken i))) [] claim.later in
    let claimed : RunsFrom (after_from b claim.before) (entry k (Claim None) ∷ claim.behind) =
    runs_rest b claim.before (entry k (Claim None) ∷ claim.behind) (subst (λ l. RunsFrom b l) claim.are runs) in
    let after_claim : Board = next (after_from b claim.before) (entry k (Claim None)) in
    let taken : RunsFrom (after_from after_claim take.before) (entry k (Take (Taken i)) ∷ take.behind) =
    runs_rest after_claim take.before (entry k (Take (Taken i)) ∷ take.behind) (subst (λ l. RunsFrom after_claim l) take.are claimed.1) in
    let first = taken.0.meets.1 in
    record {
      before = claim.before;
      between = take.before;
      behind = take.behind;
      are = claim.are ∙ ap (λ l. claim.before ++ entry k (Claim None) ∷ l) take.are;
      of_others_before = claim.none;
      of_others_between = take.none;
      of_others_behind = take.later;
      no_pool = claimed.0.meets;
      oldest = subst (λ c. WaitsLongest c i) (sym (after-append b claim.before (entry k (Claim None) ∷ take.before))) (record { filling = first.0; rest = first.1; first = first.2 });
    }

pub claims_take_oldest : (mode : Mode) (b : Board) (k i : ℕ) (es : List Event) (h : List Entry) → ClaimsFor mode (Some (i, true)) es → RunsFrom b h → own_of k h ≡ entries_of k es
    → TookAmongOthers b k i h
claims_take_oldest OldestFirst b k i es h never runs own = absurd never
claims_take_oldest OldestFirstOverwrite b k i es h is runs own = took_among b k i es h is runs own
claims_take_oldest NewestOnly b k i es h is runs own = took_among b k i es h is runs own
