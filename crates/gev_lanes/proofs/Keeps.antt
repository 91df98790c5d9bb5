-- Each move keeps the rule of one giver and one taker.
use Rattle.std.proofs.Common.{◌≡◌, ◌≢◌, ℕ, zero, suc, ◌≤◌, true, false, true≢false, List, [], ◌∷◌, ◌++◌, length, set, sym, refl, ap, ◌∙◌, subst, ⊎_elim, append_assoc, length-append, arith}
use mathlib.Core.Option.{some, some-ne-none}
use lib.ListN.{get_elem?}
use Rattle.crossbeam_queue.specs.Fifo.{Pushes, Pops, Forks, Merges, Learns}
use Rattle.crossbeam_queue.proofs.Lists.{at_set, at_snoc}
use Rattle.gev_lanes.specs.declared.line_log.Log.{Log}
use Rattle.gev_lanes.specs.LineRule.{log, spent, Fits, InOrder, FoundBy}

-- ---- views at their numbers

at_end : {A : Type 0} (l : List A) (a b : A) (j : ℕ) → get_elem? l j ≢ some b → get_elem? (l ++ a ∷ []) j ≡ some b → j ≡ length l
at_end [] a b zero n e = refl
at_end [] a b (suc j) n e = absurd (some-ne-none b (sym e))
at_end (x ∷ xs) a b zero n e = absurd (n e)
at_end (x ∷ xs) a b (suc j) n e = ap suc (at_end xs a b j n e)

abbrev All : {T : Type 0} → (ℕ → Log T → Type 0) → List (Log T) → Type 0
All {T} F views = (port : ℕ) (v : Log T) → get_elem? views port ≡ some v → F port v

all_set : {T : Type 0} (F : ℕ → Log T → Type 0) (views : List (Log T)) (port : ℕ) (w : Log T) → F port w
    → ((j : ℕ) (u : Log T) → j ≢ port → get_elem? views j ≡ some u → F j u) → All F (set views port w)
all_set {T} F views port w mine others j u e =
    ⊎_elim (λ (x : (j ≡ port) × (w ≡ u)). subst (λ (y : ℕ × Log T). F y.0 y.1) (λ i. (sym x.0 i, x.1 i)) mine)
    (λ (x : (j ≢ port) × (get_elem? views j ≡ some u)). others j u x.0 x.1) (at_set views port j w u e)

-- a view that may do nothing fits everywhere
spent_fits : {T : Type 0} (giver taker : ℕ) (given taken : List T) (port : ℕ) → Fits giver taker given taken port spent
spent_fits giver taker given taken port = record {
  giver_is = λ p. absurd (true≢false (sym p));
  given_is = λ p. absurd (true≢false (sym p));
  taker_is = λ p. absurd (true≢false (sym p));
  taken_is = λ p. absurd (true≢false (sym p));
  least = λ p. absurd (true≢false (sym p));
}

-- ---- the moves

pub begins : {T : Type 0} → InOrder {T = T} [] (log true true 0 [] [] 0 0 ∷ [])
begins {T} = record {
  giver = 0;
  taker = 0;
  given = [];
  taken = [];
  same = refl;
  fit =
      all_set (Fits 0 0 [] []) (log true true 0 [] [] 0 0 ∷ []) 0 (log true true 0 [] [] 0 0)
      (record { giver_is = λ _. refl; given_is = λ _. refl; taker_is = λ _. refl; taken_is = λ _. refl; least = λ _. omega arith })
      (λ j u other e. absurd (other (at_end [] _ u j (λ x. some-ne-none u (sym x)) e)));
}

longer : {T : Type 0} (n : ℕ) (xs : List T) (x : T) → n ≤ length xs → n ≤ length (xs ++ x ∷ [])
longer n xs x le = omega (arith, length-append xs (x ∷ []), le)

pub gives : {T : Type 0} (n port : ℕ) (v : Log T) (x : T) → v.gives ≡ true
    → Pushes InOrder n port v x (λ w. w ≡ log v.gives v.takes v.least (v.given ++ x ∷ []) v.taken v.refusals v.misses)
gives {T} n port v x may items views room h at =
    let w : Log T = log v.gives v.takes v.least (v.given ++ x ∷ []) v.taken v.refusals v.misses in
    let mine = h.fit port v at in
    let given : List T = h.given ++ x ∷ [] in (
      w,
      record {
        giver = h.giver;
        taker = h.taker;
        given = given;
        taken = h.taken;
        same = ap (λ l. l ++ x ∷ []) h.same ∙ append_assoc h.taken items (x ∷ []);
        fit =
            all_set (Fits h.giver h.taker given h.taken) views port w
            (record {
              giver_is = mine.giver_is;
              given_is = λ p. ap (λ l. l ++ x ∷ []) (mine.given_is p);
              taker_is = mine.taker_is;
              taken_is = mine.taken_is;
              least = λ p. longer v.least h.given x (mine.least p);
            })
            (λ j u other e.
            let theirs = h.fit j u e in
            record {
              giver_is = theirs.giver_is;
              given_is = λ p. absurd (other (theirs.giver_is p ∙ sym (mine.giver_is may)));
              taker_is = theirs.taker_is;
              taken_is = theirs.taken_is;
              least = λ p. longer u.least h.given x (theirs.least p);
            });
      },
      refl,
    )

pub takes : {T : Type 0} (port : ℕ) (v : Log T) → v.takes ≡ true → Pops InOrder port v (λ x w. w ≡ log v.gives v.takes v.least v.given (v.taken ++ x ∷ []) v.refusals v.misses)
takes {T} port v may x items views h at =
    let w : Log T = log v.gives v.takes v.least v.given (v.taken ++ x ∷ []) v.refusals v.misses in
    let mine = h.fit port v at in
    let taken : List T = h.taken ++ x ∷ [] in (
      w,
      record {
        giver = h.giver;
        taker = h.taker;
        given = h.given;
        taken = taken;
        same = h.same ∙ sym (append_assoc h.taken (x ∷ []) items);
        fit =
            all_set (Fits h.giver h.taker h.given taken) views port w
            (record {
              giver_is = mine.giver_is;
              given_is = mine.given_is;
              taker_is = mine.taker_is;
              taken_is = λ p. ap (λ l. l ++ x ∷ []) (mine.taken_is p);
              least = mine.least;
            })
            (λ j u other e.
            let theirs = h.fit j u e in
            record {
              giver_is = theirs.giver_is;
              given_is = theirs.given_is;
              taker_is = theirs.taker_is;
              taken_is = λ p. absurd (other (theirs.taker_is p ∙ sym (mine.taker_is may)));
              least = theirs.least;
            });
      },
      refl,
    )

pub forks : {T : Type 0} (port : ℕ) (v : Log T) → v.gives ≡ true → v.takes ≡ true
    → Forks InOrder port v (log true false 0 v.given [] v.refusals 0) (log false true (length v.given) [] v.taken 0 v.misses)
forks {T} port v may_give may_take items views h at =
    let l : Log T = log true false 0 v.given [] v.refusals 0 in
    let r : Log T = log false true (length v.given) [] v.taken 0 v.misses in
    let mine = h.fit port v at in
    let vs : List (Log T) = set views port l in
    let Old : ℕ → Log T → Type 0 = λ j u. (u.gives ≡ true → (j ≡ h.giver) × (u.given ≡ h.given)) × (u.takes ≢ true) in
    let old : All Old vs =
    all_set Old views port l ((λ _. (mine.giver_is may_give, mine.given_is may_give)), λ p. true≢false (sym p))
    (λ j u other e. ((λ p. ((h.fit j u e).giver_is p, (h.fit j u e).given_is p)), λ p. other ((h.fit j u e).taker_is p ∙ sym (mine.taker_is may_take))))
    in
    record {
      giver = h.giver;
      taker = length vs;
      given = h.given;
      taken = h.taken;
      same = h.same;
      fit = λ j u e.
          ⊎_elim
          (λ x.
          record {
            giver_is = λ p. ((old j u x).0 p).0;
            given_is = λ p. ((old j u x).0 p).1;
            taker_is = λ p. absurd ((old j u x).1 p);
            taken_is = λ p. absurd ((old j u x).1 p);
            least = λ p. absurd ((old j u x).1 p);
          })
          (λ (is : r ≡ u).
          record {
            giver_is = λ p. absurd (true≢false (sym (ap (λ (y : Log T). y.gives) is ∙ p)));
            given_is = λ p. absurd (true≢false (sym (ap (λ (y : Log T). y.gives) is ∙ p)));
            taker_is = λ p. at_end vs r u j (λ x. (old j u x).1 p) e;
            taken_is = λ p. ap (λ (y : Log T). y.taken) (sym is) ∙ mine.taken_is may_take;
            least = λ p. least_of u is;
          })
          (at_snoc vs r u j e);
    }
  where
    least_of : (u : Log T) → log false true (length v.given) [] v.taken 0 v.misses ≡ u → u.least ≤ length h.given
    least_of u is =
        subst (λ (y : Log T). y.least ≤ length h.given) is (subst (λ l. length v.given ≤ length l) ((h.fit port v at).given_is may_give) (omega arith))

-- what a pass counts is its own, and the pass beside it may do nothing
pub counts : {T : Type 0} (port : ℕ) (v : Log T) (refusals misses : ℕ)
    → Forks InOrder port v (log v.gives v.takes v.least v.given v.taken refusals misses) spent
counts {T} port v refusals misses items views h at =
    let l : Log T = log v.gives v.takes v.least v.given v.taken refusals misses in
    let mine = h.fit port v at in
    let vs : List (Log T) = set views port l in
    let now : All (Fits h.giver h.taker h.given h.taken) vs =
    all_set (Fits h.giver h.taker h.given h.taken) views port l
    (record { giver_is = mine.giver_is; given_is = mine.given_is; taker_is = mine.taker_is; taken_is = mine.taken_is; least = mine.least })
    (λ j u other e. h.fit j u e)
    in
    record {
      giver = h.giver;
      taker = h.taker;
      given = h.given;
      taken = h.taken;
      same = h.same;
      fit = λ j u e.
          ⊎_elim (λ x. now j u x)
          (λ (is : spent ≡ u). subst (Fits h.giver h.taker h.given h.taken j) is (spent_fits h.giver h.taker h.given h.taken j))
          (at_snoc vs spent u j e);
    }

pub with_taker : {T : Type 0} (port : ℕ) (v : Log T) (other : ℕ) (u : Log T) → v.gives ≡ true → u.takes ≡ true
    → Merges InOrder port v other u (log true true 0 v.given u.taken v.refusals u.misses) spent
with_taker {T} port v other u may_give may_take items views h at two at' =
    let both : Log T = log true true 0 v.given u.taken v.refusals u.misses in
    let mine = h.fit port v at in
    let vs : List (Log T) = set views port both in
    let was : get_elem? views other ≡ some u = ⊎_elim (λ x. absurd (two x.0)) (λ x. x.1) (at_set views port other both u at') in
    let theirs = h.fit other u was in
    let Now : ℕ → Log T → Type 0 = λ j y. j ≢ other → Fits h.giver port h.given h.taken j y in
    let now : All Now vs =
    all_set Now views port both
    (λ _.
    record {
      giver_is = λ _. mine.giver_is may_give;
      given_is = λ _. mine.given_is may_give;
      taker_is = λ _. refl;
      taken_is = λ _. theirs.taken_is may_take;
      least = λ _. omega arith;
    })
    (λ j y apart e away.
    let its = h.fit j y e in
    record {
      giver_is = its.giver_is;
      given_is = its.given_is;
      taker_is = λ p. absurd (away (its.taker_is p ∙ sym (theirs.taker_is may_take)));
      taken_is = its.taken_is;
      least = its.least;
    })
    in
    record {
      giver = h.giver;
      taker = port;
      given = h.given;
      taken = h.taken;
      same = h.same;
      fit =
          all_set (Fits h.giver port h.given h.taken) vs other spent (spent_fits h.giver port h.given h.taken other)
          (λ j y apart e. now j y e apart);
    }

pub with_giver : {T : Type 0} (port : ℕ) (v : Log T) (other : ℕ) (u : Log T) → v.takes ≡ true → u.gives ≡ true
    → Merges InOrder port v other u (log true true v.least u.given v.taken u.refusals v.misses) spent
with_giver {T} port v other u may_take may_give items views h at two at' =
    let both : Log T = log true true v.least u.given v.taken u.refusals v.misses in
    let mine = h.fit port v at in
    let vs : List (Log T) = set views port both in
    let was : get_elem? views other ≡ some u = ⊎_elim (λ x. absurd (two x.0)) (λ x. x.1) (at_set views port other both u at') in
    let theirs = h.fit other u was in
    let Now : ℕ → Log T → Type 0 = λ j y. j ≢ other → Fits port h.taker h.given h.taken j y in
    let now : All Now vs =
    all_set Now views port both
    (λ _.
    record {
      giver_is = λ _. refl;
      given_is = λ _. theirs.given_is may_give;
      taker_is = λ _. mine.taker_is may_take;
      taken_is = λ _. mine.taken_is may_take;
      least = λ _. mine.least may_take;
    })
    (λ j y apart e away.
    let its = h.fit j y e in
    record {
      giver_is = λ p. absurd (away (its.giver_is p ∙ sym (theirs.giver_is may_give)));
      given_is = its.given_is;
      taker_is = its.taker_is;
      taken_is = its.taken_is;
      least = its.least;
    })
    in
    record {
      giver = port;
      taker = h.taker;
      given = h.given;
      taken = h.taken;
      same = h.same;
      fit =
          all_set (Fits port h.taker h.given h.taken) vs other spent (spent_fits port h.taker h.given h.taken other)
          (λ j y apart e. now j y e apart);
    }

-- ---- what is learned

pub finds : {T : Type 0} (port : ℕ) (v : Log T) → Learns InOrder port v (λ items. FoundBy v items)
finds port v items views h at =
    let mine = h.fit port v at in
    record { given = h.given; taken = h.taken; same = h.same; given_is = mine.given_is; taken_is = mine.taken_is; least = mine.least }

pub totals : {T : Type 0} (port : ℕ) (v : Log T) → v.gives ≡ true → v.takes ≡ true → Learns InOrder port v (λ items. v.given ≡ v.taken ++ items)
totals port v may_give may_take items views h at =
    let mine = h.fit port v at in
    mine.given_is may_give ∙ (h.same ∙ ap (λ l. l ++ items) (sym (mine.taken_is may_take)))
