-- Histories in parts: where an actor's own entries part, what a part has of a kind, and where the beginning ends.
use Rattle.std.proofs.Common.{◌≡◌, ◌≢◌, ◌⊎◌, ℕ, ◌+◌, ◌≤◌, ◌==◌, Bool, true, false, List, [], ◌∷◌, ◌++◌, refl, sym, ap, subst, ◌∙◌, inl, inr, arith, eq-eqb}
use Rattle.std.proofs.lemmas.Bool.{cond_both, cond-true, cond-false, cases_eq}
use Rattle.board_machine.specs.declared.events.Entry.{Entry}
use Rattle.board_machine.specs.declared.events.Event.{Event}
use Rattle.board_machine.specs.Places.{same, times}
use Rattle.board_machine.specs.Histories.{own_of}
use Rattle.board_machine.specs.Actors.{AllBy}
use Rattle.board_machine.specs.Kinds.{HasNone}
use Rattle.board_machine.proofs.Places.{same_is, same_other}
use Rattle.buffer_words.specs.Workers.{AreOf, OnlyBy}

-- ---- an actor's own entries

-- The history parts at an entry of the actor's.
pub record PartsAt (n : ℕ) (h xs : List Entry) (e : Entry) (ys : List Entry) : Type 0 where
  pub front : List Entry
  pub later : List Entry
  pub is : h ≡ front ++ e ∷ later
  pub before : own_of n front ≡ xs
  pub after : own_of n later ≡ ys

head_of : {A : Type 0} (x y : A) (xs ys : List A) → x ∷ xs ≡ y ∷ ys → x ≡ y
head_of x y xs ys e = cc

tail_of : {A : Type 0} (x y : A) (xs ys : List A) → x ∷ xs ≡ y ∷ ys → xs ≡ ys
tail_of x y xs ys e = cc

parts_here : (n : ℕ) (a : Entry) (h : List Entry) (e : Entry) (ys : List Entry) → a ∷ own_of n h ≡ e ∷ ys → PartsAt n (a ∷ h) [] e ys
parts_here n a h e ys is = record {
  front = [];
  later = h;
  is = ap (λ x. x ∷ h) (head_of a e (own_of n h) ys is);
  before = refl;
  after = tail_of a e (own_of n h) ys is;
}

parts_mine : (n : ℕ) (a w : Entry) (h ws : List Entry) (e : Entry) (ys : List Entry) → (a.by == n) ≡ true → a ≡ w → PartsAt n h ws e ys → PartsAt n (a ∷ h) (w ∷ ws) e ys
parts_mine n a w h ws e ys mine is rest = record {
  front = a ∷ rest.front;
  later = rest.later;
  is = ap (λ l. a ∷ l) rest.is;
  before =
      cond-true (a.by == n) (a ∷ own_of n rest.front) (own_of n rest.front) mine
      ∙ (ap (λ l. a ∷ l) rest.before ∙ ap (λ x. x ∷ ws) is);
  after = rest.after;
}

parts_other : (n : ℕ) (a : Entry) (h xs : List Entry) (e : Entry) (ys : List Entry) → (a.by == n) ≡ false → PartsAt n h xs e ys → PartsAt n (a ∷ h) xs e ys
parts_other n a h xs e ys other rest = record {
  front = a ∷ rest.front;
  later = rest.later;
  is = ap (λ l. a ∷ l) rest.is;
  before = cond-false (a.by == n) (a ∷ own_of n rest.front) (own_of n rest.front) other ∙ rest.before;
  after = rest.after;
}

pub parts_at : (n : ℕ) (h xs : List Entry) (e : Entry) (ys : List Entry) → own_of n h ≡ xs ++ e ∷ ys → PartsAt n h xs e ys
parts_at n [] [] e ys is = absurd (cc)
parts_at n [] (x ∷ xs) e ys is = absurd (cc)
parts_at n (a ∷ h) [] e ys is =
    cond_both (a.by == n) (a ∷ own_of n h) (own_of n h) (λ l. l ≡ e ∷ ys → PartsAt n (a ∷ h) [] e ys) (λ mine same_list. parts_here n a h e ys same_list)
    (λ other same_list. parts_other n a h [] e ys other (parts_at n h [] e ys same_list)) is
parts_at n (a ∷ h) (w ∷ ws) e ys is =
    cond_both (a.by == n) (a ∷ own_of n h) (own_of n h) (λ l. l ≡ w ∷ (ws ++ e ∷ ys) → PartsAt n (a ∷ h) (w ∷ ws) e ys)
    (λ mine same_list.
    parts_mine n a w h ws e ys mine (head_of a w (own_of n h) (ws ++ e ∷ ys) same_list)
    (parts_at n h ws e ys (tail_of a w (own_of n h) (ws ++ e ∷ ys) same_list)))
    (λ other same_list. parts_other n a h (w ∷ ws) e ys other (parts_at n h (w ∷ ws) e ys same_list)) is

-- what stands before a list that isn't empty doesn't have the last member
pub front_none : (kind : Event → Bool) (xs zs ys : List Entry) (z : Entry) → xs ++ zs ≡ ys ++ z ∷ [] → zs ≢ [] → HasNone kind ys → HasNone kind xs
front_none kind [] zs ys z is some none_there = tt
front_none kind (x ∷ xs) zs [] z is some none_there = absurd (some (last_empty xs zs (tail_of x z (xs ++ zs) [] is)))
  where
    last_empty : (us vs : List Entry) → us ++ vs ≡ [] → vs ≡ []
    last_empty [] vs e = e
    last_empty (u ∷ us) vs e = absurd (cc)
front_none kind (x ∷ xs) zs (y ∷ ys) z is some none_there = (
  subst (λ (w : Entry). kind w.event ≡ false) (sym (head_of x y (xs ++ zs) (ys ++ z ∷ []) is)) none_there.0,
  front_none kind xs zs ys z (tail_of x y (xs ++ zs) (ys ++ z ∷ []) is) some none_there.1,
)

-- ---- kinds

pub none_later : (kind : Event → Bool) (k : ℕ) (e : Entry) (h : List Entry) → HasNone kind (own_of k (e ∷ h)) → HasNone kind (own_of k h)
none_later kind k e h none_there =
    cond_both (e.by == k) (e ∷ own_of k h) (own_of k h) (λ l. HasNone kind l → HasNone kind (own_of k h)) (λ mine none_own. none_own.1)
    (λ other none_own. none_own) none_there

pub none_here : (kind : Event → Bool) (e : Entry) (h : List Entry) → HasNone kind (own_of e.by (e ∷ h)) → kind e.event ≡ false
none_here kind e h none_there =
    (subst (λ l. HasNone kind l) (cond-true (e.by == e.by) (e ∷ own_of e.by h) (own_of e.by h) (eq-eqb e.by e.by refl)) none_there).0

-- what none of the actors does nobody does
pub none_by : (kind : Event → Bool) (ks : List ℕ) (h : List Entry) → AllBy ks h → ((k : ℕ) → 1 ≤ times k ks → HasNone kind (own_of k h)) → HasNone kind h
none_by kind ks [] all each = tt
none_by kind ks (e ∷ h) all each =
    (none_here kind e h (each e.by all.0), none_by kind ks h all.1 (λ k member. none_later kind k e h (each k member)))

-- one of a list is its head, or one of the rest
pub member_or : (k x : ℕ) (xs : List ℕ) → 1 ≤ times k (x ∷ xs) → (k ≡ x) ⊎ (1 ≤ times k xs)
member_or k x xs member = go (cases_eq k x)
  where
    go : (k ≡ x) ⊎ (k ≢ x) → (k ≡ x) ⊎ (1 ≤ times k xs)
    go (inl is) = inl is
    go (inr apart) = inr (left (same k x) (times k xs) (same_other k x apart) member)
      where
        left : (a b : ℕ) → a ≡ 0 → 1 ≤ a + b → 1 ≤ b
        left a b zero_there le = omega (arith, zero_there, le)

pub all_front : (ks : List ℕ) (g h : List Entry) → AllBy ks (g ++ h) → AllBy ks g
all_front ks [] h all = tt
all_front ks (e ∷ g) h all = (all.0, all_front ks g h all.1)

pub only_later : (kind : Event → Bool) (ks : List ℕ) (g h : List Entry) → OnlyBy kind ks (g ++ h) → OnlyBy kind ks h
only_later kind ks [] h only = only
only_later kind ks (e ∷ g) h only = only_later kind ks g h only.1

-- where one actor alone does acts of a kind, and does nothing, there are none
pub quiet_by : (kind part : Event → Bool) (n : ℕ) (h : List Entry) → ((event : Event) → part event ≡ true → kind event ≡ true) → OnlyBy kind (n ∷ []) h
    → own_of n h ≡ [] → HasNone part h
quiet_by kind part n [] of_kind only nothing = tt
quiet_by kind part n (e ∷ h) of_kind only nothing =
    cond_both (e.by == n) (e ∷ own_of n h) (own_of n h) (λ l. l ≡ [] → HasNone part (e ∷ h)) (λ mine none_own. absurd (cc))
    (λ other none_own. (here (part e.event) refl other, quiet_by kind part n h of_kind only.1 none_own)) nothing
  where
    here : (b : Bool) → part e.event ≡ b → (e.by == n) ≡ false → part e.event ≡ false
    here false is other = is
    here true is other =
        let by : e.by ≡ n = same_is e.by n (one (same e.by n) (only.0 (of_kind e.event is))) in
        let bad : (e.by == n) ≡ true = eq-eqb e.by n by in
        absurd (cc)
      where
        one : (a : ℕ) → 1 ≤ a + 0 → 1 ≤ a
        one a le = omega (arith, le)

-- ---- the beginning

-- The entry stands behind the beginning.
pub record Behind (p since front : List Entry) (e : Entry) (later : List Entry) : Type 0 where
  pub between : List Entry
  pub front_is : front ≡ p ++ between
  pub since_is : since ≡ between ++ e ∷ later

pub behind : (kind : Event → Bool) (p since front : List Entry) (e : Entry) (later : List Entry) → AreOf kind p → kind e.event ≡ false
    → p ++ since ≡ front ++ e ∷ later → Behind p since front e later
behind kind [] since front e later are other is = record { between = front; front_is = refl; since_is = is }
behind kind (a ∷ p) since [] e later are other is =
    let same_entry : a ≡ e = head_of a e (p ++ since) later is in
    let bad : kind e.event ≡ true = subst (λ (x : Entry). kind x.event ≡ true) same_entry are.0 in
    absurd (cc)
behind kind (a ∷ p) since (x ∷ front) e later are other is =
    let rest : Behind p since front e later = behind kind p since front e later are.1 other (tail_of a x (p ++ since) (front ++ e ∷ later) is) in
    record {
      between = rest.between;
      front_is = ap (λ y. y ∷ front) (sym (head_of a x (p ++ since) (front ++ e ∷ later) is)) ∙ ap (λ l. a ∷ l) rest.front_is;
      since_is = rest.since_is;
    }
