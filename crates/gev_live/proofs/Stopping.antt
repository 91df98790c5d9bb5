-- Behind the stop of the acquisition's worker no lane acts.
use Rattle.std.proofs.Common.{◌≡◌, ◌≢◌, ℕ, Bool, true, false, ◌≤◌, ◌==◌, List, [], ◌∷◌, ◌++◌, Result, refl, sym, ap, subst, ◌∙◌, append_assoc, eq-eqb}
use Rattle.std.proofs.lemmas.List.{append-nil, append_cancel_left}
use Rattle.std.proofs.lemmas.Bool.{cond-true}
use Rattle.board_machine.specs.declared.events.Entry.{Entry}
use Rattle.board_machine.specs.declared.events.Event.{Event}
use Rattle.board_machine.specs.declared.events.Event.TheVariants.{Stop}
use Rattle.board_machine.specs.Machine.{entry}
use Rattle.board_machine.specs.Places.{times}
use Rattle.board_machine.specs.Histories.{own_of}
use Rattle.board_machine.specs.Kinds.{HasNone}
use Rattle.board_machine.proofs.Runs.{own_of-append}
use Rattle.buffer_words.specs.Workers.{OnlyBy}
use Rattle.gev_live.proofs.Splitting.{PartsAt, parts_at}

nothing_more : {A : Type 0} (xs ys : List A) → xs ++ ys ≡ xs → ys ≡ []
nothing_more xs ys is = append_cancel_left xs ys [] (is ∙ sym (append-nil xs))

-- of two lists that are empty together each is
front_empty : {A : Type 0} (xs ys : List A) → xs ++ ys ≡ [] → xs ≡ []
front_empty [] ys is = refl
front_empty (x ∷ xs) ys is = absurd (cc)

back_empty : {A : Type 0} (xs ys : List A) → xs ++ ys ≡ [] → ys ≡ []
back_empty [] ys is = is
back_empty (x ∷ xs) ys is = absurd (cc)

pub own_back : (n : ℕ) (g l : List Entry) → own_of n (g ++ l) ≡ [] → own_of n l ≡ []
own_back n g l none = back_empty (own_of n g) (own_of n l) (sym (own_of-append n g l) ∙ none)

-- an actor's own entries aren't empty where one of them stands
own_here : (e : Entry) (l : List Entry) → own_of e.by (e ∷ l) ≢ []
own_here e l none =
    let first : own_of e.by (e ∷ l) ≡ e ∷ own_of e.by l = cond-true (e.by == e.by) (e ∷ own_of e.by l) (own_of e.by l) (eq-eqb e.by e.by refl) in
    absurd (cc)

-- The stop stands in this history, and behind it none of the lanes acts.
pub record StoppedAt (r : ℕ) (answer : Result (Unit {0}) ℕ) (lanes : List ℕ) (h : List Entry) : Type 0 where
  pub before : List Entry
  pub after : List Entry
  pub is : h ≡ before ++ entry r (Stop false answer) ∷ after
  pub none : (i : ℕ) → 1 ≤ times i lanes → own_of i after ≡ []

pub stopped_at : (r : ℕ) (answer : Result (Unit {0}) ℕ) (lanes : List ℕ) (joined rest h : List Entry) → h ≡ joined ++ rest → own_of r rest ≡ entry r (Stop false answer) ∷ []
    → ((i : ℕ) → 1 ≤ times i lanes → own_of i rest ≡ []) → StoppedAt r answer lanes h
stopped_at r answer lanes joined rest h is stops quiet = record {
  before = joined ++ parts.front;
  after = parts.later;
  is = is ∙ (ap (λ l. joined ++ l) parts.is ∙ sym (append_assoc joined parts.front (entry r (Stop false answer) ∷ parts.later)));
  none = λ i member. own_back i (parts.front ++ entry r (Stop false answer) ∷ []) parts.later
      (subst (λ l. own_of i l ≡ []) (parts.is ∙ sym (append_assoc parts.front (entry r (Stop false answer) ∷ []) parts.later)) (quiet i member));
}
  where
    parts : PartsAt r rest [] (entry r (Stop false answer)) []
    parts = parts_at r rest [] (entry r (Stop false answer)) [] stops

-- where only actors that do nothing do acts of a kind, there are none
pub quiet_all : (kind : Event → Bool) (ks : List ℕ) (h : List Entry) → OnlyBy kind ks h → ((i : ℕ) → 1 ≤ times i ks → own_of i h ≡ []) → HasNone kind h
quiet_all kind ks [] only nothing = tt
quiet_all kind ks (e ∷ h) only nothing = (here (kind e.event) refl, quiet_all kind ks h only.1 (λ i member. own_back i (e ∷ []) h (nothing i member)))
  where
    here : (b : Bool) → kind e.event ≡ b → kind e.event ≡ false
    here false is = is
    here true is = absurd (own_here e h (nothing e.by (only.0 is)))

-- ---- what stands behind a part in which the actor does nothing

own_somewhere : (xs ys : List Entry) (e : Entry) → own_of e.by (xs ++ e ∷ ys) ≡ [] → ⊥
own_somewhere xs ys e none = own_here e ys (own_back e.by xs (e ∷ ys) none)

pub record Within (ys ws : List Entry) : Type 0 where
  pub front : List Entry
  pub is : ws ≡ front ++ ys

pub within : (xs ys zs ws : List Entry) (e : Entry) → xs ++ ys ≡ zs ++ e ∷ ws → own_of e.by ys ≡ [] → Within ys ws
within [] ys zs ws e is none = absurd (own_somewhere zs ws e (subst (λ l. own_of e.by l ≡ []) is none))
within (x ∷ xs) ys [] ws e is none = record { front = xs; is = sym (tail_of x e (xs ++ ys) ws is) }
  where
    tail_of : {A : Type 0} (p q : A) (ps qs : List A) → p ∷ ps ≡ q ∷ qs → ps ≡ qs
    tail_of p q ps qs same = cc
within (x ∷ xs) ys (z ∷ zs) ws e is none = within xs ys zs ws e (tail_of x z (xs ++ ys) (zs ++ e ∷ ws) is) none
  where
    tail_of : {A : Type 0} (p q : A) (ps qs : List A) → p ∷ ps ≡ q ∷ qs → ps ≡ qs
    tail_of p q ps qs same = cc
