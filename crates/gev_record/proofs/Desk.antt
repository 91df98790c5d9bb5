-- The board of a recorded script, told by whose each of its three places is, and the acts on it.
use Rattle.std.proofs.Common.{◌≡◌, ◌≢◌, ℕ, zero, suc, ◌+◌, ◌<◌, ◌≤◌, ◌==◌, nat_le, Bool, true, false, cond, List, [], ◌∷◌, ◌++◌, length, replicate, if◌then◌else◌, refl, sym, ap, subst, ◌∙◌, arith, eq-eqb, eqb-true, leb-false, leb-true, lit≤, lit<, ap₂}
use Rattle.std.specs.Prelude.{Some, None, Ok}
use Rattle.std.proofs.lemmas.Bool.{cond_both, eqb-false}
use Rattle.gentl_types.specs.declared.word.Word.{Word}
use Rattle.gentl_types.specs.declared.word.State.TheVariants.{Held, Away}
use Rattle.gev_types.specs.Filling.{Filling}
use Rattle.board_machine.specs.declared.events.Entry.{Entry}
use Rattle.board_machine.specs.declared.events.Event.TheVariants.{LookOut, Grab, Lay, Pool, Claim, Fill, Take}
use Rattle.board_machine.specs.declared.events.TakeEnd.TheVariants.{Taken}
use Rattle.board_machine.specs.Places.{times, put_in, without, put_all}
use Rattle.board_machine.specs.Machine.{Board, Item, item, places, vacant, empty_hands, word_at}
use Rattle.board_machine.specs.Histories.{after_from, RunsFrom}
use Rattle.board_machine.specs.Adding.{entries_of}
use Rattle.board_machine.proofs.Places.{times-append, times-put, same_self, same_other}
use Rattle.board_machine.proofs.Counts.{places-append}
use Rattle.board_machine.proofs.Runs.{after-append, runs-append}
use Rattle.acquisition_machine.specs.Turns.{buffer_size}

-- ---- boards

-- the word of a place: Held where nobody has its buffer
abbrev pub live_word : ℕ → Word
live_word n = record { state = if n == 0 then Held else Away; size = buffer_size; generation = 1 }

-- by the run word, how often each place is in use, what waits, what is pooled, and the acquisition's hands
abbrev pub desk_by : ℕ → ℕ → ℕ → ℕ → List Item → List ℕ → List ℕ → Board
desk_by r a b c out pool his = record {
  words = live_word a ∷ live_word b ∷ live_word c ∷ replicate 12 vacant;
  pool = pool;
  out = out;
  hands = Some [] ∷ empty_hands ∷ empty_hands ∷ empty_hands ∷ empty_hands ∷ Some his ∷ [];
  closed = false;
  kill = false;
  run = r;
}

-- how often a place is in use
abbrev pub uses : List ℕ → List Item → List ℕ → ℕ → ℕ
uses his out pool i = times i his + times i (places out) + times i pool

-- by the run word, the places of the open blocks, lowest block first, what waits in the output, and what is pooled
abbrev pub desk : ℕ → List ℕ → List Item → List ℕ → Board
desk r his out pool = desk_by r (uses his out pool 0) (uses his out pool 1) (uses his out pool 2) out pool (put_all his [])

same_parts : (r : ℕ) (a b c d e f : ℕ) (out : List Item) (pool h k : List ℕ) → a ≡ d → b ≡ e → c ≡ f → h ≡ k → desk_by r a b c out pool h ≡ desk_by r d e f out pool k
same_parts r a b c d e f out pool h k p q u s =
    ap (λ x. desk_by r x b c out pool h) p
    ∙ (ap (λ x. desk_by r d x c out pool h) q
    ∙ (ap (λ x. desk_by r d e x out pool h) u
    ∙ ap (λ x. desk_by r d e f out pool x) s))

-- ---- entries that can be made, and the board after them

pub record Done (b : Board) (es : List Entry) (new : Board) : Type 0 where
  pub runs : RunsFrom b es
  pub after : after_from b es ≡ new

pub done_both : (b mid new : Board) (es fs : List Entry) → Done b es mid → Done mid fs new → Done b (es ++ fs) new
done_both b mid new es fs first second = record {
  runs = runs-append b es fs first.runs (subst (λ c. RunsFrom c fs) (sym first.after) second.runs);
  after = after-append b es fs ∙ (ap (λ c. after_from c fs) first.after ∙ second.after);
}

pub done_to : (b new other : Board) (es : List Entry) → Done b es new → new ≡ other → Done b es other
done_to b new other es d e = record { runs = d.runs; after = d.after ∙ e }

pub done_from : (b other new : Board) (es : List Entry) → b ≡ other → Done other es new → Done b es new
done_from b other new es e d = record {
  runs = subst (λ c. RunsFrom c es) (sym e) d.runs;
  after = ap (λ c. after_from c es) e ∙ d.after;
}

pub done_none : (b : Board) → Done b [] b
done_none b = record { runs = tt; after = refl }

some_not : (is : List ℕ) → Some is ≡ None → ⊥
some_not is e = cc

-- what holds of the three places holds of each place below three
pub three : (P : ℕ → Type 0) (p : ℕ) → p < 3 → P 0 → P 1 → P 2 → P p
three P zero h a b c = a
three P (suc zero) h a b c = b
three P (suc (suc zero)) h a b c = c
three P (suc (suc (suc n))) h a b c = absurd (omega arith)

-- ---- lists of places

pub without-put : (p : ℕ) (xs : List ℕ) → without p (put_in p xs) ≡ xs
without-put p [] = rw (eq-eqb p p refl) refl
without-put p (x ∷ xs) =
    cond_both (nat_le p x) (p ∷ x ∷ xs) (x ∷ put_in p xs) (λ ys. without p ys ≡ x ∷ xs)
    (λ e. rw (eq-eqb p p refl) refl)
    (λ e. go (p == x) refl (leb-false p x e) (without-put p xs))
  where
    go : (v : Bool) → (p == x) ≡ v → x < p → without p (put_in p xs) ≡ xs → cond v (put_in p xs) (x ∷ without p (put_in p xs)) ≡ x ∷ xs
    go true e above rest = let equal : p ≡ x = eqb-true p x e in absurd (omega arith)
    go false e above rest = ap (λ l. x ∷ l) rest

-- the order in which two places are put in makes no difference
pub put_swap : (p q : ℕ) (xs : List ℕ) → put_in p (put_in q xs) ≡ put_in q (put_in p xs)
put_swap p q [] = go (nat_le p q) (nat_le q p) refl refl where
  go : (v w : Bool) → nat_le p q ≡ v → nat_le q p ≡ w → cond v (p ∷ q ∷ []) (q ∷ p ∷ []) ≡ cond w (q ∷ p ∷ []) (p ∷ q ∷ [])
  go true true e f = let l = leb-true p q e in let m = leb-true q p f in let same : p ≡ q = omega arith in ap₂ (λ x y. x ∷ y ∷ []) same (sym same)
  go true false e f = refl
  go false true e f = refl
  go false false e f = let l = leb-false p q e in let m = leb-false q p f in absurd (omega arith)
put_swap p q (x ∷ xs) = go (nat_le p x) (nat_le q x) (nat_le p q) (nat_le q p) refl refl refl refl (put_swap p q xs) where
  go : (a b v w : Bool) → nat_le p x ≡ a → nat_le q x ≡ b → nat_le p q ≡ v → nat_le q p ≡ w → put_in p (put_in q xs) ≡ put_in q (put_in p xs)
      → put_in p (cond b (q ∷ x ∷ xs) (x ∷ put_in q xs)) ≡ put_in q (cond a (p ∷ x ∷ xs) (x ∷ put_in p xs))
  go true true true true e f g h rest =
      let l = leb-true p q g in let m = leb-true q p h in let equal : p ≡ q = omega arith in
      rw (e, f, g, h) (ap₂ (λ y z. y ∷ z ∷ x ∷ xs) equal (sym equal))
  go true true true false e f g h rest = rw (e, f, g, h) refl
  go true true false true e f g h rest = rw (e, f, g, h) refl
  go true true false false e f g h rest = let l = leb-false p q g in let m = leb-false q p h in absurd (omega arith)
  go true false v true e f g h rest = let l = leb-true p x e in let m = leb-false q x f in let n = leb-true q p h in absurd (omega arith)
  go true false v false e f g h rest = rw (e, f, h) refl
  go false true true w e f g h rest = let l = leb-false p x e in let m = leb-true q x f in let n = leb-true p q g in absurd (omega arith)
  go false true false w e f g h rest = rw (e, f, g) refl
  go false false v w e f g h rest = rw (e, f) (ap (λ l. x ∷ l) rest)

put_middle : (p : ℕ) (front back : List ℕ) → put_in p (put_all (front ++ back) []) ≡ put_all (front ++ p ∷ back) []
put_middle p [] back = refl
put_middle p (q ∷ front) back = put_swap p q (put_all (front ++ back) []) ∙ ap (put_in q) (put_middle p front back)

-- ---- the acquisition's acts

pub is_sized : (r : ℕ) (a b c : ℕ) (out : List Item) (pool his : List ℕ) (p : ℕ) → p < 3 → (word_at (desk_by r a b c out pool his) p).size ≡ buffer_size
is_sized r a b c out pool his p h = three (λ i. (word_at (desk_by r a b c out pool his) i).size ≡ buffer_size) p h refl refl refl

uses_fill : (p : ℕ) (f : Filling) (his : List ℕ) (out : List Item) (pool : List ℕ) (i : ℕ) → uses (p ∷ his) out pool i ≡ uses his (out ++ item p f ∷ []) pool i
uses_fill p f his out pool i =
    let parts : times i (places (out ++ item p f ∷ [])) ≡ times i (places out) + times i (p ∷ []) =
    ap (times i) (places-append out (item p f ∷ [])) ∙ times-append i (places out) (p ∷ []) in
    omega (arith, parts)

pub fill_done : (r : ℕ) (p : ℕ) (f : Filling) (his : List ℕ) (out : List Item) (pool : List ℕ) → p < 3 → length f.bytes ≡ buffer_size
    → Done (desk r (p ∷ his) out pool) (entries_of 5 (Fill p f true ∷ [])) (desk r his (out ++ item p f ∷ []) pool)
fill_done r p f his out pool low sized =
    let mine : 1 ≤ times p (put_all (p ∷ his) []) = (let t = times-put p p (put_all his []) in let s = same_self p in omega (arith, t, s)) in
    let more : List Item = out ++ item p f ∷ [] in
    record {
      runs = (
        record {
          actor = some_not (put_all (p ∷ his) []);
          meets = (mine, sized ∙ sym (is_sized r (uses (p ∷ his) out pool 0) (uses (p ∷ his) out pool 1) (uses (p ∷ his) out pool 2) out pool (put_all (p ∷ his) []) p low), refl);
        },
        tt,
      );
      after = same_parts r (uses (p ∷ his) out pool 0) (uses (p ∷ his) out pool 1) (uses (p ∷ his) out pool 2)
          (uses his more pool 0) (uses his more pool 1) (uses his more pool 2) more pool (without p (put_all (p ∷ his) [])) (put_all his [])
          (uses_fill p f his out pool 0) (uses_fill p f his out pool 1) (uses_fill p f his out pool 2) (without-put p (put_all his []));
    }

pub claim_done : (r : ℕ) (p : ℕ) (his : List ℕ) (out : List Item) → Done (desk r his out (p ∷ [])) (entries_of 5 (Claim (Some p) ∷ [])) (desk r (p ∷ his) out [])
claim_done r p his out =
    let moved : (i : ℕ) → uses his out (p ∷ []) i ≡ uses (p ∷ his) out [] i = λ i. omega arith in
    record {
      runs = (record { actor = some_not (put_all his []); meets = ([], refl) }, tt);
      after = same_parts r (uses his out (p ∷ []) 0) (uses his out (p ∷ []) 1) (uses his out (p ∷ []) 2)
          (uses (p ∷ his) out [] 0) (uses (p ∷ his) out [] 1) (uses (p ∷ his) out [] 2) out [] (put_all (p ∷ his) []) (put_all (p ∷ his) [])
          (moved 0) (moved 1) (moved 2) refl;
    }

pub claims_none : (r : ℕ) (his : List ℕ) (out : List Item) → Done (desk r his out []) (entries_of 5 (Claim None ∷ [])) (desk r his out [])
claims_none r his out = record { runs = (record { actor = some_not (put_all his []); meets = refl }, tt); after = refl }

-- the claimed place belongs to a block somewhere among the others
pub desk_middle : (r : ℕ) (p : ℕ) (front back : List ℕ) (out : List Item) (pool : List ℕ) → desk r (p ∷ (front ++ back)) out pool ≡ desk r (front ++ p ∷ back) out pool
desk_middle r p front back out pool =
    let moved : (i : ℕ) → uses (p ∷ (front ++ back)) out pool i ≡ uses (front ++ p ∷ back) out pool i =
    λ i. (let x = times-append i front back in let y = times-append i front (p ∷ back) in omega (arith, x, y)) in
    same_parts r (uses (p ∷ (front ++ back)) out pool 0) (uses (p ∷ (front ++ back)) out pool 1) (uses (p ∷ (front ++ back)) out pool 2)
    (uses (front ++ p ∷ back) out pool 0) (uses (front ++ p ∷ back) out pool 1) (uses (front ++ p ∷ back) out pool 2) out pool
    (put_all (p ∷ (front ++ back)) []) (put_all (front ++ p ∷ back) []) (moved 0) (moved 1) (moved 2) (put_middle p front back)

-- ---- the application's acts

-- n, but 0 for place p
abbrev cleared : ℕ → ℕ → ℕ → ℕ
cleared p i n = if i == p then 0 else n

abbrev raised : ℕ → ℕ → ℕ → ℕ
raised p i n = if i == p then 1 else n

cleared_is : (p i n m : ℕ) → (i ≡ p → m ≡ 0) → (i ≢ p → n ≡ m) → cleared p i n ≡ m
cleared_is p i n m same_place other =
    cond_both (i == p) 0 n (λ x. x ≡ m) (λ e. sym (same_place (eqb-true i p e))) (λ e. other (eqb-false i p e))

raised_is : (p i n m : ℕ) → (i ≡ p → m ≡ 1) → (i ≢ p → n ≡ m) → raised p i n ≡ m
raised_is p i n m same_place other =
    cond_both (i == p) 1 n (λ x. x ≡ m) (λ e. sym (same_place (eqb-true i p e))) (λ e. other (eqb-false i p e))

take_by : (r : ℕ) (p : ℕ) (f : Filling) (a b c : ℕ) (out : List Item) (pool his : List ℕ) → p < 3
    → Done (desk_by r a b c (item p f ∷ out) pool his) (entries_of 0 (Take (Taken p) ∷ Lay p ∷ [])) (desk_by r (cleared p 0 a) (cleared p 1 b) (cleared p 2 c) out pool his)
take_by r zero f a b c out pool his low = record {
  runs = (record { actor = some_not []; meets = (refl, (f, out, refl)) }, (record { actor = some_not (0 ∷ []); meets = lit≤ tt }, tt));
  after = refl;
}
take_by r (suc zero) f a b c out pool his low = record {
  runs = (record { actor = some_not []; meets = (refl, (f, out, refl)) }, (record { actor = some_not (1 ∷ []); meets = lit≤ tt }, tt));
  after = refl;
}
take_by r (suc (suc zero)) f a b c out pool his low = record {
  runs = (record { actor = some_not []; meets = (refl, (f, out, refl)) }, (record { actor = some_not (2 ∷ []); meets = lit≤ tt }, tt));
  after = refl;
}
take_by r (suc (suc (suc n))) f a b c out pool his low = absurd (omega arith)

pub take_done : (r : ℕ) (p : ℕ) (f : Filling) (his : List ℕ) (out : List Item) → p < 3 → uses his (item p f ∷ out) [] p ≤ 1
    → Done (desk r his (item p f ∷ out) []) (entries_of 0 (Take (Taken p) ∷ Lay p ∷ [])) (desk r his out [])
take_done r p f his out low once =
    let all : List Item = item p f ∷ out in
    let clears : (i : ℕ) → cleared p i (uses his all [] i) ≡ uses his out [] i =
    λ i. cleared_is p i (uses his all [] i) (uses his out [] i)
    (λ e. (let s = same_self p in let there : uses his out [] p ≡ 0 = omega (arith, s, once) in subst (λ j. uses his out [] j ≡ 0) (sym e) there))
    (λ e. (let s = same_other i p e in omega (arith, s))) in
    done_to (desk r his all []) (desk_by r (cleared p 0 (uses his all [] 0)) (cleared p 1 (uses his all [] 1)) (cleared p 2 (uses his all [] 2)) out [] (put_all his []))
    (desk r his out []) (entries_of 0 (Take (Taken p) ∷ Lay p ∷ []))
    (take_by r p f (uses his all [] 0) (uses his all [] 1) (uses his all [] 2) out [] (put_all his []) low)
    (same_parts r (cleared p 0 (uses his all [] 0)) (cleared p 1 (uses his all [] 1)) (cleared p 2 (uses his all [] 2))
    (uses his out [] 0) (uses his out [] 1) (uses his out [] 2) out [] (put_all his []) (put_all his []) (clears 0) (clears 1) (clears 2) refl)

queue_by : (r : ℕ) (p a b c : ℕ) (his : List ℕ) → p < 3
    → Done (desk_by r (cleared p 0 a) (cleared p 1 b) (cleared p 2 c) [] [] his) (entries_of 0 (LookOut [] false ∷ Grab p 1 (Ok tt) ∷ Pool p ∷ []))
    (desk_by r (raised p 0 a) (raised p 1 b) (raised p 2 c) [] (p ∷ []) his)
queue_by r zero a b c his low = record {
  runs = (record { actor = some_not []; meets = (refl, refl) }, (record { actor = some_not []; meets = (lit< tt, (refl, refl)) }, (record { actor = some_not (0 ∷ []); meets = lit≤ tt }, tt)));
  after = refl;
}
queue_by r (suc zero) a b c his low = record {
  runs = (record { actor = some_not []; meets = (refl, refl) }, (record { actor = some_not []; meets = (lit< tt, (refl, refl)) }, (record { actor = some_not (1 ∷ []); meets = lit≤ tt }, tt)));
  after = refl;
}
queue_by r (suc (suc zero)) a b c his low = record {
  runs = (record { actor = some_not []; meets = (refl, refl) }, (record { actor = some_not []; meets = (lit< tt, (refl, refl)) }, (record { actor = some_not (2 ∷ []); meets = lit≤ tt }, tt)));
  after = refl;
}
queue_by r (suc (suc (suc n))) a b c his low = absurd (omega arith)

pub queue_done : (r : ℕ) (p : ℕ) (his : List ℕ) → p < 3 → times p his ≡ 0
    → Done (desk r his [] []) (entries_of 0 (LookOut [] false ∷ Grab p 1 (Ok tt) ∷ Pool p ∷ [])) (desk r his [] (p ∷ []))
queue_done r p his low free =
    let is_clear : (i : ℕ) → cleared p i (uses his [] [] i) ≡ uses his [] [] i =
    λ i. cleared_is p i (uses his [] [] i) (uses his [] [] i)
    (λ e. (let there : times i his ≡ 0 = subst (λ j. times j his ≡ 0) (sym e) free in omega (arith, there))) (λ e. refl) in
    let rises : (i : ℕ) → raised p i (uses his [] [] i) ≡ uses his [] (p ∷ []) i =
    λ i. raised_is p i (uses his [] [] i) (uses his [] (p ∷ []) i)
    (λ e. (let s = same_self p in let there : uses his [] (p ∷ []) p ≡ 1 = omega (arith, s, free) in subst (λ j. uses his [] (p ∷ []) j ≡ 1) (sym e) there))
    (λ e. (let s = same_other i p e in omega (arith, s))) in
    let es : List Entry = entries_of 0 (LookOut [] false ∷ Grab p 1 (Ok tt) ∷ Pool p ∷ []) in
    done_from (desk r his [] [])
    (desk_by r (cleared p 0 (uses his [] [] 0)) (cleared p 1 (uses his [] [] 1)) (cleared p 2 (uses his [] [] 2)) [] [] (put_all his []))
    (desk r his [] (p ∷ [])) es
    (sym (same_parts r (cleared p 0 (uses his [] [] 0)) (cleared p 1 (uses his [] [] 1)) (cleared p 2 (uses his [] [] 2))
    (uses his [] [] 0) (uses his [] [] 1) (uses his [] [] 2) [] [] (put_all his []) (put_all his []) (is_clear 0) (is_clear 1) (is_clear 2) refl))
    (done_to
    (desk_by r (cleared p 0 (uses his [] [] 0)) (cleared p 1 (uses his [] [] 1)) (cleared p 2 (uses his [] [] 2)) [] [] (put_all his []))
    (desk_by r (raised p 0 (uses his [] [] 0)) (raised p 1 (uses his [] [] 1)) (raised p 2 (uses his [] [] 2)) [] (p ∷ []) (put_all his []))
    (desk r his [] (p ∷ [])) es
    (queue_by r p (uses his [] [] 0) (uses his [] [] 1) (uses his [] [] 2) (put_all his []) low)
    (same_parts r (raised p 0 (uses his [] [] 0)) (raised p 1 (uses his [] [] 1)) (raised p 2 (uses his [] [] 2))
    (uses his [] (p ∷ []) 0) (uses his [] (p ∷ []) 1) (uses his [] (p ∷ []) 2) [] (p ∷ []) (put_all his []) (put_all his []) (rises 0) (rises 1) (rises 2) refl))
