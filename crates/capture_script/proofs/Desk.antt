-- The board of a captured script, told by whose each of its five places is, and the acts on it.
use Rattle.std.proofs.Common.{◌≡◌, ◌≢◌, ℕ, zero, suc, ◌+◌, ◌<◌, ◌≤◌, ◌==◌, nat_le, Bool, true, false, cond, List, [], ◌∷◌, ◌++◌, length, replicate, if◌then◌else◌, refl, sym, ap, subst, ◌∙◌, arith, eq-eqb, eqb-true, leb-false, leb-true, lit≤, lit<, ap₂}
use Rattle.std.specs.Prelude.{Some, None, Ok}
use Rattle.std.specs.List.{AllByRecursion}
use Rattle.std.proofs.lemmas.Bool.{cond_both, eqb-false}
use Rattle.gentl_types.specs.declared.word.Word.{Word}
use Rattle.gentl_types.specs.declared.word.State.TheVariants.{Held, Away}
use Rattle.gev_types.specs.Filling.{Filling}
use Rattle.board_machine.specs.declared.events.Entry.{Entry}
use Rattle.board_machine.specs.declared.events.Event.{Event}
use Rattle.board_machine.specs.declared.events.Event.TheVariants.{Lay, Claim, Fill, Take}
use Rattle.board_calls.specs.Rounds.{Seen, pools_seen, pools_from}
use Rattle.board_machine.proofs.Adding.{entries_of-append}
use Rattle.board_machine.specs.declared.events.TakeEnd.TheVariants.{Taken}
use Rattle.board_machine.specs.Places.{times, put_in, without, put_all}
use Rattle.board_machine.specs.Machine.{Board, Item, item, places, vacant, empty_hands, word_at}
use Rattle.board_machine.specs.Histories.{after_from, RunsFrom}
use Rattle.board_machine.specs.Adding.{entries_of}
use Rattle.board_machine.proofs.Places.{times-append, times-put, same_self, same_other}
use Rattle.board_machine.proofs.Counts.{places-append}
use Rattle.board_machine.proofs.Runs.{after-append, runs-append}

-- ---- boards

-- the word of a place: Held where nobody has its buffer
abbrev pub live_word : (pp ss : ℕ) → ℕ → Word
live_word pp ss n = record { state = if n == 0 then Held else Away; size = ss; generation = 1 }

-- by the run word, how often each place is in use, what waits, what is pooled, and the acquisition's hands
abbrev pub desk_by : (pp ss : ℕ) → ℕ → ℕ → ℕ → ℕ → ℕ → ℕ → List Item → List ℕ → List ℕ → Board
desk_by pp ss r a b c d e out pool his = record {
  words = live_word pp ss a ∷ (live_word pp ss) b ∷ (live_word pp ss) c ∷ (live_word pp ss) d ∷ (live_word pp ss) e ∷ replicate 10 vacant;
  pool = pool;
  out = out;
  hands = Some [] ∷ empty_hands ∷ empty_hands ∷ empty_hands ∷ empty_hands ∷ Some his ∷ [];
  closed = false;
  kill = false;
  run = r;
}

-- the same, where a function tells how often each place is in use
abbrev pub desk_of : (pp ss : ℕ) → ℕ → (ℕ → ℕ) → List Item → List ℕ → List ℕ → Board
desk_of pp ss r u out pool his = desk_by pp ss r (u 0) (u 1) (u 2) (u 3) (u 4) out pool his

-- how often a place is in use
abbrev pub uses : List ℕ → List Item → List ℕ → ℕ → ℕ
uses his out pool i = times i his + times i (places out) + times i pool

-- by the run word, the places of the open blocks, lowest block first, what waits in the output, and what is pooled
abbrev pub desk : (pp ss : ℕ) → ℕ → List ℕ → List Item → List ℕ → Board
desk pp ss r his out pool = desk_of pp ss r (λ i. uses his out pool i) out pool (put_all his [])

same_parts : (pp ss : ℕ) → (r : ℕ) (u v : ℕ → ℕ) (out : List Item) (pool h k : List ℕ) → ((i : ℕ) → i < 5 → u i ≡ v i) → h ≡ k → desk_of pp ss r u out pool h ≡ desk_of pp ss r v out pool k
same_parts pp ss r u v out pool h k same s =
    ap (λ x. desk_by pp ss r x (u 1) (u 2) (u 3) (u 4) out pool h) (same 0 (lit< tt))
    ∙ (ap (λ x. desk_by pp ss r (v 0) x (u 2) (u 3) (u 4) out pool h) (same 1 (lit< tt))
    ∙ (ap (λ x. desk_by pp ss r (v 0) (v 1) x (u 3) (u 4) out pool h) (same 2 (lit< tt))
    ∙ (ap (λ x. desk_by pp ss r (v 0) (v 1) (v 2) x (u 4) out pool h) (same 3 (lit< tt))
    ∙ (ap (λ x. desk_by pp ss r (v 0) (v 1) (v 2) (v 3) x out pool h) (same 4 (lit< tt))
    ∙ ap (λ x. desk_of pp ss r v out pool x) s))))

-- ---- entries that can be made, and the board after them

pub record Done (b : Board) (es : List Entry) (new : Board) : Type 0 where
  pub runs : RunsFrom b es
  pub after : after_from b es ≡ new

pub done_both : (b mid new : Board) (es fs : List Entry) → Done b es mid → Done mid fs new → Done b (es ++ fs) new
done_both b mid new es fs first second = record {
  runs = runs-append b es fs first.runs (subst (λ c. RunsFrom c fs) (sym first.after) second.runs);
  after = after-append b es fs ∙ (ap (λ c. after_from c fs) first.after ∙ second.after);
}

pub done_to : (b new other : Board) (es : List Entry) → Done b es new → new ≡ other → Done b es other
done_to b new other es d e = record { runs = d.runs; after = d.after ∙ e }

pub done_none : (b : Board) → Done b [] b
done_none b = record { runs = tt; after = refl }

some_not : (is : List ℕ) → Some is ≡ None → ⊥
some_not is e = cc

-- what holds of the five places holds of each place below five
pub of_five : (P : ℕ → Type 0) (p : ℕ) → p < 5 → P 0 → P 1 → P 2 → P 3 → P 4 → P p
of_five P zero h a b c d e = a
of_five P (suc zero) h a b c d e = b
of_five P (suc (suc zero)) h a b c d e = c
of_five P (suc (suc (suc zero))) h a b c d e = d
of_five P (suc (suc (suc (suc zero)))) h a b c d e = e
of_five P (suc (suc (suc (suc (suc n))))) h a b c d e = absurd (omega arith)

-- ---- lists of places

pub without-put : (p : ℕ) (xs : List ℕ) → without p (put_in p xs) ≡ xs
without-put p [] = rw (eq-eqb p p refl) refl
without-put p (x ∷ xs) =
    cond_both (nat_le p x) (p ∷ x ∷ xs) (x ∷ put_in p xs) (λ ys. without p ys ≡ x ∷ xs)
    (λ e. rw (eq-eqb p p refl) refl)
    (λ e. go (p == x) refl (leb-false p x e) (without-put p xs))
  where
    go : (v : Bool) → (p == x) ≡ v → x < p → without p (put_in p xs) ≡ xs → cond v (put_in p xs) (x ∷ without p (put_in p xs)) ≡ x ∷ xs
    go true e above rest = let equal : p ≡ x = eqb-true p x e in absurd (omega arith)
    go false e above rest = ap (λ l. x ∷ l) rest

-- the order in which two places are put in makes no difference
pub put_swap : (p q : ℕ) (xs : List ℕ) → put_in p (put_in q xs) ≡ put_in q (put_in p xs)
put_swap p q [] = go (nat_le p q) (nat_le q p) refl refl where
  go : (v w : Bool) → nat_le p q ≡ v → nat_le q p ≡ w → cond v (p ∷ q ∷ []) (q ∷ p ∷ []) ≡ cond w (q ∷ p ∷ []) (p ∷ q ∷ [])
  go true true e f = let l = leb-true p q e in let m = leb-true q p f in let same : p ≡ q = omega arith in ap₂ (λ x y. x ∷ y ∷ []) same (sym same)
  go true false e f = refl
  go false true e f = refl
  go false false e f = let l = leb-false p q e in let m = leb-false q p f in absurd (omega arith)
put_swap p q (x ∷ xs) = go (nat_le p x) (nat_le q x) (nat_le p q) (nat_le q p) refl refl refl refl (put_swap p q xs) where
  go : (a b v w : Bool) → nat_le p x ≡ a → nat_le q x ≡ b → nat_le p q ≡ v → nat_le q p ≡ w → put_in p (put_in q xs) ≡ put_in q (put_in p xs)
      → put_in p (cond b (q ∷ x ∷ xs) (x ∷ put_in q xs)) ≡ put_in q (cond a (p ∷ x ∷ xs) (x ∷ put_in p xs))
  go true true true true e f g h rest =
      let l = leb-true p q g in let m = leb-true q p h in let equal : p ≡ q = omega arith in
      rw (e, f, g, h) (ap₂ (λ y z. y ∷ z ∷ x ∷ xs) equal (sym equal))
  go true true true false e f g h rest = rw (e, f, g, h) refl
  go true true false true e f g h rest = rw (e, f, g, h) refl
  go true true false false e f g h rest = let l = leb-false p q g in let m = leb-false q p h in absurd (omega arith)
  go true false v true e f g h rest = let l = leb-true p x e in let m = leb-false q x f in let n = leb-true q p h in absurd (omega arith)
  go true false v false e f g h rest = rw (e, f, h) refl
  go false true true w e f g h rest = let l = leb-false p x e in let m = leb-true q x f in let n = leb-true p q g in absurd (omega arith)
  go false true false w e f g h rest = rw (e, f, g) refl
  go false false v w e f g h rest = rw (e, f) (ap (λ l. x ∷ l) rest)

put_middle : (p : ℕ) (front back : List ℕ) → put_in p (put_all (front ++ back) []) ≡ put_all (front ++ p ∷ back) []
put_middle p [] back = refl
put_middle p (q ∷ front) back = put_swap p q (put_all (front ++ back) []) ∙ ap (put_in q) (put_middle p front back)

-- ---- the acquisition's acts

pub is_sized : (pp ss : ℕ) → (r : ℕ) (u : ℕ → ℕ) (out : List Item) (pool his : List ℕ) (p : ℕ) → p < 5 → (word_at (desk_of pp ss r u out pool his) p).size ≡ ss
is_sized pp ss r u out pool his p h = of_five (λ i. (word_at (desk_of pp ss r u out pool his) i).size ≡ ss) p h refl refl refl refl refl

uses_fill : (p : ℕ) (f : Filling) (his : List ℕ) (out : List Item) (pool : List ℕ) (i : ℕ) → uses (p ∷ his) out pool i ≡ uses his (out ++ item p f ∷ []) pool i
uses_fill p f his out pool i =
    let parts : times i (places (out ++ item p f ∷ [])) ≡ times i (places out) + times i (p ∷ []) =
    ap (times i) (places-append out (item p f ∷ [])) ∙ times-append i (places out) (p ∷ []) in
    omega (arith, parts)

pub fill_done : (pp ss : ℕ) → (r : ℕ) (p : ℕ) (f : Filling) (his : List ℕ) (out : List Item) (pool : List ℕ) → p < 5 → length f.bytes ≡ ss
    → Done (desk pp ss r (p ∷ his) out pool) (entries_of 5 (Fill p f true ∷ [])) (desk pp ss r his (out ++ item p f ∷ []) pool)
fill_done pp ss r p f his out pool low sized =
    let mine : 1 ≤ times p (put_all (p ∷ his) []) = (let t = times-put p p (put_all his []) in let s = same_self p in omega (arith, t, s)) in
    let more : List Item = out ++ item p f ∷ [] in
    record {
      runs = (
        record {
          actor = some_not (put_all (p ∷ his) []);
          meets = (mine, sized ∙ sym (is_sized pp ss r (λ i. uses (p ∷ his) out pool i) out pool (put_all (p ∷ his) []) p low), refl);
        },
        tt,
      );
      after = same_parts pp ss r (λ i. uses (p ∷ his) out pool i) (λ i. uses his more pool i) more pool (without p (put_all (p ∷ his) [])) (put_all his [])
          (λ i small. uses_fill p f his out pool i) (without-put p (put_all his []));
    }

pub claim_done : (pp ss : ℕ) → (r : ℕ) (p : ℕ) (his : List ℕ) (out : List Item) (ps : List ℕ) → (Done (desk pp ss r his out (p ∷ ps)) (entries_of 5 (Claim (Some p) ∷ [])) (desk pp ss r (p ∷ his) out ps))
claim_done pp ss r p his out ps =
    let moved : (i : ℕ) → uses his out (p ∷ ps) i ≡ uses (p ∷ his) out ps i = λ i. omega arith in
    record {
      runs = (record { actor = some_not (put_all his []); meets = (ps, refl) }, tt);
      after = same_parts pp ss r (λ i. uses his out (p ∷ ps) i) (λ i. uses (p ∷ his) out ps i) out ps (put_all (p ∷ his) []) (put_all (p ∷ his) []) (λ i small. moved i) refl;
    }

-- the claimed place belongs to a block somewhere among the others
pub desk_middle : (pp ss : ℕ) → (r : ℕ) (p : ℕ) (front back : List ℕ) (out : List Item) (pool : List ℕ) → desk pp ss r (p ∷ (front ++ back)) out pool ≡ (desk pp ss) r (front ++ p ∷ back) out pool
desk_middle pp ss r p front back out pool =
    let moved : (i : ℕ) → uses (p ∷ (front ++ back)) out pool i ≡ uses (front ++ p ∷ back) out pool i =
    λ i. (let x = times-append i front back in let y = times-append i front (p ∷ back) in omega (arith, x, y)) in
    same_parts pp ss r (λ i. uses (p ∷ (front ++ back)) out pool i) (λ i. uses (front ++ p ∷ back) out pool i) out pool
    (put_all (p ∷ (front ++ back)) []) (put_all (front ++ p ∷ back) []) (λ i small. moved i) (put_middle p front back)

-- ---- the application's acts

-- n, but 0 for place p
abbrev cleared : ℕ → ℕ → ℕ → ℕ
cleared p i n = if i == p then 0 else n

cleared_is : (p i n m : ℕ) → (i ≡ p → m ≡ 0) → (i ≢ p → n ≡ m) → cleared p i n ≡ m
cleared_is p i n m same_place other =
    cond_both (i == p) 0 n (λ x. x ≡ m) (λ e. sym (same_place (eqb-true i p e))) (λ e. other (eqb-false i p e))

take_by : (pp ss : ℕ) → (r : ℕ) (p : ℕ) (f : Filling) (a b c d e : ℕ) (out : List Item) (pool his : List ℕ) → p < 5
    → Done (desk_by pp ss r a b c d e (item p f ∷ out) pool his) (entries_of 0 (Take (Taken p) ∷ Lay p ∷ []))
    (desk_by pp ss r (cleared p 0 a) (cleared p 1 b) (cleared p 2 c) (cleared p 3 d) (cleared p 4 e) out pool his)
take_by pp ss r zero f a b c d e out pool his low = record {
  runs = (record { actor = some_not []; meets = (refl, (f, out, refl)) }, (record { actor = some_not (0 ∷ []); meets = lit≤ tt }, tt));
  after = refl;
}
take_by pp ss r (suc zero) f a b c d e out pool his low = record {
  runs = (record { actor = some_not []; meets = (refl, (f, out, refl)) }, (record { actor = some_not (1 ∷ []); meets = lit≤ tt }, tt));
  after = refl;
}
take_by pp ss r (suc (suc zero)) f a b c d e out pool his low = record {
  runs = (record { actor = some_not []; meets = (refl, (f, out, refl)) }, (record { actor = some_not (2 ∷ []); meets = lit≤ tt }, tt));
  after = refl;
}
take_by pp ss r (suc (suc (suc zero))) f a b c d e out pool his low = record {
  runs = (record { actor = some_not []; meets = (refl, (f, out, refl)) }, (record { actor = some_not (3 ∷ []); meets = lit≤ tt }, tt));
  after = refl;
}
take_by pp ss r (suc (suc (suc (suc zero)))) f a b c d e out pool his low = record {
  runs = (record { actor = some_not []; meets = (refl, (f, out, refl)) }, (record { actor = some_not (4 ∷ []); meets = lit≤ tt }, tt));
  after = refl;
}
take_by pp ss r (suc (suc (suc (suc (suc n))))) f a b c d e out pool his low = absurd (omega arith)

pub take_done : (pp ss : ℕ) → (r : ℕ) (p : ℕ) (f : Filling) (his : List ℕ) (out : List Item) (ps : List ℕ) → p < 5 → uses his (item p f ∷ out) ps p ≤ 1
    → Done (desk pp ss r his (item p f ∷ out) ps) (entries_of 0 (Take (Taken p) ∷ Lay p ∷ [])) (desk pp ss r his out ps)
take_done pp ss r p f his out ps low once =
    let all : List Item = item p f ∷ out in
    let clears : (i : ℕ) → cleared p i (uses his all ps i) ≡ uses his out ps i =
    λ i. cleared_is p i (uses his all ps i) (uses his out ps i)
    (λ e. (let s = same_self p in let there : uses his out ps p ≡ 0 = omega (arith, s, once) in subst (λ j. uses his out ps j ≡ 0) (sym e) there))
    (λ e. (let s = same_other i p e in omega (arith, s))) in
    done_to (desk pp ss r his all ps) (desk_of pp ss r (λ i. cleared p i (uses his all ps i)) out ps (put_all his []))
    (desk pp ss r his out ps) (entries_of 0 (Take (Taken p) ∷ Lay p ∷ []))
    (take_by pp ss r p f (uses his all ps 0) (uses his all ps 1) (uses his all ps 2) (uses his all ps 3) (uses his all ps 4) out ps (put_all his []) low)
    (same_parts pp ss r (λ i. cleared p i (uses his all ps i)) (λ i. uses his out ps i) out ps (put_all his []) (put_all his []) (λ i small. clears i) refl)

-- ---- a flush

-- the pool, where a place that is in use so often is pooled if it isn't
abbrev pub with_free : ℕ → ℕ → List ℕ → List ℕ
with_free i zero ps = put_in i ps
with_free i (suc n) ps = ps

-- what a flush finds at one of the five places
abbrev pub seen_at : ℕ → ℕ → Seen
seen_at ss zero = record { word = record { state = Held; size = ss; generation = 1 }; grab = Some (Ok tt) }
seen_at ss (suc n) = record { word = live_word 0 ss (suc n); grab = None }

abbrev pub looked : ℕ → ℕ → ℕ → List Event
looked ss i n = pools_seen i (seen_at ss n).word (seen_at ss n).grab

-- how often a place is in use then
abbrev pub used_then : ℕ → ℕ
used_then zero = 1
used_then (suc n) = suc n

look_0 : (pp ss : ℕ) → (r a b c d e : ℕ) (ps his : List ℕ) → Done (desk_by pp ss r a b c d e [] ps his) (entries_of 0 (looked ss 0 a)) (desk_by pp ss r (used_then a) b c d e [] (with_free 0 a ps) his)
look_0 pp ss r zero b c d e ps his = record {
  runs = (record { actor = some_not []; meets = (lit< tt, refl) }, (record { actor = some_not []; meets = (lit< tt, (refl, refl)) }, (record { actor = some_not (0 ∷ []); meets = lit≤ tt }, tt)));
  after = refl;
}
look_0 pp ss r (suc n) b c d e ps his = record {
  runs = (record { actor = some_not []; meets = (lit< tt, refl) }, tt);
  after = refl;
}

look_1 : (pp ss : ℕ) → (r a b c d e : ℕ) (ps his : List ℕ) → Done (desk_by pp ss r a b c d e [] ps his) (entries_of 0 (looked ss 1 b)) (desk_by pp ss r a (used_then b) c d e [] (with_free 1 b ps) his)
look_1 pp ss r a zero c d e ps his = record {
  runs = (record { actor = some_not []; meets = (lit< tt, refl) }, (record { actor = some_not []; meets = (lit< tt, (refl, refl)) }, (record { actor = some_not (1 ∷ []); meets = lit≤ tt }, tt)));
  after = refl;
}
look_1 pp ss r a (suc n) c d e ps his = record {
  runs = (record { actor = some_not []; meets = (lit< tt, refl) }, tt);
  after = refl;
}

look_2 : (pp ss : ℕ) → (r a b c d e : ℕ) (ps his : List ℕ) → Done (desk_by pp ss r a b c d e [] ps his) (entries_of 0 (looked ss 2 c)) (desk_by pp ss r a b (used_then c) d e [] (with_free 2 c ps) his)
look_2 pp ss r a b zero d e ps his = record {
  runs = (record { actor = some_not []; meets = (lit< tt, refl) }, (record { actor = some_not []; meets = (lit< tt, (refl, refl)) }, (record { actor = some_not (2 ∷ []); meets = lit≤ tt }, tt)));
  after = refl;
}
look_2 pp ss r a b (suc n) d e ps his = record {
  runs = (record { actor = some_not []; meets = (lit< tt, refl) }, tt);
  after = refl;
}

look_3 : (pp ss : ℕ) → (r a b c d e : ℕ) (ps his : List ℕ) → Done (desk_by pp ss r a b c d e [] ps his) (entries_of 0 (looked ss 3 d)) (desk_by pp ss r a b c (used_then d) e [] (with_free 3 d ps) his)
look_3 pp ss r a b c zero e ps his = record {
  runs = (record { actor = some_not []; meets = (lit< tt, refl) }, (record { actor = some_not []; meets = (lit< tt, (refl, refl)) }, (record { actor = some_not (3 ∷ []); meets = lit≤ tt }, tt)));
  after = refl;
}
look_3 pp ss r a b c (suc n) e ps his = record {
  runs = (record { actor = some_not []; meets = (lit< tt, refl) }, tt);
  after = refl;
}

look_4 : (pp ss : ℕ) → (r a b c d e : ℕ) (ps his : List ℕ) → Done (desk_by pp ss r a b c d e [] ps his) (entries_of 0 (looked ss 4 e)) (desk_by pp ss r a b c d (used_then e) [] (with_free 4 e ps) his)
look_4 pp ss r a b c d zero ps his = record {
  runs = (record { actor = some_not []; meets = (lit< tt, refl) }, (record { actor = some_not []; meets = (lit< tt, (refl, refl)) }, (record { actor = some_not (4 ∷ []); meets = lit≤ tt }, tt)));
  after = refl;
}
look_4 pp ss r a b c d (suc n) ps his = record {
  runs = (record { actor = some_not []; meets = (lit< tt, refl) }, tt);
  after = refl;
}

abbrev pub vacant_seen : Seen
vacant_seen = record { word = vacant; grab = None }

abbrev pub vacants : List Event
vacants = pools_from 5 (replicate 10 vacant_seen)

look_vacants : (pp ss : ℕ) → (r a b c d e : ℕ) (ps his : List ℕ) → Done (desk_by pp ss r a b c d e [] ps his) (entries_of 0 vacants) (desk_by pp ss r a b c d e [] ps his)
look_vacants pp ss r a b c d e ps his =
    let w = some_not [] in
    record {
      runs = (record { actor = w; meets = (lit< tt, refl) }, (record { actor = w; meets = (lit< tt, refl) }, (record { actor = w; meets = (lit< tt, refl) }, (record { actor = w; meets = (lit< tt, refl) }, (record { actor = w; meets = (lit< tt, refl) }, (record { actor = w; meets = (lit< tt, refl) }, (record { actor = w; meets = (lit< tt, refl) }, (record { actor = w; meets = (lit< tt, refl) }, (record { actor = w; meets = (lit< tt, refl) }, (record { actor = w; meets = (lit< tt, refl) }, tt))))))))));
      after = refl;
    }

-- what a flush sees, and what it does
abbrev pub flush_seen : ℕ → (ℕ → ℕ) → List Seen
flush_seen ss u = seen_at ss (u 0) ∷ seen_at ss (u 1) ∷ seen_at ss (u 2) ∷ seen_at ss (u 3) ∷ seen_at ss (u 4) ∷ replicate 10 vacant_seen

abbrev pub flush_events : ℕ → (ℕ → ℕ) → List Event
flush_events ss u = pools_from 0 (flush_seen ss u)

-- the entries of a look at a place
abbrev pub look_entries : ℕ → ℕ → (ℕ → ℕ) → List Entry
look_entries ss i u = entries_of 0 (looked ss i (u i))

-- those of the looks from a place on
abbrev pub last_looks : List Entry
last_looks = entries_of 0 vacants

abbrev pub looks_from_4 : ℕ → (ℕ → ℕ) → List Entry
looks_from_4 ss u = look_entries ss 4 u ++ last_looks

abbrev pub looks_from_3 : ℕ → (ℕ → ℕ) → List Entry
looks_from_3 ss u = look_entries ss 3 u ++ looks_from_4 ss u

abbrev pub looks_from_2 : ℕ → (ℕ → ℕ) → List Entry
looks_from_2 ss u = look_entries ss 2 u ++ looks_from_3 ss u

abbrev pub looks_from_1 : ℕ → (ℕ → ℕ) → List Entry
looks_from_1 ss u = look_entries ss 1 u ++ looks_from_2 ss u

pub flush_parts : (ss : ℕ) (u : ℕ → ℕ) → entries_of 0 (flush_events ss u) ≡ look_entries ss 0 u ++ looks_from_1 ss u
flush_parts ss u =
    entries_of-append 0 (looked ss 0 (u 0)) (looked ss 1 (u 1) ++ (looked ss 2 (u 2) ++ (looked ss 3 (u 3) ++ (looked ss 4 (u 4) ++ vacants))))
    ∙ ap (λ (es : List Entry). look_entries ss 0 u ++ es)
    (entries_of-append 0 (looked ss 1 (u 1)) (looked ss 2 (u 2) ++ (looked ss 3 (u 3) ++ (looked ss 4 (u 4) ++ vacants)))
    ∙ ap (λ (es : List Entry). look_entries ss 1 u ++ es)
    (entries_of-append 0 (looked ss 2 (u 2)) (looked ss 3 (u 3) ++ (looked ss 4 (u 4) ++ vacants))
    ∙ ap (λ (es : List Entry). look_entries ss 2 u ++ es)
    (entries_of-append 0 (looked ss 3 (u 3)) (looked ss 4 (u 4) ++ vacants)
    ∙ ap (λ (es : List Entry). look_entries ss 3 u ++ es) (entries_of-append 0 (looked ss 4 (u 4)) vacants))))

-- the pool behind looks at so many places
abbrev pub pooled_then : ℕ → (ℕ → ℕ) → List ℕ → List ℕ
pooled_then zero u ps = ps
pooled_then (suc k) u ps = with_free k (u k) (pooled_then k u ps)

flush_by : (pp ss : ℕ) → (r : ℕ) (u : ℕ → ℕ) (ps his : List ℕ) → Done (desk_of pp ss r u [] ps his) (entries_of 0 (flush_events ss u))
    (desk_of pp ss r (λ i. used_then (u i)) [] (pooled_then 5 u ps) his)
flush_by pp ss r u ps his =
    let d0 = desk_by pp ss r (u 0) (u 1) (u 2) (u 3) (u 4) [] (pooled_then 0 u ps) his in
    let d1 = desk_by pp ss r (used_then (u 0)) (u 1) (u 2) (u 3) (u 4) [] (pooled_then 1 u ps) his in
    let d2 = desk_by pp ss r (used_then (u 0)) (used_then (u 1)) (u 2) (u 3) (u 4) [] (pooled_then 2 u ps) his in
    let d3 = desk_by pp ss r (used_then (u 0)) (used_then (u 1)) (used_then (u 2)) (u 3) (u 4) [] (pooled_then 3 u ps) his in
    let d4 = desk_by pp ss r (used_then (u 0)) (used_then (u 1)) (used_then (u 2)) (used_then (u 3)) (u 4) [] (pooled_then 4 u ps) his in
    let d5 = desk_by pp ss r (used_then (u 0)) (used_then (u 1)) (used_then (u 2)) (used_then (u 3)) (used_then (u 4)) [] (pooled_then 5 u ps) his in
    subst (λ (es : List Entry). Done d0 es d5) (sym (flush_parts ss u))
    (done_both d0 d1 d5 (look_entries ss 0 u) (looks_from_1 ss u) (look_0 pp ss r (u 0) (u 1) (u 2) (u 3) (u 4) (pooled_then 0 u ps) his)
    (done_both d1 d2 d5 (look_entries ss 1 u) (looks_from_2 ss u) (look_1 pp ss r (used_then (u 0)) (u 1) (u 2) (u 3) (u 4) (pooled_then 1 u ps) his)
    (done_both d2 d3 d5 (look_entries ss 2 u) (looks_from_3 ss u) (look_2 pp ss r (used_then (u 0)) (used_then (u 1)) (u 2) (u 3) (u 4) (pooled_then 2 u ps) his)
    (done_both d3 d4 d5 (look_entries ss 3 u) (looks_from_4 ss u) (look_3 pp ss r (used_then (u 0)) (used_then (u 1)) (used_then (u 2)) (u 3) (u 4) (pooled_then 3 u ps) his)
    (done_both d4 d5 d5 (look_entries ss 4 u) last_looks (look_4 pp ss r (used_then (u 0)) (used_then (u 1)) (used_then (u 2)) (used_then (u 3)) (u 4) (pooled_then 4 u ps) his)
    (look_vacants pp ss r (used_then (u 0)) (used_then (u 1)) (used_then (u 2)) (used_then (u 3)) (used_then (u 4)) (pooled_then 5 u ps) his))))))

times_with : (i j n : ℕ) (ps : List ℕ) → i ≢ j → times i (with_free j n ps) ≡ times i ps
times_with i j zero ps e = let t = times-put i j ps in let s = same_other i j e in omega (arith, t, s)
times_with i j (suc n) ps e = refl

here : (i n : ℕ) (ps : List ℕ) (m : ℕ) → n ≡ m + times i ps → m + times i (with_free i n ps) ≡ used_then n
here i zero ps m e = let t = times-put i i ps in let s = same_self i in omega (arith, t, s, e)
here i (suc n) ps m e = sym e

-- a place that wasn't looked at yet
not_looked : (k i : ℕ) (u : ℕ → ℕ) (ps : List ℕ) → k ≤ i → times i (pooled_then k u ps) ≡ times i ps
not_looked zero i u ps above = refl
not_looked (suc k) i u ps above = times_with i k (u k) (pooled_then k u ps) (λ e. absurd (omega (arith, e, above))) ∙ not_looked k i u ps (omega (arith, above))

-- a place that was looked at
looked_at : (k i : ℕ) (u : ℕ → ℕ) (ps : List ℕ) (m : ℕ) → i < k → u i ≡ m + times i ps → m + times i (pooled_then k u ps) ≡ used_then (u i)
looked_at zero i u ps m below e = absurd (omega (arith, below))
looked_at (suc k) i u ps m below e = go (nat_le k i) refl (λ lower. looked_at k i u ps m lower e) where
  go : (b : Bool) → nat_le k i ≡ b → (i < k → m + times i (pooled_then k u ps) ≡ used_then (u i)) → m + times i (pooled_then (suc k) u ps) ≡ used_then (u i)
  go true at rest =
      let same : i ≡ k = (let l = leb-true k i at in omega (arith, l, below)) in
      subst (λ j. m + times i (with_free j (u j) (pooled_then k u ps)) ≡ used_then (u i)) same
      (here i (u i) (pooled_then k u ps) m (let n = not_looked k i u ps (omega (arith, same)) in omega (arith, e, n)))
  go false at rest =
      let lower : i < k = leb-false k i at in
      let t = times_with i k (u k) (pooled_then k u ps) (λ same. absurd (omega (arith, same, lower))) in
      let r = rest lower in
      omega (arith, t, r)

abbrev pub flushed : List ℕ → List ℕ → List ℕ
flushed his ps = pooled_then 5 (λ i. uses his [] ps i) ps

flushed_uses : (his ps : List ℕ) (i : ℕ) → i < 5 → used_then (uses his [] ps i) ≡ uses his [] (flushed his ps) i
flushed_uses his ps i low =
    let e = looked_at 5 i (λ j. uses his [] ps j) ps (times i his) low (omega arith) in omega (arith, e)

pub flush_done : (pp ss : ℕ) → (r : ℕ) (his ps : List ℕ)
    → Done (desk pp ss r his [] ps) (entries_of 0 (flush_events ss (λ i. uses his [] ps i))) (desk pp ss r his [] (flushed his ps))
flush_done pp ss r his ps =
    let u : ℕ → ℕ = λ i. uses his [] ps i in
    done_to (desk pp ss r his [] ps) (desk_of pp ss r (λ i. used_then (u i)) [] (flushed his ps) (put_all his [])) (desk pp ss r his [] (flushed his ps))
    (entries_of 0 (flush_events ss u)) (flush_by pp ss r u ps (put_all his []))
    (same_parts pp ss r (λ i. used_then (u i)) (λ i. uses his [] (flushed his ps) i) [] (flushed his ps) (put_all his []) (put_all his []) (λ i low. flushed_uses his ps i low) refl)

-- ---- a full pool

-- Each of the five places is pooled, or held by one of these.
pub record IsFull (his ps : List ℕ) : Type 0 where
  pub low : AllByRecursion (λ i. i < 5) ps
  pub each : (i : ℕ) → i < 5 → times i his + times i ps ≡ 1

all_put : (p : ℕ) (xs : List ℕ) → p < 5 → AllByRecursion (λ i. i < 5) xs → AllByRecursion (λ i. i < 5) (put_in p xs)
all_put p [] low all = (low, tt)
all_put p (x ∷ xs) low all =
    cond_both (nat_le p x) (p ∷ x ∷ xs) (x ∷ put_in p xs) (λ ys. AllByRecursion (λ i. i < 5) ys) (λ e. (low, all)) (λ e. (all.0, all_put p xs low all.1))

all_with : (p n : ℕ) (xs : List ℕ) → p < 5 → AllByRecursion (λ i. i < 5) xs → AllByRecursion (λ i. i < 5) (with_free p n xs)
all_with p zero xs low all = all_put p xs low all
all_with p (suc n) xs low all = all

all_pooled_then : (k : ℕ) (u : ℕ → ℕ) (ps : List ℕ) → k ≤ 5 → AllByRecursion (λ i. i < 5) ps → AllByRecursion (λ i. i < 5) (pooled_then k u ps)
all_pooled_then zero u ps few all = all
all_pooled_then (suc k) u ps few all = all_with k (u k) (pooled_then k u ps) (omega (arith, few)) (all_pooled_then k u ps (omega (arith, few)) all)

used_once : (n : ℕ) → n ≤ 1 → used_then n ≡ 1
used_once zero few = refl
used_once (suc n) few = omega (arith, few)

pub full_flushed : (his ps : List ℕ) → AllByRecursion (λ i. i < 5) ps → ((i : ℕ) → i < 5 → times i his + times i ps ≤ 1) → IsFull his (flushed his ps)
full_flushed his ps low once = record {
  low = all_pooled_then 5 (λ i. uses his [] ps i) ps (omega arith) low;
  each = λ i small.
      (let e = flushed_uses his ps i small in let o = once i small in let u = used_once (uses his [] ps i) (omega (arith, o)) in omega (arith, e, u));
}
