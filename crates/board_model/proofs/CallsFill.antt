-- Buffers that a flush fills with the empty record.
use Rattle.std.proofs.Common.{◌≡◌, ◌≢◌, ℕ, zero, suc, ◌+◌, ◌≤◌, ◌<◌, ◌⊎◌, true, false, List, [], ◌∷◌, ◌++◌, length, take, get_or, set, Option, Some, None, refl, sym, ap, subst, ◌∙◌, inl, inr, arith, append_assoc, append-nil, get_or-set_same, get_or-set_other}
use Rattle.std.proofs.lemmas.Bool.{cases_eq, cases_lt}
use Rattle.std.proofs.lemmas.List.{take_more, take_all, set_past}
use Rattle.gev_types.specs.declared.block_record.Record.{Record}
use Rattle.gev_types.specs.Filling.{Filling, empty_record}
use Rattle.board_machine.specs.declared.events.Event.{Event}
use Rattle.board_machine.specs.declared.events.Event.TheVariants.{Fill, Lay, SweepPool}
use Rattle.board_machine.specs.Places.{same, times}
use Rattle.board_machine.specs.Machine.{Board, hand}
use Rattle.board_machine.specs.Adding.{AddsEntry, AddsOf}
use Rattle.board_machine.proofs.Adding.{adds_more, adds_as, adds_nothing, adds_kind, adds_first, adds_step}
use Rattle.board_calls.specs.Rounds.{filled_or_laid, FillsEach}
use Rattle.board_calls.specs.Calls.{FlushesToOutput}
use Rattle.board_model.specs.Plain.{PlainState, HasBuf, content_at, nothing, lying}
use Rattle.board_model.specs.Holdings.{LeftHand, HaveBufs, FillsOneAsLying, FillsAsLying, FlushesAsLying, emptied, with_empty_records}
use Rattle.board_model.proofs.CallsHands.{filled, laid}
use Rattle.board_model.proofs.CallsParts.{left_more}

pub set_twice : (c : List (Option Filling)) (i : ℕ) (x y : Option Filling) → set (set c i x) i y ≡ set c i y
set_twice [] zero x y = refl
set_twice [] (suc i) x y = refl
set_twice (z ∷ c) zero x y = refl
set_twice (z ∷ c) (suc i) x y = ap (λ d. z ∷ d) (set_twice c i x y)

pub lying_cleared : (c : List (Option Filling)) (i : ℕ) → lying (set c i nothing) i ≡ nothing
lying_cleared [] zero = refl
lying_cleared [] (suc i) = refl
lying_cleared (z ∷ c) zero = refl
lying_cleared (z ∷ c) (suc i) = lying_cleared c i

pub lying_within : (c : List (Option Filling)) (i : ℕ) → lying c i ≢ nothing → i < length c
lying_within [] i some = absurd (some refl)
lying_within (x ∷ c) zero some = omega arith
lying_within (x ∷ c) (suc i) some = omega (arith, lying_within c i some)

read_within : (c : List (Option Filling)) (i : ℕ) (x y : Option Filling) → i < length c → x ≡ get_or c i x → get_or c i y ≡ x
read_within [] i x y within is = absurd (omega arith)
read_within (z ∷ c) zero x y within is = sym is
read_within (z ∷ c) (suc i) x y within is = read_within c i x y (omega arith) is

-- what is read at a place where something lies
pub read_there : (v s : PlainState) (i : ℕ) (x : Option Filling) → v ≡ s → HasBuf s i → x ≡ get_or v.contents i x → content_at s i ≡ x
read_there v s i x same has is =
    read_within s.contents i x nothing (lying_within s.contents i has) (subst (λ (t : PlainState). x ≡ get_or t.contents i x) same is)

-- the buffer with the empty record
pub emptied_is : (o : Option Filling) (f g : Filling) → o ≡ Some f → g.bytes ≡ f.bytes → g.rec ≡ empty_record → Some g ≡ emptied o
emptied_is o f g e bytes rec =
    let same_bytes : g ≡ record { bytes = f.bytes; rec = g.rec } = ap (λ (bs : List ℕ). record { bytes = bs; rec = g.rec }) bytes in
    let same_record : record { bytes = f.bytes; rec = g.rec } ≡ record { bytes = f.bytes; rec = empty_record } = ap (λ (r : Record). record { bytes = f.bytes; rec = r }) rec in
    ap Some (same_bytes ∙ same_record) ∙ ap emptied (sym e)

-- lifted, given the empty record, and put there again
pub emptied_there : (c lifted new : List (Option Filling)) (i : ℕ) (f g : Filling) → lying c i ≡ Some f → lifted ≡ set c i nothing → g.bytes ≡ f.bytes → g.rec ≡ empty_record → new ≡ set lifted i (Some g) → new ≡ set c i (emptied (lying c i))
emptied_there c lifted new i f g there lift bytes rec put =
    put ∙ ap (λ d. set d i (Some g)) lift ∙ set_twice c i nothing (Some g) ∙ ap (λ o. set c i o) (emptied_is (lying c i) f g there bytes rec)

emptied_some : (o : Option Filling) → o ≢ nothing → emptied o ≢ nothing
emptied_some None some none = some refl
emptied_some (Some f) some none = cc

pub still_have : (c new : List (Option Filling)) (i : ℕ) (is : List ℕ) → lying c i ≢ nothing → new ≡ set c i (emptied (lying c i)) → HaveBufs c is → HaveBufs new is
still_have c new i is here e have = record { there = λ j some none. go j some (ap (λ d. lying d j) (sym e) ∙ none) (cases_eq j i) }
  where
    go : (j : ℕ) → 1 ≤ times j is → lying (set c i (emptied (lying c i))) j ≡ nothing → (j ≡ i) ⊎ (j ≢ i) → ⊥
    go j some none (inl at) =
        let there : lying (set c i (emptied (lying c i))) i ≡ nothing = subst (λ (n : ℕ). lying (set c i (emptied (lying c i))) n ≡ nothing) at none in
        emptied_some (lying c i) here (sym (get_or-set_same c i (emptied (lying c i)) nothing (lying_within c i here)) ∙ there)
    go j some none (inr off) = have.there j some (sym (get_or-set_other c i j (emptied (lying c i)) nothing off) ∙ none)

-- a buffer that has the empty record keeps it
emptied_twice : (o : Option Filling) → emptied (emptied o) ≡ emptied o
emptied_twice None = refl
emptied_twice (Some f) = refl

emptied_kept : (c : List (Option Filling)) (j i : ℕ) → emptied (lying (set c j (emptied (lying c j))) i) ≡ emptied (lying c i)
emptied_kept c j i = go (cases_eq i j) (cases_lt j (length c))
  where
    x : Option Filling
    x = emptied (lying c j)

    go : (i ≡ j) ⊎ (i ≢ j) → (j < length c) ⊎ (length c ≤ j) → emptied (lying (set c j x) i) ≡ emptied (lying c i)
    go (inl at) (inl within) =
        let P : ℕ → Type 0 = λ n. emptied (lying (set c j x) n) ≡ emptied (lying c n) in
        subst P (sym at) (ap emptied (get_or-set_same c j x nothing within) ∙ emptied_twice (lying c j))
    go (inl at) (inr past) = ap (λ d. emptied (lying d i)) (set_past c j x past)
    go (inr off) _ = ap emptied (get_or-set_other c j i x nothing off)

still_emptied : (is : List ℕ) (c : List (Option Filling)) (i : ℕ) → emptied (lying (with_empty_records is c) i) ≡ emptied (lying c i)
still_emptied [] c i = refl
still_emptied (j ∷ is) c i = still_emptied is (set c j (emptied (lying c j))) i ∙ emptied_kept c j i

fills_as_lying_push : (c : List (Option Filling)) (is : List ℕ) (i : ℕ) (es fs : List Event) → FillsAsLying c is es → FillsOneAsLying c i fs → FillsAsLying c (is ++ i ∷ []) (es ++ fs)
fills_as_lying_push c [] i es fs all one =
    (one.filling, one.filled, [], one.lay_there, ap (λ gs. gs ++ fs) all ∙ one.is ∙ sym (append-nil (filled_or_laid i one.filling one.filled)), refl)
fills_as_lying_push c (j ∷ is) i es fs all one =
    (all.0, all.1, all.2 ++ fs, all.3, ap (λ gs. gs ++ fs) all.4 ∙ append_assoc (filled_or_laid j all.0 all.1) all.2 fs, fills_as_lying_push c is i all.2 fs all.5 one)

-- one place filled by what lies there now, after others were filled
one_as_lay : (c mid : List (Option Filling)) (is : List ℕ) (i : ℕ) (es : List Event) → mid ≡ with_empty_records is c → FillsOneAsLying mid i es → FillsOneAsLying c i es
one_as_lay c mid is i es was one = record {
  filling = one.filling;
  filled = one.filled;
  lay_there = one.lay_there ∙ (ap (λ d. emptied (lying d i)) was ∙ still_emptied is c i);
  is = one.is;
}

pub fills_more : (b mid new : Board) (k n : ℕ) (c there : List (Option Filling)) (is : List ℕ) → n < length is → there ≡ with_empty_records (take n is) c → AddsOf b k (FillsAsLying c (take n is)) mid → AddsOf mid k (FillsOneAsLying there (get_or is n 0)) new → AddsOf b k (FillsAsLying c (take (n + 1) is)) new
fills_more b mid new k n c there is within was all one =
    subst (λ (js : List ℕ). AddsOf b k (FillsAsLying c js) new) (sym (take_more is n 0 within))
    (adds_more b mid new k (FillsAsLying c (take n is)) (FillsOneAsLying there (get_or is n 0)) (FillsAsLying c (take n is ++ get_or is n 0 ∷ []))
    (λ es fs first second. fills_as_lying_push c (take n is) (get_or is n 0) es fs first (one_as_lay c there (take n is) (get_or is n 0) fs was second)) all one)

pub fills_none : (b : Board) (k : ℕ) (c : List (Option Filling)) → AddsOf b k (FillsAsLying c []) b
fills_none b k c = adds_nothing b k (FillsAsLying c []) refl

pub fills_whole : (b new : Board) (k n : ℕ) (c : List (Option Filling)) (is : List ℕ) → length is ≤ n → AddsOf b k (FillsAsLying c (take n is)) new → AddsOf b k (FillsAsLying c is) new
fills_whole b new k n c is past adds = subst (λ (js : List ℕ). AddsOf b k (FillsAsLying c js) new) (take_all n is past) adds

left_after : (mid new : Board) (k i : ℕ) → LeftHand mid k (i ∷ []) new → (j : ℕ) → same j i + times j (hand new k) ≡ times j (hand mid k)
left_after mid new k i left j = let one : times j (i ∷ []) ≡ same j i = omega arith in omega (arith, one, left.there j)

pub left_one_more : (b mid new : Board) (k n : ℕ) (is : List ℕ) → n < length is → LeftHand b k (take n is) mid → LeftHand mid k ((get_or is n 0) ∷ []) new → LeftHand b k (take (n + 1) is) new
left_one_more b mid new k n is within left one = left_more b mid new k n is within left (left_after mid new k (get_or is n 0) one)

pub left_filled : (b lifted new : Board) (k i : ℕ) (f : Filling) → lifted ≡ b → AddsEntry lifted k (Fill i f true) new → LeftHand b k (i ∷ []) new
left_filled b lifted new k i f e step =
    subst (λ (c : Board). LeftHand c k (i ∷ []) new) e
    (record { there = λ j. let one : times j (i ∷ []) ≡ same j i = omega arith in omega (arith, one, filled lifted new k i j f step) })

pub left_laid : (b mid new : Board) (k i : ℕ) → mid ≡ b → AddsEntry mid k (Lay i) new → LeftHand b k (i ∷ []) new
left_laid b mid new k i e step =
    subst (λ (c : Board). LeftHand c k (i ∷ []) new) e
    (record { there = λ j. let one : times j (i ∷ []) ≡ same j i = omega arith in omega (arith, one, laid mid new k i j step) })

pub filled_one : (b lifted new : Board) (c : List (Option Filling)) (k i : ℕ) (f g : Filling) → lifted ≡ b → lying c i ≡ Some f → g.bytes ≡ f.bytes → g.rec ≡ empty_record → AddsEntry lifted k (Fill i g true) new → AddsOf b k (FillsOneAsLying c i) new
filled_one b lifted new c k i f g e there bytes rec step =
    subst (λ (d : Board). AddsOf d k (FillsOneAsLying c i) new) e
    (adds_kind lifted new k (Fill i g true) (FillsOneAsLying c i) tt (record { filling = g; filled = true; lay_there = emptied_is (lying c i) f g there bytes rec; is = refl }) step)

pub laid_one : (b lifted mid down new : Board) (c : List (Option Filling)) (k i : ℕ) (f g : Filling) → lifted ≡ b → lying c i ≡ Some f → g.bytes ≡ f.bytes → g.rec ≡ empty_record → AddsEntry lifted k (Fill i g false) mid → down ≡ mid → AddsEntry down k (Lay i) new → AddsOf b k (FillsOneAsLying c i) new
laid_one b lifted mid down new c k i f g e there bytes rec step put lay_step =
    subst (λ (d : Board). AddsOf d k (FillsOneAsLying c i) new) e
    (adds_first lifted mid new k (Fill i g false) (λ es. es ≡ Lay i ∷ []) (FillsOneAsLying c i) tt
    (λ es kind. record { filling = g; filled = false; lay_there = emptied_is (lying c i) f g there bytes rec; is = ap (λ fs. Fill i g false ∷ fs) kind }) step
    (subst (λ (d : Board). AddsOf d k (λ es. es ≡ Lay i ∷ []) new) put (adds_step down new k (Lay i) tt lay_step)))

empty_push : (is : List ℕ) (i : ℕ) (c : List (Option Filling)) → with_empty_records (is ++ i ∷ []) c ≡ set (with_empty_records is c) i (emptied (lying (with_empty_records is c) i))
empty_push [] i c = refl
empty_push (j ∷ is) i c = empty_push is i (set c j (emptied (lying c j)))

pub empty_more : (c mid new : List (Option Filling)) (n : ℕ) (is : List ℕ) → n < length is → mid ≡ with_empty_records (take n is) c → new ≡ set mid (get_or is n 0) (emptied (lying mid (get_or is n 0))) → new ≡ with_empty_records (take (n + 1) is) c
empty_more c mid new n is within was now =
    now ∙ ap (λ d. set d (get_or is n 0) (emptied (lying d (get_or is n 0)))) was ∙ sym (empty_push (take n is) (get_or is n 0) c)
    ∙ ap (λ js. with_empty_records js c) (sym (take_more is n 0 within))

pub flushes_as_lying : (b mid new : Board) (k : ℕ) (c there : List (Option Filling)) (is js : List ℕ) → js ≡ is → there ≡ c → AddsEntry b k (SweepPool is) mid → AddsOf mid k (FillsAsLying there js) new → AddsOf b k (FlushesAsLying c) new
flushes_as_lying b mid new k c there is js e was step fills =
    adds_first b mid new k (SweepPool is) (FillsAsLying there js) (FlushesAsLying c) tt
    (λ es kind. record { pooled = is; rest = es; is = refl; fills = subst (λ (ks : List ℕ). FillsAsLying c ks es) e (subst (λ (d : List (Option Filling)). FillsAsLying d js es) was kind) }) step fills

has_empty_record : (f : Filling) (o : Option Filling) → Some f ≡ emptied o → f.rec ≡ empty_record
has_empty_record f None e = absurd (cc)
has_empty_record f (Some g) e =
    let same_buffer : f ≡ record { bytes = g.bytes; rec = empty_record } = cc in
    ap (λ (h : Filling). h.rec) same_buffer

fills_each : (c : List (Option Filling)) (is : List ℕ) (es : List Event) → FillsAsLying c is es → FillsEach is es
fills_each c [] es kind = kind
fills_each c (i ∷ is) es kind = (kind.0, kind.1, kind.2, has_empty_record kind.0 (lying c i) kind.3, kind.4, fills_each c is kind.2 kind.5)

-- the events of the flush, without what lies at the places
pub flushes_to_output : (b new : Board) (k : ℕ) (c : List (Option Filling)) → AddsOf b k (FlushesAsLying c) new → AddsOf b k FlushesToOutput new
flushes_to_output b new k c =
    adds_as b new k (FlushesAsLying c) FlushesToOutput (λ es kind. record { pooled = kind.pooled; rest = kind.rest; is = kind.is; fills = fills_each c kind.pooled kind.rest kind.fills })
