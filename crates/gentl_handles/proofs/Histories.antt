-- What holds after any calls.
use Rattle.std.proofs.Common.{◌≡◌, ℕ, ◌<◌, ◌≤◌, Bool, true, false, List, [], ◌∷◌, ◌++◌, Option, Some, None, Result, Ok, Err, refl, ap, sym, ◌∙◌, subst, arith, append_assoc}
use Rattle.std.specs.Prelude.{⊤, ◌==◌, ◌||◌, not, filter, All, if◌then◌else◌}
use Rattle.std.specs.List.{list_any}
use Rattle.std.proofs.lemmas.List.{append-nil}
use Rattle.std.proofs.lemmas.List.Elements.{All-nil, All-cons}
use Rattle.std.proofs.lemmas.Bool.{eq-eqb, ne_eqb}
use Rattle.gentl_types.specs.declared.errors.GcError.{GcError}
use Rattle.gentl_handles.specs.declared.opened.Opened.{Opened}
use Rattle.gentl_handles.specs.Handles.{Handles, no_handles, found}
use Rattle.gentl_handles.specs.Opening.{opening, child_level, with_opened}
use Rattle.gentl_handles.specs.Closing.{Sorted, falls, is_among, sort_out, sorted_by, none_sorted, closing, closing_of, without_closed}
use Rattle.gentl_handles.specs.Calls.{Call, open_child, close_all, after_call, after_calls, serials_given, with_serial, RiseFrom, AreOrdered, IsBehind, ClosesAllBelow}
use Rattle.gentl_handles.proofs.Ordered.{keeps, sort_keeps, ordered_more, ordered_sorted, opening_facts, next_behind}

same_openings : (hs : Handles) (serial : ℕ) (r : Result (List ℕ) GcError) → (without_closed hs serial r).openings ≡ hs.openings
same_openings hs serial (Ok closed) = refl
same_openings hs serial (Err e) = refl

rise_opened : (hs : Handles) (parent : Option ℕ) (index : ℕ) (calls : List Call) (x : Result Opened GcError) → opening hs parent index ≡ x
    → RiseFrom (with_opened hs x).openings (serials_given (with_opened hs x) calls)
    → RiseFrom hs.openings (with_serial x (serials_given (with_opened hs x) calls))
rise_opened hs parent index calls (Ok o) e rest =
    let above : hs.openings < o.serial = omega (arith, (opening_facts hs parent index (child_level parent hs.handles) o e).serial) in
    (above, rest)
rise_opened hs parent index calls (Err e) f rest = rest

pub serials_given_rise : (hs : Handles) (calls : List Call) → RiseFrom hs.openings (serials_given hs calls)
serials_given_rise hs [] = tt
serials_given_rise hs (open_child parent index ∷ calls) =
    rise_opened hs parent index calls (opening hs parent index) refl (serials_given_rise (with_opened hs (opening hs parent index)) calls)
serials_given_rise hs (close_all serial ∷ calls) =
    subst (λ n. RiseFrom n (serials_given (without_closed hs serial (closing hs serial)) calls)) (same_openings hs serial (closing hs serial))
    (serials_given_rise (without_closed hs serial (closing hs serial)) calls)

-- the handles are in order
abbrev InOrder : Handles → Type 0
InOrder hs = AreOrdered 0 hs.handles hs.openings

opened_ordered : (hs : Handles) (parent : Option ℕ) (index : ℕ) (x : Result Opened GcError) → InOrder hs → opening hs parent index ≡ x → InOrder (with_opened hs x)
opened_ordered hs parent index (Ok o) h e =
    let next = next_behind hs parent index o h e in
    ordered_more 0 hs.handles hs.openings o h (omega (arith, next.serial)) next.behind
opened_ordered hs parent index (Err e) h f = h

closed_ordered : (hs : Handles) (serial : ℕ) (x : Option Opened) → InOrder hs → InOrder (without_closed hs serial (closing_of x serial (sorted_by serial hs.handles)))
closed_ordered hs serial None h = h
closed_ordered hs serial (Some o) h = ordered_sorted serial hs.handles hs.openings h

call_ordered : (hs : Handles) (call : Call) → InOrder hs → InOrder (after_call hs call)
call_ordered hs (open_child parent index) h = opened_ordered hs parent index (opening hs parent index) h refl
call_ordered hs (close_all serial) h = closed_ordered hs serial (found serial hs.handles) h

calls_ordered_from : (hs : Handles) (calls : List Call) → InOrder hs → InOrder (after_calls hs calls)
calls_ordered_from hs [] h = h
calls_ordered_from hs (call ∷ calls) h = calls_ordered_from (after_call hs call) calls (call_ordered hs call h)

pub calls_ordered : (calls : List Call) → InOrder (after_calls no_handles calls)
calls_ordered calls = let none : 0 ≤ 0 = omega arith in calls_ordered_from no_handles calls none

-- the serials that are closed, from the front
falling : ℕ → List ℕ → List Opened → List ℕ
falling serial closed [] = []
falling serial closed (o ∷ os) =
    if falls serial closed o then o.serial ∷ falling serial (closed ++ o.serial ∷ []) os else falling serial closed os

sort_falling : (serial : ℕ) (s : Sorted) (os : List Opened) → (sort_out serial s os).closed ≡ s.closed ++ falling serial s.closed os
unfolding falling
sort_falling serial s [] = sym (append-nil s.closed)
sort_falling serial s (o ∷ os) =
    go (falls serial s.closed o) (sort_falling serial (record s { closed = s.closed ++ o.serial ∷ [] }) os) (sort_falling serial (record s { kept = s.kept ++ o ∷ [] }) os)
  where
    go : (t : Bool)
        → (sort_out serial (record s { closed = s.closed ++ o.serial ∷ [] }) os).closed ≡ (s.closed ++ o.serial ∷ []) ++ falling serial (s.closed ++ o.serial ∷ []) os
        → (sort_out serial (record s { kept = s.kept ++ o ∷ [] }) os).closed ≡ s.closed ++ falling serial s.closed os
        → (sort_out serial (if t then record s { closed = s.closed ++ o.serial ∷ [] } else record s { kept = s.kept ++ o ∷ [] }) os).closed
        ≡ s.closed ++ (if t then o.serial ∷ falling serial (s.closed ++ o.serial ∷ []) os else falling serial s.closed os)
    go true closed stays = closed ∙ append_assoc s.closed (o.serial ∷ []) (falling serial (s.closed ++ o.serial ∷ []) os)
    go false closed stays = stays

any_append : (n : ℕ) (xs ys : List ℕ) → list_any (λ s. s == n) (xs ++ ys) ≡ (list_any (λ s. s == n) xs || list_any (λ s. s == n) ys)
any_append n [] ys = refl
any_append n (x ∷ xs) ys = go (x == n) (any_append n xs ys) where
  go : (t : Bool) → list_any (λ s. s == n) (xs ++ ys) ≡ (list_any (λ s. s == n) xs || list_any (λ s. s == n) ys)
      → (t || list_any (λ s. s == n) (xs ++ ys)) ≡ ((t || list_any (λ s. s == n) xs) || list_any (λ s. s == n) ys)
  go true e = refl
  go false e = e

AreAtMost : ℕ → List ℕ → Type 0
AreAtMost low [] = ⊤
AreAtMost low (n ∷ ns) = (n ≤ low) × AreAtMost low ns

AreAbove : ℕ → List ℕ → Type 0
AreAbove low [] = ⊤
AreAbove low (n ∷ ns) = (low < n) × AreAbove low ns

none_at_most : (low n : ℕ) (xs : List ℕ) → AreAtMost low xs → low < n → list_any (λ s. s == n) xs ≡ false
unfolding AreAtMost
none_at_most low n [] h lt = refl
none_at_most low n (x ∷ xs) h lt = ap (λ t. t || list_any (λ s. s == n) xs) (ne_eqb x n (λ e. omega (arith, h.0, lt, e))) ∙ none_at_most low n xs h.1 lt

none_above : (low n : ℕ) (xs : List ℕ) → AreAbove low xs → n ≤ low → list_any (λ s. s == n) xs ≡ false
unfolding AreAbove
none_above low n [] h le = refl
none_above low n (x ∷ xs) h le = ap (λ t. t || list_any (λ s. s == n) xs) (ne_eqb x n (λ e. omega (arith, h.0, le, e))) ∙ none_above low n xs h.1 le

at_most_more : (low n : ℕ) (xs : List ℕ) → AreAtMost low xs → low < n → AreAtMost n (xs ++ n ∷ [])
unfolding AreAtMost
at_most_more low n [] h lt = let same : n ≤ n = omega arith in (same, tt)
at_most_more low n (x ∷ xs) h lt = (omega (arith, h.0, lt), at_most_more low n xs h.1 lt)

at_most_higher : (low n : ℕ) (xs : List ℕ) → AreAtMost low xs → low < n → AreAtMost n xs
unfolding AreAtMost
at_most_higher low n [] h lt = tt
at_most_higher low n (x ∷ xs) h lt = (omega (arith, h.0, lt), at_most_higher low n xs h.1 lt)

above_lower : (low n : ℕ) (xs : List ℕ) → AreAbove low xs → n ≤ low → AreAbove n xs
unfolding AreAbove
above_lower low n [] h le = tt
above_lower low n (x ∷ xs) h le = (omega (arith, h.0, le), above_lower low n xs h.1 le)

falling_above : (serial : ℕ) (closed : List ℕ) (low : ℕ) (os : List Opened) (openings : ℕ) → AreOrdered low os openings → AreAbove low (falling serial closed os)
unfolding falling AreAbove
falling_above serial closed low [] openings h = tt
falling_above serial closed low (o ∷ os) openings h =
    go (falls serial closed o) (falling_above serial (closed ++ o.serial ∷ []) o.serial os openings h.2) (falling_above serial closed o.serial os openings h.2)
  where
    go : (t : Bool) → AreAbove o.serial (falling serial (closed ++ o.serial ∷ []) os) → AreAbove o.serial (falling serial closed os)
        → AreAbove low (if t then o.serial ∷ falling serial (closed ++ o.serial ∷ []) os else falling serial closed os)
    go true a b = (h.0, above_lower o.serial low (falling serial (closed ++ o.serial ∷ []) os) a (omega (arith, h.0)))
    go false a b = above_lower o.serial low (falling serial closed os) b (omega (arith, h.0))

-- What is closed later says nothing of a parent.
among_before : (parent : Option ℕ) (serial : ℕ) (closed later : List ℕ) → IsBehind parent serial → ((p : ℕ) → p < serial → list_any (λ s. s == p) later ≡ false)
    → is_among (closed ++ later) parent ≡ is_among closed parent
among_before None serial closed later behind none = refl
among_before (Some p) serial closed later behind none =
    any_append p closed later ∙ ap (λ t. list_any (λ s. s == p) closed || t) (none p behind) ∙ or_no (list_any (λ s. s == p) closed)
  where
    or_no : (t : Bool) → (t || false) ≡ t
    or_no true = refl
    or_no false = refl

-- How some of the handles are sorted out, by all the serials that are closed.
record SortsOut (serial : ℕ) (closed all : List ℕ) (os : List Opened) : Type 0 where
  pub each : All (λ o. is_among all (Some o.serial) ≡ falls serial all o) os
  pub kept_are : keeps serial closed os ≡ filter (λ o. not (is_among all (Some o.serial))) os

closes_front : (serial low openings : ℕ) (c all : List ℕ) (os : List Opened) → AreOrdered low os openings → AreAtMost low c
    → all ≡ c ++ falling serial c os → SortsOut serial c all os
unfolding falling keeps
closes_front serial low openings c all [] h most f = record { each = All-nil _; kept_are = refl }
closes_front serial low openings c all (o ∷ os) h most f =
    go (falls serial c o) refl f
    (closes_front serial o.serial openings (c ++ o.serial ∷ []) all os h.2 (at_most_more low o.serial c most h.0))
    (closes_front serial o.serial openings c all os h.2 (at_most_higher low o.serial c most h.0))
  where
    test : Opened → Bool
    test x = not (is_among all (Some x.serial))

    before : is_among all o.parent ≡ is_among c o.parent
    before =
        ap (λ l. is_among l o.parent) f
        ∙ among_before o.parent o.serial c (falling serial c (o ∷ os)) h.1
        (λ p lt. none_above p p (falling serial c (o ∷ os)) (falling_above serial c p (o ∷ os) openings (lt, h.1, h.2)) (omega arith))

    same : falls serial all o ≡ falls serial c o
    same = ap (λ b. (o.serial == serial) || b) before

    go : (t : Bool) → falls serial c o ≡ t
        → all ≡ c ++ (if t then o.serial ∷ falling serial (c ++ o.serial ∷ []) os else falling serial c os)
        → (all ≡ (c ++ o.serial ∷ []) ++ falling serial (c ++ o.serial ∷ []) os → SortsOut serial (c ++ o.serial ∷ []) all os)
        → (all ≡ c ++ falling serial c os → SortsOut serial c all os)
        → SortsOut serial c all (o ∷ os)
    go true e g closed stays =
        let rest = closed (g ∙ sym (append_assoc c (o.serial ∷ []) (falling serial (c ++ o.serial ∷ []) os))) in
        let here : is_among all (Some o.serial) ≡ true =
        ap (λ l. is_among l (Some o.serial)) g
        ∙ any_append o.serial c (o.serial ∷ falling serial (c ++ o.serial ∷ []) os)
        ∙ ap (λ b. b || ((o.serial == o.serial) || list_any (λ s. s == o.serial) (falling serial (c ++ o.serial ∷ []) os))) (none_at_most low o.serial c most h.0)
        ∙ ap (λ b. b || list_any (λ s. s == o.serial) (falling serial (c ++ o.serial ∷ []) os)) (eq-eqb o.serial o.serial refl) in
        record {
          each = All-cons (λ x. is_among all (Some x.serial) ≡ falls serial all x) o os (here ∙ sym (same ∙ e)) rest.each;
          kept_are =
              ap (λ b. if b then keeps serial (c ++ o.serial ∷ []) os else o ∷ keeps serial c os) e
              ∙ rest.kept_are ∙ sym (ap (λ b. if not b then o ∷ filter test os else filter test os) here);
        }
    go false e g closed stays =
        let rest = stays g in
        let here : is_among all (Some o.serial) ≡ false =
        ap (λ l. is_among l (Some o.serial)) g
        ∙ any_append o.serial c (falling serial c os)
        ∙ ap (λ b. b || list_any (λ s. s == o.serial) (falling serial c os)) (none_at_most low o.serial c most h.0)
        ∙ none_above o.serial o.serial (falling serial c os) (falling_above serial c o.serial os openings h.2) (omega arith) in
        record {
          each = All-cons (λ x. is_among all (Some x.serial) ≡ falls serial all x) o os (here ∙ sym (same ∙ e)) rest.each;
          kept_are =
              ap (λ b. if b then keeps serial (c ++ o.serial ∷ []) os else o ∷ keeps serial c os) e
              ∙ ap (λ l. o ∷ l) rest.kept_are ∙ sym (ap (λ b. if not b then o ∷ filter test os else filter test os) here);
        }

closes_ordered : (serial openings : ℕ) (os : List Opened) → AreOrdered 0 os openings → ClosesAllBelow serial os
unfolding AreAtMost
closes_ordered serial openings os h =
    let closed : (sorted_by serial os).closed ≡ falling serial [] os = sort_falling serial none_sorted os in
    let kept_are : (sorted_by serial os).kept ≡ keeps serial [] os = sort_keeps serial none_sorted os in
    let out = closes_front serial 0 openings [] (sorted_by serial os).closed os h tt closed in
    record { closed = out.each; kept = kept_are ∙ out.kept_are }

pub closes_all : (calls : List Call) (serial : ℕ) → ClosesAllBelow serial (after_calls no_handles calls).handles
closes_all calls serial = closes_ordered serial (after_calls no_handles calls).openings (after_calls no_handles calls).handles (calls_ordered calls)
