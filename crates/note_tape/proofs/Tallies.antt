-- Counting note by note is counting all of them.
use Rattle.std.proofs.Common.{◌≡◌, ℕ, ◌+◌, ◌-◌, Bool, true, false, List, [], ◌∷◌, ◌++◌, refl, sym, ap, ◌∙◌, arith, append_assoc, append-nil}
use Rattle.std.specs.Prelude.{if◌then◌else◌}
use Rattle.missing_ranges.specs.Lost.{ids_in}
use Rattle.script_trace.specs.Notes.{Note, Outcome, idle, ignored, unwidened, leads, opens, asks, first, absent, drops, done, unbuffered}
use Rattle.script_trace.specs.Counted.{is_opening, times_so}
use Rattle.script_trace.proofs.Opened.{times-append}
use Rattle.script_trace.specs.Ending.{as_count}
use Rattle.script_trace.specs.Explaining.{is_whole, is_partial, is_unbuffered, is_drop, absent_spans}
use Rattle.note_report.specs.declared.block_counts.BlockCounts.{BlockCounts}
use Rattle.note_tape.specs.Counting.{tally, counted_up, with_end, with_note, with_notes}

-- so many more notes of a kind
so_many : (before more : ℕ) (n : ℕ) → n ≡ before + more → as_count n ≡ counted_up (as_count before) more
so_many before more n e = omega (arith, e)

none_more : (before : ℕ) (n : ℕ) → n ≡ before + 0 → as_count n ≡ as_count before
none_more before n e = omega (arith, e)

ids_both : (xs ys : List Note) → ids_in (absent_spans (xs ++ ys)) ≡ ids_in (absent_spans xs) + ids_in (absent_spans ys)
ids_both [] ys = zero_plus (ids_in (absent_spans ys))
  where
    zero_plus : (n : ℕ) → n ≡ 0 + n
    zero_plus n = omega arith
ids_both (idle bytes ∷ xs) ys = ids_both xs ys
ids_both (ignored why x ∷ xs) ys = ids_both xs ys
ids_both (unwidened e ∷ xs) ys = ids_both xs ys
ids_both (leads b i ∷ xs) ys = ids_both xs ys
ids_both (opens b buffer ∷ xs) ys = ids_both xs ys
ids_both (asks b r round ∷ xs) ys = ids_both xs ys
ids_both (first b ∷ xs) ys = ids_both xs ys
ids_both (absent r ∷ xs) ys = omega (arith, ids_both xs ys)
ids_both (drops b buffer ∷ xs) ys = ids_both xs ys
ids_both (done o ∷ xs) ys = ids_both xs ys
ids_both (unbuffered b cause ∷ xs) ys = ids_both xs ys

same_counts : (a b : BlockCounts) → a.opened ≡ b.opened → a.complete ≡ b.complete → a.incomplete ≡ b.incomplete → a.unbuffered ≡ b.unbuffered → a.absent ≡ b.absent → a.dropped ≡ b.dropped → a ≡ b
same_counts a b e f g h i j =
    ap (λ n. record a { opened = n }) e
    ∙ (ap (λ n. record a { opened = b.opened; complete = n }) f
    ∙ (ap (λ n. record a { opened = b.opened; complete = b.complete; incomplete = n }) g
    ∙ (ap (λ n. record a { opened = b.opened; complete = b.complete; incomplete = b.incomplete; unbuffered = n }) h
    ∙ (ap (λ n. record a { opened = b.opened; complete = b.complete; incomplete = b.incomplete; unbuffered = b.unbuffered; absent = n }) i
    ∙ ap (λ n. record { opened = b.opened; complete = b.complete; incomplete = b.incomplete; unbuffered = b.unbuffered; absent = b.absent; dropped = n }) j))))

-- what one note is counted as, of each kind
record Counts (before : List Note) (x : Note) : Type 0 where
  opened : as_count (times_so is_opening (before ++ x ∷ [])) ≡ counted_up (as_count (times_so is_opening before)) (if is_opening x then 1 else 0)
  complete : as_count (times_so is_whole (before ++ x ∷ [])) ≡ counted_up (as_count (times_so is_whole before)) (if is_whole x then 1 else 0)
  incomplete : as_count (times_so is_partial (before ++ x ∷ [])) ≡ counted_up (as_count (times_so is_partial before)) (if is_partial x then 1 else 0)
  unbuffered_so : as_count (times_so is_unbuffered (before ++ x ∷ [])) ≡ counted_up (as_count (times_so is_unbuffered before)) (if is_unbuffered x then 1 else 0)
  absent_so : as_count (ids_in (absent_spans (before ++ x ∷ []))) ≡ counted_up (as_count (ids_in (absent_spans before))) (ids_in (absent_spans (x ∷ [])))
  dropped : as_count (times_so is_drop (before ++ x ∷ [])) ≡ counted_up (as_count (times_so is_drop before)) (if is_drop x then 1 else 0)

one_more : (test : Note → Bool) (before : List Note) (x : Note) → as_count (times_so test (before ++ x ∷ [])) ≡ counted_up (as_count (times_so test before)) (if test x then 1 else 0)
one_more test before x = so_many (times_so test before) (if test x then 1 else 0) (times_so test (before ++ x ∷ [])) (times-append test before (x ∷ []) ∙ plus (times_so test before) (if test x then 1 else 0))
  where
    plus : (a b : ℕ) → a + (b + 0) ≡ a + b
    plus a b = omega arith

counts : (before : List Note) (x : Note) → Counts before x
counts before x = record {
  opened = one_more is_opening before x;
  complete = one_more is_whole before x;
  incomplete = one_more is_partial before x;
  unbuffered_so = one_more is_unbuffered before x;
  absent_so = so_many (ids_in (absent_spans before)) (ids_in (absent_spans (x ∷ []))) (ids_in (absent_spans (before ++ x ∷ []))) (ids_both before (x ∷ []));
  dropped = one_more is_drop before x;
}

-- a count that nothing adds to
zero_more : (n m : ℕ) → m ≡ counted_up (as_count n) 0 → m ≡ as_count n
zero_more n m e = omega (arith, e)

span_more : (n a b : ℕ) (m : ℕ) → m ≡ counted_up (as_count n) ((b + 1 - a) + 0) → m ≡ counted_up (as_count n) (b + 1 - a)
span_more n a b m e = omega (arith, e)

stays : (before : List Note) (x : Note) → Counts before x → is_opening x ≡ false → is_whole x ≡ false → is_partial x ≡ false → is_unbuffered x ≡ false → absent_spans (x ∷ []) ≡ [] → is_drop x ≡ false → tally (before ++ x ∷ []) ≡ tally before
stays before x c o w p u a d =
    same_counts (tally (before ++ x ∷ [])) (tally before)
    (zero_more (times_so is_opening before) _ (c.opened ∙ ap (λ b. counted_up (as_count (times_so is_opening before)) (if b then 1 else 0)) o))
    (zero_more (times_so is_whole before) _ (c.complete ∙ ap (λ b. counted_up (as_count (times_so is_whole before)) (if b then 1 else 0)) w))
    (zero_more (times_so is_partial before) _ (c.incomplete ∙ ap (λ b. counted_up (as_count (times_so is_partial before)) (if b then 1 else 0)) p))
    (zero_more (times_so is_unbuffered before) _ (c.unbuffered_so ∙ ap (λ b. counted_up (as_count (times_so is_unbuffered before)) (if b then 1 else 0)) u))
    (zero_more (ids_in (absent_spans before)) _ (c.absent_so ∙ ap (λ rs. counted_up (as_count (ids_in (absent_spans before))) (ids_in rs)) a))
    (zero_more (times_so is_drop before) _ (c.dropped ∙ ap (λ b. counted_up (as_count (times_so is_drop before)) (if b then 1 else 0)) d))

ended : (before : List Note) (o : Outcome) (b : Bool) → o.complete ≡ b → Counts before (done o) → tally (before ++ done o ∷ []) ≡ with_end b (tally before)
ended before o true is c =
    same_counts (tally (before ++ done o ∷ [])) (with_end true (tally before)) (zero_more _ _ c.opened)
    (c.complete ∙ ap (λ v. counted_up (as_count (times_so is_whole before)) (if v then 1 else 0)) is)
    (zero_more _ _ (c.incomplete ∙ ap (λ v. counted_up (as_count (times_so is_partial before)) (if (if v then false else true) then 1 else 0)) is))
    (zero_more _ _ c.unbuffered_so) (zero_more _ _ c.absent_so) (zero_more _ _ c.dropped)
ended before o false is c =
    same_counts (tally (before ++ done o ∷ [])) (with_end false (tally before)) (zero_more _ _ c.opened)
    (zero_more _ _ (c.complete ∙ ap (λ v. counted_up (as_count (times_so is_whole before)) (if v then 1 else 0)) is))
    (c.incomplete ∙ ap (λ v. counted_up (as_count (times_so is_partial before)) (if (if v then false else true) then 1 else 0)) is)
    (zero_more _ _ c.unbuffered_so) (zero_more _ _ c.absent_so) (zero_more _ _ c.dropped)

one_counted : (before : List Note) (x : Note) → Counts before x → tally (before ++ x ∷ []) ≡ with_note x (tally before)
one_counted before (idle bytes) c = stays before (idle bytes) c refl refl refl refl refl refl
one_counted before (ignored why x) c = stays before (ignored why x) c refl refl refl refl refl refl
one_counted before (unwidened e) c = stays before (unwidened e) c refl refl refl refl refl refl
one_counted before (leads b i) c = stays before (leads b i) c refl refl refl refl refl refl
one_counted before (opens b buffer) c =
    same_counts (tally (before ++ opens b buffer ∷ [])) (with_note (opens b buffer) (tally before)) c.opened
    (zero_more _ _ c.complete) (zero_more _ _ c.incomplete) (zero_more _ _ c.unbuffered_so) (zero_more _ _ c.absent_so) (zero_more _ _ c.dropped)
one_counted before (asks b r round) c = stays before (asks b r round) c refl refl refl refl refl refl
one_counted before (first b) c = stays before (first b) c refl refl refl refl refl refl
one_counted before (absent r) c =
    same_counts (tally (before ++ absent r ∷ [])) (with_note (absent r) (tally before)) (zero_more _ _ c.opened)
    (zero_more _ _ c.complete) (zero_more _ _ c.incomplete) (zero_more _ _ c.unbuffered_so) (span_more _ r.0 r.1 _ c.absent_so) (zero_more _ _ c.dropped)
one_counted before (drops b buffer) c =
    same_counts (tally (before ++ drops b buffer ∷ [])) (with_note (drops b buffer) (tally before)) (zero_more _ _ c.opened)
    (zero_more _ _ c.complete) (zero_more _ _ c.incomplete) (zero_more _ _ c.unbuffered_so) (zero_more _ _ c.absent_so) c.dropped
one_counted before (done o) c = ended before o o.complete refl c
one_counted before (unbuffered b cause) c =
    same_counts (tally (before ++ unbuffered b cause ∷ [])) (with_note (unbuffered b cause) (tally before)) (zero_more _ _ c.opened)
    (zero_more _ _ c.complete) (zero_more _ _ c.incomplete) c.unbuffered_so (zero_more _ _ c.absent_so) (zero_more _ _ c.dropped)

pub tallies_are_counted : (before more : List Note) → tally (before ++ more) ≡ with_notes more (tally before)
tallies_are_counted before [] = ap tally (append-nil before)
tallies_are_counted before (x ∷ more) =
    ap tally (sym (append_assoc before (x ∷ []) more))
    ∙ (tallies_are_counted (before ++ x ∷ []) more ∙ ap (with_notes more) (one_counted before x (counts before x)))
