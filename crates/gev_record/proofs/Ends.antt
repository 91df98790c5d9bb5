-- What a recorded script's caller took, where nothing waits at the end: all that the acquisition filled.
use Rattle.std.proofs.Common.{◌≡◌, ℕ, zero, suc, ◌+◌, ◌≤◌, ◌==◌, Bool, true, false, cond, List, [], ◌∷◌, ◌++◌, length, map, drop, replicate, take, take_all, refl, sym, ap, ◌∙◌, arith, length-append, suc-add, zero-add, ap₂}
use Rattle.std.specs.List.{AllByRecursion}
use Rattle.board_machine.specs.declared.events.Entry.{Entry}
use Rattle.board_machine.specs.declared.events.Event.{Event}
use Rattle.board_machine.specs.declared.events.Event.TheVariants.{Fill, Take, SweepOut}
use Rattle.board_machine.specs.declared.events.TakeEnd.TheVariants.{Taken}
use Rattle.board_machine.specs.Machine.{Item}
use Rattle.board_machine.specs.Histories.{Run, After, own_of}
use Rattle.board_machine.specs.Handout.{filled_by, removed_by, marks_by, filled, removed, marks, marked, removed_items, only_actor, taken_items}
use Rattle.std.proofs.Math.ListN.{length-drop}
use Rattle.board_machine.proofs.Handouts.{run_out}
use Rattle.acquisition_machine.specs.declared.retired.Retired.{Retired}
use Rattle.acquisition_machine.specs.Erased.{images}
use Rattle.block_fills.specs.Fills.{item_of, tried}
use Rattle.script_trace.specs.Trace.{acquirer, caller}
use Rattle.gev_record.proofs.Stages.{IsRecordedBy, IsRecorded}

-- each removal is a take of the caller's
marked_by : (k : ℕ) (e : Event) → IsRecordedBy k e → marks_by (only_actor caller) k e ≡ replicate (length (removed_by e)) true
marked_by k (Take (Taken i)) r = rw r refl
marked_by k (SweepOut is) r = absurd r
marked_by k _ r = refl

replicate-append : (n m : ℕ) → replicate n true ++ replicate m true ≡ replicate (n + m) true
replicate-append zero m = rw zero-add refl
replicate-append (suc n) m = rw suc-add (ap (λ l. true ∷ l) (replicate-append n m))

all_marked : (h : List Entry) → AllByRecursion IsRecorded h → marks (only_actor caller) h ≡ replicate (length (removed h)) true
all_marked [] all = refl
all_marked (e ∷ h) all =
    ap₂ (λ l m. l ++ m) (marked_by e.by e.event all.0) (all_marked h all.1)
    ∙ (replicate-append (length (removed_by e.event)) (length (removed h)) ∙ sym (ap (λ n. replicate n true) (length-append (removed_by e.event) (removed h))))

-- each fill is the acquisition's, and was answered so
own_fill : (k : ℕ) (e : Event) (es : List Entry) (h : List Entry) → IsRecordedBy k e → filled h ≡ tried (own_of acquirer h)
    → filled_by e ++ filled h ≡ tried (cond (k == acquirer) (record { by = k; event = e } ∷ own_of acquirer h) (own_of acquirer h))
own_fill k (Fill i f true) es h r rest = rw r (ap (λ l. filled_by (Fill i f true) ++ l) rest)
own_fill k (Fill i f false) es h r rest = absurd r
own_fill k e es h r rest = go (k == acquirer) where
  go : (v : Bool) → filled_by e ++ filled h ≡ tried (cond v (record { by = k; event = e } ∷ own_of acquirer h) (own_of acquirer h))
  go true = rest
  go false = rest

fills_are_own : (h : List Entry) → AllByRecursion IsRecorded h → filled h ≡ tried (own_of acquirer h)
fills_are_own [] all = refl
fills_are_own (e ∷ h) all = own_fill e.by e.event [] h all.0 (fills_are_own h all.1)

marked_all : {A : Type 0} (n : ℕ) (xs : List A) → length xs ≤ n → marked (replicate n true) xs ≡ xs
marked_all zero [] few = refl
marked_all zero (x ∷ xs) few = absurd (omega arith)
marked_all (suc n) [] few = refl
marked_all (suc n) (x ∷ xs) few = ap (λ l. x ∷ l) (marked_all n xs (omega arith))

pub all_taken : (h : List Entry) → Run h → AllByRecursion IsRecorded h → (After h).out ≡ [] → taken_items caller h ≡ tried (own_of acquirer h)
all_taken h run all none =
    let left : drop (length (removed h)) (filled h) ≡ [] = sym (run_out h run) ∙ none in
    let counted = length-drop (length (removed h)) (filled h) in
    let zero_left : length (drop (length (removed h)) (filled h)) ≡ 0 = ap length left in
    let few : length (filled h) ≤ length (removed h) = omega (arith, counted, zero_left) in
    let removed_all : removed_items h ≡ filled h = take_all (length (removed h)) (filled h) few in
    ap₂ marked (all_marked h all) removed_all ∙ (marked_all (length (removed h)) (filled h) few ∙ fills_are_own h all)

pub fillings-items : (xs : List Retired) → map (λ (x : Item). x.filling) (map item_of xs) ≡ images xs
fillings-items [] = refl
fillings-items (x ∷ xs) = ap (λ l. x.buf ∷ l) (fillings-items xs)

take_few : {A : Type 0} (n : ℕ) (xs : List A) → length (take n xs) ≤ n
take_few zero [] = omega arith
take_few zero (x ∷ xs) = omega arith
take_few (suc n) [] = omega arith
take_few (suc n) (x ∷ xs) = (let few = take_few n xs in omega (arith, few))

-- all that was removed was taken by the caller
pub removed_taken : (h : List Entry) → AllByRecursion IsRecorded h → taken_items caller h ≡ removed_items h
removed_taken h all =
    ap (λ ms. marked ms (removed_items h)) (all_marked h all)
    ∙ marked_all (length (removed h)) (removed_items h) (take_few (length (removed h)) (filled h))
