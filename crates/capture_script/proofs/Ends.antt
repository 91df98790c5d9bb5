-- What the entries of a captured script's trace come to, where nothing waits at the end: what was handed out is what was
-- filled, and each claim got a buffer.
use Rattle.std.proofs.Common.{◌≡◌, ℕ, zero, suc, ◌+◌, ◌≤◌, ◌==◌, Bool, true, false, cond, List, [], ◌∷◌, ◌++◌, length, drop, replicate, take_all, refl, sym, ap, ◌∙◌, arith, length-append, suc-add, zero-add, ap₂}
use Rattle.std.specs.Prelude.{Option, Some, None}
use Rattle.std.specs.List.{AllByRecursion}
use Rattle.board_machine.specs.declared.events.Entry.{Entry}
use Rattle.board_machine.specs.declared.events.Event.{Event}
use Rattle.board_machine.specs.declared.events.Event.TheVariants.{Claim, Fill, Take, SweepOut}
use Rattle.board_machine.specs.declared.events.TakeEnd.TheVariants.{Taken, Empty, Closed}
use Rattle.board_machine.specs.Histories.{Run, After as BoardAfter, own_of}
use Rattle.board_machine.specs.Handout.{filled_by, removed_by, marks_by, filled, removed, marks, marked, removed_items}
use Rattle.std.proofs.Math.ListN.{length-drop}
use Rattle.board_machine.proofs.Handouts.{run_out}
use Rattle.acquisition_machine.specs.declared.config.AcqConfig.{AcqConfig}
use Rattle.acquisition_machine.specs.declared.counts.Counts.{Counts}
use Rattle.acquisition_machine.specs.declared.need.Need.{Need}
use Rattle.acquisition_machine.specs.declared.need.Need.TheVariants.{Buffer, Done, Ignored}
use Rattle.acquisition_machine.specs.declared.need.Why.{Why}
use Rattle.acquisition_machine.specs.declared.need.Why.TheVariants.{Foreign, Late, Repeat, Misfit, Starved, Notice}
use Rattle.acquisition_machine.specs.Blocks.{Given}
use Rattle.acquisition_machine.specs.Machine.{Input, datagram, claimed, tick, stop, restart, State, count, step}
use Rattle.acquisition_machine.specs.Runs.{after_from}
use Rattle.acquisition_machine.specs.TurnLaws.{count_need, count_claim}
use Rattle.acquisition_machine.proofs.Counting.{turns_are_counted}
use Rattle.block_fills.specs.Fills.{tried}
use Rattle.board_calls.specs.Dropped.{others, handed_out_items}
use Rattle.script_trace.specs.Trace.{acquirer}
use Rattle.script_trace.specs.Modes.{acquires}
use Rattle.capture_script.specs.Traces.{FindsBuffer}
use Rattle.capture_script.proofs.Stages.{IsRecordedBy, IsRecorded}
use Rattle.capture_script.proofs.Steps.{IsGot}

-- each removal is a take of the caller's
marked_by : (k : ℕ) (e : Event) → IsRecordedBy k e → marks_by (others acquires) k e ≡ replicate (length (removed_by e)) true
marked_by k (Take (Taken i)) r = rw r refl
marked_by k (Take Empty) r = absurd r
marked_by k (Take Closed) r = absurd r
marked_by k (SweepOut is) r = absurd r
marked_by k _ r = refl

replicate-append : (n m : ℕ) → replicate n true ++ replicate m true ≡ replicate (n + m) true
replicate-append zero m = rw zero-add refl
replicate-append (suc n) m = rw suc-add (ap (λ l. true ∷ l) (replicate-append n m))

all_marked : (h : List Entry) → AllByRecursion IsRecorded h → marks (others acquires) h ≡ replicate (length (removed h)) true
all_marked [] all = refl
all_marked (e ∷ h) all =
    ap₂ (λ l m. l ++ m) (marked_by e.by e.event all.0) (all_marked h all.1)
    ∙ (replicate-append (length (removed_by e.event)) (length (removed h)) ∙ sym (ap (λ n. replicate n true) (length-append (removed_by e.event) (removed h))))

-- each fill is the acquisition's
own_fill : (k : ℕ) (e : Event) (h : List Entry) → IsRecordedBy k e → filled h ≡ filled (own_of acquirer h)
    → filled_by e ++ filled h ≡ filled (cond (k == acquirer) (record { by = k; event = e } ∷ own_of acquirer h) (own_of acquirer h))
own_fill k (Fill i f true) h r rest = rw r (ap (λ l. filled_by (Fill i f true) ++ l) rest)
own_fill k (Fill i f false) h r rest = absurd r
own_fill k e h r rest = go (k == acquirer) where
  go : (v : Bool) → filled_by e ++ filled h ≡ filled (cond v (record { by = k; event = e } ∷ own_of acquirer h) (own_of acquirer h))
  go true = rest
  go false = rest

fills_are_own : (h : List Entry) → AllByRecursion IsRecorded h → filled h ≡ filled (own_of acquirer h)
fills_are_own [] all = refl
fills_are_own (e ∷ h) all = own_fill e.by e.event h all.0 (fills_are_own h all.1)

-- and each was answered so
own_tried : (k : ℕ) (e : Event) (h : List Entry) → IsRecordedBy k e → filled (own_of acquirer h) ≡ tried (own_of acquirer h)
    → filled (cond (k == acquirer) (record { by = k; event = e } ∷ own_of acquirer h) (own_of acquirer h))
    ≡ tried (cond (k == acquirer) (record { by = k; event = e } ∷ own_of acquirer h) (own_of acquirer h))
own_tried k (Fill i f true) h r rest = rw r (ap (λ l. filled_by (Fill i f true) ++ l) rest)
own_tried k (Fill i f false) h r rest = absurd r
own_tried k e h r rest = go (k == acquirer) where
  go : (v : Bool) → filled (cond v (record { by = k; event = e } ∷ own_of acquirer h) (own_of acquirer h))
      ≡ tried (cond v (record { by = k; event = e } ∷ own_of acquirer h) (own_of acquirer h))
  go true = rest
  go false = rest

pub fills_are_tries : (h : List Entry) → AllByRecursion IsRecorded h → filled (own_of acquirer h) ≡ tried (own_of acquirer h)
fills_are_tries [] all = refl
fills_are_tries (e ∷ h) all = own_tried e.by e.event h all.0 (fills_are_tries h all.1)

marked_all : {A : Type 0} (n : ℕ) (xs : List A) → length xs ≤ n → marked (replicate n true) xs ≡ xs
marked_all zero [] few = refl
marked_all zero (x ∷ xs) few = absurd (omega arith)
marked_all (suc n) [] few = refl
marked_all (suc n) (x ∷ xs) few = ap (λ l. x ∷ l) (marked_all n xs (omega arith))

pub all_taken : (h : List Entry) → Run h → AllByRecursion IsRecorded h → (BoardAfter h).out ≡ [] → handed_out_items acquires h ≡ filled (own_of acquirer h)
all_taken h run all none =
    let left : drop (length (removed h)) (filled h) ≡ [] = sym (run_out h run) ∙ none in
    let counted = length-drop (length (removed h)) (filled h) in
    let zero_left : length (drop (length (removed h)) (filled h)) ≡ 0 = ap length left in
    let few : length (filled h) ≤ length (removed h) = omega (arith, counted, zero_left) in
    let removed_all : removed_items h ≡ filled h = take_all (length (removed h)) (filled h) few in
    ap₂ marked (all_marked h all) removed_all ∙ (marked_all (length (removed h)) (filled h) few ∙ fills_are_own h all)

finds_by : (k : ℕ) (e : Event) → IsRecordedBy k e → FindsBuffer e
finds_by k (Claim None) r = absurd r
finds_by k (Take Empty) r = absurd r
finds_by k (Take Closed) r = absurd r
finds_by k _ r = tt

pub all_find : (h : List Entry) → AllByRecursion IsRecorded h → AllByRecursion (λ (e : Entry). FindsBuffer e.event) h
all_find [] all = tt
all_find (e ∷ h) all = (finds_by e.by e.event all.0, all_find h all.1)

-- ---- the count of claims that found nothing

why_keeps : (why : Why) (n : Counts) → (count why n).underrun ≡ n.underrun
why_keeps (Foreign e) n = refl
why_keeps (Late b) n = refl
why_keeps Repeat n = refl
why_keeps Misfit n = refl
why_keeps Starved n = refl
why_keeps Notice n = refl

need_keeps : (need : Need) (n : Counts) → (count_need need n).underrun ≡ n.underrun
need_keeps (Buffer b) n = refl
need_keeps Done n = refl
need_keeps (Ignored why) n = why_keeps why n

claim_keeps : (given : Given) (asked : Option ℕ) (n : Counts) → (count_claim (Some given) asked n).underrun ≡ n.underrun
claim_keeps given None n = refl
claim_keeps given (Some b) n = refl

step_keeps : (c : AcqConfig) (s : State) (i : Input) → IsGot i → (step c s i).after.counts.underrun ≡ s.counts.underrun
step_keeps c s (datagram bytes) got =
    let told = turns_are_counted c s (datagram bytes) in
    ap (λ (n : Counts). n.underrun) told.counts ∙ need_keeps told.answer s.counts
step_keeps c s (claimed None) got = absurd got
step_keeps c s (claimed (Some g)) got = ap (λ (n : Counts). n.underrun) (turns_are_counted c s (claimed (Some g))).1 ∙ claim_keeps g s.asked s.counts
step_keeps c s (tick moment) got = ap (λ (n : Counts). n.underrun) (turns_are_counted c s (tick moment)).1
step_keeps c s stop got = ap (λ (n : Counts). n.underrun) (turns_are_counted c s stop).1
step_keeps c s restart got = ap (λ (n : Counts). n.underrun) (turns_are_counted c s restart).1

pub underrun_stays : (c : AcqConfig) (s : State) (q : List Input) → AllByRecursion IsGot q → (after_from c s q).counts.underrun ≡ s.counts.underrun
underrun_stays c s [] all = refl
underrun_stays c s (i ∷ q) all = underrun_stays c (step c s i).after q all.1 ∙ step_keeps c s i all.0
