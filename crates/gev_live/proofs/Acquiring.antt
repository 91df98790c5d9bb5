-- What was handed out, by who claims and who takes in a live run's history.
use Rattle.std.proofs.Common.{◌≡◌, inl, inr, ℕ, ◌≤◌, ◌==◌, ◌&&◌, ◌||◌, not, Bool, true, false, List, [], ◌∷◌, ◌++◌, refl, sym, ap, subst, ◌∙◌, arith, eq-eqb}
use Rattle.std.specs.Prelude.{length, replicate}
use Rattle.std.proofs.lemmas.Bool.{cond-false, eqb-true}
use Rattle.board_machine.specs.declared.events.Entry.{Entry}
use Rattle.board_machine.specs.declared.events.Event.{Event}
use Rattle.board_machine.specs.declared.events.Event.TheVariants.{LookOut, Enrol, Lay, Grab, Pool, Claim, Take, SweepOut, Start}
use Rattle.board_machine.specs.declared.events.TakeEnd.TheVariants.{Taken, Empty, Closed}
use Rattle.board_machine.specs.Places.{times}
use Rattle.board_machine.specs.Histories.{own_of}
use Rattle.board_machine.specs.Handout.{marks_by, marks, marked, removed_items, taken_items, only_actor}
use Rattle.board_machine.specs.Kinds.{HasNone, is_taken, TakesAreBy}
use Rattle.board_machine.specs.Adding.{entries_of}
use Rattle.board_machine.proofs.Quiet.{handed_own, none_rest}
use Rattle.board_machine.proofs.Runs.{own_of-append}
use Rattle.buffer_words.specs.Workers.{AreEvents, OnlyBy}
use Rattle.board_calls.specs.declared.mode.Mode.{Mode}
use Rattle.board_calls.specs.declared.mode.Mode.TheVariants.{OldestFirst, OldestFirstOverwrite, NewestOnly}
use Rattle.board_calls.specs.Dropped.{handed_out_items, others}
use Rattle.live_crew.specs.Prepared.{Prepares}
use Rattle.gev_live.specs.Kinds.{is_filling, is_taking}
use Rattle.gev_live.specs.Acquirers.{is_claim, acquires, handed_out, takers, DropsNothing}
use Rattle.gev_live.proofs.Quiet.{is_beginning, beginning_are, begins_untaken, taken_takes, takes_by}
use Rattle.gev_live.proofs.Splitting.{member_or, none_here, none_later}

-- ---- who acquires

and_false : (a b : Bool) → (a ≡ true → b ≡ false) → (a && b) ≡ false
and_false true b other = other refl
and_false false b other = refl

-- one of a list isn't one that doesn't stand in it
apart_by : (n k : ℕ) (ks : List ℕ) → 1 ≤ times n ks → times k ks ≡ 0 → (n == k) ≡ false
apart_by n k ks member none = go (n == k) refl
  where
    go : (b : Bool) → (n == k) ≡ b → (n == k) ≡ false
    go false is = is
    go true is =
        let same_number : n ≡ k = eqb-true n k is in
        let there : 1 ≤ times k ks = subst (λ m. 1 ≤ times m ks) same_number member in
        absurd (omega (arith, there, none))

claims_fill : (event : Event) → is_claim event ≡ true → is_filling event ≡ true
claims_fill (Claim place) is = refl
claims_fill _ is = absurd (cc)

begins_unclaimed : (event : Event) → is_beginning event ≡ true → is_claim event ≡ false
begins_unclaimed (LookOut output closed) is = refl
begins_unclaimed (Enrol place size answer) is = refl
begins_unclaimed (Lay place) is = refl
begins_unclaimed (Grab place generation answer) is = refl
begins_unclaimed (Pool place) is = refl
begins_unclaimed (Start answer) is = refl
begins_unclaimed _ is = absurd (cc)

or_none : (a b : Bool) → a ≡ false → b ≡ false → (a || b) ≡ false
or_none a b first second = ap (λ (x : Bool). x || b) first ∙ second

since_unclaimed : (k : ℕ) (ks : List ℕ) (es : List Entry) → times k ks ≡ 0 → OnlyBy is_filling ks es → acquires es k ≡ false
since_unclaimed k ks [] apart only = refl
since_unclaimed k ks (e ∷ es) apart only =
    or_none (is_claim e.event && (e.by == k)) (acquires es k)
    (and_false (is_claim e.event) (e.by == k) (λ is. apart_by e.by k ks (only.0 (claims_fill e.event is)) apart))
    (since_unclaimed k ks es apart only.1)

beginning_unclaimed : (k n : ℕ) (es : List Event) (rest : List Entry) → AreEvents is_beginning es → acquires rest k ≡ false → acquires (entries_of n es ++ rest) k ≡ false
beginning_unclaimed k n [] rest are none = none
beginning_unclaimed k n (e ∷ es) rest are none =
    or_none (is_claim e && (n == k)) (acquires (entries_of n es ++ rest) k)
    (ap (λ (x : Bool). x && (n == k)) (begins_unclaimed e are.0)) (beginning_unclaimed k n es rest are.1 none)

-- ---- what takes of actors that don't acquire took

-- A take is actor k's exactly where its actor doesn't acquire.
abbrev IsSorted : (ℕ → Bool) → ℕ → Entry → Type 0
IsSorted acquired k e = is_taken e.event ≡ true → not (acquired e.by) ≡ (e.by == k)

abbrev AreSorted : (ℕ → Bool) → ℕ → List Entry → Type 0
AreSorted acquired k [] = Unit {0}
AreSorted acquired k (e ∷ es) = IsSorted acquired k e × AreSorted acquired k es

marks_sorted_by : (acquired : ℕ → Bool) (k n : ℕ) (event : Event) → (is_taken event ≡ true → not (acquired n) ≡ (n == k)) → marks_by (others acquired) n event ≡ marks_by (only_actor k) n event
marks_sorted_by acquired k n (Take (Taken i)) sorted = ap (λ (mark : Bool). mark ∷ []) (sorted refl)
marks_sorted_by acquired k n (Take Empty) sorted = refl
marks_sorted_by acquired k n (Take Closed) sorted = refl
marks_sorted_by acquired k n (SweepOut is) sorted = refl
marks_sorted_by acquired k n _ sorted = refl

marks_sorted : (acquired : ℕ → Bool) (k : ℕ) (h : List Entry) → AreSorted acquired k h → marks (others acquired) h ≡ marks (only_actor k) h
marks_sorted acquired k [] sorted = refl
marks_sorted acquired k (e ∷ h) sorted =
    ap (λ xs. xs ++ marks (others acquired) h) (marks_sorted_by acquired k e.by e.event sorted.0)
    ∙ ap (λ xs. marks_by (only_actor k) e.by e.event ++ xs) (marks_sorted acquired k h sorted.1)

handed_sorted : (acquired : ℕ → Bool) (k : ℕ) (h : List Entry) → AreSorted acquired k h → handed_out_items acquired h ≡ taken_items k h
handed_sorted acquired k h sorted = ap (λ ms. marked ms (removed_items h)) (marks_sorted acquired k h sorted)

sorted_both : (acquired : ℕ → Bool) (k : ℕ) (g h : List Entry) → AreSorted acquired k g → AreSorted acquired k h → AreSorted acquired k (g ++ h)
sorted_both acquired k [] h first second = second
sorted_both acquired k (e ∷ g) h first second = (first.0, sorted_both acquired k g h first.1 second)

beginning_sorted : (acquired : ℕ → Bool) (k n : ℕ) (es : List Event) → AreEvents is_beginning es → AreSorted acquired k (entries_of n es)
beginning_sorted acquired k n [] are = tt
beginning_sorted acquired k n (e ∷ es) are = ((λ is. let no : is_taken e ≡ false = begins_untaken e are.0 in absurd (cc)), beginning_sorted acquired k n es are.1)

-- an actor that doesn't acquire takes nothing
abbrev pub TakesByAcquirers : (ℕ → Bool) → List ℕ → List Entry → Type 0
TakesByAcquirers acquired ks h = (n : ℕ) → 1 ≤ times n ks → acquired n ≡ false → HasNone is_taken (own_of n h)

one_sorted : (acquired : ℕ → Bool) (k : ℕ) (ks : List ℕ) (e : Entry) (es : List Entry) → acquired k ≡ false → times k ks ≡ 0 → 1 ≤ times e.by (k ∷ ks) → TakesByAcquirers acquired ks (e ∷ es)
    → is_taken e.event ≡ true → not (acquired e.by) ≡ (e.by == k)
one_sorted acquired k ks e es free apart member by is = elim (member_or e.by k ks member) [
  | inl its ↦ subst (λ n. not (acquired n) ≡ (n == k)) (sym its) (ap not free ∙ sym (eq-eqb k k refl))
  | inr other ↦ go other (acquired e.by) refl
]
  where
    go : 1 ≤ times e.by ks → (b : Bool) → acquired e.by ≡ b → not (acquired e.by) ≡ (e.by == k)
    go other true so = ap not so ∙ sym (apart_by e.by k ks other apart)
    go other false so = let no : is_taken e.event ≡ false = none_here is_taken e es (by e.by other so) in absurd (cc)

since_sorted : (acquired : ℕ → Bool) (k : ℕ) (ks : List ℕ) (es : List Entry) → acquired k ≡ false → times k ks ≡ 0 → OnlyBy is_taking (k ∷ ks) es → TakesByAcquirers acquired ks es → AreSorted acquired k es
since_sorted acquired k ks [] free apart only by = tt
since_sorted acquired k ks (e ∷ es) free apart only by = (
  (λ is. one_sorted acquired k ks e es free apart (only.0 (taken_takes e.event is)) by is),
  since_sorted acquired k ks es free apart only.1 (λ n member idle. none_later is_taken n e es (by n member idle)),
)

-- ---- what takes of actors that acquire took, where all takes are another's

abbrev AllFalse : List Bool → Type 0
AllFalse [] = Unit {0}
AllFalse (b ∷ bs) = (b ≡ false) × AllFalse bs

false_both : (bs cs : List Bool) → AllFalse bs → AllFalse cs → AllFalse (bs ++ cs)
false_both [] cs first second = second
false_both (b ∷ bs) cs first second = (first.0, false_both bs cs first.1 second)

false_each : {A : Type 0} (xs : List A) → AllFalse (replicate (length xs) false)
false_each [] = tt
false_each (x ∷ xs) = (refl, false_each xs)

marked_none : {A : Type 0} (ms : List Bool) (xs : List A) → AllFalse ms → marked ms xs ≡ []
marked_none [] xs none = refl
marked_none (m ∷ ms) [] none = refl
marked_none (m ∷ ms) (x ∷ xs) none = cond-false m (x ∷ marked ms xs) (marked ms xs) none.0 ∙ marked_none ms xs none.1

marks_none_by : (acquired : ℕ → Bool) (k n : ℕ) (event : Event) → acquired k ≡ false → (is_taken event ≡ true → n ≡ k) → AllFalse (marks_by acquired n event)
marks_none_by acquired k n (Take (Taken i)) free its = (ap acquired (its refl) ∙ free, tt)
marks_none_by acquired k n (Take Empty) free its = tt
marks_none_by acquired k n (Take Closed) free its = tt
marks_none_by acquired k n (SweepOut is) free its = false_each is
marks_none_by acquired k n _ free its = tt

marks_none : (acquired : ℕ → Bool) (k : ℕ) (h : List Entry) → acquired k ≡ false → TakesAreBy k h → AllFalse (marks acquired h)
marks_none acquired k [] free its = tt
marks_none acquired k (e ∷ h) free its = false_both (marks_by acquired e.by e.event) (marks acquired h) (marks_none_by acquired k e.by e.event free its.0) (marks_none acquired k h free its.1)

-- ---- a live run

-- What was handed out actor k took, and with OldestFirst that is all.
pub record HandsOut (mode : Mode) (k : ℕ) (h : List Entry) : Type 0 where
  pub handed : handed_out h ≡ taken_items k h
  pub undropped : DropsNothing mode k h

handed_by : (k : ℕ) (acquirers ks : List ℕ) (size buffers : ℕ) (prepared : List Event) (since h : List Entry) → Prepares size buffers prepared → h ≡ entries_of 0 prepared ++ since
    → acquires h k ≡ false → times k ks ≡ 0 → OnlyBy is_taking (k ∷ ks) since → TakesByAcquirers (acquires h) ks h → handed_out h ≡ taken_items k h
handed_by k acquirers ks size buffers prepared since h prepares begins free apart takes by =
    handed_sorted (acquires h) k h
    (subst (AreSorted (acquires h) k) (sym begins)
    (sorted_both (acquires h) k (entries_of 0 prepared) since (beginning_sorted (acquires h) k 0 prepared (beginning_are size buffers prepared prepares))
    (since_sorted (acquires h) k ks since free apart takes later)))
  where
    later : TakesByAcquirers (acquires h) ks since
    later n member idle =
        none_rest is_taken (own_of n (entries_of 0 prepared)) (own_of n since)
        (subst (HasNone is_taken) (ap (own_of n) begins ∙ own_of-append n (entries_of 0 prepared) since) (by n member idle))

-- Where claims and fills are the acquirers' alone, of which k is none, takes the takers' of the mode, and an acquirer
-- without a claim takes nothing.
pub hands_out : (mode : Mode) (k : ℕ) (acquirers : List ℕ) (size buffers : ℕ) (prepared : List Event) (since h : List Entry) → Prepares size buffers prepared → h ≡ entries_of 0 prepared ++ since
    → times k acquirers ≡ 0 → OnlyBy is_filling acquirers since → OnlyBy is_taking (takers mode k acquirers) since → TakesByAcquirers (acquires h) acquirers h → HandsOut mode k h
hands_out mode k acquirers size buffers prepared since h prepares begins apart fills takes by = go mode takes
  where
    free : acquires h k ≡ false
    free =
        subst (λ l. acquires l k ≡ false) (sym begins)
        (beginning_unclaimed k 0 prepared since (beginning_are size buffers prepared prepares) (since_unclaimed k acquirers since apart fills))

    go : (m : Mode) → OnlyBy is_taking (takers m k acquirers) since → HandsOut m k h
    go OldestFirst only =
        let its : TakesAreBy k h = takes_by k size buffers prepared since h prepares begins only in
        record {
          handed = handed_by k acquirers [] size buffers prepared since h prepares begins free refl only (λ n member idle. absurd (omega (arith, member)));
          undropped = (sym (handed_own k h its), marked_none (marks (acquires h) h) (removed_items h) (marks_none (acquires h) k h free its));
        }
    go OldestFirstOverwrite only = record { handed = handed_by k acquirers acquirers size buffers prepared since h prepares begins free apart only by; undropped = tt }
    go NewestOnly only = record { handed = handed_by k acquirers acquirers size buffers prepared since h prepares begins free apart only by; undropped = tt }
