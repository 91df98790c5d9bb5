-- What others than the acquirers took is what was handed out: the application took it.
use Rattle.std.proofs.Common.{◌≡◌, inl, inr, ℕ, zero, suc, ◌≤◌, ◌==◌, not, Bool, true, false, List, [], ◌∷◌, ◌++◌, length, take, refl, sym, ap, subst, ◌∙◌, arith, eq-eqb, ne_eqb}
use Rattle.board_machine.specs.declared.events.Entry.{Entry}
use Rattle.board_machine.specs.declared.events.Event.{Event}
use Rattle.board_machine.specs.declared.events.Event.TheVariants.{Take, SweepOut}
use Rattle.board_machine.specs.declared.events.TakeEnd.TheVariants.{Taken, Empty, Closed}
use Rattle.board_machine.specs.Machine.{Item}
use Rattle.board_machine.specs.Places.{same, times}
use Rattle.board_machine.specs.Handout.{filled, removed, marks_by, marks, marked, removed_items, items_handed_to, taken_items, only_actor}
use Rattle.board_machine.specs.Kinds.{is_taken}
use Rattle.board_machine.specs.Adding.{entries_of}
use Rattle.board_machine.proofs.Places.{same_self}
use Rattle.buffer_words.specs.Workers.{AreEvents, OnlyBy}
use Rattle.board_calls.specs.declared.mode.Mode.{Mode}
use Rattle.board_calls.specs.declared.mode.Mode.TheVariants.{OldestFirst, OldestFirstOverwrite, NewestOnly}
use Rattle.board_calls.specs.Dropped.{others, handed_out_items}
use Rattle.live_crew.specs.Prepared.{Prepares}
use Rattle.gev_live.specs.Kinds.{is_taking}
use Rattle.gev_live.specs.Acquirers.{handed_out, takers}
use Rattle.gev_live.specs.History.{Crew, live_size, LiveHistory}
use Rattle.gev_live.proofs.Quiet.{is_beginning, beginning_are, begins_untaken, taken_takes}
use Rattle.gev_live.proofs.Splitting.{member_or}
use Rattle.live_promises.specs.Headline.{Acquirer, is_acquirer}

-- ---- by whom the takes are

beginning_takes : (ks : List ℕ) (by : ℕ) (es : List Event) → AreEvents is_beginning es → OnlyBy is_taken ks (entries_of by es)
beginning_takes ks by [] are = tt
beginning_takes ks by (e ∷ es) are = ((λ is. let none : is_taken e ≡ false = begins_untaken e are.0 in absurd (cc)), beginning_takes ks by es are.1)

since_takes : (ks : List ℕ) (es : List Entry) → OnlyBy is_taking ks es → OnlyBy is_taken ks es
since_takes ks [] only = tt
since_takes ks (e ∷ es) only = ((λ is. only.0 (taken_takes e.event is)), since_takes ks es only.1)

both_take : (ks : List ℕ) (g h : List Entry) → OnlyBy is_taken ks g → OnlyBy is_taken ks h → OnlyBy is_taken ks (g ++ h)
both_take ks [] h first second = second
both_take ks (e ∷ g) h first second = (first.0, both_take ks g h first.1 second)

-- ---- which takes are marked

-- Of these actors just k isn't one of those.
abbrev AllButOne : (ℕ → Bool) → ℕ → List ℕ → Type 0
AllButOne who k ks = (n : ℕ) → 1 ≤ times n ks → not (who n) ≡ (n == k)

marks_one : (who : ℕ → Bool) (k n : ℕ) (event : Event) → (is_taken event ≡ true → not (who n) ≡ (n == k)) → marks_by (others who) n event ≡ marks_by (only_actor k) n event
marks_one who k n (Take (Taken i)) but = ap (λ (mark : Bool). mark ∷ []) (but refl)
marks_one who k n (Take Empty) but = refl
marks_one who k n (Take Closed) but = refl
marks_one who k n (SweepOut is) but = refl
marks_one who k n _ but = refl

marks_each : (who : ℕ → Bool) (k : ℕ) (ks : List ℕ) (h : List Entry) → AllButOne who k ks → OnlyBy is_taken ks h → marks (others who) h ≡ marks (only_actor k) h
marks_each who k ks [] but only = refl
marks_each who k ks (e ∷ h) but only =
    ap (λ xs. xs ++ marks (others who) h) (marks_one who k e.by e.event (λ is. but e.by (only.0 is)))
    ∙ ap (λ xs. marks_by (only_actor k) e.by e.event ++ xs) (marks_each who k ks h but only.1)

apart_by : (who : ℕ → Bool) (k n : ℕ) → who k ≡ false → who n ≡ true → (n == k) ≡ false
apart_by who k n free one = ne_eqb n k (λ its. let never : true ≡ false = sym one ∙ (ap who its ∙ free) in cc)

all_but_one : (who : ℕ → Bool) (k : ℕ) (ks : List ℕ) → who k ≡ false → ((n : ℕ) → 1 ≤ times n ks → who n ≡ true) → AllButOne who k (k ∷ ks)
all_but_one who k ks free are n member = elim (member_or n k ks member) [
  | inl its ↦ subst (λ m. not (who m) ≡ (m == k)) (sym its) (ap not free ∙ sym (eq-eqb k k refl))
  | inr one ↦ ap not (are n one) ∙ sym (apart_by who k n free (are n one))
]

takers_but_one : (mode : Mode) (who : ℕ → Bool) (k : ℕ) (ks : List ℕ) → who k ≡ false → ((n : ℕ) → 1 ≤ times n ks → who n ≡ true) → AllButOne who k (takers mode k ks)
takers_but_one OldestFirst who k ks free are = all_but_one who k [] free (λ n member. absurd (omega (arith, member)))
takers_but_one OldestFirstOverwrite who k ks free are = all_but_one who k ks free are
takers_but_one NewestOnly who k ks free are = all_but_one who k ks free are

-- ---- the account

-- Takes since the beginning are the mode's takers', of whom just k isn't one of those; and what was handed out k took.
pub one_account : (mode : Mode) (who : ℕ → Bool) (k : ℕ) (ks : List ℕ) (size buffers : ℕ) (prepared : List Event) (since h : List Entry) → Prepares size buffers prepared
    → h ≡ entries_of 0 prepared ++ since → OnlyBy is_taking (takers mode k ks) since → who k ≡ false → ((n : ℕ) → 1 ≤ times n ks → who n ≡ true) → handed_out h ≡ taken_items k h
    → handed_out_items who h ≡ handed_out h
one_account mode who k ks size buffers prepared since h prepares begins takes free are handed =
    ap (λ ms. marked ms (removed_items h)) (marks_each who k (takers mode k ks) h (takers_but_one mode who k ks free are) only) ∙ sym handed
  where
    only : OnlyBy is_taken (takers mode k ks) h
    only =
        subst (OnlyBy is_taken (takers mode k ks)) (sym begins)
        (both_take (takers mode k ks) (entries_of 0 prepared) since (beginning_takes (takers mode k ks) 0 prepared (beginning_are size buffers prepared prepares))
        (since_takes (takers mode k ks) since takes))

reader_acquires : (a : Acquirer) (n : ℕ) → 1 ≤ times n (a.actor ∷ []) → is_acquirer (a ∷ []) n ≡ true
reader_acquires a n member = elim (member_or n a.actor [] member) [
  | inl its ↦ eq-eqb n a.actor its
  | inr none ↦ absurd (omega (arith, none))
]

application_free : (a : Acquirer) (k camera : ℕ) → times k (k ∷ a.actor ∷ camera ∷ []) ≤ 1 → is_acquirer (a ∷ []) k ≡ false
application_free a k camera once =
    ne_eqb k a.actor (λ its.
    let twice : same k a.actor ≡ 1 = subst (λ m. same k m ≡ 1) its (same_self k) in
    absurd (omega (arith, once, same_self k, twice)))

pub reader_account : (mode : Mode) (buffers : ℕ) (k : Crew) (a : Acquirer) (h : List Entry) → k.reader ≡ a.actor → LiveHistory mode buffers k h → handed_out h ≡ taken_items k.application h
    → handed_out_items (is_acquirer (a ∷ [])) h ≡ handed_out h
reader_account mode buffers k a h its history handed =
    one_account mode (is_acquirer (a ∷ [])) k.application (a.actor ∷ []) live_size buffers history.prepared history.since h history.prepares history.begins
    (subst (λ r. OnlyBy is_taking (takers mode k.application (r ∷ [])) history.since) its history.takes)
    (application_free a k.application k.camera (subst (λ r. times k.application (k.application ∷ r ∷ k.camera ∷ []) ≤ 1) its (history.apart k.application)))
    (reader_acquires a) handed

-- ---- where nobody filled a buffer

none_taken : (n : ℕ) (xs : List Item) → xs ≡ [] → take n xs ≡ []
none_taken zero xs none = refl
none_taken (suc n) xs none = ap (take (suc n)) none

none_marked : (ms : List Bool) (xs : List Item) → xs ≡ [] → marked ms xs ≡ []
none_marked [] xs none = refl
none_marked (m ∷ ms) xs none = ap (marked (m ∷ ms)) none

pub none_handed : (h : List Entry) → filled h ≡ [] → (who : ℕ → Bool) → items_handed_to who h ≡ []
none_handed h unfilled who = none_marked (marks who h) (removed_items h) (none_taken (length (removed h)) (filled h) unfilled)
