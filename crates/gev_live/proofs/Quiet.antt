-- What a live run never does: nobody closes the stream, so that no fill is refused.
use Rattle.std.proofs.Common.{◌≡◌, ℕ, Bool, true, false, ◌==◌, ◌+◌, List, [], ◌∷◌, ◌++◌, Ok, refl, sym, subst, arith}
use Rattle.std.proofs.lemmas.Bool.{cond_both}
use Rattle.gentl_types.specs.declared.word.Word.{Word}
use Rattle.gentl_types.specs.declared.buffer_id.BufferId.{BufferId}
use Rattle.board_machine.specs.declared.events.Entry.{Entry}
use Rattle.board_machine.specs.declared.events.Event.{Event}
use Rattle.board_machine.specs.declared.events.Event.TheVariants.{LookOut, LookRun, Grab, Lay, Pool, Claim, Fill, Take, Unpost, Stop, Split, Join, Enrol, Start}
use Rattle.board_machine.specs.Histories.{own_of}
use Rattle.board_machine.specs.declared.events.TakeEnd.TheVariants.{Taken}
use Rattle.board_machine.specs.Kinds.{HasNone, is_close, is_taken, TakesAreBy}
use Rattle.board_machine.specs.Sizes.{BringsSize, BringOneSize}
use Rattle.board_machine.proofs.Places.{same_is}
use Rattle.board_machine.specs.Adding.{entries_of}
use Rattle.board_calls.specs.Rounds.{refused_from}
use Rattle.board_calls.specs.Calls.{OpensWith}
use Rattle.buffer_words.specs.Workers.{AreOf, AreEvents, OnlyBy}
use Rattle.live_crew.specs.Prepared.{PreparesOne, PreparesEach, Prepares}
use Rattle.gev_live.specs.Kinds.{is_live, is_taking}

-- ---- the beginning

-- what the beginning of a run does
abbrev pub is_beginning : Event → Bool
is_beginning (LookOut output closed) = true
is_beginning (Enrol place size answer) = true
is_beginning (Lay place) = true
is_beginning (Grab place generation answer) = true
is_beginning (Pool place) = true
is_beginning (Start answer) = true
is_beginning _ = false

both_are : (kind : Event → Bool) (es fs : List Event) → AreEvents kind es → AreEvents kind fs → AreEvents kind (es ++ fs)
both_are kind [] fs first second = second
both_are kind (e ∷ es) fs first second = (first.0, both_are kind es fs first.1 second)

same_are : (kind : Event → Bool) (es fs : List Event) → es ≡ fs → AreEvents kind fs → AreEvents kind es
same_are kind es fs e are = subst (λ l. AreEvents kind l) (sym e) are

refused_are : (i size : ℕ) (words : List Word) → AreEvents is_beginning (refused_from i size words)
refused_are i size [] = tt
refused_are i size (w ∷ words) = (refl, refused_are (i + 1) size words)

opens_are : (rest es : List Event) → AreEvents is_beginning rest → OpensWith rest es → AreEvents is_beginning es
opens_are rest es are opens = same_are is_beginning es (LookOut opens.output false ∷ rest) opens.is (refl, are)

one_are : (size : ℕ) (id : BufferId) (es : List Event) → PreparesOne size id (Ok tt) es → AreEvents is_beginning es
one_are size id es one = same_are is_beginning es (one.announced ++ one.queued) one.is (both_are is_beginning one.announced one.queued announced queued)
  where
    announced : AreEvents is_beginning one.announced
    announced = opens_are _ one.announced (both_are is_beginning (refused_from 0 size one.announces.1.0) _ (refused_are 0 size one.announces.1.0) (refl, (refl, tt))) one.announces.1.2

    queued : AreEvents is_beginning one.queued
    queued = opens_are _ one.queued (refl, (refl, tt)) one.queues.1

each_are : (size : ℕ) (ids : List BufferId) (es : List Event) → PreparesEach size ids es → AreEvents is_beginning es
each_are size [] es none = same_are is_beginning es [] none tt
each_are size (id ∷ ids) es many =
    same_are is_beginning es (many.first ++ many.rest) many.is (both_are is_beginning many.first many.rest (one_are size id many.first many.prepares) (each_are size ids many.rest many.later))

pub beginning_are : (size buffers : ℕ) (es : List Event) → Prepares size buffers es → AreEvents is_beginning es
beginning_are size buffers es p =
    same_are is_beginning es (p.prepared ++ p.started) p.is (both_are is_beginning p.prepared p.started (each_are size p.ids p.prepared p.each) (opens_are _ p.started (refl, tt) p.starts))

-- ---- no close

begins_unclosed : (event : Event) → is_beginning event ≡ true → is_close event ≡ false
begins_unclosed (LookOut output closed) is = refl
begins_unclosed (Enrol place size answer) is = refl
begins_unclosed (Lay place) is = refl
begins_unclosed (Grab place generation answer) is = refl
begins_unclosed (Pool place) is = refl
begins_unclosed (Start answer) is = refl
begins_unclosed _ is = absurd (cc)

live_unclosed : (event : Event) → is_live event ≡ true → is_close event ≡ false
live_unclosed (Claim place) is = refl
live_unclosed (Fill place filling filled) is = refl
live_unclosed (Take end) is = refl
live_unclosed (Lay place) is = refl
live_unclosed (Grab place generation answer) is = refl
live_unclosed (Pool place) is = refl
live_unclosed (Unpost stood) is = refl
live_unclosed (LookOut output closed) is = refl
live_unclosed (LookRun run) is = refl
live_unclosed (Split number) is = refl
live_unclosed (Join number) is = refl
live_unclosed (Stop kill answer) is = refl
live_unclosed _ is = absurd (cc)

events_unclosed : (n : ℕ) (es : List Event) → AreEvents is_beginning es → HasNone is_close (entries_of n es)
events_unclosed n [] are = tt
events_unclosed n (e ∷ es) are = (begins_unclosed e are.0, events_unclosed n es are.1)

since_unclosed : (es : List Entry) → AreOf is_live es → HasNone is_close es
since_unclosed [] are = tt
since_unclosed (e ∷ es) are = (live_unclosed e.event are.0, since_unclosed es are.1)

pub none_both : (kind : Event → Bool) (g h : List Entry) → HasNone kind g → HasNone kind h → HasNone kind (g ++ h)
none_both kind [] h first second = second
none_both kind (e ∷ g) h first second = (first.0, none_both kind g h first.1 second)

-- nobody closes the stream
pub never_closed : (size buffers : ℕ) (prepared : List Event) (since h : List Entry) → Prepares size buffers prepared → h ≡ entries_of 0 prepared ++ since → AreOf is_live since → HasNone is_close h
never_closed size buffers prepared since h prepares begins live =
    subst (λ l. HasNone is_close l) (sym begins)
    (none_both is_close (entries_of 0 prepared) since (events_unclosed 0 prepared (beginning_are size buffers prepared prepares)) (since_unclosed since live))

-- what a whole history has none of, no actor has
pub own_none : (kind : Event → Bool) (n : ℕ) (h : List Entry) → HasNone kind h → HasNone kind (own_of n h)
own_none kind n [] none = tt
own_none kind n (e ∷ h) none = cond_both (e.by == n) (e ∷ own_of n h) (own_of n h) (λ l. HasNone kind l) (λ _. (none.0, own_none kind n h none.1)) (λ _. own_none kind n h none.1)

-- ---- one size

abbrev pub BringEach : ℕ → List Event → Type 0
BringEach size [] = Unit {0}
BringEach size (e ∷ es) = BringsSize size e × BringEach size es

both_bring : (size : ℕ) (es fs : List Event) → BringEach size es → BringEach size fs → BringEach size (es ++ fs)
both_bring size [] fs first second = second
both_bring size (e ∷ es) fs first second = (first.0, both_bring size es fs first.1 second)

same_bring : (size : ℕ) (es fs : List Event) → es ≡ fs → BringEach size fs → BringEach size es
same_bring size es fs e bring = subst (λ l. BringEach size l) (sym e) bring

refused_bring : (size i : ℕ) (words : List Word) → BringEach size (refused_from i size words)
refused_bring size i [] = tt
refused_bring size i (w ∷ words) = (tt, refused_bring size (i + 1) words)

opens_bring : (size : ℕ) (rest es : List Event) → BringEach size rest → OpensWith rest es → BringEach size es
opens_bring size rest es bring opens = same_bring size es (LookOut opens.output false ∷ rest) opens.is (tt, bring)

one_brings : (size : ℕ) (id : BufferId) (es : List Event) → PreparesOne size id (Ok tt) es → BringEach size es
one_brings size id es one = same_bring size es (one.announced ++ one.queued) one.is (both_bring size one.announced one.queued announced queued)
  where
    announced : BringEach size one.announced
    announced = opens_bring size _ one.announced (both_bring size (refused_from 0 size one.announces.1.0) _ (refused_bring size 0 one.announces.1.0) (refl, (tt, tt))) one.announces.1.2

    queued : BringEach size one.queued
    queued = opens_bring size _ one.queued (tt, (tt, tt)) one.queues.1

each_brings : (size : ℕ) (ids : List BufferId) (es : List Event) → PreparesEach size ids es → BringEach size es
each_brings size [] es none = same_bring size es [] none tt
each_brings size (id ∷ ids) es many =
    same_bring size es (many.first ++ many.rest) many.is (both_bring size many.first many.rest (one_brings size id many.first many.prepares) (each_brings size ids many.rest many.later))

prepared_brings : (size buffers : ℕ) (es : List Event) → Prepares size buffers es → BringEach size es
prepared_brings size buffers es p = same_bring size es (p.prepared ++ p.started) p.is (both_bring size p.prepared p.started (each_brings size p.ids p.prepared p.each) (opens_bring size _ p.started (tt, tt) p.starts))

entries_bring : (size n : ℕ) (es : List Event) → BringEach size es → BringOneSize size (entries_of n es)
entries_bring size n [] bring = tt
entries_bring size n (e ∷ es) bring = (bring.0, entries_bring size n es bring.1)

live_brings : (size : ℕ) (event : Event) → is_live event ≡ true → BringsSize size event
live_brings size (Claim place) is = tt
live_brings size (Fill place filling filled) is = tt
live_brings size (Take end) is = tt
live_brings size (Lay place) is = tt
live_brings size (Grab place generation answer) is = tt
live_brings size (Pool place) is = tt
live_brings size (Unpost stood) is = tt
live_brings size (LookOut output closed) is = tt
live_brings size (LookRun run) is = tt
live_brings size (Split number) is = tt
live_brings size (Join number) is = tt
live_brings size (Stop kill answer) is = tt
live_brings size _ is = absurd (cc)

since_brings : (size : ℕ) (es : List Entry) → AreOf is_live es → BringOneSize size es
since_brings size [] are = tt
since_brings size (e ∷ es) are = (live_brings size e.event are.0, since_brings size es are.1)

bring_both : (size : ℕ) (g h : List Entry) → BringOneSize size g → BringOneSize size h → BringOneSize size (g ++ h)
bring_both size [] h first second = second
bring_both size (e ∷ g) h first second = (first.0, bring_both size g h first.1 second)

-- all buffers have one size
pub one_size : (size buffers : ℕ) (prepared : List Event) (since h : List Entry) → Prepares size buffers prepared → h ≡ entries_of 0 prepared ++ since → AreOf is_live since → BringOneSize size h
one_size size buffers prepared since h prepares begins live =
    subst (λ l. BringOneSize size l) (sym begins)
    (bring_both size (entries_of 0 prepared) since (entries_bring size 0 prepared (prepared_brings size buffers prepared prepares)) (since_brings size since live))

-- ---- all takes are one actor's

pub begins_untaken : (event : Event) → is_beginning event ≡ true → is_taken event ≡ false
begins_untaken (LookOut output closed) is = refl
begins_untaken (Enrol place size answer) is = refl
begins_untaken (Lay place) is = refl
begins_untaken (Grab place generation answer) is = refl
begins_untaken (Pool place) is = refl
begins_untaken (Start answer) is = refl
begins_untaken _ is = absurd (cc)

events_untaken : (k n : ℕ) (es : List Event) → AreEvents is_beginning es → TakesAreBy k (entries_of n es)
events_untaken k n [] are = tt
events_untaken k n (e ∷ es) are = ((λ is. let no : is_taken e ≡ false = begins_untaken e are.0 in absurd (cc)), events_untaken k n es are.1)

pub taken_takes : (event : Event) → is_taken event ≡ true → is_taking event ≡ true
taken_takes (Take (Taken place)) is = refl
taken_takes _ is = absurd (cc)

since_taken : (k : ℕ) (es : List Entry) → OnlyBy is_taking (k ∷ []) es → TakesAreBy k es
since_taken k [] only = tt
since_taken k (e ∷ es) only = ((λ is. same_is e.by k (omega (arith, only.0 (taken_takes e.event is)))), since_taken k es only.1)

takes_both : (k : ℕ) (g h : List Entry) → TakesAreBy k g → TakesAreBy k h → TakesAreBy k (g ++ h)
takes_both k [] h first second = second
takes_both k (e ∷ g) h first second = (first.0, takes_both k g h first.1 second)

pub takes_by : (k size buffers : ℕ) (prepared : List Event) (since h : List Entry) → Prepares size buffers prepared → h ≡ entries_of 0 prepared ++ since → OnlyBy is_taking (k ∷ []) since → TakesAreBy k h
takes_by k size buffers prepared since h prepares begins only =
    subst (λ l. TakesAreBy k l) (sym begins)
    (takes_both k (entries_of 0 prepared) since (events_untaken k 0 prepared (beginning_are size buffers prepared prepares)) (since_taken k since only))
