-- Nobody fills buffers but the reader.
use Rattle.std.proofs.Common.{◌≡◌, inl, inr, ℕ, ◌==◌, Bool, true, false, cond, List, [], ◌∷◌, ◌++◌, Ok, refl, sym, ap, subst, ◌∙◌, arith, eq-eqb}
use Rattle.std.specs.Prelude.{⊤, length}
use Rattle.std.specs.List.{AllByRecursion}
use Rattle.gentl_types.specs.declared.buffer_id.BufferId.{BufferId}
use Rattle.board_machine.specs.declared.events.Entry.{Entry}
use Rattle.board_machine.specs.declared.events.Event.{Event}
use Rattle.board_machine.specs.declared.events.Event.TheVariants.{Fill, LookOut, Start}
use Rattle.board_machine.specs.Machine.{Item}
use Rattle.board_machine.specs.Histories.{own_of}
use Rattle.board_machine.specs.Handout.{filled_by, filled}
use Rattle.board_machine.specs.Adding.{entries_of}
use Rattle.board_machine.proofs.Places.{same_is}
use Rattle.acquisition_machine.proofs.Order.{all_append, all_front, all_back}
use Rattle.block_fills.specs.Fills.{tried_by, tried}
use Rattle.buffer_words.specs.Workers.{AreEvents, OnlyBy}
use Rattle.live_crew.specs.Prepared.{PreparesEach, LooksLast, FallsShort}
use Rattle.board_calls.specs.declared.mode.Mode.{Mode}
use Rattle.gev_live.specs.Kinds.{is_filling}
use Rattle.gev_live.specs.History.{Crew, live_size, LiveHistory}
use Rattle.gev_live.proofs.Quiet.{is_beginning, beginning_are}
use Rattle.live_promises.specs.Headline.{Acquirer, FillsAsAcquirer, FillsByAcquirers}

-- ---- by whom the fills are

-- the event is no fill, or actor k's
abbrev FillsAs : ℕ → ℕ → Event → Type 0
FillsAs k by (Fill i f filled) = by ≡ k
FillsAs k by _ = ⊤

abbrev pub FillsAlone : ℕ → List Entry → Type 0
FillsAlone k h = AllByRecursion (λ (e : Entry). FillsAs k e.by e.event) h

begins_not : (k by : ℕ) (event : Event) → is_beginning event ≡ true → FillsAs k by event
begins_not k by (Fill i f filled) is = absurd (cc)
begins_not k by _ is = tt

beginning_not : (k by : ℕ) (es : List Event) → AreEvents is_beginning es → FillsAlone k (entries_of by es)
beginning_not k by [] are = tt
beginning_not k by (e ∷ es) are = (begins_not k by e are.0, beginning_not k by es are.1)

one_alone : (k by : ℕ) (event : Event) → (is_filling event ≡ true → by ≡ k) → FillsAs k by event
one_alone k by (Fill i f filled) only = only refl
one_alone k by _ only = tt

since_alone : (k : ℕ) (es : List Entry) → OnlyBy is_filling (k ∷ []) es → FillsAlone k es
since_alone k [] only = tt
since_alone k (e ∷ es) only = (one_alone k e.by e.event (λ is. same_is e.by k (omega (arith, only.0 is))), since_alone k es only.1)

pub reader_alone : (mode : Mode) (buffers : ℕ) (k : Crew) (h : List Entry) → LiveHistory mode buffers k h → FillsAlone k.reader h
reader_alone mode buffers k h history =
    subst (FillsAlone k.reader) (sym history.begins)
    (all_append (λ (e : Entry). FillsAs k.reader e.by e.event) (entries_of 0 history.prepared) history.since
    (beginning_not k.reader 0 history.prepared (beginning_are live_size buffers history.prepared history.prepares)) (since_alone k.reader history.since history.fills))

-- ---- as an acquirer

one_acquires : (a : Acquirer) (by : ℕ) (event : Event) → FillsAs a.actor by event → FillsAsAcquirer (a ∷ []) by event
one_acquires a by (Fill i f filled) own = inl (eq-eqb by a.actor own)
one_acquires a by _ own = tt

pub alone_acquires : (a : Acquirer) (h : List Entry) → FillsAlone a.actor h → FillsByAcquirers (a ∷ []) h
alone_acquires a [] alone = tt
alone_acquires a (e ∷ h) alone = (one_acquires a e.by e.event alone.0, alone_acquires a h alone.1)

-- ---- all that was filled is its own

own_fill : (P : Item → Type 0) (event : Event) → AllByRecursion P (tried_by event) → AllByRecursion P (filled_by event)
own_fill P (Fill i f true) all = all
own_fill P (Fill i f false) all = tt
own_fill P _ all = tt

other_fill : (P : Item → Type 0) (k by : ℕ) (event : Event) → (by == k) ≡ false → FillsAs k by event → AllByRecursion P (filled_by event)
other_fill P k by (Fill i f filled) other own = let same : (by == k) ≡ true = eq-eqb by k own in absurd (cc)
other_fill P k by _ other own = tt

record Parted (P : Item → Type 0) (e : Entry) (own : List Entry) : Type 0 where
  here : AllByRecursion P (filled_by e.event)
  later : AllByRecursion P (tried own)

parted : (P : Item → Type 0) (k : ℕ) (e : Entry) (own : List Entry) (mine : Bool) → (e.by == k) ≡ mine → FillsAs k e.by e.event → AllByRecursion P (tried (cond mine (e ∷ own) own)) → Parted P e own
parted P k e own true so fills all = record { here = own_fill P e.event (all_front P (tried_by e.event) (tried own) all); later = all_back P (tried_by e.event) (tried own) all }
parted P k e own false so fills all = record { here = other_fill P k e.by e.event so fills; later = all }

pub filled_own : (P : Item → Type 0) (k : ℕ) (h : List Entry) → FillsAlone k h → AllByRecursion P (tried (own_of k h)) → AllByRecursion P (filled h)
filled_own P k [] alone all = tt
filled_own P k (e ∷ h) alone all =
    let p : Parted P e (own_of k h) = parted P k e (own_of k h) (e.by == k) refl alone.0 all in
    all_append P (filled_by e.event) (filled h) p.here (filled_own P k h alone.1 p.later)

-- ---- where the workers never began

front_are : (kind : Event → Bool) (es fs : List Event) → AreEvents kind (es ++ fs) → AreEvents kind es
front_are kind [] fs are = tt
front_are kind (e ∷ es) fs are = (are.0, front_are kind es fs are.1)

both_are : (kind : Event → Bool) (es fs : List Event) → AreEvents kind es → AreEvents kind fs → AreEvents kind (es ++ fs)
both_are kind [] fs first second = second
both_are kind (e ∷ es) fs first second = (first.0, both_are kind es fs first.1 second)

-- some way to start
abbrev started : List Event
started = LookOut [] false ∷ Start (Ok tt) ∷ []

each_begin : (size : ℕ) (ids : List BufferId) (es : List Event) → PreparesEach size ids es → AreEvents is_beginning es
each_begin size ids es each =
    front_are is_beginning es started
    (beginning_are size (length ids) (es ++ started)
    (record { ids = ids; number = refl; prepared = es; each = each; started = started; starts = record { output = []; is = refl }; is = refl }))

last_begins : (es : List Event) → LooksLast es → AreEvents is_beginning es
last_begins es (inl none) = subst (AreEvents is_beginning) (sym none) tt
last_begins es (inr looks) = subst (AreEvents is_beginning) (sym looks.is) (refl, tt)

none_fill : (by : ℕ) (event : Event) → is_beginning event ≡ true → FillsAsAcquirer [] by event
none_fill by (Fill i f filled) is = absurd (cc)
none_fill by _ is = tt

none_fills : (by : ℕ) (es : List Event) → AreEvents is_beginning es → FillsByAcquirers [] (entries_of by es)
none_fills by [] are = tt
none_fills by (e ∷ es) are = (none_fill by e are.0, none_fills by es are.1)

fills_none : (event : Event) → is_beginning event ≡ true → filled_by event ≡ []
fills_none (Fill i f filled) is = absurd (cc)
fills_none _ is = refl

none_filled : (by : ℕ) (es : List Event) → AreEvents is_beginning es → filled (entries_of by es) ≡ []
none_filled by [] are = refl
none_filled by (e ∷ es) are = ap (λ xs. xs ++ filled (entries_of by es)) (fills_none e are.0) ∙ none_filled by es are.1

short_begins : (buffers : ℕ) (es : List Event) → FallsShort live_size buffers es → AreEvents is_beginning es
short_begins buffers es short =
    subst (AreEvents is_beginning) (sym short.is)
    (both_are is_beginning short.prepared short.last (each_begin live_size short.ids short.prepared short.each) (last_begins short.last short.looks))

pub short_fills_nothing : (buffers : ℕ) (es : List Event) (h : List Entry) → FallsShort live_size buffers es → h ≡ entries_of 0 es → FillsByAcquirers [] h
short_fills_nothing buffers es h short seen = subst (FillsByAcquirers []) (sym seen) (none_fills 0 es (short_begins buffers es short))

pub short_unfilled : (buffers : ℕ) (es : List Event) (h : List Entry) → FallsShort live_size buffers es → h ≡ entries_of 0 es → filled h ≡ []
short_unfilled buffers es h short seen = ap filled seen ∙ none_filled 0 es (short_begins buffers es short)
