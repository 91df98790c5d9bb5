-- Where memory was wanting for one of the buffers, nothing was filled and nothing taken.
use Rattle.std.proofs.Common.{◌≡◌, inl, inr, ℕ, Bool, true, false, List, [], ◌∷◌, ◌++◌, Ok, refl, sym, ap, subst, ◌∙◌}
use Rattle.std.specs.Prelude.{length}
use Rattle.gentl_types.specs.declared.buffer_id.BufferId.{BufferId}
use Rattle.board_machine.specs.declared.events.Entry.{Entry}
use Rattle.board_machine.specs.declared.events.Event.{Event}
use Rattle.board_machine.specs.declared.events.Event.TheVariants.{Fill, LookOut, Start}
use Rattle.board_machine.specs.Histories.{Run}
use Rattle.board_machine.specs.Handout.{filled_by, filled}
use Rattle.board_machine.specs.Adding.{entries_of}
use Rattle.buffer_words.specs.Workers.{AreEvents}
use Rattle.live_crew.specs.Prepared.{PreparesEach, LooksLast, FallsShort}
use Rattle.gev_live.proofs.Quiet.{is_beginning, beginning_are}
use Rattle.live_promises.specs.Headline.{FillsAsAcquirer, FillsByAcquirers}
use Rattle.live_promises.proofs.Headlines.{runs_headline}
use Rattle.live_promises.proofs.Accounts.{none_handed}
use Rattle.live_promises.specs.Received.{KeepsNothing}

-- ---- the events are of a beginning

front_are : (kind : Event → Bool) (es fs : List Event) → AreEvents kind (es ++ fs) → AreEvents kind es
front_are kind [] fs are = tt
front_are kind (e ∷ es) fs are = (are.0, front_are kind es fs are.1)

both_are : (kind : Event → Bool) (es fs : List Event) → AreEvents kind es → AreEvents kind fs → AreEvents kind (es ++ fs)
both_are kind [] fs first second = second
both_are kind (e ∷ es) fs first second = (first.0, both_are kind es fs first.1 second)

-- some way to start
abbrev started : List Event
started = LookOut [] false ∷ Start (Ok tt) ∷ []

each_begin : (size : ℕ) (ids : List BufferId) (es : List Event) → PreparesEach size ids es → AreEvents is_beginning es
each_begin size ids es each =
    front_are is_beginning es started
    (beginning_are size (length ids) (es ++ started)
    (record { ids = ids; number = refl; prepared = es; each = each; started = started; starts = record { output = []; is = refl }; is = refl }))

last_begins : (es : List Event) → LooksLast es → AreEvents is_beginning es
last_begins es (inl none) = subst (AreEvents is_beginning) (sym none) tt
last_begins es (inr looks) = subst (AreEvents is_beginning) (sym looks.is) (refl, tt)

short_begins : (size buffers : ℕ) (es : List Event) → FallsShort size buffers es → AreEvents is_beginning es
short_begins size buffers es short =
    subst (AreEvents is_beginning) (sym short.is)
    (both_are is_beginning short.prepared short.last (each_begin size short.ids short.prepared short.each) (last_begins short.last short.looks))

-- ---- which fill nothing

none_fill : (by : ℕ) (event : Event) → is_beginning event ≡ true → FillsAsAcquirer [] by event
none_fill by (Fill i f filled) is = absurd (cc)
none_fill by _ is = tt

none_fills : (by : ℕ) (es : List Event) → AreEvents is_beginning es → FillsByAcquirers [] (entries_of by es)
none_fills by [] are = tt
none_fills by (e ∷ es) are = (none_fill by e are.0, none_fills by es are.1)

fills_none : (event : Event) → is_beginning event ≡ true → filled_by event ≡ []
fills_none (Fill i f filled) is = absurd (cc)
fills_none _ is = refl

none_filled : (by : ℕ) (es : List Event) → AreEvents is_beginning es → filled (entries_of by es) ≡ []
none_filled by [] are = refl
none_filled by (e ∷ es) are = ap (λ xs. xs ++ filled (entries_of by es)) (fills_none e are.0) ∙ none_filled by es are.1

pub short_keeps : (size buffers : ℕ) (es : List Event) (h : List Entry) → FallsShort size buffers es → h ≡ entries_of 0 es → Run h → KeepsNothing h
short_keeps size buffers es h short seen is_run = record {
  headline = λ c some. runs_headline c [] h some is_run tt (subst (FillsByAcquirers []) (sym seen) (none_fills 0 es begins));
  unfilled = unfilled;
  untaken = none_handed h unfilled;
}
  where
    begins : AreEvents is_beginning es
    begins = short_begins size buffers es short

    unfilled : filled h ≡ []
    unfilled = ap filled seen ∙ none_filled 0 es begins
