-- A reader of whose fills none was refused laid nothing.
use Rattle.std.proofs.Common.{◌≡◌, ℕ, Bool, true, false, List, [], ◌∷◌, ◌++◌, refl, sym, subst}
use Rattle.board_machine.specs.declared.events.Entry.{Entry}
use Rattle.board_machine.specs.declared.events.Event.{Event}
use Rattle.board_machine.specs.declared.events.Event.TheVariants.{LookRun, Fill, Stop}
use Rattle.board_machine.specs.Histories.{own_of}
use Rattle.board_machine.specs.Adding.{entries_of}
use Rattle.board_machine.specs.Kinds.{HasNone, is_fill_refused}
use Rattle.board_machine.proofs.Quiet.{none_front, none_rest}
use Rattle.acquisition_machine.specs.declared.config.AcqConfig.{AcqConfig}
use Rattle.acquisition_machine.specs.declared.retired.Retired.{Retired}
use Rattle.acquisition_machine.specs.Machine.{Input, stop, State}
use Rattle.acquisition_machine.specs.Runs.{first_state, after_from, After}
use Rattle.block_fills.proofs.Tries.{entries-append}
use Rattle.buffer_words.specs.Workers.{AreOf, AreEvents}
use Rattle.buffer_words.proofs.Working.{are_of_entries}
use Rattle.gev_control.specs.declared.acq_end.AcqEnd.{AcqEnd}
use Rattle.gev_control.specs.declared.acq_end.AcqEnd.TheVariants as how
use Rattle.board_calls.specs.declared.mode.Mode.{Mode}
use Rattle.gev_acq.specs.Filling.{laid_unless}
use Rattle.gev_acq.specs.Serving.{Serves}
use Rattle.gev_acq.specs.Turns.{Turned, inputs_of}
use Rattle.gev_acq.specs.Acquired.{inputs_in, ServesTurns}
use Rattle.gev_acq.proofs.Parts.{Holds, served_hold}
use Rattle.gev_acq.specs.Kinds.{is_strict_readers}
use Rattle.gev_acq.specs.Reads.{LastLook}
use Rattle.gev_acq.specs.History.{LiveReading}
use Rattle.gev_acq.proofs.OfKind.{drops_so}

abbrev Are : Mode → List Event → Type 0
Are mode es = AreEvents (is_strict_readers mode) es

-- none of these is a fill that was refused
abbrev None : ℕ → List Event → Type 0
None k es = HasNone is_fill_refused (entries_of k es)

same_are : (mode : Mode) (es fs : List Event) → es ≡ fs → Are mode fs → Are mode es
same_are mode es fs is are = subst (λ (gs : List Event). Are mode gs) (sym is) are

both_are : (mode : Mode) (es fs : List Event) → Are mode es → Are mode fs → Are mode (es ++ fs)
both_are mode [] fs first second = second
both_are mode (e ∷ es) fs first second = (first.0, both_are mode es fs first.1 second)

none_so : (k : ℕ) (es fs : List Event) → es ≡ fs → None k es → None k fs
none_so k es fs is none = subst (λ (gs : List Event). None k gs) is none

none_first : (k : ℕ) (es fs : List Event) → None k (es ++ fs) → None k es
none_first k es fs none = none_front is_fill_refused (entries_of k es) (entries_of k fs) (subst (HasNone is_fill_refused) (entries-append k es fs) none)

none_then : (k : ℕ) (es fs : List Event) → None k (es ++ fs) → None k fs
none_then k es fs none = none_rest is_fill_refused (entries_of k es) (entries_of k fs) (subst (HasNone is_fill_refused) (entries-append k es fs) none)

-- where no fill of them was refused, none of these events is a lay
abbrev AreIf : Mode → ℕ → List Event → Type 0
AreIf mode k es = None k es → Are mode es

are_hold : (mode : Mode) (k : ℕ) → Holds mode (AreIf mode k)
are_hold mode k = record {
  none = λ none. tt;
  both = λ es fs first second none. both_are mode es fs (first (none_first k es fs none)) (second (none_then k es fs none));
  take = λ may end none. (drops_so mode may, tt);
  pool = λ may i none. (drops_so mode may, tt);
}

fill_is : (mode : Mode) (k : ℕ) (r : Retired) (filled : Bool) → AreIf mode k (Fill r.place r.buf filled ∷ laid_unless filled r.place)
fill_is mode k r true none = (refl, tt)
fill_is mode k r false none = let bad : true ≡ false = none.0 in let no : ⊥ = cc in absurd no

served_are : (mode : Mode) (k : ℕ) (c : AcqConfig) (s : State) (is : List Input) (es : List Event) → Serves mode c s is es → None k es → Are mode es
served_are mode k c s is es serves = served_hold mode (AreIf mode k) c s is es (are_hold mode k) (λ place none. (refl, tt)) (fill_is mode k) serves

turns_are : (mode : Mode) (k : ℕ) (c : AcqConfig) (s : State) (made : List Turned) (es : List Event) → ServesTurns mode c s made es → None k es → Are mode es
turns_are mode k c s [] es is none = same_are mode es [] is tt
turns_are mode k c s (t ∷ ts) es each none =
    let whole : None k (LookRun 1 ∷ (each.0 ++ each.1)) = none_so k es _ each.4 none in
    same_are mode es (LookRun 1 ∷ (each.0 ++ each.1)) each.4 (
      refl,
      both_are mode each.0 each.1 (served_are mode k c s (inputs_of t) each.0 each.2 (none_first k each.0 each.1 whole.1))
          (turns_are mode k c (after_from c s (inputs_of t)) ts each.1 each.3 (none_then k each.0 each.1 whole.1)),
    )

last_is : (mode : Mode) (end : AcqEnd) (es : List Event) → LastLook end es → Are mode es
last_is mode how.Stopped es look = same_are mode es (LookRun look.0 ∷ []) look.2 (refl, tt)
last_is mode how.Spent es none = same_are mode es [] none tt
last_is mode how.Fault es none = same_are mode es [] none tt
last_is mode (how.NoAnswer req) es none = same_are mode es [] none tt
last_is mode (how.Refused status) es none = same_are mode es [] none tt

pub part_lays_nothing : (mode : Mode) (c : AcqConfig) (n : ℕ) (end : AcqEnd) (made : List Turned) (h : List Entry) → LiveReading mode c n end made h
    → HasNone is_fill_refused (own_of n h) → AreOf (is_strict_readers mode) (own_of n h)
part_lays_nothing mode c n end made h part none =
    subst (AreOf (is_strict_readers mode)) (sym part.own)
    (are_of_entries (is_strict_readers mode) n (part.turned ++ (part.last ++ (part.drained ++ stops)))
    (both_are mode part.turned (part.last ++ (part.drained ++ stops)) (turns_are mode n c first_state made part.turned part.turns (none_first n part.turned _ all))
    (both_are mode part.last (part.drained ++ stops) (last_is mode end part.last part.looks)
    (both_are mode part.drained stops
    (served_are mode n c (After c (inputs_in made)) (stop ∷ []) part.drained part.drains
    (none_first n part.drained stops (none_then n part.last (part.drained ++ stops) (none_then n part.turned (part.last ++ (part.drained ++ stops)) all))))
    (refl, tt)))))
  where
    stops : List Event
    stops = Stop false part.answer ∷ []

    all : None n (part.turned ++ (part.last ++ (part.drained ++ stops)))
    all = subst (HasNone is_fill_refused) part.own none
