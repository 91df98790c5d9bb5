-- A lane of which no fill was refused laid nothing.
use Rattle.std.proofs.Common.{◌≡◌, ℕ, Bool, true, false, List, [], ◌∷◌, ◌++◌, refl, subst}
use Rattle.board_machine.specs.declared.events.Event.{Event}
use Rattle.board_machine.specs.declared.events.Event.TheVariants.{Fill}
use Rattle.board_machine.specs.Adding.{entries_of}
use Rattle.board_machine.specs.Kinds.{HasNone, is_fill_refused}
use Rattle.board_machine.proofs.Quiet.{none_front, none_rest}
use Rattle.acquisition_machine.specs.declared.config.AcqConfig.{AcqConfig}
use Rattle.acquisition_machine.specs.declared.retired.Retired.{Retired}
use Rattle.acquisition_machine.specs.Machine.{Input, State}
use Rattle.block_fills.proofs.Tries.{entries-append}
use Rattle.buffer_words.specs.Workers.{AreEvents}
use Rattle.board_calls.specs.declared.mode.Mode.{Mode}
use Rattle.gev_acq.specs.Filling.{laid_unless}
use Rattle.gev_acq.specs.Serving.{Serves}
use Rattle.gev_acq.proofs.Parts.{Holds, served_hold}
use Rattle.gev_acq.proofs.OfKind.{drops_so}
use Rattle.gev_live.specs.LanesKinds.{is_strict_lanes}

abbrev Are : Mode → List Event → Type 0
Are mode es = AreEvents (is_strict_lanes mode) es

-- none of these is a fill that was refused
abbrev None : ℕ → List Event → Type 0
None k es = HasNone is_fill_refused (entries_of k es)

both_are : (mode : Mode) (es fs : List Event) → Are mode es → Are mode fs → Are mode (es ++ fs)
both_are mode [] fs first second = second
both_are mode (e ∷ es) fs first second = (first.0, both_are mode es fs first.1 second)

none_first : (k : ℕ) (es fs : List Event) → None k (es ++ fs) → None k es
none_first k es fs none = none_front is_fill_refused (entries_of k es) (entries_of k fs) (subst (HasNone is_fill_refused) (entries-append k es fs) none)

none_then : (k : ℕ) (es fs : List Event) → None k (es ++ fs) → None k fs
none_then k es fs none = none_rest is_fill_refused (entries_of k es) (entries_of k fs) (subst (HasNone is_fill_refused) (entries-append k es fs) none)

-- where no fill of them was refused, none of these events is a lay
abbrev AreIf : Mode → ℕ → List Event → Type 0
AreIf mode k es = None k es → Are mode es

are_hold : (mode : Mode) (k : ℕ) → Holds mode (AreIf mode k)
are_hold mode k = record {
  none = λ none. tt;
  both = λ es fs first second none. both_are mode es fs (first (none_first k es fs none)) (second (none_then k es fs none));
  take = λ may end none. (drops_so mode may, tt);
  pool = λ may i none. (drops_so mode may, tt);
}

fill_is : (mode : Mode) (k : ℕ) (x : Retired) (filled : Bool) → AreIf mode k (Fill x.place x.buf filled ∷ laid_unless filled x.place)
fill_is mode k x true none = (refl, tt)
fill_is mode k x false none = let bad : true ≡ false = none.0 in let no : ⊥ = cc in absurd no

pub served_are : (mode : Mode) (k : ℕ) (c : AcqConfig) (s : State) (is : List Input) (es : List Event) → Serves mode c s is es → None k es → Are mode es
served_are mode k c s is es serves = served_hold mode (AreIf mode k) c s is es (are_hold mode k) (λ place none. (refl, tt)) (fill_is mode k) serves
