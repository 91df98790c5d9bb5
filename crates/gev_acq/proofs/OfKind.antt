-- All of the reader's own acts are of its kinds.
use Rattle.std.proofs.Common.{◌≡◌, ℕ, Bool, true, false, List, [], ◌∷◌, ◌++◌, refl, sym, subst}
use Rattle.board_machine.specs.declared.events.Event.{Event}
use Rattle.board_machine.specs.declared.events.Event.TheVariants.{LookRun, Fill, Stop}
use Rattle.acquisition_machine.specs.declared.config.AcqConfig.{AcqConfig}
use Rattle.acquisition_machine.specs.declared.retired.Retired.{Retired}
use Rattle.acquisition_machine.specs.Machine.{Input, stop, State}
use Rattle.acquisition_machine.specs.Runs.{first_state, after_from, After}
use Rattle.buffer_words.specs.Passes.{Token}
use Rattle.buffer_words.specs.Workers.{AreEvents, Works}
use Rattle.buffer_words.proofs.Working.{works_each}
use Rattle.gev_control.specs.declared.acq_end.AcqEnd.{AcqEnd}
use Rattle.gev_control.specs.declared.acq_end.AcqEnd.TheVariants as how
use Rattle.gev_links.specs.Links.{Address}
use Rattle.gev_acq.specs.declared.turn.Turn.{Turn}
use Rattle.board_calls.specs.declared.mode.Mode.{Mode}
use Rattle.board_calls.specs.declared.mode.Mode.TheVariants.{OldestFirst, OldestFirstOverwrite, NewestOnly}
use Rattle.gev_acq.specs.Filling.{laid_unless}
use Rattle.gev_acq.specs.Serving.{Serves}
use Rattle.gev_acq.specs.Turns.{Turned, Outside, inputs_of}
use Rattle.gev_acq.specs.Acquired.{inputs_in, ServesTurns}
use Rattle.gev_acq.proofs.Parts.{MayDrop, Holds, served_hold}
use Rattle.gev_acq.specs.Kinds.{may_drop, is_readers}
use Rattle.gev_acq.specs.Reads.{LastLook, Reads}

abbrev Are : Mode → List Event → Type 0
Are mode es = AreEvents (is_readers mode) es

same_are : (mode : Mode) (es fs : List Event) → es ≡ fs → Are mode fs → Are mode es
same_are mode es fs is are = subst (λ (gs : List Event). Are mode gs) (sym is) are

both_are : (mode : Mode) (es fs : List Event) → Are mode es → Are mode fs → Are mode (es ++ fs)
both_are mode [] fs first second = second
both_are mode (e ∷ es) fs first second = (first.0, both_are mode es fs first.1 second)

-- where the mode drops buffers, takes and poolings are among the reader's acts
pub drops_so : (mode : Mode) → MayDrop mode → may_drop mode ≡ true
drops_so OldestFirst never = absurd never
drops_so OldestFirstOverwrite may = refl
drops_so NewestOnly may = refl

are_hold : (mode : Mode) → Holds mode (Are mode)
are_hold mode = record {
  none = tt;
  both = both_are mode;
  take = λ may end. (drops_so mode may, tt);
  pool = λ may i. (drops_so mode may, tt);
}

fill_is : (mode : Mode) (r : Retired) (filled : Bool) → Are mode (Fill r.place r.buf filled ∷ laid_unless filled r.place)
fill_is mode r true = (refl, tt)
fill_is mode r false = (refl, (refl, tt))

pub served_are : (mode : Mode) (c : AcqConfig) (s : State) (is : List Input) (es : List Event) → Serves mode c s is es → Are mode es
served_are mode c s is es serves = served_hold mode (Are mode) c s is es (are_hold mode) (λ place. (refl, tt)) (fill_is mode) serves

pub turns_are : (mode : Mode) (c : AcqConfig) (s : State) (made : List Turned) (es : List Event) → ServesTurns mode c s made es → Are mode es
turns_are mode c s [] es none = same_are mode es [] none tt
turns_are mode c s (t ∷ ts) es each =
    same_are mode es (LookRun 1 ∷ (each.0 ++ each.1)) each.4
    (refl, both_are mode each.0 each.1 (served_are mode c s (inputs_of t) each.0 each.2) (turns_are mode c (after_from c s (inputs_of t)) ts each.1 each.3))

last_is : (mode : Mode) (end : AcqEnd) (es : List Event) → LastLook end es → Are mode es
last_is mode how.Stopped es look = same_are mode es (LookRun look.0 ∷ []) look.2 (refl, tt)
last_is mode how.Spent es none = same_are mode es [] none tt
last_is mode how.Fault es none = same_are mode es [] none tt
last_is mode (how.NoAnswer req) es none = same_are mode es [] none tt
last_is mode (how.Refused status) es none = same_are mode es [] none tt

pub reads_work : (mode : Mode) (c : AcqConfig) (camera stream : Address) (o n : Outside) (journal journal_after : List Turn) (turns : ℕ) (end : AcqEnd) (s t : Token)
    → Reads mode c camera stream o n journal journal_after turns end s t → Works (is_readers mode) s t
reads_work mode c camera stream o n journal journal_after turns end s t reads =
    works_each (is_readers mode) s t (reads.turned ++ (reads.last ++ (reads.drained ++ Stop false reads.answer ∷ [])))
    (both_are mode reads.turned (reads.last ++ (reads.drained ++ Stop false reads.answer ∷ [])) (turns_are mode c first_state reads.made reads.turned reads.on.serves)
    (both_are mode reads.last (reads.drained ++ Stop false reads.answer ∷ []) (last_is mode end reads.last reads.on.looks)
    (both_are mode reads.drained (Stop false reads.answer ∷ []) (served_are mode c (After c (inputs_in reads.made)) (stop ∷ []) reads.drained reads.drains) (refl, tt))))
    reads.enters
