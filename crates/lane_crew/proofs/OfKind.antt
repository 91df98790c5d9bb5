-- All of a lane's own acts, and of the reader's, are of their kinds.
use Rattle.std.proofs.Common.{◌≡◌, Bool, true, false, List, [], ◌∷◌, ◌++◌, refl, sym, subst}
use Rattle.board_machine.specs.declared.events.Event.{Event}
use Rattle.board_machine.specs.declared.events.Event.TheVariants.{LookRun, Fill, Join}
use Rattle.acquisition_machine.specs.declared.config.AcqConfig.{AcqConfig}
use Rattle.acquisition_machine.specs.declared.retired.Retired.{Retired}
use Rattle.acquisition_machine.specs.Machine.{Input, State}
use Rattle.buffer_words.specs.Workers.{AreEvents}
use Rattle.gev_control.specs.declared.acq_end.AcqEnd.{AcqEnd}
use Rattle.gev_control.specs.declared.acq_end.AcqEnd.TheVariants as how
use Rattle.board_calls.specs.declared.mode.Mode.{Mode}
use Rattle.gev_acq.specs.Filling.{laid_unless}
use Rattle.gev_acq.specs.Serving.{Serves}
use Rattle.gev_acq.proofs.Parts.{Holds, served_hold}
use Rattle.gev_acq.specs.Reads.{LastLook}
use Rattle.gev_acq.proofs.OfKind.{drops_so}
use Rattle.lane_reader.specs.LanesTurns.{ReaderTurn}
use Rattle.lane_reader.specs.Reads.{looks_in}
use Rattle.lane_crew.specs.declared.lane_tools.LaneTools.{LaneTools}
use Rattle.lane_crew.specs.Kinds.{is_lanes, is_lane_readers}
use Rattle.lane_crew.specs.Tools.{joins_of}

same_are : (kind : Event → Bool) (es fs : List Event) → es ≡ fs → AreEvents kind fs → AreEvents kind es
same_are kind es fs is are = subst (λ (gs : List Event). AreEvents kind gs) (sym is) are

pub both_are : (kind : Event → Bool) (es fs : List Event) → AreEvents kind es → AreEvents kind fs → AreEvents kind (es ++ fs)
both_are kind [] fs first second = second
both_are kind (e ∷ es) fs first second = (first.0, both_are kind es fs first.1 second)

-- ---- a lane

are_hold : (mode : Mode) → Holds mode (AreEvents (is_lanes mode))
are_hold mode = record {
  none = tt;
  both = both_are (is_lanes mode);
  take = λ may end. (drops_so mode may, tt);
  pool = λ may i. (drops_so mode may, tt);
}

fill_is : (mode : Mode) (x : Retired) (filled : Bool) → AreEvents (is_lanes mode) (Fill x.place x.buf filled ∷ laid_unless filled x.place)
fill_is mode x true = (refl, tt)
fill_is mode x false = (refl, (refl, tt))

pub served_are : (mode : Mode) (c : AcqConfig) (s : State) (is : List Input) (es : List Event) → Serves mode c s is es → AreEvents (is_lanes mode) es
served_are mode c s is es serves = served_hold mode (AreEvents (is_lanes mode)) c s is es (are_hold mode) (λ place. (refl, tt)) (fill_is mode) serves

-- ---- the reader

pub looks_are : (made : List ReaderTurn) → AreEvents is_lane_readers (looks_in made)
looks_are [] = tt
looks_are (t ∷ ts) = (refl, looks_are ts)

pub last_is : (end : AcqEnd) (es : List Event) → LastLook end es → AreEvents is_lane_readers es
last_is how.Stopped es look = same_are is_lane_readers es (LookRun look.0 ∷ []) look.2 (refl, tt)
last_is how.Spent es none = same_are is_lane_readers es [] none tt
last_is how.Fault es none = same_are is_lane_readers es [] none tt
last_is (how.NoAnswer req) es none = same_are is_lane_readers es [] none tt
last_is (how.Refused status) es none = same_are is_lane_readers es [] none tt

pub joins_are : (tools : List LaneTools) → AreEvents is_lane_readers (joins_of tools)
joins_are [] = tt
joins_are (x ∷ xs) = both_are is_lane_readers (joins_of xs) (Join x.pass.number ∷ []) (joins_are xs) (refl, tt)
