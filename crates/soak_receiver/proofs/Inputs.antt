-- What the acquisition of a host was told, and what holds of the trace behind it.
use Rattle.std.proofs.Common.{◌≡◌, ℕ, ◌==◌, Bool, true, false, List, [], ◌∷◌, ◌++◌, refl, sym, ap, subst, ◌∙◌, append_assoc, lit≤}
use Rattle.std.specs.Prelude.{Option, None, Some, Result, Ok, Err}
use Rattle.std.specs.List.{AllByRecursion}
use Rattle.gentl_types.specs.declared.errors.GcError.{GcError}
use Rattle.gev_script.specs.Lines as line
use Rattle.gev_script.specs.Lines.{ScriptLine}
use Rattle.board_machine.specs.declared.events.Event.{Event}
use Rattle.acquisition_machine.specs.Machine.{datagram}
use Rattle.acquisition_machine.specs.Runs.{turn}
use Rattle.acquisition_machine.specs.TurnLaws.{asked_by}
use Rattle.acquisition_machine.proofs.Order.{all_append}
use Rattle.script_trace.specs.Trace.{Trace, Part, board, grown}
use Rattle.script_trace.specs.Adding.{Spells, Leads}
use Rattle.script_trace.specs.BoardLines.{open_event}
use Rattle.script_trace.specs.StreamLines.{Restarts, HearsIfRunning, Hears}
use Rattle.script_trace.specs.Opening.{opening}
use Rattle.script_trace.proofs.Promises.{traces_keep_by}
use Rattle.script_trace.proofs.BlockFills.{IsByOther}
use Rattle.world_laws.specs.Receiver.{soak_config}
use Rattle.soak_receiver.specs.Standing.{IsHostLine, HostsKeepPromises, IsHeardIn, InputsAreHeard}
use Rattle.soak_receiver.proofs.Lending.{take_tells_nothing}

-- ---- one line

-- each input that the part adds is one that a line tells
abbrev AreHeardIn : List ScriptLine → Part → Type 0
AreHeardIn lines part = AllByRecursion (IsHeardIn lines) part.inputs

start_heard : (lines : List ScriptLine) (t : Trace) (calls : List Event) (answer : Result (Unit {0}) GcError) (part : Part) → Restarts t calls answer part → AreHeardIn lines part
start_heard lines t calls (Ok done) part is = subst (AreHeardIn lines) (sym is) (tt, tt)
start_heard lines t calls (Err error) part is = subst (AreHeardIn lines) (sym is) tt

hears_heard : (lines : List ScriptLine) (t : Trace) (bytes : List ℕ) (asked : Option ℕ) (part : Part) → IsHeardIn lines (datagram bytes) → Hears soak_config t bytes asked part → AreHeardIn lines part
hears_heard lines t bytes None part told settles = subst (AreHeardIn lines) (sym settles.is) (told, tt)
hears_heard lines t bytes (Some block) part told again = subst (AreHeardIn lines) (sym again.is) (told, (tt, (told, tt)))

datagram_heard : (lines : List ScriptLine) (t : Trace) (bytes : List ℕ) (running : Bool) (part : Part) → IsHeardIn lines (datagram bytes) → HearsIfRunning soak_config t bytes running part → AreHeardIn lines part
datagram_heard lines t bytes false part told is = subst (AreHeardIn lines) (sym is) tt
datagram_heard lines t bytes true part told hears = hears_heard lines t bytes (asked_by (turn soak_config t.inputs (datagram bytes)).need) part told hears

untold : (lines : List ScriptLine) (part : Part) → part.inputs ≡ [] → AreHeardIn lines part
untold lines part none = subst (AllByRecursion (IsHeardIn lines)) (sym none) tt

line_heard : (lines front : List ScriptLine) (l : ScriptLine) (back : List ScriptLine) (t : Trace) (part : Part) → lines ≡ front ++ l ∷ back → IsHostLine l → Spells soak_config t l part → AreHeardIn lines part
line_heard lines front (line.announce size) back t part at host (answer, some, calls) = untold lines part (ap (λ (p : Part). p.inputs) calls.is)
line_heard lines front (line.queue place generation) back t part at host (answer, calls) = untold lines part (ap (λ (p : Part). p.inputs) calls.is)
line_heard lines front line.start back t part at host (answer, calls, starts, restarts) = start_heard lines t calls answer part restarts
line_heard lines front (line.tick moment) back t part at host settles = subst (AreHeardIn lines) (sym settles.is) (tt, tt)
line_heard lines front (line.datagram digits) back t part at host (bytes, decoded, heard) = datagram_heard lines t bytes ((board t).run == 1) part (front, digits, back, at, decoded) heard
line_heard lines front line.take back t part at host takes = untold lines part (take_tells_nothing t (open_event t) part takes)
line_heard lines front _ back t part at host spells = absurd host

-- ---- all lines

lines_heard : (lines front back : List ScriptLine) (t new : Trace) → lines ≡ front ++ back → AllByRecursion IsHostLine back → Leads soak_config t back new
    → AllByRecursion (IsHeardIn lines) t.inputs → AllByRecursion (IsHeardIn lines) new.inputs
lines_heard lines front [] t new at are is so = subst (λ (u : Trace). AllByRecursion (IsHeardIn lines) u.inputs) (sym is) so
lines_heard lines front (l ∷ back) t new at are (part, adds, rest) so =
    lines_heard lines (front ++ l ∷ []) back (grown t part) new (at ∙ sym (append_assoc front (l ∷ []) back)) are.1 rest
    (all_append (IsHeardIn lines) t.inputs part.inputs so (line_heard lines front l back t part at are.0 adds.spells))

pub inputs_heard : InputsAreHeard
inputs_heard h lines r stands = lines_heard lines [] lines opening stands.trace refl stands.are stands.leads tt

-- ---- promises

-- no line of a host is a step
by_other : (l : ScriptLine) → IsHostLine l → IsByOther l
by_other (line.step actor act place) host = absurd host
by_other _ host = tt

all_by_other : (lines : List ScriptLine) → AllByRecursion IsHostLine lines → AllByRecursion IsByOther lines
all_by_other [] are = tt
all_by_other (l ∷ lines) are = (by_other l are.0, all_by_other lines are.1)

pub hosts_keep : HostsKeepPromises
hosts_keep h lines r stands = traces_keep_by soak_config lines stands.trace (lit≤ tt) (all_by_other lines stands.are) stands.leads
