-- Lines that don't tell the acquisition have no notes: they add no input but the beginning of an acquisition, and
-- no idle datagram.
use Rattle.std.proofs.Common.{◌≡◌, ◌⊎◌, inl, inr, ℕ, ◌==◌, Bool, true, false, List, [], ◌∷◌, ◌++◌, refl, sym, subst, ap}
use Rattle.std.specs.Prelude.{Option, Some, None, Result, Ok, Err, unwrap_or, codes}
use Rattle.board_machine.specs.declared.events.Event.{Event}
use Rattle.board_machine.specs.declared.events.Event.TheVariants.{Lay, Pool, Claim, Fill, Grab, Take, SweepPool, SweepOut, Close}
use Rattle.board_machine.specs.Machine.{Item, word_at}
use Rattle.gentl_types.specs.declared.errors.GcError.{GcError}
use Rattle.gentl_handles.specs.declared.opened.Opened.{Opened}
use Rattle.gentl_handles.specs.Closing.{is_among, closing}
use Rattle.gev_script.specs.declared.act.Act.{Act}
use Rattle.gev_script.specs.declared.act.Act.TheVariants as act
use Rattle.gev_script.specs.Lines as line
use Rattle.gev_script.specs.Lines.{ScriptLine}
use Rattle.acquisition_machine.specs.declared.config.AcqConfig.{AcqConfig}
use Rattle.acquisition_machine.specs.Machine.{Input, restart}
use Rattle.acquisition_machine.specs.Runs.{After}
use Rattle.script_trace.specs.Inputs.{notes_from}
use Rattle.script_trace.specs.Trace.{Trace, Part, board, caller, acts, Calls}
use Rattle.script_trace.specs.BoardLines.{TakeIfOpen, AsksBuffer, AsksLoan, open_event, is_of_loan, buffer}
use Rattle.script_trace.specs.StreamLines.{Restarts, ModeIfRunning}
use Rattle.script_trace.specs.HandleLines.{ClosesHandle, ClosesStream}
use Rattle.script_trace.specs.StepLines.{StepBy, StepInHand, FillStep, is_in_hand}
use Rattle.script_trace.specs.Adding.{Spells}
use Rattle.script_trace.specs.Wide.{Wide, meaning, Does}
use Rattle.script_trace.specs.Drops.{drops_in}
use Rattle.script_trace.specs.LineNotes.{idle_notes, part_notes, notes_as}
use Rattle.script_explain.specs.Explains.{is_fed}

-- ---- parts with no notes

record IsSilent (part : Part) : Type 0 where
  inputs : (part.inputs ≡ []) ⊎ (part.inputs ≡ restart ∷ [])
  idle : part.idle ≡ 0

acts_silent : (t : Trace) (k : ℕ) (es : List Event) (said : List ℕ) (part : Part) → part ≡ acts t k es said → IsSilent part
acts_silent t k es said part is = subst IsSilent (sym is) (record { inputs = inl refl; idle = refl })

calls_silent : (t : Trace) (Kind : List Event → Type 0) (said : List ℕ) (part : Part) → Calls t caller Kind said part → IsSilent part
calls_silent t Kind said part calls = acts_silent t caller calls.events said part calls.is

take_silent : (t : Trace) (event : Option Opened) (part : Part) → TakeIfOpen t event part → IsSilent part
take_silent t None part is = subst IsSilent (sym is) (record { inputs = inl refl; idle = refl })
take_silent t (Some event) part (moment, inl takes) = acts_silent t caller (takes.gets ++ takes.returns) _ part takes.is
take_silent t (Some event) part (moment, inr none) = calls_silent t _ _ part none.calls

loan_silent : (t : Trace) (place generation which : ℕ) (answer : Result (Unit {0}) GcError) (part : Part) → AsksLoan t (buffer place generation) which answer part → IsSilent part
loan_silent t place generation which (Ok done) part (borrows, returns, b, r, is) = acts_silent t caller (borrows ++ returns) _ part is
loan_silent t place generation which (Err refusal) part calls = calls_silent t _ _ part calls

buffer_silent : (t : Trace) (place generation which : ℕ) (loan : Bool) (part : Part) → AsksBuffer t (buffer place generation) which loan part → IsSilent part
buffer_silent t place generation which true part (answer, asks) = loan_silent t place generation which answer part asks
buffer_silent t place generation which false part (answer, calls) = calls_silent t _ _ part calls

start_silent : (t : Trace) (calls : List Event) (answer : Result (Unit {0}) GcError) (part : Part) → Restarts t calls answer part → IsSilent part
start_silent t calls (Ok done) part is = subst IsSilent (sym is) (record { inputs = inr refl; idle = refl })
start_silent t calls (Err error) part is = acts_silent t caller calls _ part is

stream_silent : (t : Trace) (serial : ℕ) (closes : Bool) (part : Part) → ClosesStream t serial closes part → IsSilent part
stream_silent t serial false part is = subst IsSilent (sym is) (record { inputs = inl refl; idle = refl })
stream_silent t serial true part (events, closes, is) = subst IsSilent (sym is) (record { inputs = inl refl; idle = refl })

close_silent : (t : Trace) (serial : ℕ) (answer : Result (List ℕ) GcError) (part : Part) → ClosesHandle t serial answer part → IsSilent part
close_silent t serial (Ok closed) part closes = stream_silent t serial (is_among closed (Some 4)) part closes
close_silent t serial (Err error) part is = subst IsSilent (sym is) (record { inputs = inl refl; idle = refl })

hand_silent : (t : Trace) (k : ℕ) (event : Event) (word : List ℕ) (mine : Bool) (part : Part) → StepInHand t k event word mine part → IsSilent part
hand_silent t k event word true part is = acts_silent t k (event ∷ []) _ part is
hand_silent t k event word false part is = subst IsSilent (sym is) (record { inputs = inl refl; idle = refl })

fill_silent : (t : Trace) (k i : ℕ) (mine : Bool) (part : Part) → FillStep t k i mine part → IsSilent part
fill_silent t k i true part (f, filled, is) = acts_silent t k (Fill i f filled ∷ []) _ part is
fill_silent t k i false part is = subst IsSilent (sym is) (record { inputs = inl refl; idle = refl })

step_silent : (t : Trace) (k : ℕ) (a : Act) (i : ℕ) (part : Part) → StepBy t k a i part → IsSilent part
step_silent t k act.Grab i part (answer, is) = acts_silent t k (Grab i (word_at (board t) i).generation answer ∷ []) _ part is
step_silent t k act.Lay i part s = hand_silent t k (Lay i) (codes "lay") (is_in_hand (board t) k i) part s
step_silent t k act.Pool i part s = hand_silent t k (Pool i) (codes "pool") (is_in_hand (board t) k i) part s
step_silent t k act.Fill i part s = fill_silent t k i (is_in_hand (board t) k i) part s
step_silent t k act.Claim i part (answer, is) = acts_silent t k (Claim answer ∷ []) _ part is
step_silent t k act.Take i part (answer, is) = acts_silent t k (Take answer ∷ []) _ part is
step_silent t k act.SweepPool i part (pooled, is) = acts_silent t k (SweepPool pooled ∷ []) _ part is
step_silent t k act.SweepOut i part (output, is) = acts_silent t k (SweepOut output ∷ []) _ part is
step_silent t k act.Close i part is = acts_silent t k (Close ∷ []) _ part is

mode_silent : (t : Trace) (n : ℕ) (running : Bool) (part : Part) → ModeIfRunning t n running part → IsSilent part
mode_silent t n true part is = subst IsSilent (sym is) (record { inputs = inl refl; idle = refl })
mode_silent t n false part is = subst IsSilent (sym is) (record { inputs = inl refl; idle = refl })

line_silent : (c : AcqConfig) (t : Trace) (l : ScriptLine) (part : Part) → is_fed l ≡ false → Spells c t l part → IsSilent part
line_silent c t (line.header config) part quiet s = absurd s
line_silent c t (line.announce size) part quiet (answer, fit, calls) = calls_silent t _ _ part calls
line_silent c t (line.queue place generation) part quiet (answer, calls) = calls_silent t _ _ part calls
line_silent c t (line.revoke place generation) part quiet (answer, calls) = calls_silent t _ _ part calls
line_silent c t (line.flush operation) part quiet (answer, calls) = calls_silent t _ _ part calls
line_silent c t line.start part quiet (answer, calls, starts, restarts) = start_silent t calls answer part restarts
line_silent c t (line.stop flags) part quiet s = absurd cc
line_silent c t (line.tick moment) part quiet s = absurd cc
line_silent c t (line.datagram digits) part quiet s = absurd cc
line_silent c t line.take part quiet takes = take_silent t (open_event t) part takes
line_silent c t line.kill part quiet calls = calls_silent t _ _ part calls
line_silent c t line.event_flush part quiet calls = calls_silent t _ _ part calls
line_silent c t (line.info which) part quiet (answer, calls) = calls_silent t _ _ part calls
line_silent c t (line.buffer_info place generation which) part quiet asks = buffer_silent t place generation which (is_of_loan which) part asks
line_silent c t (line.open_child parent index) part quiet is = subst IsSilent (sym is) (record { inputs = inl refl; idle = refl })
line_silent c t (line.close_all serial) part quiet closes = close_silent t serial (closing t.handles serial) part closes
line_silent c t (line.step actor a place) part quiet steps = step_silent t actor a (unwrap_or place 0) part steps
line_silent c t (line.mode n) part quiet is = mode_silent t n ((board t).run == 1) part is
line_silent c t line.end_of_script part quiet s = absurd s
line_silent c t line.camera_header part quiet s = absurd s
line_silent c t (line.command peer digits) part quiet s = absurd s
line_silent c t line.frame part quiet s = absurd s

-- ---- lines with no notes

inputs_untold : (c : AcqConfig) (t : Trace) (ds : List (List Item)) (q : List Input) → (q ≡ []) ⊎ (q ≡ restart ∷ []) → notes_from c (board t) ds (After c t.inputs) q ≡ []
inputs_untold c t ds q (inl none) = ap (notes_from c (board t) ds (After c t.inputs)) none
inputs_untold c t ds q (inr begins) = ap (notes_from c (board t) ds (After c t.inputs)) begins

part_untold : (c : AcqConfig) (t : Trace) (l : ScriptLine) (part : Part) → IsSilent part → part_notes c t l part ≡ []
part_untold c t l part silent =
    subst (λ n. idle_notes l n ++ notes_from c (board t) (drops_in t part) (After c t.inputs) part.inputs ≡ []) (sym silent.idle)
    (inputs_untold c t (drops_in t part) part.inputs silent.inputs)

pub none_told : (c : AcqConfig) (w : Wide) (t : Trace) (l : ScriptLine) (said : List ℕ) (kept : Wide) (after : Trace) → is_fed l ≡ false → (does : Does c w t l said kept after)
    → notes_as c w t l (meaning w t l) said kept after does ≡ []
unfolding meaning
none_told c w t (line.datagram digits) said kept after quiet does = absurd cc
none_told c w t l said kept after quiet does = part_untold c t l does.0.part (line_silent c t l does.0.part quiet does.0.adds.spells)
