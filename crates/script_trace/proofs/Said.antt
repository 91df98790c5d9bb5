-- What a line reports are lines that don't begin with `# `.
use Rattle.std.proofs.Common.{◌≡◌, inl, inr, ℕ, ◌==◌, Bool, true, false, List, [], ◌∷◌, ◌++◌, length, refl, sym, subst}
use Rattle.std.specs.Prelude.{Option, Some, None, Result, Ok, Err, unwrap_or, codes}
use Rattle.board_machine.specs.declared.events.Event.{Event}
use Rattle.board_machine.specs.declared.events.Event.TheVariants.{Lay, Pool, Claim, Fill, Grab, Take, SweepPool, SweepOut, Close}
use Rattle.board_machine.specs.Machine.{word_at}
use Rattle.gentl_types.specs.declared.errors.GcError.{GcError}
use Rattle.gentl_handles.specs.declared.opened.Opened.{Opened}
use Rattle.gentl_handles.specs.Closing.{is_among, closing}
use Rattle.gev_script.specs.declared.act.Act.{Act}
use Rattle.gev_script.specs.declared.act.Act.TheVariants as act
use Rattle.gev_script.specs.Lines as line
use Rattle.gev_script.specs.Lines.{ScriptLine}
use Rattle.acquisition_machine.specs.declared.config.AcqConfig.{AcqConfig}
use Rattle.acquisition_machine.specs.Machine.{Input, datagram, tick, stop}
use Rattle.acquisition_machine.specs.Runs.{turn}
use Rattle.acquisition_machine.specs.TurnLaws.{asked_by}
use Rattle.script_trace.specs.Trace.{Trace, Part, board, caller, acts, Calls}
use Rattle.script_trace.specs.BoardLines.{TakeIfOpen, AsksBuffer, AsksLoan, open_event, is_of_loan, buffer}
use Rattle.script_trace.specs.StreamLines.{Settles, Restarts, StopsAcquiring, HeardAgain, Hears, HearsIfRunning, ModeIfRunning}
use Rattle.script_trace.specs.HandleLines.{ClosesHandle, ClosesStream}
use Rattle.script_trace.specs.StepLines.{StepBy, StepInHand, FillStep, is_in_hand, fill_text, grab_text, claim_text, take_text}
use Rattle.gev_report.specs.declared.step_text.StepText.TheVariants as said
use Rattle.gentl_types.specs.declared.errors.GcError.TheVariants.{InvalidHandle, ResourceInUse}
use Rattle.gentl_types.specs.declared.errors.Shown.TheVariants.{NoHandle, Word}
use Rattle.board_calls.specs.Calls.{run_word}
use Rattle.gentl_handles.specs.Opening.{opening as handle_opening}
use Rattle.board_machine.specs.Ids.{buffer_at}
use Rattle.board_calls.specs.Loans.{loan_value}
use Rattle.board_model.specs.Plain.{filling_of, lying}
use Rattle.script_trace.specs.Contents.{contents_of}
use Rattle.script_trace.specs.Adding.{Spells}
use Rattle.script_trace.specs.Wide.{Wide, Meaning, itself, wider, none, said_by, DoesAs}
use Rattle.hex.specs.Hex.{encode_lower}
use Rattle.script_trace.specs.NoteLines.{lacks_feed}
use Rattle.script_trace.proofs.Feeds.{AreLines, no_line}
use Rattle.script_trace.proofs.ReportTexts.{done_plain, refused_plain, answer_plain, id_plain, value_plain, take_plain, step_plain, requests_plain, standard_plain, opened_plain}

abbrev pub Plain : Part → Type 0
Plain part = AreLines false part.text

acts_say : (t : Trace) (k : ℕ) (es : List Event) (said : List ℕ) (part : Part) → AreLines false said → part ≡ acts t k es said → Plain part
acts_say t k es said part h is = subst Plain (sym is) h

calls_say : (t : Trace) (Kind : List Event → Type 0) (said : List ℕ) (part : Part) → AreLines false said → Calls t caller Kind said part → Plain part
calls_say t Kind said part h calls = acts_say t caller calls.events said part h calls.is

settles_say : (c : AcqConfig) (t : Trace) (calls : List Event) (i : Input) (said : List ℕ) (part : Part) → AreLines false said → Settles c t calls i said part → Plain part
settles_say c t calls i said part h s = subst Plain (sym s.is) h

again_says : (c : AcqConfig) (t : Trace) (bytes : List ℕ) (part : Part) → HeardAgain c t bytes part → Plain part
again_says c t bytes part h = subst Plain (sym h.is) (no_line false)

take_says : (t : Trace) (event : Option Opened) (part : Part) → TakeIfOpen t event part → Plain part
take_says t None part is = subst Plain (sym is) (refused_plain (codes "take") (InvalidHandle (NoHandle 4)) (record { lacks = refl; plain = λ rest. refl }))
take_says t (Some event) part (moment, inl takes) = acts_say t caller (takes.gets ++ takes.returns) _ part (take_plain (buffer_at (board t) takes.place) takes.filling) takes.is
take_says t (Some event) part (moment, inr empty) = calls_say t _ _ part (refused_plain (codes "take") empty.refusal (record { lacks = refl; plain = λ rest. refl })) empty.calls

loan_says : (t : Trace) (place generation which : ℕ) (answer : Result (Unit {0}) GcError) (part : Part) → AsksLoan t (buffer place generation) which answer part → Plain part
loan_says t place generation which (Ok done) part (borrows, returns, b, r, is) =
    acts_say t caller (borrows ++ returns) _ part (value_plain (codes "binfo") which (loan_value (filling_of (lying (contents_of t.entries) place)).rec which) (record { lacks = refl; plain = λ rest. refl })) is
loan_says t place generation which (Err refusal) part calls = calls_say t _ _ part (refused_plain (codes "binfo") refusal (record { lacks = refl; plain = λ rest. refl })) calls

buffer_says : (t : Trace) (place generation which : ℕ) (loan : Bool) (part : Part) → AsksBuffer t (buffer place generation) which loan part → Plain part
buffer_says t place generation which true part (answer, asks) = loan_says t place generation which answer part asks
buffer_says t place generation which false part (answer, calls) = calls_say t _ _ part (value_plain (codes "binfo") which answer (record { lacks = refl; plain = λ rest. refl })) calls

start_says : (t : Trace) (calls : List Event) (answer : Result (Unit {0}) GcError) (part : Part) → Restarts t calls answer part → Plain part
start_says t calls (Ok done) part is = subst Plain (sym is) (done_plain (codes "start") (record { lacks = refl; plain = λ rest. refl }))
start_says t calls (Err error) part is = acts_say t caller calls _ part (refused_plain (codes "start") error (record { lacks = refl; plain = λ rest. refl })) is

stop_says : (c : AcqConfig) (t : Trace) (calls : List Event) (answer : Result (Unit {0}) GcError) (part : Part) → StopsAcquiring c t calls answer part → Plain part
stop_says c t calls (Ok done) part settles = settles_say c t calls stop _ part (done_plain (codes "stop") (record { lacks = refl; plain = λ rest. refl })) settles
stop_says c t calls (Err error) part is = acts_say t caller calls _ part (refused_plain (codes "stop") error (record { lacks = refl; plain = λ rest. refl })) is

hears_says : (c : AcqConfig) (t : Trace) (bytes : List ℕ) (asked : Option ℕ) (part : Part) → Hears c t bytes asked part → Plain part
hears_says c t bytes None part settles = settles_say c t [] (datagram bytes) [] part (no_line false) settles
hears_says c t bytes (Some block) part again = again_says c t bytes part again

datagram_says : (c : AcqConfig) (t : Trace) (bytes : List ℕ) (running : Bool) (part : Part) → HearsIfRunning c t bytes running part → Plain part
datagram_says c t bytes false part is = subst Plain (sym is) (no_line false)
datagram_says c t bytes true part hears = hears_says c t bytes (asked_by (turn c t.inputs (datagram bytes)).need) part hears

stream_says : (t : Trace) (serial : ℕ) (closes : Bool) (part : Part) → ClosesStream t serial closes part → Plain part
stream_says t serial false part is = subst Plain (sym is) (done_plain (codes "close") (record { lacks = refl; plain = λ rest. refl }))
stream_says t serial true part (events, closes, is) = subst Plain (sym is) (done_plain (codes "close") (record { lacks = refl; plain = λ rest. refl }))

close_says : (t : Trace) (serial : ℕ) (answer : Result (List ℕ) GcError) (part : Part) → ClosesHandle t serial answer part → Plain part
close_says t serial (Ok closed) part closes = stream_says t serial (is_among closed (Some 4)) part closes
close_says t serial (Err error) part is = subst Plain (sym is) (refused_plain (codes "close") error (record { lacks = refl; plain = λ rest. refl }))

hand_says : (t : Trace) (k : ℕ) (event : Event) (word : List ℕ) (mine : Bool) (part : Part) → lacks_feed word ≡ true → StepInHand t k event word mine part → Plain part
hand_says t k event word true part lacks is = acts_say t k (event ∷ []) _ part (step_plain k word said.Done lacks) is
hand_says t k event word false part lacks is = subst Plain (sym is) (step_plain k word said.NotHeld lacks)

fill_says : (t : Trace) (k i : ℕ) (mine : Bool) (part : Part) → FillStep t k i mine part → Plain part
fill_says t k i true part (f, filled, is) = acts_say t k (Fill i f filled ∷ []) _ part (step_plain k (codes "fill") (fill_text filled) refl) is
fill_says t k i false part is = subst Plain (sym is) (step_plain k (codes "fill") said.NotHeld refl)

step_says : (t : Trace) (k : ℕ) (a : Act) (i : ℕ) (part : Part) → StepBy t k a i part → Plain part
step_says t k act.Grab i part (answer, is) = acts_say t k (Grab i (word_at (board t) i).generation answer ∷ []) _ part (step_plain k (codes "grab") (grab_text answer) refl) is
step_says t k act.Lay i part s = hand_says t k (Lay i) (codes "lay") (is_in_hand (board t) k i) part refl s
step_says t k act.Pool i part s = hand_says t k (Pool i) (codes "pool") (is_in_hand (board t) k i) part refl s
step_says t k act.Fill i part s = fill_says t k i (is_in_hand (board t) k i) part s
step_says t k act.Claim i part (answer, is) = acts_say t k (Claim answer ∷ []) _ part (step_plain k (codes "claim") (claim_text answer) refl) is
step_says t k act.Take i part (answer, is) = acts_say t k (Take answer ∷ []) _ part (step_plain k (codes "take") (take_text answer) refl) is
step_says t k act.SweepPool i part (pooled, is) = acts_say t k (SweepPool pooled ∷ []) _ part (step_plain k (codes "sweep-pool") (said.Number (length pooled)) refl) is
step_says t k act.SweepOut i part (output, is) = acts_say t k (SweepOut output ∷ []) _ part (step_plain k (codes "sweep-out") (said.Number (length output)) refl) is
step_says t k act.Close i part is = acts_say t k (Close ∷ []) _ part (step_plain k (codes "close") said.Done refl) is

mode_says : (t : Trace) (n : ℕ) (running : Bool) (part : Part) → ModeIfRunning t n running part → Plain part
mode_says t n true part is = subst Plain (sym is) (refused_plain (codes "mode") (ResourceInUse (Word (run_word (board t).run))) (record { lacks = refl; plain = λ rest. refl }))
mode_says t n false part is = subst Plain (sym is) (done_plain (codes "mode") (record { lacks = refl; plain = λ rest. refl }))

pub line_says : (c : AcqConfig) (t : Trace) (l : ScriptLine) (part : Part) → Spells c t l part → Plain part
line_says c t (line.header config) part s = absurd s
line_says c t (line.announce size) part (answer, fit, calls) = calls_say t _ _ part (id_plain (codes "announce") answer (record { lacks = refl; plain = λ rest. refl })) calls
line_says c t (line.queue place generation) part (answer, calls) = calls_say t _ _ part (answer_plain (codes "queue") answer (record { lacks = refl; plain = λ rest. refl })) calls
line_says c t (line.revoke place generation) part (answer, calls) = calls_say t _ _ part (answer_plain (codes "revoke") answer (record { lacks = refl; plain = λ rest. refl })) calls
line_says c t (line.flush operation) part (answer, calls) = calls_say t _ _ part (answer_plain (codes "flush") answer (record { lacks = refl; plain = λ rest. refl })) calls
line_says c t line.start part (answer, calls, starts, restarts) = start_says t calls answer part restarts
line_says c t (line.stop flags) part (answer, calls, stops, settles) = stop_says c t calls answer part settles
line_says c t (line.tick moment) part settles = settles_say c t [] (tick moment) _ part (requests_plain (turn c t.inputs (tick moment)).requests) settles
line_says c t (line.datagram digits) part (bytes, decoded, hears) = datagram_says c t bytes ((board t).run == 1) part hears
line_says c t line.take part takes = take_says t (open_event t) part takes
line_says c t line.kill part calls = calls_say t _ _ part (done_plain (codes "kill") (record { lacks = refl; plain = λ rest. refl })) calls
line_says c t line.event_flush part calls = calls_say t _ _ part (done_plain (codes "event-flush") (record { lacks = refl; plain = λ rest. refl })) calls
line_says c t (line.info which) part (answer, calls) = calls_say t _ _ part (value_plain (codes "info") which answer (record { lacks = refl; plain = λ rest. refl })) calls
line_says c t (line.buffer_info place generation which) part asks = buffer_says t place generation which (is_of_loan which) part asks
line_says c t (line.open_child parent index) part is = subst Plain (sym is) (opened_plain (handle_opening t.handles parent index))
line_says c t (line.close_all serial) part closes = close_says t serial (closing t.handles serial) part closes
line_says c t (line.step actor a place) part steps = step_says t actor a (unwrap_or place 0) part steps
line_says c t (line.mode n) part is = mode_says t n ((board t).run == 1) part is
line_says c t line.end_of_script part s = absurd s
line_says c t line.camera_header part s = absurd s
line_says c t (line.command peer digits) part s = absurd s
line_says c t line.frame part s = absurd s

-- also where requests have the standard form
pub said_says : (c : AcqConfig) (t : Trace) (l : ScriptLine) (widened : Bool) (text : List ℕ) → AreLines false text → AreLines false (said_by c t l widened text)
said_says c t (line.tick moment) true text h = standard_plain (turn c t.inputs (tick moment)).requests
said_says c t (line.tick moment) false text h = h
said_says c t _ widened text h = h

-- the report of a line
pub does_say : (c : AcqConfig) (w : Wide) (t : Trace) (l : ScriptLine) (m : Meaning) (report : List ℕ) (v : Wide) (after : Trace) → DoesAs c w t l m report v after → AreLines false report
does_say c w t l itself report v after (tells, is) =
    subst (λ text. AreLines false text) (sym tells.said) (said_says c t l w.widened tells.part.text (line_says c t l tells.part tells.adds.spells))
does_say c w t l (wider block bytes) report v after (tells, is) =
    subst (λ text. AreLines false text) (sym tells.said)
    (said_says c t (line.datagram (encode_lower bytes)) w.widened tells.part.text (line_says c t (line.datagram (encode_lower bytes)) tells.part tells.adds.spells))
does_say c w t l none report v after (silent, same, is) = subst (λ text. AreLines false text) (sym silent) (no_line false)
