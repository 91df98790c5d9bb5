-- What a `close` line does, as a line of its trace.
use Rattle.std.specs.Prelude.{⊤}
use Rattle.std.proofs.Common.{◌≡◌, ℕ, Bool, true, false, List, [], codes, Some, Result, Ok, Err, MatchResult, OnOk, IsOkAnd, refl, sym, ap, subst, ◌∙◌}
use Rattle.std.proofs.lemmas.Result.{on_ok_weaker}
use Rattle.gev_types.specs.declared.memory.NoMemory.{NoMemory}
use Rattle.gentl_types.specs.declared.errors.GcError.{GcError}
use Rattle.gentl_handles.specs.Handles.{Handles}
use Rattle.gentl_handles.specs.Closing.{closing, without_closed, is_among}
use Rattle.board_machine.specs.declared.events.Event.{Event}
use Rattle.board_machine.specs.Adding.{AddsOf}
use Rattle.board_calls.specs.Calls.{Closes}
use Rattle.board_model.specs.Plain.{PlainState}
use Rattle.script_trace.specs.Trace.{Trace, Part, acts, caller}
use Rattle.script_trace.specs.Answers.{done_text, refused_text}
use Rattle.script_trace.specs.HandleLines.{CloseLine, ClosesHandle, ClosesStream, handles_are, left_open}
use Rattle.script_replay.specs.Boards.{IsReady, Acts}
use Rattle.script_replay.specs.Acquiring.{CallsBoard}
use Rattle.script_replay.specs.Closes.{ClosesUnder, ClosesIf}
use Rattle.script_replay.proofs.Quiet.{close_quiet}
use Rattle.script_replay.proofs.Lines.{silent_as, caller_apart}
use Rattle.script_replay.proofs.Resting.{lifted_same}
use Rattle.script_replay.proofs.Calling.{quiet_calls}

-- a part, with other handles open after it
abbrev pub with_handles : Handles → Part → Part
with_handles hs p = record p { handles = hs }

close_spells : (t : Trace) (serial : ℕ) (serials : List ℕ) (named : Bool) (events : List Event) (said : List ℕ) → closing t.handles serial ≡ Ok serials → named ≡ is_among serials (Some 4) → ClosesIf t named (acts t caller events said)
    → CloseLine t serial (handles_are t events (left_open t serial) said)
close_spells t serial serials named events said closed is line =
    subst (λ (r : Result (List ℕ) GcError). ClosesHandle t serial r (handles_are t events (left_open t serial) said)) (sym closed)
    (subst (λ (b : Bool). ClosesStream t serial b (handles_are t events (left_open t serial) said)) is (go named line))
  where
    go : (b : Bool) → ClosesIf t b (acts t caller events said) → ClosesStream t serial b (handles_are t events (left_open t serial) said)
    go true done = (done.0, done.1, ap (with_handles (left_open t serial)) done.2)
    go false done = ap (with_handles (left_open t serial)) done

pub close_acts : (s new : PlainState) (handles : Handles) (serial : ℕ) (serials : List ℕ) (named : Bool) (said : List ℕ) → closing handles serial ≡ Ok serials → named ≡ is_among serials (Some 4) → Acts (λ t. ClosesIf t named) 0 0 s said new
    → ClosesUnder handles serial s said new
close_acts s new handles serial serials named said closed is acts_so t same left =
    let a = acts_so t left in
    record {
      events = a.events;
      spells = close_spells t serial serials named a.events said (ap (λ hs. closing hs serial) same ∙ closed) is a.spells;
      runs = a.runs;
      fills = a.fills;
      taken = a.taken;
      left = a.left;
    }

pub refused_close : (s : PlainState) (handles : Handles) (serial : ℕ) (error : GcError) (said : List ℕ) → closing handles serial ≡ Err error → said ≡ refused_text (codes "close") error → ClosesUnder handles serial s said s
refused_close s handles serial error said refused text t same left =
    let Tells : Trace → Part → Type 0 = λ (u : Trace) (part : Part). part ≡ acts u caller [] (refused_text (codes "close") error) in
    let a = silent_as s 0 Tells (refused_text (codes "close") error) said t caller_apart refl text left in
    let err : closing t.handles serial ≡ Err error = ap (λ hs. closing hs serial) same ∙ refused in
    let stay : left_open t serial ≡ t.handles = ap (λ (r : Result (List ℕ) GcError). without_closed t.handles serial r) err in
    record {
      events = a.events;
      spells =
          subst (λ (r : Result (List ℕ) GcError). ClosesHandle t serial r (handles_are t a.events (left_open t serial) said)) (sym err)
          (ap (λ hs. with_handles hs (acts t caller a.events said)) stay ∙ a.spells);
      runs = a.runs;
      fills = a.fills;
      taken = a.taken;
      left = a.left;
    }

pub board_closes : (report : Result ⊤ NoMemory) (s new : PlainState) (said : List ℕ) → AddsOf s.board 0 Closes new.board → new.contents ≡ s.contents → IsReady s → OnOk report (said ≡ done_text (codes "close"))
    → CallsBoard (λ t. ClosesIf t true) report s said new
board_closes report s new said called same ready told =
    quiet_calls report s new Closes (λ t. ClosesIf t true) (done_text (codes "close")) said close_quiet (λ t es kind. (es, kind, refl)) ready called same told

pub board_stays : (report : Result ⊤ NoMemory) (s : PlainState) (said : List ℕ) → IsReady s → OnOk report (said ≡ done_text (codes "close")) → CallsBoard (λ t. ClosesIf t false) report s said s
board_stays report s said ready told = record {
  acts = on_ok_weaker report (λ text t left. silent_as s 0 (λ u. ClosesIf u false) (done_text (codes "close")) said t caller_apart refl text left) told;
  ready = ready;
  lifted = lifted_same s s refl;
}

-- ---- what the tree answered

two_ways : (T : Type 0) (given : Result T GcError) (closed : T) (refusal : GcError) → given ≡ Ok closed → given ≡ Err refusal → ⊥
two_ways T given closed refusal is told = let both = sym is ∙ told in absurd cc

pub closed_so : (T : Type 0) (r : Result (List ℕ) GcError) (given : Result T GcError) (closed : T) (serials : T → List ℕ) → given ≡ Ok closed → MatchResult r (λ xs. IsOkAnd given (λ hs. serials hs ≡ xs)) (λ refusal. given ≡ Err refusal) → r ≡ Ok (serials closed)
closed_so T (Ok xs) given closed serials is told = let same : serials closed ≡ xs = subst (λ (g : Result T GcError). IsOkAnd g (λ hs. serials hs ≡ xs)) is told in cc
closed_so T (Err refusal) given closed serials is told = absurd (two_ways T given closed refusal is told)

pub refused_so : (T : Type 0) (r : Result (List ℕ) GcError) (given : Result T GcError) (error : GcError) (serials : T → List ℕ) → given ≡ Err error → MatchResult r (λ xs. IsOkAnd given (λ hs. serials hs ≡ xs)) (λ refusal. given ≡ Err refusal) → r ≡ Err error
refused_so T (Ok xs) given error serials is told = absurd (subst (λ (g : Result T GcError). IsOkAnd g (λ hs. serials hs ≡ xs)) is told)
refused_so T (Err refusal) given error serials is told = let both = sym is ∙ told in let same : refusal ≡ error = cc in cc

-- the same, of a board that is one of these
pub closes_if : (report : Result ⊤ NoMemory) (s closed new : PlainState) (named : Bool) (said : List ℕ) → named ≡ true → new ≡ closed → AddsOf s.board 0 Closes closed.board → closed.contents ≡ s.contents → IsReady s
    → OnOk report (said ≡ done_text (codes "close")) → CallsBoard (λ t. ClosesIf t named) report s said new
closes_if report s closed new named said yes_named same called contents ready told =
    subst (λ (b : Bool). CallsBoard (λ t. ClosesIf t b) report s said new) (sym yes_named)
    (subst (λ (n : PlainState). CallsBoard (λ t. ClosesIf t true) report s said n) (sym same) (board_closes report s closed said called contents ready told))

pub stays_if : (report : Result ⊤ NoMemory) (s new : PlainState) (named : Bool) (said : List ℕ) → named ≡ false → new ≡ s → IsReady s → OnOk report (said ≡ done_text (codes "close")) → CallsBoard (λ t. ClosesIf t named) report s said new
stays_if report s new named said not_named same ready told =
    subst (λ (b : Bool). CallsBoard (λ t. ClosesIf t b) report s said new) (sym not_named)
    (subst (λ (n : PlainState). CallsBoard (λ t. ClosesIf t false) report s said n) (sym same) (board_stays report s said ready told))
