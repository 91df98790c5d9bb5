-- The trace of a recorded script between two lines, and what one more line makes of it.
use Rattle.std.proofs.Common.{◌≡◌, inl, ℕ, true, false, List, [], ◌∷◌, ◌++◌, refl, sym, ap, subst, ◌∙◌, append_assoc, append-nil}
use Rattle.std.specs.Prelude.{⊤, Option, Some}
use Rattle.std.specs.List.{AllByRecursion}
use Rattle.gev_types.specs.Filling.{Filling}
use Rattle.gentl_handles.specs.declared.opened.Opened.{Opened}
use Rattle.gentl_handles.specs.Handles.{child_of}
use Rattle.gev_script.specs.Lines.{ScriptLine}
use Rattle.board_machine.specs.declared.events.Entry.{Entry}
use Rattle.board_machine.specs.declared.events.Event.{Event}
use Rattle.board_machine.specs.declared.events.Event.TheVariants.{Fill, Take, SweepOut}
use Rattle.board_machine.specs.declared.events.TakeEnd.TheVariants.{Taken}
use Rattle.board_machine.specs.Machine.{Board, Item, empty_board}
use Rattle.board_machine.specs.Histories.{RunsFrom, Run, after_from}
use Rattle.board_machine.specs.Handout.{removed_items}
use Rattle.board_machine.proofs.Runs.{after-append, runs-append}
use Rattle.acquisition_machine.specs.Machine.{Input}
use Rattle.acquisition_machine.proofs.Order.{all_append}
use Rattle.board_calls.specs.declared.mode.Mode.TheVariants.{OldestFirst}
use Rattle.script_trace.specs.Trace.{Trace, Part, grown, board, caller, acquirer}
use Rattle.script_trace.specs.Opening.{first_handles}
use Rattle.script_trace.specs.Contents.{FillsAsLay, FillsFrom, contents_of}
use Rattle.script_trace.specs.Adding.{Spells, Leads}
use Rattle.script_trace.specs.BoardLines.{open_event}
use Rattle.gev_record.specs.Script.{live_config}
use Rattle.gev_record.proofs.Desk.{desk, Done}
use Rattle.gev_record.proofs.Saying.{Says, contents, Tells, says_on}

-- ---- the entries of a recorded script

-- Only the acquisition fills, and each fill is answered so; only the caller takes, and nothing is swept.
abbrev pub IsRecordedBy : ℕ → Event → Type 0
IsRecordedBy k (Fill i f true) = k ≡ acquirer
IsRecordedBy k (Fill i f false) = ⊥
IsRecordedBy k (Take (Taken i)) = k ≡ caller
IsRecordedBy k (SweepOut is) = ⊥
IsRecordedBy k _ = ⊤

abbrev pub IsRecorded : Entry → Type 0
IsRecorded e = IsRecordedBy e.by e.event

as_lay : (contents : List (Option Filling)) (k : ℕ) (e : Event) → IsRecordedBy k e → FillsAsLay contents k e
as_lay contents k (Fill i f true) r = inl r
as_lay contents k (Fill i f false) r = absurd r
as_lay contents k _ r = tt

fills_from : (contents : List (Option Filling)) (es : List Entry) → AllByRecursion IsRecorded es → FillsFrom contents es
fills_from contents [] all = tt
fills_from contents (e ∷ es) all = (as_lay contents e.by e.event all.0, fills_from contents es all.1)

-- ---- stages

-- The board is this one; the handles are the first ones, and waiting buffers stay; the text is lines, and its take
-- lines are of what was taken.
pub record On (t : Trace) (b : Board) : Type 0 where
  pub is : board t ≡ b
  pub handles : t.handles ≡ first_handles
  pub mode : t.mode ≡ OldestFirst
  pub entries : AllByRecursion IsRecorded t.entries
  pub run : Run t.entries
  pub says : Says t.text (contents (removed_items t.entries))

-- The board is told by its run word, by the places of the open blocks, by what waits in the output and by what is
-- pooled.
abbrev pub Stage : Trace → ℕ → List ℕ → List Item → List ℕ → Type 0
Stage t r his out pool = On t (desk r his out pool)

-- These lines lead to such a trace, and tell these inputs.
pub record GoesTo (t : Trace) (lines : List ScriptLine) (told : List Input) (b : Board) : Type 0 where
  pub to : Trace
  pub leads : Leads live_config t lines to
  pub stage : On to b
  pub inputs : to.inputs ≡ t.inputs ++ told

abbrev pub Goes : Trace → List ScriptLine → List Input → ℕ → List ℕ → List Item → List ℕ → Type 0
Goes t lines told r his out pool = GoesTo t lines told (desk r his out pool)

-- a part with these entries, inputs and text
abbrev pub adds : Trace → List Entry → List Input → List ℕ → Part
adds t es told said = record {
  entries = es;
  inputs = told;
  handles = t.handles;
  idle = 0;
  text = said;
  mode = t.mode;
  told_mode = t.told_mode;
}

pub line_on : (t : Trace) (l : ScriptLine) (es : List Entry) (told : List Input) (said : List ℕ) (was new : Board)
    → On t was → Spells live_config t l (adds t es told said) → Done was es new → AllByRecursion IsRecorded es → Tells was.out es said → GoesTo t (l ∷ []) told new
line_on t l es told said was new s spells done all tells = record {
  to = grown t (adds t es told said);
  leads = (
    adds t es told said,
    record {
      spells = spells;
      runs = subst (λ b. RunsFrom b es) (sym s.is) done.runs;
      fills = fills_from (contents_of t.entries) es all;
    },
    refl,
  );
  stage = record {
    is = after-append empty_board t.entries es ∙ (ap (λ b. after_from b es) s.is ∙ done.after);
    handles = s.handles;
    mode = s.mode;
    entries = all_append IsRecorded t.entries es s.entries all;
    run = runs-append empty_board t.entries es s.run (subst (λ b. RunsFrom b es) (sym s.is) done.runs);
    says = says_on t.entries es t.text said was.out s.run (ap (λ (b : Board). b.out) s.is) s.says tells;
  };
  inputs = refl;
}

pub one_line : (t : Trace) (l : ScriptLine) (es : List Entry) (told : List Input) (said : List ℕ) (r run : ℕ) (his was : List ℕ) (out waited : List Item) (pool pooled : List ℕ)
    → Stage t run was waited pooled → Spells live_config t l (adds t es told said) → Done (desk run was waited pooled) es (desk r his out pool)
    → AllByRecursion IsRecorded es → Tells waited es said → Goes t (l ∷ []) told r his out pool
one_line t l es told said r run his was out waited pool pooled s spells done all tells =
    line_on t l es told said (desk run was waited pooled) (desk r his out pool) s spells done all tells

pub leads-append : (t : Trace) (ls ms : List ScriptLine) (mid new : Trace) → Leads live_config t ls mid → Leads live_config mid ms new → Leads live_config t (ls ++ ms) new
leads-append t [] ms mid new is more = subst (λ u. Leads live_config u ms new) is more
leads-append t (l ∷ ls) ms mid new (part, adds, rest) more = (part, adds, leads-append (grown t part) ls ms mid new rest more)

pub no_line : (t : Trace) (r : ℕ) (his : List ℕ) (out : List Item) (pool : List ℕ) → Stage t r his out pool → Goes t [] [] r his out pool
no_line t r his out pool s = record { to = t; leads = refl; stage = s; inputs = sym (append-nil t.inputs) }

pub to_both : (t : Trace) (ls ms : List ScriptLine) (told more : List Input) (was new : Board)
    → (first : GoesTo t ls told was) → GoesTo first.to ms more new → GoesTo t (ls ++ ms) (told ++ more) new
to_both t ls ms told more was new first second = record {
  to = second.to;
  leads = leads-append t ls ms first.to second.to first.leads second.leads;
  stage = second.stage;
  inputs = second.inputs ∙ (ap (λ q. q ++ more) first.inputs ∙ append_assoc t.inputs told more);
}

pub goes_both : (t : Trace) (ls ms : List ScriptLine) (told more : List Input) (r run : ℕ) (his was : List ℕ) (out waited : List Item) (pool pooled : List ℕ)
    → (first : Goes t ls told run was waited pooled) → Goes first.to ms more r his out pool → Goes t (ls ++ ms) (told ++ more) r his out pool
goes_both t ls ms told more r run his was out waited pool pooled first second =
    to_both t ls ms told more (desk run was waited pooled) (desk r his out pool) first second

-- the event is open
pub record HasEvent (t : Trace) : Type 0 where
  pub event : Opened
  pub is_open : open_event t ≡ Some event

first_event : (event : Opened) × (child_of (Some 4) 0 first_handles.handles ≡ Some event)
first_event = (_, refl)

pub has_event : (t : Trace) → t.handles ≡ first_handles → HasEvent t
has_event t e = record {
  event = first_event.0;
  is_open = ap (λ h. child_of (Some 4) 0 h.handles) e ∙ first_event.1;
}
