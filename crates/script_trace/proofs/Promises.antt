-- What holds of every trace.
use Rattle.std.proofs.Common.{◌≡◌, ◌≤◌, List, [], ◌∷◌, sym, subst}
use Rattle.std.specs.List.{AllByRecursion}
use Rattle.gev_script.specs.Lines as line
use Rattle.gev_script.specs.Lines.{ScriptLine}
use Rattle.gev_script.specs.Spelling.{IsScriptLine}
use Rattle.acquisition_machine.specs.declared.config.AcqConfig.{AcqConfig}
use Rattle.board_machine.specs.Machine.{Item}
use Rattle.board_machine.specs.Histories.{Run}
use Rattle.board_machine.proofs.Forms.{prefix_cases}
use Rattle.board_machine.proofs.Handouts.{run_legal}
use Rattle.board_calls.specs.Dropped.{others}
use Rattle.script_trace.specs.Trace.{Trace}
use Rattle.script_trace.specs.Modes.{acquires}
use Rattle.script_trace.specs.Adding.{Leads}
use Rattle.script_trace.specs.Opening.{opening}
use Rattle.script_trace.specs.Fills.{tried_blocks, retired_items, IsRetired, IsHandedSo}
use Rattle.script_trace.specs.Laws.{KeepsPromises, TracesKeepPromises}
use Rattle.script_trace.proofs.Histories.{opening_runs, leads_run}
use Rattle.script_trace.proofs.BlockFills.{IsByOther, leads_agree, opening_agrees}
use Rattle.block_fills.proofs.Acquisitions.{retired_blocks}
use Rattle.script_trace.proofs.Starting.{leads_clean, opening_clean}
use Rattle.script_trace.proofs.Handing.{leads_empty, opening_empty, filled_all, taken_all}

-- of lines of which no step is the acquisition's
pub traces_keep_by : (c : AcqConfig) (lines : List ScriptLine) (t : Trace) → 1 ≤ c.window → AllByRecursion IsByOther lines → Leads c opening lines t → KeepsPromises c t
traces_keep_by c lines t some are leads =
    let run : Run t.entries = leads_run c opening lines t leads opening_runs in
    let P : Item → Type 0 = IsRetired c t.inputs in
    let agree : tried_blocks t ≡ retired_items c t.inputs = leads_agree c opening lines t are leads (opening_agrees c) in
    let clean = leads_clean c opening lines t leads (opening_clean c) in
    let blocks : AllByRecursion P (tried_blocks t) = subst (λ l. AllByRecursion P l) (sym agree) (retired_blocks c t.inputs some clean.starts) in
    let empty = leads_empty c opening lines t leads opening_empty in
    record {
      run = run;
      owned = λ front rest is. prefix_cases t.entries front rest run is;
      legal = run_legal t.entries run;
      retired = agree;
      blocks = blocks;
      others = empty;
      handed = taken_all (IsHandedSo c t.inputs) (others acquires) t.entries (filled_all P t.entries empty blocks);
      dropped = taken_all (IsHandedSo c t.inputs) acquires t.entries (filled_all P t.entries empty blocks);
    }

pub by_other : (l : ScriptLine) → IsScriptLine l → IsByOther l
by_other (line.step actor act place) is = is.actor_to
by_other _ is = tt

all_by_other : (lines : List ScriptLine) → AllByRecursion IsScriptLine lines → AllByRecursion IsByOther lines
all_by_other [] are = tt
all_by_other (l ∷ lines) are = (by_other l are.0, all_by_other lines are.1)

pub traces_keep : TracesKeepPromises
traces_keep c lines t some are leads = traces_keep_by c lines t some (all_by_other lines are) leads
