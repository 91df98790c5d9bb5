-- Traces are runs of the board machine.
use Rattle.std.proofs.Common.{List, [], ◌∷◌, refl, sym, subst}
use Rattle.board_machine.specs.Machine.{empty_board}
use Rattle.board_machine.specs.Histories.{Run}
use Rattle.board_machine.proofs.Runs.{runs-append}
use Rattle.gev_script.specs.Lines.{ScriptLine}
use Rattle.acquisition_machine.specs.declared.config.AcqConfig.{AcqConfig}
use Rattle.script_trace.specs.Trace.{Trace, grown}
use Rattle.script_trace.specs.Adding.{Leads}
use Rattle.script_trace.specs.Opening.{opening}

pub opening_runs : Run opening.entries
opening_runs = (record { actor = λ e. cc; meets = refl }, (record { actor = λ e. cc; meets = refl }, (record { actor = λ e. cc; meets = refl }, (record { actor = λ e. cc; meets = refl }, (record { actor = λ e. cc; meets = refl }, tt)))))

pub leads_run : (c : AcqConfig) (t : Trace) (lines : List ScriptLine) (new : Trace) → Leads c t lines new → Run t.entries → Run new.entries
leads_run c t [] new is run = subst (λ u. Run u.entries) (sym is) run
leads_run c t (l ∷ lines) new (part, adds, rest) run =
    leads_run c (grown t part) lines new rest (runs-append empty_board t.entries part.entries run adds.runs)
