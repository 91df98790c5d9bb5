-- What the machine's state stands for, before and after a line.
use Rattle.std.proofs.Common.{◌≡◌, ℕ, false, List, [], Some, None, Ok, refl, sym, ap, subst, ◌∙◌}
use Rattle.script_runs.specs.declared.ran.Ran.{Ran}
use Rattle.script_runs.specs.declared.ran.Ran.TheVariants.{GoesOn, Ended}
use Rattle.gentl_handles.specs.declared.handle.Handle.{Handle}
use Rattle.gentl_handles.specs.Handles.{Handles}
use Rattle.board_model.specs.Plain.{PlainState}
use Rattle.acquisition_machine.specs.declared.config.AcqConfig.{AcqConfig}
use Rattle.acquisition_machine.specs.Blocks.{Given}
use Rattle.acq_core.specs.declared.window.Window.{Window}
use Rattle.acq_core.specs.Standing.{IsConfig}
use Rattle.acq_core.specs.Receiver.{config_of, asked_block, buffers, Stands}
use Rattle.acq_core.specs.Waiting.{waiting_fills, waiting_requests}
use Rattle.board_calls.specs.declared.mode.Mode.TheVariants.{OldestFirst}
use Rattle.script_trace.specs.Opening.{opening, first_handles}
use Rattle.script_trace.specs.Ending.{end_text}
use Rattle.script_trace.specs.Wide.{nothing_wide, Does, kept_behind}
use Rattle.script_trace.specs.Standing.{first, running, config_of as config_from}
use Rattle.script_replay.specs.declared.script.Script.{Script}
use Rattle.script_replay.specs.Boards.{IsLeftBy, IsReady}
use Rattle.script_replay.specs.Acquiring.{AreAway}
use Rattle.script_replay.specs.Counting.{no_fills}
use Rattle.script_replay.specs.Replays.{IsReplaying, DoneAt, Begins, RanBy, StandsFor, RunsAs}

-- what stands behind a header
pub begun : (board : PlainState) (acq : Window) (tree : Handles) (stream : Handle) (config : AcqConfig) → IsConfig config → IsLeftBy board opening.entries → IsReady board
    → Stands acq [] → config_of acq ≡ config → waiting_fills acq ≡ [] → waiting_requests acq ≡ [] → buffers acq ≡ [] → asked_block acq ≡ None → tree ≡ first_handles → stream.serial ≡ 4
    → IsReplaying (record { board = board; acq = acq; tree = tree; stream = stream; counts = no_fills; taken = 0; idle = 0; mode = OldestFirst; told_mode = false })
begun board acq tree stream config is_config left ready stands same fills requests none asked handles serial = record {
  rest = record {
    ready = ready;
    config = subst IsConfig (sym same) is_config;
    inputs = [];
    stands = stands;
    no_fill = fills;
    no_request = requests;
    unasked = asked;
    away = subst (λ (gs : List Given). AreAway board gs) (sym none) tt;
  };
  stream = serial;
  trace = opening;
  lines = [];
  leads = refl;
  stands = record { behind = record { board = left; inputs = stands }; handles = handles; fills = refl; complete = refl; dropped = refl; taken = refl; idle = refl; mode = refl; told_mode = refl };
}

-- a header was run
pub begins_on : (new : Script) (text : List ℕ) (n : ℕ) → Begins text new → RunsAs None n text GoesOn [] (Some new)
begins_on new text n begins first stands = (
  running (config_from begins.config) (nothing_wide begins.config.version) opening,
  record { config = begins.config; read = begins.read; silent = refl; after = refl },
  (begins.same, begins.stands, begins.wide),
)
begins_on new text n begins (running c w t) stands = absurd stands

-- a later line was run
pub runs_on : (old new : Script) (text said : List ℕ) (ran : Ran) (n : ℕ) → RanBy ran text old said new → RunsAs (Some old) n text ran said (Some new)
runs_on old new text said GoesOn n by first stands = absurd stands
runs_on old new text said Ended n by first stands = absurd stands
runs_on old new text said GoesOn n by (running c w t) stands =
    let at : DoneAt (config_of old.running.acq) by.says said new w t = by.did.does w t stands.1 stands.2 in (
      running c (kept_behind at.kept t at.trace) at.trace,
      record {
        in_place = by.in_place;
        says = by.says;
        read = by.read;
        kept = at.kept;
        trace = at.trace;
        does = subst (λ (d : AcqConfig). Does d w t by.says said at.kept at.trace) stands.0 at.does;
        after = refl;
      },
      (by.did.config ∙ stands.0, at.stands, at.keeps),
    )
runs_on old new text said Ended n by (running c w t) stands = (
  running c w t,
  record {
    in_place = by.in_place;
    read = by.read ∙ ap (λ l. Ok l) by.did.is_end;
    said = by.did.told w t stands.1 stands.2 ∙ ap (λ (d : AcqConfig). end_text d w.refused t) stands.0;
    after = refl;
  },
  subst (λ (r : Script). StandsFor (Some r) (running c w t)) (sym by.did.same) stands,
)

pub keeps_on : (old new : Script) (text said : List ℕ) (ran : Ran) → RanBy ran text old said new → IsReplaying old.running → IsReplaying new.running
keeps_on old new text said GoesOn by keeps = by.did.keeps
keeps_on old new text said Ended by keeps = subst (λ (r : Script). IsReplaying r.running) (sym by.did.same) keeps
