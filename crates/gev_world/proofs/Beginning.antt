-- A world at its start.
use Rattle.std.proofs.Common.{◌≡◌, [], refl, sym, ap, subst, ◌∙◌, ◌<◌, ◌^◌}
use Rattle.world_laws.specs.Receiver.{start}
use Rattle.soak_receiver.specs.Standing.{Hosting, HostStands}
use Rattle.world_machine.specs.State.{Run, new_world}
use Rattle.gev_world.specs.declared.stage.Stage.{Stage}
use Rattle.gev_world.specs.declared.tools.Tools.{Tools}
use Rattle.gev_world.specs.Hosts.{lines_by}
use Rattle.gev_world.specs.Runs.{BeginsRun, IsNewStage}

pub begins_run : (run : Run) (s : Stage) (h : Hosting) (tools : Tools) → IsNewStage run s → HostStands h (lines_by []) start → tools.arriving ≡ []
    → BeginsRun run (record { stage = s; host = h; tools = tools })
begins_run run s h tools new stands empty = record {
  run_is = new.run_is;
  new = record {
    stands = record {
      hosts = record { is = refl; stands = stands };
      is = ap (λ (r : Run). new_world r start) new.run_is ∙ sym (new.world start);
    };
    between = new.between;
    empty = empty;
    few = subst (λ (r : Run). r.frames < 2 ^ 32) (sym new.run_is) new.few;
  };
}
