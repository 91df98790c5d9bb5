-- Where nothing came the camera looks at its heartbeat.
use Rattle.std.proofs.Common.{◌≡◌, ℕ, List, Option, None, ap, sym, ◌∙◌}
use Rattle.camera_machine.specs.Camera.{Camera, looked}
use Rattle.gev_links.specs.Links.{Address}
use Rattle.gev_serve.specs.Turns.{arrived, heard_camera}
use Rattle.gev_serve.proofs.turns.hear.Goals as goal

looks : (s now : Camera) (came : Option (ℕ × Address)) (bytes : List ℕ) (moment : ℕ) → came ≡ None → now ≡ looked s moment
    → now ≡ heard_camera s (arrived came bytes) moment
looks s now came bytes moment none is = is ∙ sym (ap (λ (o : Option (ℕ × Address)). heard_camera s (arrived o bytes) moment) none)

pub returns-in-None-clause-state : goal.returns-in-None-clause-state
returns-in-None-clause-state g c = looks c.args.camera.now _ c.args.came c.args.bytes.now c.args.moment c.in-None.is assumption
