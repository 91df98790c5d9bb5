use Rattle.std.proofs.Common.{ap, arith}
use Rattle.camera_machine.specs.Camera.{Camera}
use Rattle.gev_serve.specs.Turns.{arrived}
use Rattle.gev_serve.proofs.Parting.{turn_then, turn_cut, heard_counts}
use Rattle.gev_serve.proofs.turns.serve_once.Goals as goal

pub frame_and_send-requires-clause-count : goal.frame_and_send-requires-clause-count
frame_and_send-requires-clause-count g c =
    let is = ap (λ (s : Camera). s.shelf.count) c.in-Ok.ensures.state in
    let few = heard_counts c.args.camera.now (arrived c.args.came c.args.bytes.now) c.args.moment in
    omega (arith, is, few, c.requires.count)

pub returns-in-Ok-clause-sends : goal.returns-in-Ok-clause-sends
returns-in-Ok-clause-sends g c =
    turn_then c.args.camera.now (record { arrived = arrived c.args.came c.args.bytes.now; moment = c.args.moment }) c.hear_and_send.new.camera _ _ _ _
    c.in-Ok.ensures.state c.in-Ok.ensures.sends c.frame_and_send.ensures.sends

pub returns-in-Err-clause-sends : goal.returns-in-Err-clause-sends
returns-in-Err-clause-sends g c =
    turn_cut c.args.camera.now (record { arrived = arrived c.args.came c.args.bytes.now; moment = c.args.moment }) _ _ c.in-Err.ensures.sends
