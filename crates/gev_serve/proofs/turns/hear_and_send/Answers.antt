use Rattle.gev_serve.specs.Turns.{arrived}
use Rattle.gev_serve.proofs.Parting.{heard_then, heard_cut}
use Rattle.gev_serve.proofs.turns.hear_and_send.Goals as goal

pub returns-in-Ok-send_waiting-clause-sends : goal.returns-in-Ok-send_waiting-clause-sends
returns-in-Ok-send_waiting-clause-sends g c =
    heard_then c.args.camera.now (arrived c.args.came c.args.bytes.now) c.args.moment c.hear.new.camera _ _ _ _
    c.in-Ok.ensures.state c.in-Ok.ensures.sends c.in-Ok-send_waiting.ensures.sends

pub returns-in-Err-send_waiting-clause-sends : goal.returns-in-Err-send_waiting-clause-sends
returns-in-Err-send_waiting-clause-sends g c =
    heard_then c.args.camera.now (arrived c.args.came c.args.bytes.now) c.args.moment c.hear.new.camera _ _ _ _
    c.in-Ok.ensures.state c.in-Ok.ensures.sends c.in-Err-send_waiting.ensures.sends

pub returns-in-Err-clause-sends : goal.returns-in-Err-clause-sends
returns-in-Err-clause-sends g c =
    heard_cut c.args.camera.now (arrived c.args.came c.args.bytes.now) c.args.moment _ _ c.in-Err.ensures.sends
