use Rattle.std.proofs.Common.{Ok, Err, refl}
use Rattle.gev_types.specs.Filling.{Filling}
use Rattle.board_calls.specs.Calls.{Revokes}
use Rattle.script_trace.specs.BoardLines.{RevokeLine}
use Rattle.script_replay.proofs.Quiet.{revoke_quiet}
use Rattle.script_replay.proofs.Calling.{quiet_calls, calls_by}
use Rattle.script_replay.proofs.Resting.{lifted_gone}
use Rattle.script_replay.proofs.Announced.{revoke_leaves, revoke_fills, revoke_hands}
use Rattle.script_replay.proofs.board_lines.revoke.Goals as goal

pub returns-in-Ok : goal.returns-in-Ok
returns-in-Ok c =
    let called = c.in-Ok.ensures.entries in
    calls_by c.line_done.result _ _ (Revokes {T = Filling} c.args.id (Ok c.in-Ok._buf)) (λ t. RevokeLine t c.args.id) _ _ called
    (λ t left. (Ok tt, record { events = called.events; kind = called.kind; is = refl }))
    (λ h left. revoke_fills Filling c.args.board.now _ c.args.id c.in-Ok._buf h called) (revoke_hands Filling c.args.board.now _ c.args.id c.in-Ok._buf called)
    (λ h left. revoke_leaves Filling _ _ c.args.id c.in-Ok._buf h called c.in-Ok.ensures.contents left)
    (lifted_gone _ _ c.args.id.place c.in-Ok.ensures.contents) c.requires.ready c.line_done.ensures

pub returns-in-Err : goal.returns-in-Err
returns-in-Err c =
    quiet_calls c.line_refused.result _ _ (Revokes {T = Filling} c.args.id (Err c.in-Err.error)) (λ t. RevokeLine t c.args.id) _ _ (revoke_quiet Filling c.args.id c.in-Err.error)
    (λ t es kind. (Err c.in-Err.error, record { events = es; kind = kind; is = refl })) c.requires.ready c.in-Err.ensures.entries c.in-Err.ensures.refused c.line_refused.ensures
