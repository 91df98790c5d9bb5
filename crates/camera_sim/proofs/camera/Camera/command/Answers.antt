-- What a command that was read, or has another form, is known to be.
use Rattle.std.proofs.Common.{◌≡◌, ◌∙◌, ℕ, List, Some, None, Ok, Err, subst, ap, ap₂}
use Rattle.gev_types.specs.declared.peer.Peer.{Peer}
use Rattle.gvcp_wire.specs.declared.message.CommandHead.{CommandHead}
use Rattle.gvcp_wire.specs.declared.message.ControlError.{ControlError}
use Rattle.gvcp_wire.specs.declared.message.ControlError.TheVariants.{Form}
use Rattle.gvcp_wire.specs.Messages.{PlainCommand, view}
use Rattle.gvcp_wire.specs.Reading.{command_reading}
use Rattle.camera_machine.specs.Camera.{Camera, looked}
use Rattle.camera_machine.specs.Commands.{renewed, obeyed, heard, commanded}
use Rattle.camera_sim.proofs.Sizes.{is_message}
use Rattle.camera_sim.proofs.camera.Camera.command.Goals as goal

-- after its look at the heartbeat the camera obeys a command, once its moment is noted
obeys : (s after now : Camera) (peer : Peer) (bytes : List ℕ) (moment : ℕ) (head : CommandHead) (command : PlainCommand) → after ≡ looked s moment → now ≡ renewed after peer moment
    → Ok (head, command) ≡ command_reading bytes → obeyed now peer bytes moment head (Some command) ≡ commanded s peer bytes moment
obeys s after now peer bytes moment head command look renews reading =
    ap (λ x. obeyed x peer bytes moment head (Some command)) renews ∙ ap₂ (λ x r. heard x peer bytes moment r) look reading

-- and hears what was refused
refuses : (s after : Camera) (peer : Peer) (bytes : List ℕ) (moment : ℕ) (seen error : ControlError) → after ≡ looked s moment → seen ≡ error
    → Err seen ≡ command_reading bytes → heard after peer bytes moment (Err error) ≡ commanded s peer bytes moment
refuses s after peer bytes moment seen error look is reading =
    subst (λ e. heard after peer bytes moment (Err e) ≡ commanded s peer bytes moment) is (ap₂ (λ x r. heard x peer bytes moment r) look reading)

pub obey-requires-clause-keeps : goal.obey-requires-clause-keeps
obey-requires-clause-keeps c =
    is_message c.args.bytes.now c.in-Ok.head (view c.in-Ok.command) ((c.in-Ok.ensures.given c.in-Ok.head (view c.in-Ok.command)).0 (cc))

pub obey-requires-in-Err-Form-clause-request : goal.obey-requires-in-Err-Form-clause-request
obey-requires-in-Err-Form-clause-request c =
    let form = (c.in-Err-Form.ensures.refused (Form c.in-Err-Form.head)).0 (cc) in
    form.request

pub returns-in-Ok : goal.returns-in-Ok
returns-in-Ok c =
    let same = obeys c.args.self.now c.tick.new.self c.renew.new.self c.args.peer c.args.bytes.now c.args.moment c.in-Ok.head (view c.in-Ok.command) c.tick.ensures c.renew.ensures c.in-Ok.ensures.reading in
    record { state = c.obey.ensures.state ∙ ap (λ a. a.camera) same; ack = c.obey.ensures.ack ∙ ap (λ a. a.ack) same; fits = c.obey.ensures.fits }

pub returns-in-Err-Form : goal.returns-in-Err-Form
returns-in-Err-Form c =
    let renews = ap (λ (x : Camera). obeyed x c.args.peer c.args.bytes.now c.args.moment c.in-Err-Form.head None) c.renew-in-Err-Form.ensures in
    let same = renews ∙ refuses c.args.self.now c.tick.new.self c.args.peer c.args.bytes.now c.args.moment _ _ c.tick.ensures c.in-Err-Form.field-0-is c.in-Err-Form.ensures.reading in
    record { state = c.obey-in-Err-Form.ensures.state ∙ ap (λ a. a.camera) same; ack = c.obey-in-Err-Form.ensures.ack ∙ ap (λ a. a.ack) same; fits = c.obey-in-Err-Form.ensures.fits }

pub returns-in-Err-Short : goal.returns-in-Err-Short
returns-in-Err-Short c =
    let same = refuses c.args.self.now c.tick.new.self c.args.peer c.args.bytes.now c.args.moment _ _ c.tick.ensures c.in-Err-Short.field-0-is c.in-Err-Short.ensures.reading in
    record { state = ap (λ a. a.camera) same; ack = ap (λ a. a.ack) same; fits = tt }

pub returns-in-Err-Key : goal.returns-in-Err-Key
returns-in-Err-Key c =
    let same = refuses c.args.self.now c.tick.new.self c.args.peer c.args.bytes.now c.args.moment _ _ c.tick.ensures c.in-Err-Key.field-0-is c.in-Err-Key.ensures.reading in
    record { state = ap (λ a. a.camera) same; ack = ap (λ a. a.ack) same; fits = tt }

pub returns-in-Err-ZeroReq : goal.returns-in-Err-ZeroReq
returns-in-Err-ZeroReq c =
    let same = refuses c.args.self.now c.tick.new.self c.args.peer c.args.bytes.now c.args.moment _ _ c.tick.ensures c.in-Err-ZeroReq.field-0-is c.in-Err-ZeroReq.ensures.reading in
    record { state = ap (λ a. a.camera) same; ack = ap (λ a. a.ack) same; fits = tt }

pub returns-in-Err-Length : goal.returns-in-Err-Length
returns-in-Err-Length c =
    let same = refuses c.args.self.now c.tick.new.self c.args.peer c.args.bytes.now c.args.moment _ _ c.tick.ensures c.in-Err-Length.field-0-is c.in-Err-Length.ensures.reading in
    record { state = ap (λ a. a.camera) same; ack = ap (λ a. a.ack) same; fits = tt }

pub obey-requires-clause-request : goal.obey-requires-clause-request
obey-requires-clause-request c =
    let given = (c.in-Ok.ensures.given c.in-Ok.head (view c.in-Ok.command)).0 (cc) in
    given.request

pub obey-requires-in-Err-Form-clause-keeps : goal.obey-requires-in-Err-Form-clause-keeps
obey-requires-in-Err-Form-clause-keeps c = tt
