-- A repeat of the kept command changes nothing.
use Rattle.std.proofs.Common.{◌≡◌, ℕ, Bool, true, List, take, Option, Some, option_map, ap, sym, ◌∙◌}
use Rattle.std.specs.Prelude.{if◌then◌else◌}
use Rattle.gev_types.specs.declared.peer.Peer.{Peer}
use Rattle.gvcp_wire.specs.declared.message.CommandHead.{CommandHead}
use Rattle.gvcp_wire.specs.Messages.{PlainCommand, view}
use Rattle.camera_machine.specs.Camera.{Camera, Kept}
use Rattle.camera_machine.specs.Commands.{Answered, same_bytes, only_answered, silent, is_behind, executed_as, from_primary}
use Rattle.camera_sim.specs.Seen.{kept_of}
use Rattle.camera_sim.proofs.camera.Camera.obey_primary.Goals as goal

repeats : (s : Camera) (o : Option Kept) (k : Kept) (peer : Peer) (bytes : List ℕ) (moment : ℕ) (head : CommandHead) (command : Option PlainCommand)
    → o ≡ Some k → same_bytes bytes k.bytes ≡ true → only_answered s k.ack ≡ from_primary o s peer bytes moment head command
repeats s o k peer bytes moment head command is same =
    ap (λ (b : Bool). if b then only_answered s k.ack else (if is_behind k.req head.req then silent s else executed_as s peer bytes moment head command)) (sym same)
    ∙ ap (λ (x : Option Kept). from_primary x s peer bytes moment head command) (sym is)

pub returns-then-eq : goal.returns-then-eq
returns-then-eq c =
    let k : Kept = record { bytes = take c.in-Some.kept.len c.self.inside.command; req = c.in-Some.kept.req; ack = option_map (λ len. take len c.self.inside.answer) c.in-Some.kept.ack } in
    let is : c.args.self.now.kept ≡ Some k = ap (λ (s : Camera). s.kept) (sym c.self.view_is) ∙ ap (λ o. kept_of o c.self.inside.command c.self.inside.answer) c.in-Some.is in
    let same : same_bytes c.args.received.now.bytes.now k.bytes ≡ true = sym c.eq.ensures ∙ c.if-eq.true in
    let all : only_answered c.args.self.now k.ack
    ≡ from_primary c.args.self.now.kept c.args.self.now c.args.received.now.peer c.args.received.now.bytes.now c.args.received.now.moment c.args.received.now.head (option_map view c.args.received.now.command) =
    repeats c.args.self.now c.args.self.now.kept k c.args.received.now.peer c.args.received.now.bytes.now c.args.received.now.moment c.args.received.now.head (option_map view c.args.received.now.command) is same in
    record { state = ap (λ (a : Answered). a.camera) all; ack = c.copied.ensures.same ∙ ap (λ (a : Answered). a.ack) all; fits = c.copied.ensures.fits }
