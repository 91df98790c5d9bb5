-- An acknowledge goes out where one was asked for.
use Rattle.std.proofs.Common.{◌≡◌, ℕ, Bool, true, false, List, ◌++◌, length, take, Some, None, ap, ap₂, ◌∙◌, take_at, refl}
use Rattle.std.specs.Prelude.{if◌then◌else◌}
use Rattle.gvcp_wire.specs.Flags.{has_flag}
use Rattle.gvcp_wire.specs.Answer.{plain_ack}
use Rattle.gvcp_wire.specs.Status.{status_code}
use Rattle.camera_machine.specs.Commands.{ack_code}
use Rattle.camera_sim.proofs.acknowledge.acknowledge.Goals as goal

sent_where : (asked : Bool) (len : ℕ) (out sent rest : List ℕ) → asked ≡ true → out ≡ sent ++ rest → len ≡ length sent → Some (take len out) ≡ (if asked then Some sent else None)
sent_where true len out sent rest e is size = ap (λ (l : List ℕ). Some l) (ap₂ (λ n (l : List ℕ). take n l) size is ∙ take_at sent rest (length sent) refl)
sent_where false len out sent rest e is size = absurd (cc)

pub returns-clause-sent : goal.returns-clause-sent
returns-clause-sent c =
    let asked : has_flag 0x01 c.args.head.flags ≡ true = cc in
    sent_where (has_flag 0x01 c.args.head.flags) c.write_ack.result c.write_ack.new.out
    (plain_ack (record { status = status_code c.args.status; code = ack_code c.args.head.code; req = c.args.head.req; body = c.args.body.now })) _ asked
    (rw (c.code.ensures, c.saturating_add.ensures) at c.write_ack.ensures.written) c.write_ack.ensures.len
