use Rattle.std.proofs.Common.{ℕ, List, ◌≡◌, ap, ◌∙◌, subst}
use Rattle.std.specs.Result.{OnOk}
use Rattle.stream_packets.specs.declared.fields.Head.{Head}
use Rattle.stream_packets.specs.Packets.{payload}
use Rattle.gvsp_wire.specs.Plain.{plain}
use Rattle.gev_make.specs.Network.{carried}
use Rattle.gev_make.proofs.Carrying.{take_written}
use Rattle.gev_make.proofs.packets.carry_payload.Goals as goal

pub returns : goal.returns
returns c =
    subst (λ (bytes : List ℕ). OnOk c.carry.result (c.carry.new.network ≡ carried c.args.network.now bytes))
    (take_written (plain (payload c.head.result c.args.bytes.now)) c.write_payload-len.new.out _ c.write_payload-len.result
    c.write_payload-len.ensures.written c.write_payload-len.ensures.len
    ∙ ap (λ (h : Head). plain (payload h c.args.bytes.now)) c.head.ensures)
    c.carry.ensures
