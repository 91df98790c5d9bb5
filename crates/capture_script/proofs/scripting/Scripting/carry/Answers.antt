use Rattle.std.proofs.Common.{refl, arith}
use Rattle.std.proofs.lemmas.Result.{on_ok_weaker}
use Rattle.capture_script.proofs.Spelled.{datagram_fits}
use Rattle.capture_script.proofs.Adding.{carry_adds}
use Rattle.capture_script.proofs.scripting.Scripting.carry.Goals as goal

pub returns : goal.returns
returns c =
    on_ok_weaker c.add_takes.result
    (λ text s. carry_adds _ c.args.self.now _ c.args.bytes.now c.receive.result s c.args.out.now.items c.add_datagram.new.out.items c.add_takes.new.out.items c.self.view_is refl refl c.receive.ensures c.in_ok-add_datagram.ensures text)
    c.add_takes.ensures

pub add_datagram-requires-clause-fits : goal.add_datagram-requires-clause-fits
add_datagram-requires-clause-fits c = datagram_fits c.args.bytes.now (λ i. omega (arith, c.type_inv.bytes i)) c.requires.some c.requires.few
