use Rattle.std.proofs.Common.{arith}
use Rattle.gev_record.proofs.Answering.{known_ok}
use Rattle.gev_record.proofs.Digits.{fits}
use Rattle.gev_record.proofs.lines.add_datagram.Goals as goal

pub add_line-requires : goal.add_line-requires
add_line-requires c =
    fits c.args.bytes.now c.encode_to_slice.new.output (λ i. (let small = c.type_inv.bytes i in omega arith)) c.requires.some c.requires.short
    (known_ok c.encode_to_slice.result c.unwrap.result c.encode_to_slice.ensures.written c.unwrap.ensures)
