use Rattle.std.proofs.Common.{arith}
use Rattle.soak_receiver.proofs.Listening.{heard_moves, heard_hosting}
use Rattle.soak_receiver.proofs.hearing.receive_datagram.Goals as goal

pub returns : goal.returns
returns c = record {
  moves = heard_moves c.args.running.now c.args.bytes.now c.receive.new.board c.receive.new.acq c.receive.new.counts c.requires (λ i. let fits = c.type_inv.bytes i in omega arith) c.receive.ensures.drives c.receive.ensures.rest c.receive.ensures.config;
  hosting = heard_hosting c.args.running.now c.args.bytes.now c.receive.new.board c.receive.new.acq c.receive.new.counts c.requires (λ i. let fits = c.type_inv.bytes i in omega arith) c.receive.ensures.drives c.receive.ensures.rest c.receive.ensures.config;
}
