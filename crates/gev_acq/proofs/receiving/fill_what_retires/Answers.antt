-- One datagram is one input, which is served by the fills of what retires.
use Rattle.std.proofs.Common.{refl}
use Rattle.acquisition_machine.specs.Machine.{datagram}
use Rattle.gev_acq.proofs.Serves.{serves_filled}
use Rattle.gev_acq.proofs.receiving.fill_what_retires.Goals as goal

pub returns-clause-tells : goal.returns-clause-tells
returns-clause-tells g c = record {
  need_is = c.datagram-need.ensures.need;
  serves = serves_filled c.args.mode c.args.acq.now c.datagram-need.new.self c.fill_all.new.acq (datagram c.args.bytes.now) c.args.pass.now c.fill_all.new.pass refl refl
      c.requires.fills c.datagram-need.ensures.takes c.fill_all.ensures.rest c.fill_all.ensures.enters;
}
