use Rattle.std.proofs.Common.{◌∙◌}
use Rattle.gev_links.proofs.Sendings.{sent_slice}
use Rattle.gev_links.proofs.writing.write_all.Goals as goal

pub loop-rest-preserved : goal.loop-rest-preserved
loop-rest-preserved g c = record {
  sent = sent_slice _ _ _ c.args.text.now c.loop-rest.rest.now c.in_ok-count.count c.loop-rest.invariant.sent c.in_ok-count.ensures.written;
  faults = c.in_ok-count.ensures.no_fault ∙ c.loop-rest.invariant.faults;
}
