use Rattle.std.proofs.Common.{arith}
use Rattle.gvcp_wire.proofs.BodiesWritten.{writes_resend}
use Rattle.gvcp_wire.proofs.body_writing.write_resend.Goals as goal

pub returns-clause-read_again : goal.returns-clause-read_again
returns-clause-read_again c = writes_resend c.args.req c.args.resend c.requires (omega arith) c.body_of-body.ensures.fits
