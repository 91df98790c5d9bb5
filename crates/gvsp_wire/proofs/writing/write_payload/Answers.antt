use Rattle.gvsp_wire.proofs.Spellings.{payload_read_again}
use Rattle.gvsp_wire.proofs.writing.write_payload.Goals as goal

pub returns-clause-read_again : goal.returns-clause-read_again
returns-clause-read_again c = payload_read_again c.args.head c.args.bytes.now c.requires.form c.write_header.ensures.fits
