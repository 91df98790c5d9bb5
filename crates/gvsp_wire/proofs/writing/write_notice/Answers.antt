use Rattle.gvsp_wire.proofs.Spellings.{notice_read_again}
use Rattle.gvsp_wire.proofs.writing.write_notice.Goals as goal

pub returns-clause-read_again : goal.returns-clause-read_again
returns-clause-read_again c = λ block. notice_read_again c.args.head c.requires.status block c.write_header.ensures.fits
