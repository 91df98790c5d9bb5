use Rattle.gvsp_wire.proofs.Spellings.{leader_read_again}
use Rattle.gvsp_wire.proofs.Writings.{leader_parts, info_fits}
use Rattle.gvsp_wire.proofs.writing.write_leader.Goals as goal

pub returns-clause-written : goal.returns-clause-written
returns-clause-written c =
    leader_parts c.args.out.now c.args.head c.args.info c.write_header.new.out c.write_kind.new.out c.write_region.new.out c.requires.room
    c.write_header.ensures.written c.write_kind.ensures.written c.write_region.ensures.written

pub returns-clause-read_again : goal.returns-clause-read_again
returns-clause-read_again c =
    leader_read_again c.args.head c.args.info c.requires.form c.write_header.ensures.fits
    (info_fits c.args.info c.write_kind.ensures.fits c.write_region.ensures.fits)
