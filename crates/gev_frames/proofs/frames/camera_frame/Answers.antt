use Rattle.gev_frames.proofs.Draws.{rows_fit}
use Rattle.gev_frames.proofs.frames.camera_frame.Goals as goal

pub short_frame_of-requires-clause-some : goal.short_frame_of-requires-clause-some
short_frame_of-requires-clause-some c = rw c.rows_of.ensures (rows_fit c.args.short c.args.block c.args.shape c.requires.fits c.requires.lines).0

pub short_frame_of-requires-clause-at_most : goal.short_frame_of-requires-clause-at_most
short_frame_of-requires-clause-at_most c = rw c.rows_of.ensures (rows_fit c.args.short c.args.block c.args.shape c.requires.fits c.requires.lines).1
