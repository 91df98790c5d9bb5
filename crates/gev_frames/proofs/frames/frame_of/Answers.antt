use Rattle.std.proofs.Common.{◌≡◌, IfOk, subst}
use Rattle.gev_types.specs.declared.frame.Frame.{Frame}
use Rattle.gev_frames.proofs.Draws.{drawn_all, lines_are_some}
use Rattle.gev_frames.proofs.frames.frame_of.Goals as goal

pub frame_with-requires-clause-some : goal.frame_with-requires-clause-some
frame_with-requires-clause-some c = lines_are_some c.args.shape c.requires

pub returns-clause-made : goal.returns-clause-made
returns-clause-made c =
    subst (λ (f : Frame). IfOk c.frame_with.result (λ frame. frame ≡ f)) (drawn_all c.args.seed c.args.block c.args.shape) c.frame_with.ensures.made
