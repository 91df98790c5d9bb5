use Rattle.std.proofs.Common.{◌≡◌, ℕ, ◌+◌, ◌%◌, ◌^◌, List, ap, sym, ◌∙◌, subst, rules}
use Rattle.gev_types.specs.FrameSize.{IsFrame}
use Rattle.gev_frames.specs.Generator.{noise}
use Rattle.gev_frames.specs.Frames.{rows_size, short_frame_of}
use Rattle.gev_frames.proofs.Draws.{drawn_short, short_is_frame}
use Rattle.gev_frames.proofs.frames.frame_with.Goals as goal

pixels : (c : goal.After-of) → (short_frame_of c.args.seed c.args.block c.args.shape c.args.rows).pixels ≡ c.of.result
pixels c =
    let drawn : c.of.result ≡ noise (rows_size c.args.shape c.args.rows) ((c.args.seed + c.args.block) % 2 ^ 64) = search rules in
    drawn_short c.args.seed c.args.block c.args.shape c.args.rows c.requires.at_most ∙ sym drawn

pub returns-clause-made : goal.returns-clause-made
returns-clause-made c =
    ap (λ (bytes : List ℕ). record (short_frame_of c.args.seed c.args.block c.args.shape c.args.rows) { pixels = bytes }) (sym (pixels c))

pub returns-clause-valid : goal.returns-clause-valid
returns-clause-valid c =
    subst (λ (bytes : List ℕ). IsFrame (record (short_frame_of c.args.seed c.args.block c.args.shape c.args.rows) { pixels = bytes })) (pixels c)
    (short_is_frame c.args.seed c.args.block c.args.shape c.args.rows c.requires.some c.requires.at_most c.requires.fits)
