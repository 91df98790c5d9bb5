-- The laws of the crate.
use Rattle.std.proofs.Common.{◌≡◌, ℕ, length, ap, sym, subst, ◌∙◌, arith, ◌-◌, ◌++◌}
use Rattle.gev_types.specs.Filling.{Filling}
use Rattle.block_image.specs.Image.{extent_in}
use Rattle.block_image.proofs.PlainSteps.{image_len-le}
use Rattle.frame_pictures.proofs.Truth.{held_frames_are_shown, bytes_in_place_are_shown}
use Rattle.board_machine.specs.Machine.{Item}
use Rattle.acquisition_machine.specs.Blocks.{Open, kept_in, filling_in}
use Rattle.script_trace.specs.Trace.{Trace, Part}
use Rattle.script_trace.specs.BoardLines.{TakesBuffer, TakesNothing}
use Rattle.script_trace.specs.Modes.{handed_out}
use Rattle.script_runs.specs.Runs.{RunsLines}
use Rattle.script_trace.specs.Standing.{first, ReplayRuns}
use Rattle.script_image.specs.Taking.{beginning}
use Rattle.script_image.specs.Laws.{TakesAreCounted, TakenBuffersAreHandedSo, ShowsBlock, PicturesShowBlocks}
use Rattle.script_image.proofs.Looping.{replay_lines}
use Rattle.script_image.proofs.Going.{handed_one, handed_none}
use Rattle.script_image.proofs.Leading.{taken_so}

one_more : (t : Trace) (moment : ℕ) (part : Part) → TakesBuffer t moment part → length (handed_out (t.entries ++ part.entries)) - length (handed_out t.entries) ≡ 1
one_more t moment part takes = let e = handed_one t moment part takes in omega (arith, e)

no_more : (t : Trace) (moment : ℕ) (part : Part) → TakesNothing t moment part → length (handed_out (t.entries ++ part.entries)) - length (handed_out t.entries) ≡ 0
no_more t moment part nothing =
    let e =
    ap (λ (p : Part). length (handed_out (t.entries ++ p.entries))) nothing.calls.is ∙ handed_none t moment nothing.refusal nothing.calls.events nothing.calls.kind in
    omega (arith, e)

pub takes_are_counted : TakesAreCounted
takes_are_counted = record { one = λ c w v t moment part takes. one_more t moment part takes; none = λ c w v t moment part nothing. no_more t moment part nothing }

pub taken_buffers_are_handed_so : TakenBuffersAreHandedSo
taken_buffers_are_handed_so wanted c w t now lines shown moment part are ran is takes =
    let told = replay_lines wanted beginning now 0 lines shown ran in
    taken_so c w t lines told.0 moment part are (subst (λ x. RunsLines ReplayRuns first 0 lines told.0 x) is told.1) takes

pub pictures_show_blocks : PicturesShowBlocks
pictures_show_blocks c inputs x r frames sent =
    let p : ℕ = c.p in
    let o : Open = r.block.was in
    let f : Filling = filling_in p r.block r.given in
    let holds = r.holds frames sent in
    subst (λ (y : Item). ShowsBlock frames p o y.filling) (sym r.is)
    (record {
      complete = λ whole. held_frames_are_shown frames o.block f (holds.complete whole);
      came = λ frame is. bytes_in_place_are_shown frames p o.block r.given.size (kept_in p o) f frame holds.in_place (image_len-le p r.given.size (kept_in p o) (extent_in (kept_in p o))) is;
      tells = λ frame info is told. holds.tells frame info is told;
    })
