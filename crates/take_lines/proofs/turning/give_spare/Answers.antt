use Rattle.std.proofs.Common.{◌≡◌, List, ◌∷◌, [], ◌++◌, ◌∙◌, Some, subst, length}
use Rattle.gev_types.specs.Filling.{Filling}
use Rattle.acquisition_machine.specs.Machine.{claimed}
use Rattle.acq_core.specs.Receiver.{asked_block}
use Rattle.take_lines.specs.Pool.{HasBuffers}
use Rattle.take_lines.proofs.Buffers.{has_given, block_asked, last_sized}
use Rattle.take_lines.proofs.Turns.{plays_given}
use Rattle.take_lines.proofs.turning.give_spare.Goals as goal

pub returns-clause-plays : goal.returns-clause-plays
returns-clause-plays c =
    plays_given c.args.size c.args.place c.args.acq.now c.give.new.self c.in-Some.buf
    (last_sized c.args.size c.args.spare.now.items c.pop.new.self.items c.in-Some.buf c.in-Some.ensures.items c.requires.playing.has.spare_sized)
    c.give.ensures.takes

pub returns-clause-playing : goal.returns-clause-playing
returns-clause-playing c =
    let playing = c.requires.playing in
    let asked = block_asked (asked_block c.args.acq.now) c.requires.asked in
    let spare : c.args.spare.now.items ≡ c.pop.new.self.items ++ c.in-Some.buf ∷ [] = c.in-Some.ensures.items in
    record {
      inputs = playing.inputs ++ claimed (Some (record { place = c.args.place; size = length c.in-Some.buf.bytes })) ∷ [];
      stands = c.give.ensures.takes.stands playing.inputs playing.stands;
      no_fill = c.give.ensures.fills ∙ playing.no_fill;
      no_request = c.give.ensures.requests ∙ playing.no_request;
      has =
          has_given c.args.size c.args.place c.args.acq.now c.give.new.self c.pop.new.self.items c.in-Some.buf asked.0 playing.no_fill (c.give.ensures.fills ∙ playing.no_fill) asked.1
          c.give.ensures.takes.config c.give.ensures.buffers (subst (λ (fs : List Filling). HasBuffers c.args.size c.args.acq.now fs) spare playing.has);
    }
