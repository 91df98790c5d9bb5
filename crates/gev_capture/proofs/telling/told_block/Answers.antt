use Rattle.gev_capture.proofs.telling.told_block.Goals as goal

pub returns-then-u32_in-eq-SECTION_TYPE-clause-sound : goal.returns-then-u32_in-eq-SECTION_TYPE-clause-sound
returns-then-u32_in-eq-SECTION_TYPE-clause-sound c = c.begun_section.ensures.sound c.args.interfaces.now
