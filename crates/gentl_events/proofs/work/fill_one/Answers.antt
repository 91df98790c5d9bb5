use Rattle.std.proofs.Common.{refl}
use Rattle.board_machine.specs.declared.events.Event.TheVariants.{Claim}
use Rattle.buffer_words.proofs.Working.{works_enters}
use Rattle.gentl_events.specs.Kinds.{is_fillers}
use Rattle.gentl_events.proofs.Acting.{claims_and_fills, then_lays}
use Rattle.gentl_events.proofs.work.fill_one.Goals as goal

pub returns-in_default-clause-works : goal.returns-in_default-clause-works
returns-in_default-clause-works g c = works_enters is_fillers _ _ (Claim _) refl c.in_default.ensures.entry

pub returns-in-Filled-clause-works : goal.returns-in-Filled-clause-works
returns-in-Filled-clause-works g c = claims_and_fills _ _ _ _ _ _ _ _ c.in-Some.ensures.entry c.lift-buf.ensures.stays c.in-Filled.ensures.entry

pub returns-in-Closed-clause-works : goal.returns-in-Closed-clause-works
returns-in-Closed-clause-works g c =
    then_lays _ _ _ _ _ (claims_and_fills _ _ _ _ _ _ _ _ c.in-Some.ensures.entry c.lift-buf.ensures.stays c.in-Closed.ensures.entry)
    c.set_down.ensures.stays c.lay.ensures.entry
