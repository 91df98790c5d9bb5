use Rattle.std.proofs.Common.{inl, inr, refl, rules, ◌∙◌}
use Rattle.acq_core.specs.Receiver.{config_of}
use Rattle.gev_receive.proofs.Alone.{two_alone}
use Rattle.gev_receive.proofs.MeetingLaws.{none_seen}
use Rattle.gev_receive.proofs.Never.{never_made, never_prepared}
use Rattle.gev_receive.proofs.RanAll.{ran_frames}
use Rattle.gev_receive.proofs.frames.run_frames.Goals as goal

pub returns-clause-alone : goal.returns-clause-alone
returns-clause-alone g c =
    two_alone c.mode_of.result _ _ c.prepare.new.pass c.work_two-read.new.pass c.prepare.ensures.first c.prepare.ensures.childless c.work_two-read.ensures.ran
    (λ _ _ did. did.1) (λ _ _ did. did.1)

pub returns-then-not-has_thread-clause-runs : goal.returns-then-not-has_thread-clause-runs
returns-then-not-has_thread-clause-runs g c =
    inr (never_made c.args.asked.settings.now c.args.asked.leader _ _ _ _ _ _ _ _ _ _ _ c.requires.within.buffers.0 c.ran_none.ensures.ended c.ran_none.ensures.counts
    (none_seen c.args.kept.now c.requires.unkept))

pub returns-in_default-clause-runs : goal.returns-in_default-clause-runs
returns-in_default-clause-runs g c =
    inr (never_made c.args.asked.settings.now c.args.asked.leader _ _ _ _ _ _ _ _ _ _ _ c.requires.within.buffers.0 c.ran_none-in_default.ensures.ended c.ran_none-in_default.ensures.counts
    (none_seen c.args.kept.now c.requires.unkept))

pub returns-in_default-new-clause-runs : goal.returns-in_default-new-clause-runs
returns-in_default-new-clause-runs g c =
    inr (never_made c.args.asked.settings.now c.args.asked.leader _ _ _ _ _ _ _ _ _ _ _ c.requires.within.buffers.0 c.ran_none-in_default-new.ensures.ended c.ran_none-in_default-new.ensures.counts
    (none_seen c.args.kept.now c.requires.unkept))

pub returns-then-is_err-clause-runs : goal.returns-then-is_err-clause-runs
returns-then-is_err-clause-runs g c =
    inr (never_prepared c.args.asked.settings.now c.args.asked.leader _ _ _ _ _ _ _ _ _ _ c.from-size.result c.prepare.new.pass (search rules) (search rules) c.witness.ensures.run
    c.ran_none-then-is_err.ensures.ended c.ran_none-then-is_err.ensures.counts)

pub returns-clause-runs : goal.returns-clause-runs
returns-clause-runs g c =
    inl (ran_frames c.args.asked.settings.now c.args.asked.camera c.args.asked.leader c.args.asked.resends _ _ _ _ _ _ _ _ _ _ _ _ _ _ _ _
    c.work_two-read.result.0.end c.work_two-read.result.1.handed c.work_two-read.result.0.counts _ _ c.prepare.new.pass c.work_two-read.new.pass
    c.mode_of.result (config_of c.in-Ok.acq) c.args.asked.leader.ids c.from.result c.args.sides.outlet.frames c.args.sides.outlet.output c.args.sides.outlet.watch.on c.from-size.result
    c.mode_of.ensures (c.in-Ok.ensures.config ∙ c.config_of.ensures.value) refl (search rules) c.requires.frames c.requires.output c.requires.watch (search rules)
    (search rules) c.prepare.ensures.first c.prepare.ensures.childless c.work_two-read.ensures.ran c.ran_so-ran.ensures.ended c.ran_so-ran.ensures.counts)
