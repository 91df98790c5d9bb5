-- From the setup to the stop.
use Rattle.std.proofs.Common.{subst, ◌∙◌}
use Rattle.buffer_words.specs.Boards.{board_id}
use Rattle.live_crew.proofs.Stopped.{comes_back}
use Rattle.lane_crew.specs.Kinds.{is_lane_readers}
use Rattle.lane_crew.proofs.Lists.{served_back}
use Rattle.lane_crew.proofs.Whole.{new_kept, crew_reads, crew_works}
use Rattle.lane_crew.specs.Tools.{AreMet, ends_in}
use Rattle.lane_crew.proofs.threads.read_by_lanes.Goals as goal

pub read_and_serve-served-requires-clause-kept : goal.read_and_serve-served-requires-clause-kept
read_and_serve-served-requires-clause-kept g c = λ κs within. new_kept 0 c.args.mine.lanes c.args.mine.reader (ends_in c.args.mine.tools.items) c.requires.new

pub bring_home-counts-requires-clause-back : goal.bring_home-counts-requires-clause-back
bring_home-counts-requires-clause-back g c =
    served_back c.args.mine.mode (board_id c.args.board.now) c.args.mine.lanes c.args.mine.tools.items c.read_and_serve-served.result.0.items c.requires.ready
    c.read_and_serve-served.ensures.served

pub returns-clause-reads : goal.returns-clause-reads
returns-clause-reads g c =
    crew_reads c.args.mine.mode c.args.mine.camera c.args.mine.own _ _ (board_id c.args.board.now) c.args.mine.lanes c.args.mine.reader c.read_and_serve-served.result.1.0.reader c.args.mine.tools.items
    c.read_and_serve-served.result.0.items c.args.mine.turns c.read_and_serve-served.result.1.1 c.stop-stopped.result c.args.pass
    c.read_and_serve-served.result.1.0.pass c.bring_home-counts.new.pass c.stop-stopped.new.pass c.requires.new c.requires.ready
    c.read_and_serve-served.ensures.reads c.read_and_serve-served.ensures.served c.bring_home-counts.ensures.enters c.bring_home-counts.ensures.joined
    (subst (λ us. AreMet us c.read_and_serve-served.result.0.items) c.bring_home-counts.ensures.same c.bring_home-counts.ensures.met) c.stop-stopped.ensures.entry

pub returns-clause-works : goal.returns-clause-works
returns-clause-works g c =
    crew_works c.args.mine.mode c.args.mine.camera c.args.mine.own _ _ c.args.mine.reader c.args.mine.tools.items c.args.mine.turns c.read_and_serve-served.result.1.1 c.args.pass
    c.stop-stopped.new.pass (returns-clause-reads g c)

pub returns-clause-back : goal.returns-clause-back
returns-clause-back g c =
    comes_back is_lane_readers c.args.pass c.stop-stopped.new.pass (returns-clause-works g c)
    (λ i. (c.stop-stopped.ensures.hands i).slot ∙ ((c.bring_home-counts.ensures.hands i).slot ∙ ((c.read_and_serve-served.ensures.hands i).slot ∙ c.requires.hands i)))
