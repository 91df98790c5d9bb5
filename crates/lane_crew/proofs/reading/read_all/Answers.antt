-- The setup alone, or the turns after it.
use Rattle.std.proofs.Common.{length}
use Rattle.gev_control.specs.Ends.{is_fault_end}
use Rattle.lane_crew.proofs.FromSetup.{ends_early, then_turns, faults_early, faults_then}
use Rattle.lane_crew.proofs.reading.read_all.Goals as goal

pub setup-end-requires : goal.setup-end-requires
setup-end-requires g c = c.requires.client

pub read_lanes-requires-clause-table : goal.read_lanes-requires-clause-table
read_lanes-requires-clause-table g c = c.requires.table

pub read_lanes-requires-clause-reader : goal.read_lanes-requires-clause-reader
read_lanes-requires-clause-reader g c = c.requires.reader

pub read_lanes-requires-clause-some : goal.read_lanes-requires-clause-some
read_lanes-requires-clause-some g c = c.requires.some

pub read_lanes-requires-clause-kept : goal.read_lanes-requires-clause-kept
read_lanes-requires-clause-kept g c = c.requires.kept

pub returns-in-Stopped-clause-reader : goal.returns-in-Stopped-clause-reader
returns-in-Stopped-clause-reader g c = c.read_lanes.ensures.reader

pub returns-in-Stopped-clause-reads : goal.returns-in-Stopped-clause-reads
returns-in-Stopped-clause-reads g c =
    then_turns (length c.args.lanes.now) c.args.mine.now.camera c.args.mine.now.own (g.S.Link.received c.args.mine.now.host.stream) (g.S.Link.received c.read_lanes.new.stream)
    (g.M.Link.received c.args.mine.now.host.control) (g.M.Link.received c.setup-end.new.control) (g.M.Link.received c.read_lanes.new.control)
    (g.M.Link.sent c.args.mine.now.host.control) (g.M.Link.sent c.setup-end.new.control) (g.M.Link.sent c.read_lanes.new.control) (g.C.Clock.told c.args.mine.now.host.clock)
    (g.C.Clock.told c.setup-end.new.clock) (g.C.Clock.told c.read_lanes.new.clock) c.args.mine.now.host.client c.setup-end.new.client c.read_lanes.new.client c.args.mine.now.turns
    c.read_lanes.result c.args.mine.now.reader c.read_lanes.new.reader c.args.mine.now.pass c.read_lanes.new.pass c.in-Stopped.ensures.sets_up
    c.read_lanes.ensures.reads

pub returns-in-Stopped-clause-faults : goal.returns-in-Stopped-clause-faults
returns-in-Stopped-clause-faults g c =
    faults_then (is_fault_end c.read_lanes.result) (g.S.Link.faults c.args.mine.now.host.stream) (g.S.Link.faults c.read_lanes.new.stream) (g.M.Link.faults c.args.mine.now.host.control)
    (g.M.Link.faults c.setup-end.new.control) (g.M.Link.faults c.read_lanes.new.control) c.in-Stopped.ensures.fails c.read_lanes.ensures.faults

pub returns-in-Stopped-clause-table : goal.returns-in-Stopped-clause-table
returns-in-Stopped-clause-table g c = c.read_lanes.ensures.table

pub returns-in-Stopped-clause-hands : goal.returns-in-Stopped-clause-hands
returns-in-Stopped-clause-hands g c = c.read_lanes.ensures.hands

pub returns-in_default-clause-reader : goal.returns-in_default-clause-reader
returns-in_default-clause-reader g c = c.end_lanes.ensures.reader

pub returns-in_default-clause-reads : goal.returns-in_default-clause-reads
returns-in_default-clause-reads g c =
    ends_early (length c.args.lanes.now) c.args.mine.now.camera c.args.mine.now.own (g.S.Link.received c.args.mine.now.host.stream) (g.M.Link.received c.args.mine.now.host.control)
    (g.M.Link.received c.setup-end.new.control) (g.M.Link.sent c.args.mine.now.host.control) (g.M.Link.sent c.setup-end.new.control) (g.C.Clock.told c.args.mine.now.host.clock)
    (g.C.Clock.told c.setup-end.new.clock) c.args.mine.now.host.client c.setup-end.new.client c.args.mine.now.turns c.setup-end.result c.args.mine.now.reader c.end_lanes.new.reader
    c.args.mine.now.pass c.in_default.not-Stopped c.setup-end.ensures.sets_up c.end_lanes.ensures.ends

pub returns-in_default-clause-faults : goal.returns-in_default-clause-faults
returns-in_default-clause-faults g c =
    faults_early (is_fault_end c.setup-end.result) (g.S.Link.faults c.args.mine.now.host.stream) (g.M.Link.faults c.args.mine.now.host.control) (g.M.Link.faults c.setup-end.new.control)
    c.setup-end.ensures.fails
