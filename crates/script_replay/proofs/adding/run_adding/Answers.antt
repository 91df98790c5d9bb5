use Rattle.std.proofs.lemmas.Result.{on_ok_weaker}
use Rattle.gev_script.specs.Lines as script_line
use Rattle.gev_script.specs.Lines.{view}
use Rattle.acq_core.specs.Receiver.{config_of}
use Rattle.script_replay.proofs.Replaying.{none_open, drive_goes, start_goes, on_ok_two, open_goes, close_goes, call_goes}
use Rattle.script_replay.proofs.adding.run_adding.Goals as goal

pub start-requires-clause-none_open : goal.start-requires-clause-none_open
start-requires-clause-none_open c = λ stopped. none_open c.args.running.now c.requires.keeps stopped

pub returns-in-Start : goal.returns-in-Start
returns-in-Start c =
    rw c.in-Start.is
    (on_ok_weaker c.start.result
    (λ drives. start_goes c.args.running.now c.start.new.out.items c.start.new.board c.start.new.acq c.requires.keeps (drives c.args.running.now.counts) c.start.ensures.rest c.start.ensures.config)
    c.start.ensures.drives)

pub returns-in-Stop : goal.returns-in-Stop
returns-in-Stop c =
    rw c.in-Stop.is
    (on_ok_weaker c.stop.result
    (λ drives. drive_goes (script_line.stop c.in-Stop.flags) c.args.running.now c.stop.new.out.items c.stop.new.board c.stop.new.acq c.stop.new.counts c.requires.keeps drives c.stop.ensures.rest c.stop.ensures.config)
    c.stop.ensures.drives)

pub returns-in-Tick : goal.returns-in-Tick
returns-in-Tick c =
    rw c.in-Tick.is
    (on_ok_two c.tick.result
    (λ drives rest. drive_goes (script_line.tick c.in-Tick.moment) c.args.running.now c.tick.new.out.items c.tick.new.board c.tick.new.acq c.tick.new.counts c.requires.keeps drives rest c.tick.ensures.config)
    c.tick.ensures.drives c.tick.ensures.rest)

pub returns-in-OpenChild : goal.returns-in-OpenChild
returns-in-OpenChild c =
    rw c.in-OpenChild.is
    (on_ok_weaker c.open_child.result
    (λ told. open_goes c.in-OpenChild.parent c.in-OpenChild.index c.args.running.now c.open_child.new.out.items c.open_child.new.tree c.requires.keeps told c.open_child.ensures.after)
    c.open_child.ensures.text)

pub returns-in-CloseAll : goal.returns-in-CloseAll
returns-in-CloseAll c =
    rw c.in-CloseAll.is
    (on_ok_weaker c.close_all.result
    (λ closes. close_goes c.in-CloseAll.serial c.args.running.now c.close_all.new.out.items c.close_all.new.board c.close_all.new.tree c.requires.keeps closes c.close_all.ensures.after c.close_all.ensures.ready c.close_all.ensures.lifted)
    c.close_all.ensures.acts)

pub returns-in_default : goal.returns-in_default
returns-in_default c =
    let did = c.run_call.ensures (config_of c.args.running.now.acq) in
    on_ok_weaker c.run_call.result (λ acts_so. call_goes (view c.args.line) c.args.running.now c.run_call.new.out.items c.run_call.new.board c.requires.keeps acts_so did.ready did.lifted) did.acts
