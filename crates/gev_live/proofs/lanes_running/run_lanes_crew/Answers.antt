use Rattle.std.proofs.Common.{◌∙◌, List, sym, subst}
use Rattle.buffer_words.proofs.Hands.{hands_then}
use Rattle.gev_lanes.specs.Sides.{LaneEnd, AreNew}
use Rattle.gev_live.proofs.Taking.{serves_new, applies_new}
use Rattle.gev_live.proofs.Splits.{splits_each, ends_same, as_many, are_ready, are_live, new_count, ends_count}
use Rattle.gev_live.proofs.LanesTaking.{lanes_new}
use Rattle.gev_live.proofs.lanes_running.run_lanes_crew.Goals as goal

pub work_with_lanes-requires-clause-new : goal.work_with_lanes-requires-clause-new
work_with_lanes-requires-clause-new g c = λ κs lives. subst (λ (l : List LaneEnd). AreNew 0 c.args.made.1.lanes c.args.made.1.reader l) (sym (ends_same _ _ _ _ _ c.split_lanes-tools.ensures.split)) c.requires.lanes.new

pub work_with_lanes-requires-clause-ready : goal.work_with_lanes-requires-clause-ready
work_with_lanes-requires-clause-ready g c = λ κs lives. are_ready _ _ _ _ _ _ c.requires.lanes.parts_new c.split_lanes-tools.ensures.split

pub returns-clause-hands : goal.returns-clause-hands
returns-clause-hands g c = hands_then c.args.pass.now c.split_lanes-tools.new.pass c.work_with_lanes.new.pass c.split_lanes-tools.ensures.hands c.work_with_lanes.ensures.hands

pub returns-clause-ran : goal.returns-clause-ran
returns-clause-ran g c =
    let r = c.work_with_lanes.ensures.ran in
    rw (← c.ends.view_is) (record {
      off = c.split_lanes-tools.new.pass;
      one = r.one;
      two = r.two;
      three = r.three;
      home = r.home;
      back = r.back;
      a = r.a;
      worked_a = r.worked_a;
      b = r.b;
      worked_b = r.worked_b;
      d = r.d;
      worked_d = r.worked_d;
      tools = c.split_lanes-tools.result.items;
      configs = are_live _ _ _ _ _ _ c.requires.lanes.parts_new c.split_lanes-tools.ensures.split;
      count = as_many _ _ _ _ _ c.split_lanes-tools.ensures.split ∙ (sym (ends_count _) ∙ (new_count _ _ _ _ c.requires.lanes.new ∙ c.requires.lanes.count));
      crew = record {
        number = c.requires.first;
        run = c.witness.ensures.run;
        childless = c.requires.childless;
        lanes_off = splits_each _ _ _ _ _ c.split_lanes-tools.ensures.split;
        first = r.first;
        second = r.second;
        third = r.third;
        ended_run = r.ended_run;
        actor = r.actor;
      };
      camera_works = r.did_first.1;
      serves = serves_new _ _ _ _ _ _ _ _ _ c.requires.camera r.did_first.0;
      client = c.work_with_lanes.result.1.host.client;
      queues = c.args.made.1.lanes;
      sides = c.args.made.1.reader;
      sides_new = subst (λ (l : List LaneEnd). AreNew 0 c.args.made.1.lanes c.args.made.1.reader l) (sym (ends_same _ _ _ _ _ c.split_lanes-tools.ensures.split)) c.requires.lanes.new;
      reader_works = r.did_second.1;
      reads = lanes_new _ _ _ _ _ _ _ _ _ _ _ _ _ _ _ _ _ _ c.peer-peer.ensures c.peer-own.ensures c.new.ensures.new r.did_second.0;
      faults = r.did_second.2;
      application_works = r.did_third.1;
      applies = applies_new _ _ _ _ _ _ _ _ _ c.new-2.ensures.items r.did_third.0;
      owned = r.owned;
      legal = r.legal;
    })
