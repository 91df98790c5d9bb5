use Rattle.std.proofs.Common.{refl}
use Rattle.gev_live.proofs.Taking.{reads_new, serves_new, applies_new}
use Rattle.gev_live.proofs.running.run_crew.Goals as goal

pub returns-clause-ran : goal.returns-clause-ran
returns-clause-ran g c =
    let r = c.work_with_reader.ensures.ran in
    rw (← c.ends.view_is) (
      record {
        one = r.one;
        two = r.two;
        three = r.three;
        home = r.home;
        back = r.back;
        a = r.a;
        worked_a = r.worked_a;
        b = r.b;
        worked_b = r.worked_b;
        d = r.d;
        worked_d = r.worked_d;
        crew = record {
          number = c.requires.first;
          run = r.run;
          childless = c.requires.childless;
          first = r.first;
          second = r.second;
          third = r.third;
          ended_run = r.ended_run;
          actor = r.actor;
        };
        camera_works = r.did_first.1;
        serves = serves_new _ _ _ _ _ _ _ _ _ c.requires.made.camera_is r.did_first.0;
        client = c.work_with_reader.result.1.host.client;
        journal = c.work_with_reader.result.1.journal.items;
        reader_works = r.did_second.1;
        reads = reads_new _ _ _ _ _ _ _ _ _ _ _ _ _ _ _ _ _ _ _ _ _ c.requires.made.receiver_new.config c.peer-peer.ensures c.peer-own.ensures c.new.ensures.new c.requires.made.unwritten r.did_second.0;
        faults = r.did_second.2;
        application_works = r.did_third.1;
        applies = applies_new _ _ _ _ _ _ _ _ _ c.new-2.ensures.items r.did_third.0;
        owned = r.owned;
        legal = r.legal;
      },
      refl,
    )
