-- What arrives at the client and at the host.
use Rattle.std.proofs.Common.{◌≡◌, List, [], ◌∷◌, Option, Some, None, refl, sym, ap, subst, ◌∙◌}
use Rattle.lossy_queue.specs.declared.datagram.Datagram.{Datagram}
use Rattle.world_laws.specs.Receiver.{Receiver, soak_host}
use Rattle.soak_receiver.specs.Standing.{Hosting}
use Rattle.world_machine.specs.State.{World}
use Rattle.world_machine.specs.ClientTurn.{End, Passed}
use Rattle.world_machine.specs.HostTurn.{arrives, unless_ended, arrive_all}
use Rattle.world_machine.specs.HostActs.{HostAct, with_hearing, with_hearings}
use Rattle.gev_world.specs.declared.stage.Stage.{Stage}
use Rattle.gev_world.specs.declared.run_end.RunEnd.{RunEnd}
use Rattle.gev_world.specs.Ends.{meant_if}
use Rattle.gev_world.specs.Hosts.{PassedTo, Arrives, ArriveAll, StandsOn, Arriving, HostTurns}

-- it ends the run, or the run goes on with the others
passes_as : (v : World Receiver) (d : Datagram) (rest : List Datagram) (o : Option End) → o ≡ (arrives soak_host v d.channel d.bytes).end
    → arrive_all soak_host v (d ∷ rest)
    ≡ unless_ended o (arrives soak_host v d.channel d.bytes) (arrive_all soak_host (arrives soak_host v d.channel d.bytes).world rest)
passes_as v d rest o e =
    ap (λ (p : Option End). unless_ended p (arrives soak_host v d.channel d.bytes) (arrive_all soak_host (arrives soak_host v d.channel d.bytes).world rest)) (sym e)

acts_as : (v : World Receiver) (d : Datagram) (rest : List Datagram) (more : List HostAct) (o : Option End) → o ≡ (arrives soak_host v d.channel d.bytes).end
    → with_hearings soak_host v (d ∷ rest) more
    ≡ unless_ended o (with_hearing d.channel d.bytes more)
    (with_hearings soak_host (arrives soak_host v d.channel d.bytes).world rest (with_hearing d.channel d.bytes more))
acts_as v d rest more o e =
    ap (λ (p : Option End). unless_ended p (with_hearing d.channel d.bytes more)
    (with_hearings soak_host (arrives soak_host v d.channel d.bytes).world rest (with_hearing d.channel d.bytes more))) (sym e)

-- ---- the loop over what arrives

pub arrived_last : (s now t : Stage) (h j i : Hosting) (all arriving : List Datagram) (d : Datagram) (rest : List Datagram) (end : RunEnd) → arriving ≡ d ∷ rest
    → Arriving s now h j all arriving → Arrives now j d (Some end) t i → ArriveAll s h all (Some end) t i
arrived_last s now t h j i all arriving d rest end is far one = record {
  run = one.run ∙ far.run;
  between = λ b. one.between (far.between b);
  passed = λ acts w stands. go acts w (far.on acts w stands);
}
  where
    go : (acts : List HostAct) (w : World Receiver) → StandsOn now j all arriving w acts → PassedTo (Some end) (arrive_all soak_host w all) (with_hearings soak_host w all acts) t i
    go acts w on =
        let here = one.passed on.more on.world on.stands in
        let passes : arrives soak_host on.world d.channel d.bytes ≡ arrive_all soak_host w all =
        sym (passes_as on.world d rest (meant_if (Some end)) here.ends) ∙ ap (λ ds. arrive_all soak_host on.world ds) (sym is) ∙ on.leads.passes in
        let acts_are : with_hearing d.channel d.bytes on.more ≡ with_hearings soak_host w all acts =
        sym (acts_as on.world d rest on.more (meant_if (Some end)) here.ends) ∙ ap (λ ds. with_hearings soak_host on.world ds on.more) (sym is) ∙ on.leads.acts_are in
        subst (λ (x : Passed Receiver). PassedTo (Some end) x (with_hearings soak_host w all acts) t i) passes
        (subst (λ (more : List HostAct). PassedTo (Some end) (arrives soak_host on.world d.channel d.bytes) more t i) acts_are here)

pub arriving_on : (s now t : Stage) (h j i : Hosting) (all arriving : List Datagram) (d : Datagram) (rest : List Datagram) → arriving ≡ d ∷ rest
    → Arriving s now h j all arriving → Arrives now j d None t i → Arriving s t h i all rest
arriving_on s now t h j i all arriving d rest is far one = record {
  run = one.run ∙ far.run;
  between = λ b. one.between (far.between b);
  on = λ acts w stands. go acts w (far.on acts w stands);
}
  where
    go : (acts : List HostAct) (w : World Receiver) → StandsOn now j all arriving w acts → StandsOn t i all rest w acts
    go acts w on =
        let here = one.passed on.more on.world on.stands in
        record {
          more = with_hearing d.channel d.bytes on.more;
          world = (arrives soak_host on.world d.channel d.bytes).world;
          stands = here.stands;
          leads = record {
            passes = sym (passes_as on.world d rest None here.ends) ∙ ap (λ ds. arrive_all soak_host on.world ds) (sym is) ∙ on.leads.passes;
            acts_are = sym (acts_as on.world d rest on.more None here.ends) ∙ ap (λ ds. with_hearings soak_host on.world ds on.more) (sym is) ∙ on.leads.acts_are;
          };
        }

pub arrived_all : (s now : Stage) (h j : Hosting) (all arriving : List Datagram) → arriving ≡ [] → Arriving s now h j all arriving → ArriveAll s h all None now j
arrived_all s now h j all arriving is far = record { run = far.run; between = far.between; passed = λ acts w stands. go acts w (far.on acts w stands) }
  where
    go : (acts : List HostAct) (w : World Receiver) → StandsOn now j all arriving w acts → PassedTo None (arrive_all soak_host w all) (with_hearings soak_host w all acts) now j
    go acts w on =
        let passes : record { world = on.world; end = None } ≡ arrive_all soak_host w all =
        ap (λ ds. arrive_all soak_host on.world ds) (sym is) ∙ on.leads.passes in
        let acts_are : on.more ≡ with_hearings soak_host w all acts = ap (λ ds. with_hearings soak_host on.world ds on.more) (sym is) ∙ on.leads.acts_are in
        subst (λ (x : Passed Receiver). PassedTo None x (with_hearings soak_host w all acts) now j) passes
        (subst (λ (more : List HostAct). PassedTo None (record { world = on.world; end = None }) more now j) acts_are (record { stands = on.stands; ends = refl }))

-- ---- the turn

-- what is on its way is taken out of the queue, and arrives
pub host_turned : (s t : Stage) (h i : Hosting) (end : Option RunEnd) (queue ds : List Datagram) → queue ≡ [] → ds ≡ s.to_host
    → ArriveAll (record s { to_host = queue }) h ds end t i → HostTurns s h end t i
host_turned s t h i end queue ds none all_of all = record {
  run = all.run;
  between = λ b. all.between (record { begun = b.begun; idle = b.idle; counted = b.counted });
  passed = λ acts w stands.
      subst (λ (more : List Datagram). PassedTo end (arrive_all soak_host (record w { to_host = [] }) more) (with_hearings soak_host (record w { to_host = [] }) more acts) t i)
      (all_of ∙ sym (ap (λ (v : World Receiver). v.to_host) stands.is))
      (subst (λ (q : List Datagram). PassedTo end (arrive_all soak_host (record w { to_host = q }) ds) (with_hearings soak_host (record w { to_host = q }) ds acts) t i) none
      (all.passed acts (record w { to_host = queue }) (record { hosts = stands.hosts; is = ap (λ (v : World Receiver). record v { to_host = queue }) stands.is })));
}
