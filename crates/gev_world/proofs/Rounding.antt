-- The parts of a round make the round.
use Rattle.std.proofs.Common.{◌≡◌, ℕ, List, [], ◌∷◌, ◌++◌, Option, Some, None, Result, Ok, Err, refl, sym, ap, subst, ◌∙◌}
use Rattle.gev_make.specs.declared.stop.Stop.{Stop}
use Rattle.gev_make.specs.Writing.{Writes}
use Rattle.gev_make.proofs.Texts.{Appends-none}
use Rattle.gev_script.specs.Lines.{ScriptLine}
use Rattle.world_laws.specs.Receiver.{Receiver, soak_host, start, waiting}
use Rattle.soak_receiver.specs.Standing.{Hosting, HostStands}
use Rattle.world_machine.specs.State.{Run, World}
use Rattle.world_machine.specs.ClientTurn.{End, client_turn}
use Rattle.world_machine.specs.CameraTurn.{camera_turn, makes}
use Rattle.world_machine.specs.HostTurn.{host_turn, asks, takes}
use Rattle.world_machine.specs.Rounds.{rises, closes, from_host, from_camera, round}
use Rattle.world_machine.specs.HostActs.{HostAct, host_ticks, host_takes, host_after, with_hearings, with_host_turn, with_host_rest, with_host_round}
use Rattle.world_laws.specs.SoakApplication.{soak_takes}
use Rattle.gev_world.specs.declared.stage.Stage.{Stage}
use Rattle.gev_world.specs.declared.run_end.RunEnd.{RunEnd}
use Rattle.gev_world.specs.Seen.{run_of, world_of}
use Rattle.gev_world.specs.Ends.{meant_if}
use Rattle.gev_world.specs.Hosts.{Stands, PassedTo, HostTurns, Asks, lines_by}
use Rattle.gev_world.specs.Rounds.{before_host, ComesToHost, hosted_round, hosted_acts, EndsRound}
use Rattle.gev_world.proofs.Asking.{lines_then}
use Rattle.gev_world.proofs.Closing.{closes_behind, takes_failed}

-- the application has taken what there was
pub taken_all : (s : Stage) (h i : Hosting) (acts : List HostAct) (w : World Receiver) → Stands s h acts w
    → ((lines : List ScriptLine) (r : Receiver) → HostStands h lines r → HostStands i (lines ++ soak_takes (waiting r.board) r) (soak_host.takes r))
    → Stands s i (host_takes ∷ acts) (takes soak_host w)
taken_all s h i acts w stands took = record {
  hosts = record {
    is = ap (λ (r : Receiver). soak_host.takes r) stands.hosts.is;
    stands = subst (λ (ls : List ScriptLine). HostStands i ls (soak_host.takes w.host))
        (ap (λ (r : Receiver). lines_by acts ++ soak_takes (waiting r.board) r) stands.hosts.is
        ∙ lines_then acts (soak_takes (waiting (host_after soak_host start acts).board) (host_after soak_host start acts)))
        (took (lines_by acts) w.host stands.hosts.stands);
  };
  is = ap (λ (v : World Receiver). record v { host = soak_host.takes w.host }) stands.is;
}

-- ---- an end before its time

-- what reached the host ended the run
pub ends_there : (s t : Stage) (h i : Hosting) (end : RunEnd) (acts : List HostAct) (w : World Receiver) (written : Option (List ℕ)) (faults : ℕ) → Stands s h acts w
    → HostTurns s h (Some end) t i → EndsRound (Ok (Some end)) (hosted_round (run_of s) w) (hosted_acts w acts) t i written written faults faults
ends_there s t h i end acts w written faults stands turned = record {
  passed = record {
    stands = subst (λ (v : World Receiver). Stands t i (hosted_acts w acts) v) (sym (ap (λ (o : Option End). (from_host (run_of s) soak_host o (host_turn soak_host w).world).world) (sym p.ends)))
        (subst (λ (more : List HostAct). Stands t i more (host_turn soak_host w).world) acts_are p.stands);
    ends = ap (λ (o : Option End). (from_host (run_of s) soak_host o (host_turn soak_host w).world).end) p.ends;
  };
  wrote = (subst (λ (text : List ℕ). Writes (Ok tt) written written faults faults text)
      (ap (λ (o : Option End). (from_host (run_of s) soak_host o (host_turn soak_host w).world).text) p.ends) (Appends-none written, refl));
}
  where
    p : PassedTo (Some end) (host_turn soak_host w) (with_hearings soak_host (record w { to_host = [] }) w.to_host acts) t i
    p = turned.passed acts w stands

    acts_are : with_hearings soak_host (record w { to_host = [] }) w.to_host acts ≡ hosted_acts w acts
    acts_are = ap (λ (o : Option End). with_host_turn o (host_turn soak_host w).world (with_hearings soak_host (record w { to_host = [] }) w.to_host acts)) p.ends

-- the run goes on to what the host does
pub goes_there : (s t : Stage) (h i j : Hosting) (u : Stage) (r : Result (Option RunEnd) Stop) (acts : List HostAct) (w : World Receiver)
    (written written_after : Option (List ℕ)) (faults faults_after : ℕ) → Stands s h acts w → HostTurns s h None t i
    → ((acts : List HostAct) (w : World Receiver) → Stands t i acts w
    → EndsRound r (from_host (run_of t) soak_host None w) (with_host_turn None w acts) u j written written_after faults faults_after)
    → EndsRound r (hosted_round (run_of s) w) (hosted_acts w acts) u j written written_after faults faults_after
goes_there s t h i j u r acts w written written_after faults faults_after stands turned rest =
    let p = turned.passed acts w stands in
    let more : List HostAct = with_hearings soak_host (record w { to_host = [] }) w.to_host acts in
    let there = rest more (host_turn soak_host w).world p.stands in
    subst (λ (o : Option End). EndsRound r (from_host (run_of s) soak_host o (host_turn soak_host w).world) (with_host_turn o (host_turn soak_host w).world more) u j written written_after faults faults_after) p.ends
    (subst (λ (run : Run). EndsRound r (from_host run soak_host None (host_turn soak_host w).world) (with_host_turn None (host_turn soak_host w).world more) u j written written_after faults faults_after) turned.run there)

-- ---- a whole round

stands_there : (s t : Stage) (h : Hosting) (end : Option RunEnd) (acts : List HostAct) (w : World Receiver) → Stands s h acts w → ComesToHost s end t
    → world_of t w.host ≡ before_host end (run_of s) w
stands_there s t h end acts w stands comes = comes.world w.host ∙ ap (λ (v : World Receiver). before_host end (run_of s) v) (sym stands.is)

turn_ends : (s t : Stage) (h : Hosting) (end : Option RunEnd) (acts : List HostAct) (w : World Receiver) → Stands s h acts w → ComesToHost s end t
    → meant_if end ≡ (client_turn (run_of s) (rises w)).end
turn_ends s t h end acts w stands comes = comes.ends w.host ∙ ap (λ (v : World Receiver). (client_turn (run_of s) (rises v)).end) (sym stands.is)

-- where the client's turn didn't end the run, the code stands for the world before the host's turn
pub comes_standing : (s t : Stage) (h : Hosting) (acts : List HostAct) (w : World Receiver) → Stands s h acts w → ComesToHost s None t
    → Stands t h acts (before_host None (run_of s) w)
comes_standing s t h acts w stands comes =
    subst (λ (v : World Receiver). Stands t h acts v) (stands_there s t h None acts w stands comes) (record { hosts = stands.hosts; is = refl })

-- the run ends with the client's turn
pub round_ends : (s t : Stage) (h : Hosting) (end : RunEnd) (acts : List HostAct) (w : World Receiver) (written : Option (List ℕ)) (faults : ℕ) → Stands s h acts w
    → ComesToHost s (Some end) t
    → EndsRound (Ok (Some end)) (round (run_of s) soak_host w) (with_host_round (run_of s) soak_host w acts) t h written written faults faults
round_ends s t h end acts w written faults stands comes =
    let turn : World Receiver = (client_turn (run_of s) (rises w)).world in
    let there : Stands t h acts turn = subst (λ (v : World Receiver). Stands t h acts v) (stands_there s t h (Some end) acts w stands comes) (record { hosts = stands.hosts; is = refl }) in
    subst (λ (o : Option End). EndsRound (Ok (Some end)) (from_camera (run_of s) soak_host o turn) (with_host_rest (run_of s) soak_host o turn acts) t h written written faults faults)
    (turn_ends s t h (Some end) acts w stands comes)
    (record { passed = record { stands = there; ends = refl }; wrote = (Appends-none written, refl) })

-- the run goes on to the host's turn
pub round_goes : (s t u : Stage) (h i : Hosting) (r : Result (Option RunEnd) Stop) (acts : List HostAct) (w : World Receiver)
    (written written_after : Option (List ℕ)) (faults faults_after : ℕ) → Stands s h acts w → ComesToHost s None t
    → ((acts : List HostAct) (w : World Receiver) → Stands t h acts w
    → EndsRound r (hosted_round (run_of t) w) (hosted_acts w acts) u i written written_after faults faults_after)
    → EndsRound r (round (run_of s) soak_host w) (with_host_round (run_of s) soak_host w acts) u i written written_after faults faults_after
round_goes s t u h i r acts w written written_after faults faults_after stands comes rest =
    let turn : World Receiver = (client_turn (run_of s) (rises w)).world in
    let shown : World Receiver = makes (run_of s) (camera_turn (run_of s) turn) in
    let there : Stands t h acts shown = comes_standing s t h acts w stands comes in
    subst (λ (o : Option End). EndsRound r (from_camera (run_of s) soak_host o turn) (with_host_rest (run_of s) soak_host o turn acts) u i written written_after faults faults_after)
    (turn_ends s t h None acts w stands comes)
    (subst (λ (run : Run). EndsRound r (hosted_round run shown) (hosted_acts shown acts) u i written written_after faults faults_after) comes.run (rest acts shown there))

-- ---- what the host does

-- it asked again, its application took, and the run may be done
pub finishes : (s t : Stage) (h i j : Hosting) (r : Result (Option RunEnd) Stop) (acts : List HostAct) (w : World Receiver)
    (written between written_after : Option (List ℕ)) (faults middle faults_after : ℕ) → Stands s h acts w → Asks s h t i
    → ((lines : List ScriptLine) (r : Receiver) → HostStands i lines r → HostStands j (lines ++ soak_takes (waiting r.board) r) (soak_host.takes r))
    → ((lines : List ScriptLine) (r : Receiver) → HostStands i lines r → Writes (Ok tt) written between faults middle (soak_host.lines r))
    → ((acts : List HostAct) (v : World Receiver) → Stands t j acts v → EndsRound r (closes (run_of t) soak_host v []) acts t j between written_after middle faults_after)
    → EndsRound r (from_host (run_of s) soak_host None w) (with_host_turn None w acts) t j written written_after faults faults_after
finishes s t h i j r acts w written between written_after faults middle faults_after stands asked took wrote closed =
    let asking : World Receiver = asks (run_of s) soak_host w in
    let there : Stands t i (host_ticks w.moment ∷ acts) asking = asked.stands acts w stands in
    let taken : Stands t j (host_takes ∷ host_ticks w.moment ∷ acts) (takes soak_host asking) = taken_all t i j (host_ticks w.moment ∷ acts) asking there took in
    closes_behind (run_of s) (takes soak_host asking) (soak_host.lines asking.host) r (host_takes ∷ host_ticks w.moment ∷ acts) t j written between written_after faults middle faults_after
    (wrote (lines_by (host_ticks w.moment ∷ acts)) asking.host there.hosts.stands)
    (subst (λ (run : Run). EndsRound r (closes run soak_host (takes soak_host asking) []) (host_takes ∷ host_ticks w.moment ∷ acts) t j between written_after middle faults_after) asked.run
    (closed (host_takes ∷ host_ticks w.moment ∷ acts) (takes soak_host asking) taken))

-- writing the take lines failed
pub finish_stops : (s t : Stage) (h i j : Hosting) (stop : Stop) (acts : List HostAct) (w : World Receiver)
    (written written_after : Option (List ℕ)) (faults faults_after : ℕ) → Stands s h acts w → Asks s h t i
    → ((lines : List ScriptLine) (r : Receiver) → HostStands i lines r → Writes (Err stop) written written_after faults faults_after (soak_host.lines r))
    → EndsRound (Err stop) (from_host (run_of s) soak_host None w) (with_host_turn None w acts) t j written written_after faults faults_after
finish_stops s t h i j stop acts w written written_after faults faults_after stands asked wrote =
    let asking : World Receiver = asks (run_of s) soak_host w in
    let there : Stands t i (host_ticks w.moment ∷ acts) asking = asked.stands acts w stands in
    takes_failed (run_of s) (takes soak_host asking) (soak_host.lines asking.host) stop (host_takes ∷ host_ticks w.moment ∷ acts) t j written written_after faults faults_after
    (wrote (lines_by (host_ticks w.moment ∷ acts)) asking.host there.hosts.stands)
