-- What is done first and then, and what the parts of a turn come to.
use Rattle.std.proofs.Common.{◌≡◌, ℕ, List, [], ◌∷◌, Option, Some, None, refl, sym, ap, ◌∙◌}
use Rattle.gvcp_wire.specs.Messages.{PlainCommand}
use Rattle.lossy_queue.specs.declared.datagram.Datagram.{Datagram}
use Rattle.client_machine.specs.declared.outcome.Outcome.{Outcome}
use Rattle.client_machine.specs.Machine.{Asked, ticked}
use Rattle.camera_machine.specs.Camera.{Camera}
use Rattle.camera_machine.specs.Commands.{commanded}
use Rattle.camera_machine.specs.Stream.{all_waiting, emptied}
use Rattle.world_laws.specs.Receiver.{Receiver}
use Rattle.world_machine.specs.State.{Run, World}
use Rattle.world_machine.specs.Queues.{ack_to_host, packets_to_host}
use Rattle.world_machine.specs.ClientTurn.{client_peer, end_of, submits, begins}
use Rattle.world_machine.specs.CameraTurn.{obeys, obeys_all}
use Rattle.gev_world.specs.declared.stage.Stage.{Stage}
use Rattle.gev_world.specs.Seen.{run_of, world_of, Does}
use Rattle.gev_world.specs.Turns.{sends_waiting, drains, commanded_by, ClientDoes, Obeying}

pub does_then : (a b c : Stage) (f g : Run → World Receiver → World Receiver) → Does a f b → Does b g c → Does a (λ run w. g run (f run w)) c
does_then a b c f g h k = record {
  run = k.run ∙ h.run;
  world = λ host. k.world host ∙ ap (λ (r : Run). g r (world_of b host)) h.run ∙ ap (λ (w : World Receiver). g (run_of a) w) (h.world host);
}

-- ---- the client's turn

abbrev ticks_client : Run → World Receiver → World Receiver
ticks_client run w = record w { client = (ticked w.client w.moment).client }

begun_at : (o : Option Asked) (c : Option PlainCommand) (w : World Receiver) → (submits o c w).moment ≡ w.moment
begun_at None None w = refl
begun_at None (Some c) w = refl
begun_at (Some asked) c w = refl

pub client_does : (old begun ticks new : Stage) (outcome : Outcome) → Does old (λ run w. begins w) begun → outcome ≡ (ticked begun.client begun.moment).outcome
    → Does begun (λ run w. record w { client = (ticked w.client w.moment).client }) ticks → Does ticks sends_waiting new → ClientDoes old outcome new
client_does old begun ticks new outcome h told k j =
    let all = does_then old ticks new (λ run w. ticks_client run (begins w)) sends_waiting (does_then old begun ticks (λ run w. begins w) ticks_client h k) j in
    record {
      does = record {
        run = all.run;
        world = λ host. all.world host
            ∙ ap (λ (m : ℕ). sends_waiting (run_of old) (record (begins (world_of old host)) { client = (ticked (begins (world_of old host)).client m).client })) (at host);
      };
      told = λ host. ap end_of
          (told ∙ ap (λ (w : World Receiver). (ticked w.client w.moment).outcome) (h.world host) ∙ ap (λ (m : ℕ). (ticked (begins (world_of old host)).client m).outcome) (at host));
    }
  where
    at : (host : Receiver) → (begins (world_of old host)).moment ≡ old.moment
    at host = let there : Option PlainCommand = _ in begun_at old.client.asked there (world_of old host)

-- ---- the camera's turn

drained : (run : Run) (w : World Receiver) (c : Camera) (o : Option (List ℕ))
    → drains run (ack_to_host run (record w { camera = c }) o) ≡ packets_to_host run (ack_to_host run (record w { camera = emptied c }) o) (all_waiting c.waiting)
drained run w c None = refl
drained run w c (Some bytes) = refl

-- a datagram was heard, and then all that waits was put into the queue
pub obeyed : (old heard new : Stage) (d : Datagram) (bytes : List ℕ) → bytes ≡ d.bytes → Does old (λ run w. commanded_by run bytes w) heard → Does heard drains new
    → Does old (λ run w. obeys run w d) new
obeyed old heard new d bytes same h k =
    let all = does_then old heard new (λ run w. commanded_by run bytes w) drains h k in
    record {
      run = all.run;
      world = λ host. all.world host ∙ ap (λ (b : List ℕ). drains (run_of old) (commanded_by (run_of old) b (world_of old host))) same
          ∙ drained (run_of old) (world_of old host) (commanded old.camera client_peer d.bytes old.moment).camera (commanded old.camera client_peer d.bytes old.moment).ack;
    }

-- one more of the datagrams that arrive
pub obeying_on : (start now new : Stage) (all arriving : List Datagram) (d : Datagram) (rest : List Datagram) → arriving ≡ d ∷ rest
    → Obeying start now all arriving → Does now (λ run w. obeys run w d) new → Obeying start new all rest
obeying_on start now new all arriving d rest is h k = record {
  run = k.run ∙ h.run;
  world = λ host.
      ap (λ (r : Run). obeys_all r (world_of new host) rest) k.run ∙ ap (λ (w : World Receiver). obeys_all (run_of now) w rest) (k.world host)
      ∙ ap (λ ds. obeys_all (run_of now) (world_of now host) ds) (sym is) ∙ h.world host;
}

-- all of them have arrived
pub obeyed_all : (start now : Stage) (all : List Datagram) → Obeying start now all [] → Does start (λ run w. obeys_all run w all) now
obeyed_all start now all h = record { run = h.run; world = h.world }
