-- What single steps do to a stage.
use Rattle.std.proofs.Common.{◌≡◌, ℕ, ◌<◌, List, length, Option, Some, Result, Ok, Err, Bool, true, false, sym, ap, subst, ◌∙◌, arith}
use Rattle.std.specs.Prelude.{OnOk}
use Rattle.stream_packets.specs.Packets.{StreamPacket}
use Rattle.gvsp_wire.specs.Plain.{plain}
use Rattle.lossy_queue.specs.declared.datagram.Channel.TheVariants.{Control, Stream}
use Rattle.camera_machine.specs.Camera.{Camera}
use Rattle.camera_machine.specs.Commands.{commanded}
use Rattle.camera_machine.specs.Stream.{given, all_waiting, emptied}
use Rattle.camera_machine.proofs.Order.{first_and_rest}
use Rattle.world_laws.specs.Receiver.{Receiver, start}
use Rattle.world_machine.specs.State.{Run, World}
use Rattle.world_machine.specs.Queues.{to_host, ack_to_host, packets_to_host}
use Rattle.world_machine.specs.ClientTurn.{client_peer}
use Rattle.gev_world.specs.declared.stage.Stage.{Stage}
use Rattle.gev_world.specs.Seen.{run_of, world_of, Does}
use Rattle.gev_world.specs.Turns.{drains, commanded_by, CarriesOne, Carries, IsOnTheWay}

pub on_ok : {A E P Q : Type 0} (r : Result A E) → (P → Q) → OnOk r P → OnOk r Q
on_ok (Ok x) f h = f h
on_ok (Err e) f h = tt

-- a packet that was fetched is put into the host's queue
pub carried : (old new : Stage) (camera : Camera) (packet : StreamPacket) (bytes : List ℕ) → camera ≡ given old.camera → bytes ≡ plain packet
    → Does (record old { camera = camera }) (λ run w. to_host run w (record { channel = Stream; bytes = bytes })) new
    → Does old (λ run w. to_host run (record w { camera = given w.camera }) (record { channel = Stream; bytes = plain packet })) new
carried old new camera packet bytes e spelled d =
    let there : Does (record old { camera = given old.camera }) (λ run w. to_host run w (record { channel = Stream; bytes = bytes })) new =
    subst (λ (c : Camera). Does (record old { camera = c }) (λ run w. to_host run w (record { channel = Stream; bytes = bytes })) new) e d in
    record {
      run = there.run;
      world = λ host. there.world host
          ∙ ap (λ b. to_host (run_of old) (record (world_of old host) { camera = given old.camera }) (record { channel = Stream; bytes = b })) spelled;
    }

-- a command was heard, and its acknowledge is put into the host's queue
pub acked : (old new : Stage) (camera : Camera) (bytes answer : List ℕ) → camera ≡ (commanded old.camera client_peer bytes old.moment).camera
    → Some answer ≡ (commanded old.camera client_peer bytes old.moment).ack
    → Does (record old { camera = camera }) (λ run w. to_host run w (record { channel = Control; bytes = answer })) new
    → Does old (λ run w. commanded_by run bytes w) new
acked old new camera bytes answer e told d =
    let there : Does (record old { camera = (commanded old.camera client_peer bytes old.moment).camera }) (λ run w. to_host run w (record { channel = Control; bytes = answer })) new =
    subst (λ (c : Camera). Does (record old { camera = c }) (λ run w. to_host run w (record { channel = Control; bytes = answer })) new) e d in
    record {
      run = there.run;
      world = λ host. there.world host
          ∙ ap (λ (o : Option (List ℕ)). ack_to_host (run_of old) (record (world_of old host) { camera = (commanded old.camera client_peer bytes old.moment).camera }) o) told;
    }

-- ---- what waits

camera_after : (old new : Stage) (c : CarriesOne old new) → new.camera ≡ given old.camera
camera_after old new c = ap (λ (w : World Receiver). w.camera) (c.does.world start)

pub fewer_wait : (old new : Stage) → CarriesOne old new → length (all_waiting new.camera.waiting) < length (all_waiting old.camera.waiting)
fewer_wait old new c =
    let now = ap (λ (s : Camera). length (all_waiting s.waiting)) (camera_after old new c) in
    let was = ap length (first_and_rest old.camera.waiting c.packet c.first) in omega (arith, now, was)

pub on_the_way : (first now new : Stage) → IsOnTheWay first now → CarriesOne now new → IsOnTheWay first new
on_the_way first now new h c = record {
  run = c.does.run ∙ h.run;
  world = λ host.
      ap (λ (r : Run). drains r (world_of new host)) c.does.run ∙ ap (λ (w : World Receiver). drains (run_of now) w) (c.does.world host)
      ∙ sym (ap (λ xs. packets_to_host (run_of now) (record (world_of now host) { camera = emptied now.camera }) xs) (first_and_rest now.camera.waiting c.packet c.first))
      ∙ h.world host;
}

-- a packet was carried, where that is told
pub did_carry : (one : Bool) (old new : Stage) → one ≡ true → Carries one old new → CarriesOne old new
did_carry true old new e h = h
did_carry false old new e h = absurd (cc)
