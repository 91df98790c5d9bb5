-- What holds between two rounds: no packet waits in the camera, and it counts no more frames than were made.
use Rattle.std.proofs.Common.{◌≡◌, ℕ, ◌+◌, ◌≤◌, Bool, true, false, List, [], ◌∷◌, Option, Some, None, refl, sym, ap, ◌∙◌, subst}
use Rattle.std.specs.Prelude.{if◌then◌else◌, slice_get}
use Rattle.gvcp_wire.specs.Messages.{PlainCommand}
use Rattle.stream_packets.specs.Packets.{StreamPacket}
use Rattle.gvsp_wire.specs.Plain.{plain}
use Rattle.lossy_queue.specs.declared.datagram.Channel.TheVariants.{Stream}
use Rattle.lossy_queue.specs.declared.datagram.Datagram.{Datagram}
use Rattle.client_machine.specs.Machine.{Asked, Told, to_send, taken, ticked}
use Rattle.camera_machine.specs.Camera.{Camera, is_open}
use Rattle.camera_machine.specs.Events.{Turn, command_turn, tick_turn, frame_turn}
use Rattle.world_laws.specs.Receiver.{Receiver}
use Rattle.world_machine.specs.State.{Run, World}
use Rattle.world_machine.specs.Queues.{to_host, sent_to_camera, ack_to_host, packets_to_host}
use Rattle.world_machine.specs.ClientTurn.{client_peer, submits, begins, setup_commands, stream_peer, client_turn}
use Rattle.world_machine.specs.CameraTurn.{turned, obeys, obeys_all, looks, camera_turn, is_due, makes}
use Rattle.camera_machine.proofs.FrameCounts.{Counts, counts_looked, counts_commanded, counts_framed}

-- ---- what goes into the queues changes nothing else

-- the same camera, and the same counts of what was made
record Keeps (v w : World Receiver) : Type 0 where
  camera : w.camera ≡ v.camera
  begun : w.begun ≡ v.begun
  made : w.made ≡ v.made

packets_keep : (run : Run) (w : World Receiver) (xs : List StreamPacket) → Keeps w (packets_to_host run w xs)
packets_keep run w [] = record { camera = refl; begun = refl; made = refl }
packets_keep run w (x ∷ xs) =
    let k = packets_keep run (to_host run w (record { channel = Stream; bytes = plain x })) xs in record { camera = k.camera; begun = k.begun; made = k.made }

ack_keeps : (run : Run) (w : World Receiver) (o : Option (List ℕ)) → Keeps w (ack_to_host run w o)
ack_keeps run w None = record { camera = refl; begun = refl; made = refl }
ack_keeps run w (Some bytes) = record { camera = refl; begun = refl; made = refl }

turned_keeps : (run : Run) (w : World Receiver) (t : Turn) → Keeps (record w { camera = t.camera }) (turned run w t)
turned_keeps run w t =
    let acked = ack_keeps run (record w { camera = t.camera }) t.ack in
    let all = packets_keep run (ack_to_host run (record w { camera = t.camera }) t.ack) t.packets in
    record { camera = all.camera ∙ acked.camera; begun = all.begun ∙ acked.begun; made = all.made ∙ acked.made }

-- ---- turns

-- Nothing waits in the camera, which counts no more frames than were made.
pub record Rests (begun made : ℕ) (w : World Receiver) : Type 0 where
  pub idle : w.camera.waiting ≡ []
  pub counts : Counts made w.camera
  pub begun_is : w.begun ≡ begun
  pub made_is : w.made ≡ made

turned_rests : (run : Run) (w : World Receiver) (t : Turn) (begun made : ℕ) → t.camera.waiting ≡ [] → Counts made t.camera → w.begun ≡ begun → w.made ≡ made
    → Rests begun made (turned run w t)
turned_rests run w t begun made idle counts b m =
    let k = turned_keeps run w t in
    record {
      idle = ap (λ (s : Camera). s.waiting) k.camera ∙ idle;
      counts = subst (λ (s : Camera). Counts made s) (sym k.camera) counts;
      begun_is = k.begun ∙ b;
      made_is = k.made ∙ m;
    }

all_rest : (run : Run) (w : World Receiver) (ds : List Datagram) (begun made : ℕ) → Rests begun made w → Rests begun made (obeys_all run w ds)
all_rest run w [] begun made h = h
all_rest run w (d ∷ ds) begun made h =
    all_rest run (obeys run w d) ds begun made
    (turned_rests run w (command_turn w.camera client_peer d.bytes w.moment) begun made refl (counts_commanded made w.camera client_peer d.bytes w.moment h.counts) h.begun_is h.made_is)

camera_rests : (run : Run) (w : World Receiver) (begun made : ℕ) → Counts made w.camera → w.begun ≡ begun → w.made ≡ made → Rests begun made (camera_turn run w)
camera_rests run w begun made counts b m =
    all_rest run (looks run (record w { to_camera = [] })) w.to_camera begun made
    (turned_rests run (record w { to_camera = [] }) (tick_turn w.camera w.moment) begun made refl (counts_looked made w.camera w.moment counts) b m)

-- the camera's next frame
pub record RestsAfter (begun : ℕ) (w : World Receiver) : Type 0 where
  pub idle : w.camera.waiting ≡ []
  pub counts : w.camera.shelf.count ≤ w.made
  pub begun_is : w.begun ≡ begun

after_rests : (begun made : ℕ) (w : World Receiver) → Rests begun made w → RestsAfter begun w
after_rests begun made w h = record { idle = h.idle; counts = subst (λ n. w.camera.shelf.count ≤ n) (sym h.made_is) h.counts; begun_is = h.begun_is }

made_rests : (run : Run) (w : World Receiver) (begun made : ℕ) → Rests begun made w → RestsAfter begun (makes run w)
made_rests run w begun made h = go (is_due run w) (is_open w.camera)
  where
    frame : Rests begun (made + 1) (turned run (record w { made = w.made + 1 }) (frame_turn w.camera))
    frame = turned_rests run (record w { made = w.made + 1 }) (frame_turn w.camera) begun (made + 1) refl (counts_framed w.camera made h.counts) h.begun_is (ap (λ n. n + 1) h.made_is)

    go : (due there : Bool)
        → RestsAfter begun (if due then (if there then turned run (record w { made = w.made + 1 }) (frame_turn w.camera) else record w { is_over = true }) else w)
    go true true = after_rests begun (made + 1) _ frame
    go true false = after_rests begun made (record w { is_over = true }) (record { idle = h.idle; counts = h.counts; begun_is = h.begun_is; made_is = h.made_is })
    go false there = after_rests begun made w h

-- ---- the client's turn

submits_keeps : (o : Option Asked) (c : Option PlainCommand) (w : World Receiver) → (submits o c w).camera ≡ w.camera
submits_keeps None None w = refl
submits_keeps None (Some c) w = refl
submits_keeps (Some asked) c w = refl

submits_made : (o : Option Asked) (c : Option PlainCommand) (w : World Receiver) → (submits o c w).made ≡ w.made
submits_made None None w = refl
submits_made None (Some c) w = refl
submits_made (Some asked) c w = refl

sent_keeps : (run : Run) (w : World Receiver) (o : Option (List ℕ)) → Keeps w (sent_to_camera run w o)
sent_keeps run w None = record { camera = refl; begun = refl; made = refl }
sent_keeps run w (Some bytes) = record { camera = refl; begun = refl; made = refl }

abbrev told : World Receiver → Told
told w = ticked (begins w).client w.moment

client_keeps : (run : Run) (w : World Receiver) → ((client_turn run w).world.camera ≡ w.camera) × ((client_turn run w).world.made ≡ w.made)
client_keeps run w =
    let k = sent_keeps run (record (begins w) { client = taken (told w).client }) (to_send (told w).client.asked) in
    let next : Option PlainCommand = slice_get (setup_commands stream_peer) w.begun in
    (k.camera ∙ submits_keeps w.client.asked next w, k.made ∙ submits_made w.client.asked next w)

-- the camera's turn behind the client's
turns_rest : (run : Run) (w : World Receiver) → w.camera.shelf.count ≤ w.made
    → Rests (client_turn run w).world.begun w.made (camera_turn run (client_turn run w).world)
turns_rest run w counts =
    let v : World Receiver = (client_turn run w).world in
    let k = client_keeps run w in
    camera_rests run v v.begun w.made (subst (λ (s : Camera). Counts w.made s) (sym k.0) counts) refl k.1

pub rests_after_camera : (run : Run) (w : World Receiver) → w.camera.shelf.count ≤ w.made
    → RestsAfter (client_turn run w).world.begun (camera_turn run (client_turn run w).world)
rests_after_camera run w counts =
    after_rests (client_turn run w).world.begun w.made (camera_turn run (client_turn run w).world) (turns_rest run w counts)

-- and the turns before the host's leave a camera in which nothing waits
pub rests_before_host : (run : Run) (w : World Receiver) → w.camera.shelf.count ≤ w.made
    → RestsAfter (client_turn run w).world.begun (makes run (camera_turn run (client_turn run w).world))
rests_before_host run w counts =
    made_rests run (camera_turn run (client_turn run w).world) (client_turn run w).world.begun w.made (turns_rest run w counts)
