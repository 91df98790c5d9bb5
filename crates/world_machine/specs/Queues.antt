-- The two queues of the world: lossy ones over one generator.
use Rattle.std.specs.Prelude.{ℕ, List, [], ◌∷◌, Option, Some, None}
use Rattle.stream_packets.specs.Packets.{StreamPacket}
use Rattle.gvsp_wire.specs.Plain.{plain}
use Rattle.lossy_queue.specs.declared.datagram.Channel.TheVariants.{Control, Stream}
use Rattle.lossy_queue.specs.declared.datagram.Datagram.{Datagram}
use Rattle.lossy_queue.specs.Lossy.{after_put, put_lossy}
use Rattle.world_machine.specs.State.{Run, World}

-- a command on its way to the camera
abbrev pub to_camera : {A : Type 0} → Run → World A → List ℕ → World A
to_camera run w bytes = record w {
  to_camera = put_lossy run.rates w.x (record { channel = Control; bytes = bytes }) w.to_camera;
  x = after_put w.x;
}

abbrev pub to_host : {A : Type 0} → Run → World A → Datagram → World A
to_host run w d = record w { to_host = put_lossy run.rates w.x d w.to_host; x = after_put w.x }

-- what the client takes to be sent, if anything
abbrev pub sent_to_camera : {A : Type 0} → Run → World A → Option (List ℕ) → World A
sent_to_camera run w None = w
sent_to_camera run w (Some bytes) = to_camera run w bytes

abbrev pub all_to_camera : {A : Type 0} → Run → World A → List (List ℕ) → World A
all_to_camera run w [] = w
all_to_camera run w (bytes ∷ rest) = all_to_camera run (to_camera run w bytes) rest

-- an acknowledge, if there is one
abbrev pub ack_to_host : {A : Type 0} → Run → World A → Option (List ℕ) → World A
ack_to_host run w None = w
ack_to_host run w (Some bytes) = to_host run w (record { channel = Control; bytes = bytes })

abbrev pub packets_to_host : {A : Type 0} → Run → World A → List StreamPacket → World A
packets_to_host run w [] = w
packets_to_host run w (x ∷ xs) = packets_to_host run (to_host run w (record { channel = Stream; bytes = plain x })) xs
