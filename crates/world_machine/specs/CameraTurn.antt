-- The camera's turn of a round: what reached it, and its next frame.
use Rattle.std.specs.Prelude.{◌+◌, ◌==◌, ◌&&◌, Bool, true, not, nat_lt, if◌then◌else◌, List, [], ◌∷◌}
use Rattle.lossy_queue.specs.declared.datagram.Datagram.{Datagram}
use Rattle.camera_machine.specs.Camera.{is_open}
use Rattle.camera_machine.specs.Events.{Turn, command_turn, tick_turn, frame_turn}
use Rattle.world_machine.specs.State.{Run, World}
use Rattle.world_machine.specs.Queues.{ack_to_host, packets_to_host}
use Rattle.world_machine.specs.ClientTurn.{client_peer, SETUP_SIZE}

-- the camera's acknowledge, and then the packets that wait, on their way to the host
abbrev pub turned : {A : Type 0} → Run → World A → Turn → World A
turned run w t = packets_to_host run (ack_to_host run (record w { camera = t.camera }) t.ack) t.packets

-- a datagram reaches the camera
abbrev pub obeys : {A : Type 0} → Run → World A → Datagram → World A
obeys run w d = turned run w (command_turn w.camera client_peer d.bytes w.moment)

abbrev pub obeys_all : {A : Type 0} → Run → World A → List Datagram → World A
obeys_all run w [] = w
obeys_all run w (d ∷ rest) = obeys_all run (obeys run w d) rest

-- the camera's tick
abbrev pub looks : {A : Type 0} → Run → World A → World A
looks run w = turned run w (tick_turn w.camera w.moment)

-- a tick, and then what is on its way to the camera, in order
abbrev pub camera_turn : {A : Type 0} → Run → World A → World A
camera_turn run w = obeys_all run (looks run (record w { to_camera = [] })) w.to_camera

-- ---- frames

-- whether the camera is to make a frame
abbrev pub is_due : {A : Type 0} → Run → World A → Bool
is_due run w = (w.done == SETUP_SIZE) && not w.is_over && nat_lt w.made run.frames

-- the camera's next frame; a closed channel ends the sending for good
abbrev pub sends_frame : {A : Type 0} → Run → World A → World A
sends_frame run w =
    if is_open w.camera then turned run (record w { made = w.made + 1 }) (frame_turn w.camera)
    else record w { is_over = true }

abbrev pub makes : {A : Type 0} → Run → World A → World A
makes run w = if is_due run w then sends_frame run w else w
