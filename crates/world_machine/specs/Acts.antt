-- What rounds do to the client and the camera, as acts of a schedule of control sessions, the latest first.
use Rattle.std.specs.Prelude.{ℕ, zero, suc, if◌then◌else◌, List, [], ◌∷◌, slice_get, Option, Some, None}
use Rattle.gvcp_wire.specs.Messages.{PlainCommand}
use Rattle.lossy_queue.specs.declared.datagram.Channel.{Channel}
use Rattle.lossy_queue.specs.declared.datagram.Channel.TheVariants.{Control, Stream}
use Rattle.lossy_queue.specs.declared.datagram.Datagram.{Datagram}
use Rattle.client_machine.specs.Machine.{Asked}
use Rattle.client_machine.specs.Events as clients
use Rattle.camera_machine.specs.Camera.{Camera, is_open}
use Rattle.camera_machine.specs.Stream.{waiting_count}
use Rattle.camera_machine.specs.Events as cameras
use Rattle.world_machine.specs.Schedule.{Act, at_client, at_camera}
use Rattle.world_machine.specs.State.{Host, Run, World}
use Rattle.world_machine.specs.ClientTurn.{End, client_peer, stream_peer, setup_commands, client_turn}
use Rattle.world_machine.specs.CameraTurn.{obeys, looks, camera_turn, is_due, makes}
use Rattle.world_machine.specs.HostTurn.{arrives, unless_ended}
use Rattle.world_machine.specs.Rounds.{rises, world_after}

-- Each word here puts what is done in front of what was done before.

-- ---- the client's turn

abbrev pub with_setup : Option Asked → Option PlainCommand → ℕ → List Act → List Act
with_setup None None moment before = before
with_setup None (Some c) moment before = at_client (clients.submits c moment) ∷ before
with_setup (Some asked) next moment before = before

abbrev pub with_client_turn : {A : Type 0} → World A → List Act → List Act
with_client_turn w before =
    at_client clients.takes ∷ at_client (clients.ticks w.moment)
    ∷ with_setup w.client.asked (slice_get (setup_commands stream_peer) w.begun) w.moment before

-- ---- the camera's turn

-- so many packets are given
abbrev pub with_packets : ℕ → List Act → List Act
with_packets zero before = before
with_packets (suc n) before = with_packets n (at_camera cameras.next_packet ∷ before)

-- an event, and then all packets that wait
abbrev pub with_turn : Camera → cameras.Event → List Act → List Act
with_turn s e before = with_packets (waiting_count (cameras.step s e)) (at_camera e ∷ before)

abbrev pub with_obeyed : {A : Type 0} → World A → Datagram → List Act → List Act
with_obeyed w d before = with_turn w.camera (cameras.command client_peer d.bytes w.moment) before

abbrev pub with_all_obeyed : {A : Type 0} → Run → World A → List Datagram → List Act → List Act
with_all_obeyed run w [] before = before
with_all_obeyed run w (d ∷ rest) before = with_all_obeyed run (obeys run w d) rest (with_obeyed w d before)

abbrev pub with_camera_turn : {A : Type 0} → Run → World A → List Act → List Act
with_camera_turn run w before =
    with_all_obeyed run (looks run (record w { to_camera = [] })) w.to_camera (with_turn w.camera (cameras.tick w.moment) before)

abbrev pub with_frame : {A : Type 0} → Run → World A → List Act → List Act
with_frame run w before =
    if is_due run w then (if is_open w.camera then with_turn w.camera cameras.make_frame before else before) else before

-- ---- the host's turn

abbrev pub with_arrival : Channel → List ℕ → ℕ → List Act → List Act
with_arrival Control bytes moment before = at_client (clients.receives bytes moment) ∷ before
with_arrival Stream bytes moment before = before

abbrev pub with_arrivals : {A : Type 0} → Host A → World A → List Datagram → List Act → List Act
with_arrivals host w [] before = before
with_arrivals host w (d ∷ rest) before =
    let first = arrives host w d.channel d.bytes in
    let before_rest = with_arrival d.channel d.bytes w.moment before in
    unless_ended first.end before_rest (with_arrivals host first.world rest before_rest)

-- ---- rounds

-- after the client's turn
abbrev pub with_rest : {A : Type 0} → Run → Host A → Option End → World A → List Act → List Act
with_rest run host (Some e) w before = before
with_rest run host None w before =
    let seen = camera_turn run w in
    let shown = makes run seen in
    with_arrivals host (record shown { to_host = [] }) shown.to_host (with_frame run seen (with_camera_turn run w before))

abbrev pub with_round : {A : Type 0} → Run → Host A → World A → List Act → List Act
with_round run host w before =
    let turn = client_turn run (rises w) in with_rest run host turn.end turn.world (with_client_turn (rises w) before)

-- All that so many rounds did. Before the first the camera was told whether its frames are short.
abbrev pub acts_after : {A : Type 0} → Run → Host A → A → ℕ → List Act
acts_after run host start zero = at_camera (cameras.set_short run.short) ∷ []
acts_after run host start (suc n) = with_round run host (world_after run host start n) (acts_after run host start n)
