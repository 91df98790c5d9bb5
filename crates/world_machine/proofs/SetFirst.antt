-- The camera of a run is told whether its frames are short before all else, and never again.
use Rattle.std.proofs.Common.{ℕ, zero, suc, Bool, true, false, List, [], ◌∷◌, Option, Some, None, refl}
use Rattle.std.specs.Prelude.{⊤, if◌then◌else◌, slice_get}
use Rattle.gvcp_wire.specs.Messages.{PlainCommand}
use Rattle.lossy_queue.specs.declared.datagram.Channel.{Channel}
use Rattle.lossy_queue.specs.declared.datagram.Channel.TheVariants.{Control, Stream}
use Rattle.lossy_queue.specs.declared.datagram.Datagram.{Datagram}
use Rattle.client_machine.specs.Machine.{Asked}
use Rattle.camera_machine.specs.Camera.{Camera, is_open}
use Rattle.camera_machine.specs.Stream.{waiting_count}
use Rattle.camera_machine.specs.Events as cameras
use Rattle.camera_machine.specs.Sending.{IsSetFirst}
use Rattle.camera_machine.proofs.Sending.{rows_first}
use Rattle.world_machine.specs.Schedule.{Act, at_camera, camera_events}
use Rattle.world_machine.specs.State.{Host, Run, World, image_shape, STORE_ROOM}
use Rattle.world_machine.specs.ClientTurn.{End, client_peer, stream_peer, setup_commands, client_turn}
use Rattle.world_machine.specs.CameraTurn.{obeys, looks, camera_turn, is_due, makes}
use Rattle.world_machine.specs.HostTurn.{arrives, unless_ended}
use Rattle.world_machine.specs.Rounds.{rises, world_after}
use Rattle.world_machine.specs.Acts.{with_setup, with_client_turn, with_packets, with_turn, with_obeyed, with_all_obeyed, with_camera_turn, with_frame, with_arrival, with_arrivals, with_rest, with_round, acts_after}
use Rattle.world_machine.specs.Laws.{ShortnessIsSetFirst}

-- the first of these acts at the camera sets whether frames are short, as the run says, and no other does
abbrev IsLed : Run → List Act → Type 0
IsLed run acts = IsSetFirst run.short (camera_events acts)

abbrev SetsNothing : cameras.Event → Type 0
SetsNothing (cameras.set_short short) = ⊥
SetsNothing _ = ⊤

led_event : (run : Run) (e : cameras.Event) (before : List Act) → SetsNothing e → IsLed run before → IsLed run (at_camera e ∷ before)
led_event run (cameras.command peer bytes moment) before none h = h
led_event run (cameras.tick moment) before none h = h
led_event run cameras.make_frame before none h = h
led_event run cameras.next_packet before none h = h
led_event run (cameras.set_short short) before none h = absurd none

led_packets : (run : Run) (k : ℕ) (before : List Act) → IsLed run before → IsLed run (with_packets k before)
led_packets run zero before h = h
led_packets run (suc k) before h = led_packets run k (at_camera cameras.next_packet ∷ before) h

led_turn : (run : Run) (s : Camera) (e : cameras.Event) (before : List Act) → SetsNothing e → IsLed run before → IsLed run (with_turn s e before)
led_turn run s e before none h = led_packets run (waiting_count (cameras.step s e)) (at_camera e ∷ before) (led_event run e before none h)

led_obeyed : {A : Type 0} (run : Run) (w : World A) (ds : List Datagram) (before : List Act) → IsLed run before → IsLed run (with_all_obeyed run w ds before)
led_obeyed run w [] before h = h
led_obeyed run w (d ∷ rest) before h =
    led_obeyed run (obeys run w d) rest (with_obeyed w d before) (led_turn run w.camera (cameras.command client_peer d.bytes w.moment) before tt h)

led_frame : {A : Type 0} (run : Run) (w : World A) (before : List Act) → IsLed run before → IsLed run (with_frame run w before)
led_frame run w before h = go (is_due run w) (is_open w.camera)
  where
    go : (due open_now : Bool) → IsLed run (if due then (if open_now then with_turn w.camera cameras.make_frame before else before) else before)
    go true true = led_turn run w.camera cameras.make_frame before tt h
    go true false = h
    go false open_now = h

led_setup : (run : Run) (asked : Option Asked) (next : Option PlainCommand) (moment : ℕ) (before : List Act) → IsLed run before
    → IsLed run (with_setup asked next moment before)
led_setup run None None moment before h = h
led_setup run None (Some c) moment before h = h
led_setup run (Some asked) next moment before h = h

led_arrival : (run : Run) (channel : Channel) (bytes : List ℕ) (moment : ℕ) (before : List Act) → IsLed run before
    → IsLed run (with_arrival channel bytes moment before)
led_arrival run Control bytes moment before h = h
led_arrival run Stream bytes moment before h = h

led_arrivals : {A : Type 0} (run : Run) (host : Host A) (w : World A) (ds : List Datagram) (before : List Act) → IsLed run before
    → IsLed run (with_arrivals host w ds before)
led_arrivals run host w [] before h = h
led_arrivals {A} run host w (d ∷ rest) before h =
    go (arrives host w d.channel d.bytes).end first (led_arrivals run host (arrives host w d.channel d.bytes).world rest next first)
  where
    next : List Act
    next = with_arrival d.channel d.bytes w.moment before

    first : IsLed run next
    first = led_arrival run d.channel d.bytes w.moment before h

    go : (o : Option End) → IsLed run next → IsLed run (with_arrivals host (arrives host w d.channel d.bytes).world rest next)
        → IsLed run (unless_ended o next (with_arrivals host (arrives host w d.channel d.bytes).world rest next))
    go None ended more = more
    go (Some e) ended more = ended

led_rest : {A : Type 0} (run : Run) (host : Host A) (o : Option End) (w : World A) (before : List Act) → IsLed run before
    → IsLed run (with_rest run host o w before)
led_rest run host (Some e) w before h = h
led_rest {A} run host None w before h =
    led_arrivals run host (record shown { to_host = [] }) shown.to_host (with_frame run seen (with_camera_turn run w before))
    (led_frame run seen (with_camera_turn run w before)
    (led_obeyed run (looks run (record w { to_camera = [] })) w.to_camera (with_turn w.camera (cameras.tick w.moment) before)
    (led_turn run w.camera (cameras.tick w.moment) before tt h)))
  where
    seen : World A
    seen = camera_turn run w

    shown : World A
    shown = makes run seen

led_round : {A : Type 0} (run : Run) (host : Host A) (w : World A) (before : List Act) → IsLed run before → IsLed run (with_round run host w before)
led_round run host w before h =
    led_rest run host (client_turn run (rises w)).end (client_turn run (rises w)).world (with_client_turn (rises w) before)
    (led_setup run w.client.asked (slice_get (setup_commands stream_peer) w.begun) (rises w).moment before h)

led_after : {A : Type 0} (run : Run) (host : Host A) (start : A) (n : ℕ) → IsLed run (acts_after run host start n)
led_after run host start zero = (refl, refl)
led_after run host start (suc n) = led_round run host (world_after run host start n) (acts_after run host start n) (led_after run host start n)

pub shortness_is_set_first : {A : Type 0} (run : Run) (host : Host A) (start : A) (n : ℕ) → ShortnessIsSetFirst run host start n
shortness_is_set_first run host start n =
    let first : IsSetFirst run.short (camera_events (acts_after run host start n)) = led_after run host start n in
    record { first = first; rows = rows_first run.short run.seed image_shape STORE_ROOM (camera_events (acts_after run host start n)) first }
