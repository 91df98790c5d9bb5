-- The host is what its own acts made it: nothing else of a round changes it.
use Rattle.std.proofs.Common.{◌≡◌, ℕ, zero, suc, ◌+◌, Bool, true, false, List, [], ◌∷◌, ◌++◌, Option, Some, None, refl, sym, ap, ◌∙◌}
use Rattle.std.specs.Prelude.{if◌then◌else◌, slice_get}
use Rattle.stream_packets.specs.Packets.{StreamPacket}
use Rattle.gvsp_wire.specs.Plain.{plain}
use Rattle.gvcp_wire.specs.Messages.{PlainCommand}
use Rattle.lossy_queue.specs.declared.datagram.Channel.{Channel}
use Rattle.lossy_queue.specs.declared.datagram.Channel.TheVariants.{Control, Stream}
use Rattle.lossy_queue.specs.declared.datagram.Datagram.{Datagram}
use Rattle.client_machine.specs.Machine.{Asked, ticked, to_send, taken}
use Rattle.camera_machine.specs.Camera.{is_open}
use Rattle.camera_machine.specs.Events.{Turn, command_turn, tick_turn, frame_turn}
use Rattle.world_machine.specs.State.{Host, Run, World}
use Rattle.world_machine.specs.Queues.{to_camera, to_host, sent_to_camera, all_to_camera, ack_to_host, packets_to_host}
use Rattle.world_machine.specs.ClientTurn.{End, done, client_peer, stream_peer, setup_commands, submits, begins, client_turn}
use Rattle.world_machine.specs.CameraTurn.{turned, obeys, obeys_all, looks, camera_turn, is_due, sends_frame, makes}
use Rattle.world_machine.specs.HostTurn.{arrives, unless_ended, arrive_all, host_turn, asks, takes}
use Rattle.world_machine.specs.Rounds.{rises, is_done, last_line, Round, from_host, from_camera, world_after}
use Rattle.world_machine.specs.HostActs.{HostAct, host_after, with_hearing, with_hearings, with_host_turn, with_host_rest, host_acts_after}

-- ---- the client's and the camera's turns leave it

sent_leaves : {A : Type 0} (run : Run) (w : World A) (o : Option (List ℕ)) → (sent_to_camera run w o).host ≡ w.host
sent_leaves run w None = refl
sent_leaves run w (Some bytes) = refl

pub asked_leaves : {A : Type 0} (run : Run) (w : World A) (asked : List (List ℕ)) → (all_to_camera run w asked).host ≡ w.host
asked_leaves run w [] = refl
asked_leaves run w (bytes ∷ rest) = asked_leaves run (to_camera run w bytes) rest

ack_leaves : {A : Type 0} (run : Run) (w : World A) (o : Option (List ℕ)) → (ack_to_host run w o).host ≡ w.host
ack_leaves run w None = refl
ack_leaves run w (Some bytes) = refl

packets_leave : {A : Type 0} (run : Run) (w : World A) (xs : List StreamPacket) → (packets_to_host run w xs).host ≡ w.host
packets_leave run w [] = refl
packets_leave run w (x ∷ xs) = packets_leave run (to_host run w (record { channel = Stream; bytes = plain x })) xs

turned_leaves : {A : Type 0} (run : Run) (w : World A) (t : Turn) → (turned run w t).host ≡ w.host
turned_leaves run w t = packets_leave run (ack_to_host run (record w { camera = t.camera }) t.ack) t.packets ∙ ack_leaves run (record w { camera = t.camera }) t.ack

obeyed_leaves : {A : Type 0} (run : Run) (w : World A) (ds : List Datagram) → (obeys_all run w ds).host ≡ w.host
obeyed_leaves run w [] = refl
obeyed_leaves run w (d ∷ rest) = obeyed_leaves run (obeys run w d) rest ∙ turned_leaves run w (command_turn w.camera client_peer d.bytes w.moment)

pub camera_leaves : {A : Type 0} (run : Run) (w : World A) → (camera_turn run w).host ≡ w.host
camera_leaves {A} run w = obeyed_leaves run (looks run v) w.to_camera ∙ turned_leaves run v (tick_turn w.camera w.moment)
  where
    v : World A
    v = record w { to_camera = [] }

either_leaves : {A : Type 0} (w : World A) (b : Bool) (x y : World A) → x.host ≡ w.host → y.host ≡ w.host → (if b then x else y).host ≡ w.host
either_leaves w true x y p q = p
either_leaves w false x y p q = q

pub frame_leaves : {A : Type 0} (run : Run) (w : World A) → (makes run w).host ≡ w.host
frame_leaves {A} run w =
    either_leaves w (is_due run w) (sends_frame run w) w
    (either_leaves w (is_open w.camera) (turned run v (frame_turn w.camera)) (record w { is_over = true }) (turned_leaves run v (frame_turn w.camera)) refl) refl
  where
    v : World A
    v = record w { made = w.made + 1 }

submits_leaves : {A : Type 0} (asked : Option Asked) (next : Option PlainCommand) (w : World A) → (submits asked next w).host ≡ w.host
submits_leaves None None w = refl
submits_leaves None (Some c) w = refl
submits_leaves (Some asked) next w = refl

pub client_leaves : {A : Type 0} (run : Run) (w : World A) → (client_turn run w).world.host ≡ w.host
client_leaves {A} run w =
    sent_leaves run v (to_send (ticked (begins w).client w.moment).client.asked)
    ∙ submits_leaves w.client.asked (slice_get (setup_commands stream_peer) w.begun) w
  where
    v : World A
    v = record (begins w) { client = taken (ticked (begins w).client w.moment).client }

-- ---- its own turn

arrival_is : {A : Type 0} (host : Host A) (start : A) (w : World A) (hs : List HostAct) (channel : Channel) (bytes : List ℕ) → host_after host start hs ≡ w.host
    → host_after host start (with_hearing channel bytes hs) ≡ (arrives host w channel bytes).world.host
arrival_is host start w hs Control bytes is = is
arrival_is {A} host start w hs Stream bytes is = ap (λ (a : A). host.hears a bytes) is

pub arrivals_are : {A : Type 0} (host : Host A) (start : A) (ds : List Datagram) (w : World A) (hs : List HostAct) → host_after host start hs ≡ w.host
    → host_after host start (with_hearings host w ds hs) ≡ (arrive_all host w ds).world.host
arrivals_are host start [] w hs is = is
arrivals_are {A} host start (d ∷ rest) w hs is =
    go (arrives host w d.channel d.bytes).end first (arrivals_are host start rest v heard first)
  where
    v : World A
    v = (arrives host w d.channel d.bytes).world

    heard : List HostAct
    heard = with_hearing d.channel d.bytes hs

    first : host_after host start heard ≡ v.host
    first = arrival_is host start w hs d.channel d.bytes is

    go : (o : Option End) → host_after host start heard ≡ v.host → host_after host start (with_hearings host v rest heard) ≡ (arrive_all host v rest).world.host
        → host_after host start (unless_ended o heard (with_hearings host v rest heard)) ≡ (unless_ended o (arrives host w d.channel d.bytes) (arrive_all host v rest)).world.host
    go None ended more = more
    go (Some e) ended more = ended

either_ends : {A : Type 0} (b : Bool) (x y : Round A) (a : A) → a ≡ x.world.host → a ≡ y.world.host → a ≡ (if b then x else y).world.host
either_ends true x y a p q = p
either_ends false x y a p q = q

turn_is : {A : Type 0} (run : Run) (host : Host A) (start : A) (o : Option End) (w : World A) (hs : List HostAct) → host_after host start hs ≡ w.host
    → host_after host start (with_host_turn o w hs) ≡ (from_host run host o w).world.host
turn_is run host start (Some e) w hs is = is
turn_is {A} run host start None w hs is =
    either_ends (is_done run host v) (record { world = v; text = lines ++ last_line run host v; end = Some done }) (record { world = v; text = lines; end = None })
    (host.takes (host.ticks (host_after host start hs) w.moment)) same same
  where
    v : World A
    v = takes host (asks run host w)

    lines : List ℕ
    lines = host.lines (asks run host w).host

    same : host.takes (host.ticks (host_after host start hs) w.moment) ≡ v.host
    same =
        ap (λ (a : A). host.takes (host.ticks a w.moment)) is
        ∙ ap (λ (a : A). host.takes a) (sym (asked_leaves run (record w { host = host.ticks w.host w.moment }) (host.requests w.host w.moment)))

rest_is : {A : Type 0} (run : Run) (host : Host A) (start : A) (o : Option End) (w : World A) (hs : List HostAct) → host_after host start hs ≡ w.host
    → host_after host start (with_host_rest run host o w hs) ≡ (from_camera run host o w).world.host
rest_is run host start (Some e) w hs is = is
rest_is {A} run host start None w hs is =
    turn_is run host start (host_turn host shown).end (host_turn host shown).world (with_hearings host (record shown { to_host = [] }) shown.to_host hs)
    (arrivals_are host start shown.to_host (record shown { to_host = [] }) hs
    (is ∙ sym (frame_leaves run (camera_turn run w) ∙ camera_leaves run w)))
  where
    shown : World A
    shown = makes run (camera_turn run w)

pub host_is : {A : Type 0} (run : Run) (host : Host A) (start : A) (n : ℕ)
    → host_after host start (host_acts_after run host start n) ≡ (world_after run host start n).host
host_is run host start zero = refl
host_is {A} run host start (suc n) =
    rest_is run host start (client_turn run (rises w)).end (client_turn run (rises w)).world (host_acts_after run host start n)
    (host_is run host start n ∙ sym (client_leaves run (rises w)))
  where
    w : World A
    w = world_after run host start n
