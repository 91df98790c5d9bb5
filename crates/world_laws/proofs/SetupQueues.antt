-- What is on its way to the host says of no command that it takes longer, after each round.
use Rattle.std.proofs.Common.{◌≡◌, ◌⊎◌, ℕ, ◌+◌, Bool, true, false, List, [], ◌∷◌, ◌++◌, Option, Some, None, sym, subst, inl, inr}
use Rattle.std.specs.Prelude.{if◌then◌else◌, slice_get}
use Rattle.std.specs.List.{Contains}
use Rattle.stream_packets.specs.Packets.{StreamPacket}
use Rattle.gvsp_wire.specs.Plain.{plain}
use Rattle.gvcp_wire.specs.Messages.{PlainCommand}
use Rattle.lossy_queue.specs.declared.datagram.Channel.{Channel}
use Rattle.lossy_queue.specs.declared.datagram.Channel.TheVariants.{Control, Stream}
use Rattle.lossy_queue.specs.declared.datagram.Datagram.{Datagram}
use Rattle.lossy_queue.proofs.Puts.{puts_one}
use Rattle.client_machine.specs.Machine.{Asked, ticked, to_send, taken}
use Rattle.camera_machine.specs.Camera.{is_open}
use Rattle.camera_machine.specs.Events.{Turn, command_turn, tick_turn, frame_turn}
use Rattle.world_machine.specs.State.{Host, Run, World}
use Rattle.world_machine.specs.Queues.{to_camera, to_host, sent_to_camera, all_to_camera, ack_to_host, packets_to_host}
use Rattle.world_machine.specs.ClientTurn.{End, done, client_peer, stream_peer, setup_commands, submits, begins, client_turn}
use Rattle.world_machine.specs.CameraTurn.{turned, obeys, obeys_all, looks, camera_turn, is_due, makes}
use Rattle.world_machine.specs.HostTurn.{arrives, unless_ended, arrive_all, host_turn, asks, takes}
use Rattle.world_machine.specs.Rounds.{rises, is_done, last_line, Round, from_host, from_camera, round}
use Rattle.world_machine.proofs.Fits.{none_in}
use Rattle.world_laws.specs.Setup.{IsPromptOn, IsPromptAck, IsPromptKept, IsPromptWorld}
use Rattle.world_laws.proofs.SetupAcks.{kept_looked, kept_framed, answer_commanded}
use Rattle.world_laws.proofs.SetupProgress.{shown}

-- ---- the camera's turn

put_prompt : {A : Type 0} (run : Run) (w : World A) (new : Datagram) → IsPromptOn new.channel new.bytes → IsPromptWorld w → IsPromptWorld (to_host run w new)
put_prompt run w new h p = record { kept = p.kept; arriving = λ d among. go d ((puts_one run.rates w.x new w.to_host).only d among) }
  where
    go : (d : Datagram) → (d ≡ new) ⊎ Contains w.to_host d → IsPromptOn d.channel d.bytes
    go d (inl same) = subst (λ (e : Datagram). IsPromptOn e.channel e.bytes) (sym same) h
    go d (inr old) = p.arriving d old

ack_prompt : {A : Type 0} (run : Run) (w : World A) (o : Option (List ℕ)) → IsPromptAck o → IsPromptWorld w → IsPromptWorld (ack_to_host run w o)
ack_prompt run w None h p = p
ack_prompt run w (Some bytes) h p = put_prompt run w (record { channel = Control; bytes = bytes }) h p

packets_prompt : {A : Type 0} (run : Run) (w : World A) (xs : List StreamPacket) → IsPromptWorld w → IsPromptWorld (packets_to_host run w xs)
packets_prompt run w [] p = p
packets_prompt run w (x ∷ xs) p =
    packets_prompt run (to_host run w (record { channel = Stream; bytes = plain x })) xs
    (put_prompt run w (record { channel = Stream; bytes = plain x }) tt p)

turned_prompt : {A : Type 0} (run : Run) (w : World A) (t : Turn) → IsPromptAck t.ack → IsPromptKept t.camera.kept → IsPromptWorld w → IsPromptWorld (turned run w t)
turned_prompt {A} run w t ack kept p =
    packets_prompt run (ack_to_host run v t.ack) t.packets (ack_prompt run v t.ack ack (record { kept = kept; arriving = p.arriving }))
  where
    v : World A
    v = record w { camera = t.camera }

obeyed_prompt : {A : Type 0} (run : Run) (w : World A) (ds : List Datagram) → IsPromptWorld w → IsPromptWorld (obeys_all run w ds)
obeyed_prompt run w [] p = p
obeyed_prompt run w (d ∷ rest) p =
    let a = answer_commanded w.camera client_peer d.bytes w.moment p.kept in
    obeyed_prompt run (obeys run w d) rest (turned_prompt run w (command_turn w.camera client_peer d.bytes w.moment) a.ack a.kept p)

camera_prompt : {A : Type 0} (run : Run) (w : World A) → IsPromptWorld w → IsPromptWorld (camera_turn run w)
camera_prompt {A} run w p =
    obeyed_prompt run (looks run v) w.to_camera
    (turned_prompt run v (tick_turn w.camera w.moment) tt (kept_looked w.camera w.moment p.kept) (record { kept = p.kept; arriving = p.arriving }))
  where
    v : World A
    v = record w { to_camera = [] }

frame_prompt : {A : Type 0} (run : Run) (w : World A) → IsPromptWorld w → IsPromptWorld (makes run w)
frame_prompt {A} run w p = go (is_due run w) (is_open w.camera)
  where
    v : World A
    v = record w { made = w.made + 1 }

    go : (due open_now : Bool) → IsPromptWorld (if due then (if open_now then turned run v (frame_turn w.camera) else record w { is_over = true }) else w)
    go true true = turned_prompt run v (frame_turn w.camera) tt (kept_framed w.camera p.kept) (record { kept = p.kept; arriving = p.arriving })
    go true false = record { kept = p.kept; arriving = p.arriving }
    go false open_now = p

-- ---- a whole round

sent_prompt : {A : Type 0} (run : Run) (w : World A) (o : Option (List ℕ)) → IsPromptWorld w → IsPromptWorld (sent_to_camera run w o)
sent_prompt run w None p = p
sent_prompt run w (Some bytes) p = record { kept = p.kept; arriving = p.arriving }

begun_prompt : {A : Type 0} (w : World A) (asked : Option Asked) (next : Option PlainCommand) → IsPromptWorld w → IsPromptWorld (submits asked next w)
begun_prompt w None None p = p
begun_prompt w None (Some c) p = record { kept = p.kept; arriving = p.arriving }
begun_prompt w (Some asked) next p = p

client_prompt : {A : Type 0} (run : Run) (w : World A) → IsPromptWorld w → IsPromptWorld (client_turn run w).world
client_prompt run w p =
    let t = (ticked (begins w).client w.moment).client in
    let begun = begun_prompt w w.client.asked (slice_get (setup_commands stream_peer) w.begun) p in
    sent_prompt run (record (begins w) { client = taken t }) (to_send t.asked) (record { kept = begun.kept; arriving = begun.arriving })

-- what is on its way when datagrams arrive at the host
pub shown_prompt : {A : Type 0} (run : Run) (w : World A) → IsPromptWorld w → IsPromptWorld (shown run (client_turn run (rises w)).world)
shown_prompt run w p =
    let v = (client_turn run (rises w)).world in
    frame_prompt run (camera_turn run v) (camera_prompt run v (client_prompt run (rises w) (record { kept = p.kept; arriving = p.arriving })))

arrival_prompt : {A : Type 0} (host : Host A) (w : World A) (channel : Channel) (bytes : List ℕ) → IsPromptWorld w → IsPromptWorld (arrives host w channel bytes).world
arrival_prompt host w Control bytes p = record { kept = p.kept; arriving = p.arriving }
arrival_prompt host w Stream bytes p = record { kept = p.kept; arriving = p.arriving }

arrivals_prompt : {A : Type 0} (host : Host A) (w : World A) (ds : List Datagram) → IsPromptWorld w → IsPromptWorld (arrive_all host w ds).world
arrivals_prompt host w [] p = p
arrivals_prompt {A} host w (d ∷ rest) p = go (arrives host w d.channel d.bytes).end first (arrivals_prompt host v rest first)
  where
    v : World A
    v = (arrives host w d.channel d.bytes).world

    first : IsPromptWorld v
    first = arrival_prompt host w d.channel d.bytes p

    go : (o : Option End) → IsPromptWorld v → IsPromptWorld (arrive_all host v rest).world
        → IsPromptWorld (unless_ended o (arrives host w d.channel d.bytes) (arrive_all host v rest)).world
    go None ended more = more
    go (Some e) ended more = ended

asked_prompt : {A : Type 0} (run : Run) (w : World A) (asked : List (List ℕ)) → IsPromptWorld w → IsPromptWorld (all_to_camera run w asked)
asked_prompt run w [] p = p
asked_prompt run w (bytes ∷ rest) p = asked_prompt run (to_camera run w bytes) rest (record { kept = p.kept; arriving = p.arriving })

either_prompt : {A : Type 0} (b : Bool) (x y : Round A) → IsPromptWorld x.world → IsPromptWorld y.world → IsPromptWorld (if b then x else y).world
either_prompt true x y p q = p
either_prompt false x y p q = q

host_prompt : {A : Type 0} (run : Run) (host : Host A) (o : Option End) (w : World A) → IsPromptWorld w → IsPromptWorld (from_host run host o w).world
host_prompt run host (Some e) w p = p
host_prompt {A} run host None w p =
    either_prompt (is_done run host left) (record { world = left; text = lines ++ last_line run host left; end = Some done })
    (record { world = left; text = lines; end = None }) stays stays
  where
    left : World A
    left = takes host (asks run host w)

    lines : List ℕ
    lines = host.lines (asks run host w).host

    stays : IsPromptWorld left
    stays =
        let p = asked_prompt run (record w { host = host.ticks w.host w.moment }) (host.requests w.host w.moment) (record { kept = p.kept; arriving = p.arriving }) in
        record { kept = p.kept; arriving = p.arriving }

-- the camera's turn and what follows, from what is on its way then
rest_prompt : {A : Type 0} (run : Run) (host : Host A) (o : Option End) (w : World A) → IsPromptWorld w → IsPromptWorld (shown run w)
    → IsPromptWorld (from_camera run host o w).world
rest_prompt run host (Some e) w p q = p
rest_prompt run host None w p q =
    host_prompt run host (host_turn host (shown run w)).end (host_turn host (shown run w)).world
    (arrivals_prompt host (record (shown run w) { to_host = [] }) (shown run w).to_host (record { kept = q.kept; arriving = λ d among. absurd (none_in d among) }))

pub round_prompt : {A : Type 0} (run : Run) (host : Host A) (w : World A) → IsPromptWorld w → IsPromptWorld (round run host w).world
round_prompt run host w p =
    rest_prompt run host (client_turn run (rises w)).end (client_turn run (rises w)).world
    (client_prompt run (rises w) (record { kept = p.kept; arriving = p.arriving })) (shown_prompt run w p)
