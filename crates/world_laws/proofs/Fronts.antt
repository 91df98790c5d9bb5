-- What a round does stands in front of what was done before it, which it doesn't look at.
use Rattle.std.proofs.Common.{◌≡◌, ℕ, zero, suc, Bool, true, false, List, [], ◌∷◌, ◌++◌, Option, Some, None, refl, sym, ap, ◌∙◌, append_assoc}
use Rattle.std.specs.Prelude.{if◌then◌else◌, slice_get}
use Rattle.gvcp_wire.specs.Messages.{PlainCommand}
use Rattle.lossy_queue.specs.declared.datagram.Channel.{Channel}
use Rattle.lossy_queue.specs.declared.datagram.Channel.TheVariants.{Control, Stream}
use Rattle.lossy_queue.specs.declared.datagram.Datagram.{Datagram}
use Rattle.client_machine.specs.Machine.{Asked}
use Rattle.camera_machine.specs.Camera.{Camera, is_open}
use Rattle.camera_machine.specs.Stream.{waiting_count}
use Rattle.camera_machine.specs.Events as cameras
use Rattle.client_machine.specs.Events as clients
use Rattle.world_machine.specs.Schedule.{Act, at_client, at_camera}
use Rattle.world_machine.specs.State.{Host, Run, World}
use Rattle.world_machine.specs.ClientTurn.{End, client_peer, stream_peer, setup_commands, client_turn}
use Rattle.world_machine.specs.CameraTurn.{obeys, looks, camera_turn, is_due, makes}
use Rattle.world_machine.specs.HostTurn.{arrives, unless_ended, host_turn}
use Rattle.world_machine.specs.Rounds.{rises}
use Rattle.world_machine.specs.Acts.{with_setup, with_client_turn, with_packets, with_turn, with_obeyed, with_all_obeyed, with_camera_turn, with_frame, with_arrival, with_arrivals, with_rest, with_round}
use Rattle.world_machine.specs.HostActs.{HostAct, with_hearing, with_hearings, with_host_turn, with_host_rest, with_host_round}

-- it puts something in front
abbrev pub Fronts : {X : Type 0} → (List X → List X) → Type 0
Fronts {X} f = (before : List X) → f before ≡ f [] ++ before

front_after : {X : Type 0} (f g : List X → List X) → Fronts f → Fronts g → Fronts (λ before. g (f before))
front_after f g p q before = q (f before) ∙ (ap (λ l. g [] ++ l) (p before) ∙ (sym (append_assoc (g []) (f []) before) ∙ ap (λ l. l ++ before) (sym (q (f [])))))

front_if : {X : Type 0} (b : Bool) (f g : List X → List X) → Fronts f → Fronts g → Fronts (λ before. if b then f before else g before)
front_if true f g p q before = p before
front_if false f g p q before = q before

-- ---- the client and the camera

setup_front : (asked : Option Asked) (next : Option PlainCommand) (moment : ℕ) → Fronts (with_setup asked next moment)
setup_front None None moment before = refl
setup_front None (Some c) moment before = refl
setup_front (Some asked) next moment before = refl

client_front : {A : Type 0} (w : World A) → Fronts (with_client_turn w)
client_front w before =
    ap (λ l. at_client clients.takes ∷ at_client (clients.ticks w.moment) ∷ l)
    (setup_front w.client.asked (slice_get (setup_commands stream_peer) w.begun) w.moment before)

packets_front : (n : ℕ) → Fronts (with_packets n)
packets_front zero before = refl
packets_front (suc n) before = front_after (λ l. at_camera cameras.next_packet ∷ l) (with_packets n) (λ l. refl) (packets_front n) before

turn_front : (s : Camera) (e : cameras.Event) → Fronts (with_turn s e)
turn_front s e before =
    front_after (λ l. at_camera e ∷ l) (with_packets (waiting_count (cameras.step s e))) (λ l. refl) (packets_front (waiting_count (cameras.step s e))) before

obeyed_front : {A : Type 0} (run : Run) (w : World A) (ds : List Datagram) → Fronts (with_all_obeyed run w ds)
obeyed_front run w [] before = refl
obeyed_front run w (d ∷ rest) before =
    front_after (with_obeyed w d) (with_all_obeyed run (obeys run w d) rest)
    (turn_front w.camera (cameras.command client_peer d.bytes w.moment)) (obeyed_front run (obeys run w d) rest) before

camera_front : {A : Type 0} (run : Run) (w : World A) → Fronts (with_camera_turn run w)
camera_front run w before =
    front_after (with_turn w.camera (cameras.tick w.moment)) (with_all_obeyed run (looks run (record w { to_camera = [] })) w.to_camera)
    (turn_front w.camera (cameras.tick w.moment)) (obeyed_front run (looks run (record w { to_camera = [] })) w.to_camera) before

frame_front : {A : Type 0} (run : Run) (w : World A) → Fronts (with_frame run w)
frame_front run w before =
    front_if (is_due run w) (λ l. if is_open w.camera then with_turn w.camera cameras.make_frame l else l) (λ l. l)
    (front_if (is_open w.camera) (with_turn w.camera cameras.make_frame) (λ l. l) (turn_front w.camera cameras.make_frame) (λ l. refl)) (λ l. refl) before

arrival_front : (channel : Channel) (bytes : List ℕ) (moment : ℕ) → Fronts (with_arrival channel bytes moment)
arrival_front Control bytes moment before = refl
arrival_front Stream bytes moment before = refl

ended_front : {X : Type 0} (o : Option End) (f g : List X → List X) → Fronts f → Fronts g → Fronts (λ before. unless_ended o (f before) (g before))
ended_front None f g p q before = q before
ended_front (Some e) f g p q before = p before

arrivals_front : {A : Type 0} (host : Host A) (w : World A) (ds : List Datagram) → Fronts (with_arrivals host w ds)
arrivals_front host w [] before = refl
arrivals_front {A} host w (d ∷ rest) before =
    let v : World A = (arrives host w d.channel d.bytes).world in
    let f : List Act → List Act = with_arrival d.channel d.bytes w.moment in
    let more : List Act → List Act = λ l. with_arrivals host v rest (f l) in
    ended_front (arrives host w d.channel d.bytes).end f more (arrival_front d.channel d.bytes w.moment)
    (front_after f (with_arrivals host v rest) (arrival_front d.channel d.bytes w.moment) (arrivals_front host v rest)) before

rest_front : {A : Type 0} (run : Run) (host : Host A) (o : Option End) (w : World A) → Fronts (with_rest run host o w)
rest_front run host (Some e) w before = refl
rest_front {A} run host None w before =
    let seen : World A = camera_turn run w in
    let shown : World A = makes run seen in
    let last : List Act → List Act = with_arrivals host (record shown { to_host = [] }) shown.to_host in
    front_after (λ l. with_frame run seen (with_camera_turn run w l)) last
    (front_after (with_camera_turn run w) (with_frame run seen) (camera_front run w) (frame_front run seen))
    (arrivals_front host (record shown { to_host = [] }) shown.to_host) before

pub round_front : {A : Type 0} (run : Run) (host : Host A) (w : World A) → Fronts (with_round run host w)
round_front {A} run host w before =
    let o : Option End = (client_turn run (rises w)).end in
    let v : World A = (client_turn run (rises w)).world in
    front_after (with_client_turn (rises w)) (with_rest run host o v) (client_front (rises w)) (rest_front run host o v) before

-- ---- the host

hearing_front : (channel : Channel) (bytes : List ℕ) → Fronts (with_hearing channel bytes)
hearing_front Control bytes before = refl
hearing_front Stream bytes before = refl

hearings_front : {A : Type 0} (host : Host A) (w : World A) (ds : List Datagram) → Fronts (with_hearings host w ds)
hearings_front host w [] before = refl
hearings_front {A} host w (d ∷ rest) before =
    let v : World A = (arrives host w d.channel d.bytes).world in
    let f : List HostAct → List HostAct = with_hearing d.channel d.bytes in
    let more : List HostAct → List HostAct = λ l. with_hearings host v rest (f l) in
    ended_front (arrives host w d.channel d.bytes).end f more (hearing_front d.channel d.bytes)
    (front_after f (with_hearings host v rest) (hearing_front d.channel d.bytes) (hearings_front host v rest)) before

host_turn_front : {A : Type 0} (o : Option End) (w : World A) → Fronts (with_host_turn o w)
host_turn_front (Some e) w before = refl
host_turn_front None w before = refl

host_rest_front : {A : Type 0} (run : Run) (host : Host A) (o : Option End) (w : World A) → Fronts (with_host_rest run host o w)
host_rest_front run host (Some e) w before = refl
host_rest_front {A} run host None w before =
    let shown : World A = makes run (camera_turn run w) in
    let e : Option End = (host_turn host shown).end in
    let v : World A = (host_turn host shown).world in
    front_after (with_hearings host (record shown { to_host = [] }) shown.to_host) (with_host_turn e v)
    (hearings_front host (record shown { to_host = [] }) shown.to_host) (host_turn_front e v) before

pub host_round_front : {A : Type 0} (run : Run) (host : Host A) (w : World A) → Fronts (with_host_round run host w)
host_round_front run host w before = host_rest_front run host (client_turn run (rises w)).end (client_turn run (rises w)).world before
