-- The receiver of a soak run hears the packets of the frames of the run's seed.
use Rattle.std.proofs.Common.{◌≡◌, inl, inr, ℕ, zero, suc, ◌+◌, ◌≤◌, Bool, true, false, List, [], ◌∷◌, Option, Some, None, refl, sym, ap, subst, arith, ◌∙◌, ◌<◌}
use Rattle.std.specs.Prelude.{◌-◌, ◌==◌, ◌&&◌, not, nat_lt, if◌then◌else◌, slice_get, All, IfSome}
use Rattle.std.specs.List.{AllByRecursion, Contains}
use Rattle.std.proofs.lemmas.Bool.{ltb-true, and_parts}
use Rattle.std.proofs.lemmas.List.Elements.{All-nil, All-head, All-tail, All-push, All-weaker, All-contains}
use Rattle.gev_types.specs.declared.frame.Frame.{Frame}
use Rattle.gev_frames.proofs.Draws.{camera_makes}
use Rattle.stream_packets.specs.Packets.{StreamPacket}
use Rattle.stream_packets.specs.Sent.{AreFrames, IsSent}
use Rattle.gvsp_wire.specs.Reading.{packet_of}
use Rattle.gvcp_wire.specs.Messages.{PlainCommand}
use Rattle.lossy_queue.specs.declared.datagram.Channel.{Channel}
use Rattle.lossy_queue.specs.declared.datagram.Channel.TheVariants.{Control, Stream}
use Rattle.lossy_queue.specs.declared.datagram.Datagram.{Datagram}
use Rattle.client_machine.specs.Machine.{Asked}
use Rattle.acquisition_machine.specs.Blocks.{Open}
use Rattle.acquisition_machine.specs.Sound.{RiseFrom}
use Rattle.camera_machine.specs.Camera.{Camera, new_camera, is_open}
use Rattle.camera_machine.specs.Stream.{first_waiting, waiting_count}
use Rattle.camera_machine.specs.Events.{frame_turn, past}
use Rattle.camera_machine.proofs.Sending.{lines_step}
use Rattle.camera_machine.specs.Events as cameras
use Rattle.world_machine.specs.Schedule.{Act, at_client, at_camera, with_last, camera_events}
use Rattle.world_machine.proofs.Apart.{apart}
use Rattle.world_machine.specs.State.{Host, Run, World, image_shape, STORE_ROOM}
use Rattle.world_machine.specs.ClientTurn.{End, SETUP_SIZE, client_peer, stream_peer, setup_commands, client_turn}
use Rattle.world_machine.specs.CameraTurn.{turned, obeys, looks, camera_turn, is_due, makes}
use Rattle.world_machine.specs.HostTurn.{arrives, unless_ended}
use Rattle.world_machine.specs.Rounds.{rises, world_after, round}
use Rattle.world_machine.specs.Acts.{with_setup, with_client_turn, with_packets, with_turn, with_all_obeyed, with_camera_turn, with_frame, with_arrival, with_arrivals, with_rest, with_round, acts_after}
use Rattle.world_machine.specs.HostActs.{given_by, host_acts_after, host_hears}
use Rattle.world_machine.proofs.Fits.{line_of, given_of}
use Rattle.world_machine.proofs.WholeRounds.{hears_given}
use Rattle.world_machine.proofs.SetFirst.{shortness_is_set_first}
use Rattle.world_laws.specs.Receiver.{Receiver, soak_config, soak_host, start}
use Rattle.world_laws.specs.Setup.{GoesOn}
use Rattle.world_laws.specs.Tail.{HasBlock, HostGoes}
use Rattle.world_laws.specs.Packets.{soak_frames, IsSoakPacket, HearsItsFrames}
use Rattle.gvcp_wire.specs.declared.resend.Resend.{Resend}
use Rattle.world_laws.proofs.TailCamera.{AsksFor}
use Rattle.world_laws.proofs.TailWorld.{frames_leave, AskedFor, Began, client_began}
use Rattle.world_laws.proofs.TailFalls.{queue_asks, as_before, made_is_shown}
use Rattle.world_laws.proofs.Endings.{running, soak_acts_once}
use Rattle.world_laws.proofs.PacketChanges.{IsFine, IsFineEvent, frame_events, HaveRunRows, gives_sent}
use Rattle.world_laws.proofs.PacketReads.{frame_of_block, sent_reads}

-- ---- acts whose commands are fine

abbrev IsFineAct : Act → Type 0
IsFineAct (at_client e) = Unit {0}
IsFineAct (at_camera e) = IsFineEvent e

abbrev AreFine : List Act → Type 0
AreFine acts = AllByRecursion IsFineAct acts

abbrev IsFineDatagram : Datagram → Type 0
IsFineDatagram d = IsFine d.bytes

fine_packets : (k : ℕ) (before : List Act) → AreFine before → AreFine (with_packets k before)
fine_packets zero before h = h
fine_packets (suc k) before h = fine_packets k (at_camera cameras.next_packet ∷ before) (tt, h)

fine_turn : (s : Camera) (e : cameras.Event) (before : List Act) → IsFineEvent e → AreFine before → AreFine (with_turn s e before)
fine_turn s e before f h = fine_packets (waiting_count (cameras.step s e)) (at_camera e ∷ before) (f, h)

fine_obeyed : {A : Type 0} (run : Run) (w : World A) (ds : List Datagram) (before : List Act) → All IsFineDatagram ds → AreFine before → AreFine (with_all_obeyed run w ds before)
fine_obeyed run w [] before all h = h
fine_obeyed run w (d ∷ rest) before all h =
    fine_obeyed run (obeys run w d) rest (with_turn w.camera (cameras.command client_peer d.bytes w.moment) before) (All-tail IsFineDatagram d rest all)
    (fine_turn w.camera (cameras.command client_peer d.bytes w.moment) before (All-head IsFineDatagram d rest all) h)

fine_frame : {A : Type 0} (run : Run) (w : World A) (before : List Act) → AreFine before → AreFine (with_frame run w before)
fine_frame run w before h = go (is_due run w) (is_open w.camera)
  where
    go : (due open_now : Bool) → AreFine (if due then (if open_now then with_turn w.camera cameras.make_frame before else before) else before)
    go true true = fine_turn w.camera cameras.make_frame before tt h
    go true false = h
    go false open_now = h

fine_client : (asked : Option Asked) (next : Option PlainCommand) (moment : ℕ) (before : List Act) → AreFine before → AreFine (with_setup asked next moment before)
fine_client None None moment before h = h
fine_client None (Some c) moment before h = (tt, h)
fine_client (Some asked) next moment before h = h

fine_arrival : (channel : Channel) (bytes : List ℕ) (moment : ℕ) (before : List Act) → AreFine before → AreFine (with_arrival channel bytes moment before)
fine_arrival Control bytes moment before h = (tt, h)
fine_arrival Stream bytes moment before h = h

fine_arrivals : {A : Type 0} (host : Host A) (w : World A) (ds : List Datagram) (before : List Act) → AreFine before → AreFine (with_arrivals host w ds before)
fine_arrivals host w [] before h = h
fine_arrivals {A} host w (d ∷ rest) before h = go (arrives host w d.channel d.bytes).end first (fine_arrivals host (arrives host w d.channel d.bytes).world rest next first)
  where
    next : List Act
    next = with_arrival d.channel d.bytes w.moment before

    first : AreFine next
    first = fine_arrival d.channel d.bytes w.moment before h

    go : (o : Option End) → AreFine next → AreFine (with_arrivals host (arrives host w d.channel d.bytes).world rest next)
        → AreFine (unless_ended o next (with_arrivals host (arrives host w d.channel d.bytes).world rest next))
    go None ended more = more
    go (Some e) ended more = ended

fine_rest : {A : Type 0} (run : Run) (host : Host A) (o : Option End) (w : World A) (before : List Act) → All IsFineDatagram w.to_camera → AreFine before → AreFine (with_rest run host o w before)
fine_rest run host (Some e) w before all h = h
fine_rest {A} run host None w before all h =
    fine_arrivals host (record shown { to_host = [] }) shown.to_host (with_frame run seen (with_camera_turn run w before))
    (fine_frame run seen (with_camera_turn run w before)
    (fine_obeyed run (looks run (record w { to_camera = [] })) w.to_camera (with_turn w.camera (cameras.tick w.moment) before) all (fine_turn w.camera (cameras.tick w.moment) before tt h)))
  where
    seen : World A
    seen = camera_turn run w

    shown : World A
    shown = makes run seen

-- ---- how many of the acts make a frame

abbrev frames_in : List Act → ℕ
frames_in acts = frame_events (camera_events acts)

abbrev one_if : Bool → ℕ
one_if b = if b then 1 else 0

packets_count : (k : ℕ) (before : List Act) → frames_in (with_packets k before) ≡ frames_in before
packets_count zero before = refl
packets_count (suc k) before = packets_count k (at_camera cameras.next_packet ∷ before)

obeyed_count : {A : Type 0} (run : Run) (w : World A) (ds : List Datagram) (before : List Act) → frames_in (with_all_obeyed run w ds before) ≡ frames_in before
obeyed_count run w [] before = refl
obeyed_count run w (d ∷ rest) before =
    obeyed_count run (obeys run w d) rest (with_turn w.camera (cameras.command client_peer d.bytes w.moment) before)
    ∙ packets_count (waiting_count (cameras.step w.camera (cameras.command client_peer d.bytes w.moment))) (at_camera (cameras.command client_peer d.bytes w.moment) ∷ before)

-- whether the camera makes a frame
abbrev is_sent : {A : Type 0} → Run → World A → Bool
is_sent run w = is_due run w && is_open w.camera

frame_count : {A : Type 0} (run : Run) (w : World A) (before : List Act) → frames_in (with_frame run w before) ≡ one_if (is_sent run w) + frames_in before
frame_count run w before = go (is_due run w) (is_open w.camera)
  where
    go : (due open_now : Bool) → frames_in (if due then (if open_now then with_turn w.camera cameras.make_frame before else before) else before) ≡ one_if (due && open_now) + frames_in before
    go true true = omega (arith, packets_count (waiting_count (cameras.step w.camera cameras.make_frame)) (at_camera cameras.make_frame ∷ before))
    go true false = omega arith
    go false open_now = omega arith

made_count : {A : Type 0} (run : Run) (w : World A) → (makes run w).made ≡ one_if (is_sent run w) + w.made
made_count {A} run w = go (is_due run w) (is_open w.camera)
  where
    counted : World A
    counted = record w { made = w.made + 1 }

    go : (due open_now : Bool) → (if due then (if open_now then turned run counted (frame_turn w.camera) else record w { is_over = true }) else w).made ≡ one_if (due && open_now) + w.made
    go true true = omega (arith, (frames_leave run (record counted { camera = (frame_turn w.camera).camera }) (frame_turn w.camera).packets).0)
    go true false = omega arith
    go false open_now = omega arith

client_count : (asked : Option Asked) (next : Option PlainCommand) (moment : ℕ) (before : List Act) → frames_in (with_setup asked next moment before) ≡ frames_in before
client_count None None moment before = refl
client_count None (Some c) moment before = refl
client_count (Some asked) next moment before = refl

arrival_count : (channel : Channel) (bytes : List ℕ) (moment : ℕ) (before : List Act) → frames_in (with_arrival channel bytes moment before) ≡ frames_in before
arrival_count Control bytes moment before = refl
arrival_count Stream bytes moment before = refl

arrivals_count : {A : Type 0} (host : Host A) (w : World A) (ds : List Datagram) (before : List Act) → frames_in (with_arrivals host w ds before) ≡ frames_in before
arrivals_count host w [] before = refl
arrivals_count {A} host w (d ∷ rest) before =
    go (arrives host w d.channel d.bytes).end (arrivals_count host (arrives host w d.channel d.bytes).world rest next) ∙ arrival_count d.channel d.bytes w.moment before
  where
    next : List Act
    next = with_arrival d.channel d.bytes w.moment before

    go : (o : Option End) → frames_in (with_arrivals host (arrives host w d.channel d.bytes).world rest next) ≡ frames_in next
        → frames_in (unless_ended o next (with_arrivals host (arrives host w d.channel d.bytes).world rest next)) ≡ frames_in next
    go None more = more
    go (Some e) more = refl

rest_count : {A : Type 0} (run : Run) (host : Host A) (o : Option End) (w : World A) (before : List Act)
    → frames_in (with_rest run host o w before) ≤ one_if (is_sent run (camera_turn run w)) + frames_in before
rest_count run host (Some e) w before = omega arith
rest_count {A} run host None w before =
    omega (
      arith,
      arrivals_count host (record shown { to_host = [] }) shown.to_host (with_frame run seen (with_camera_turn run w before)),
      frame_count run seen (with_camera_turn run w before),
      obeyed_count run (looks run (record w { to_camera = [] })) w.to_camera (with_turn w.camera (cameras.tick w.moment) before),
      packets_count (waiting_count (cameras.step w.camera (cameras.tick w.moment))) (at_camera (cameras.tick w.moment) ∷ before),
    )
  where
    seen : World A
    seen = camera_turn run w

    shown : World A
    shown = makes run seen

round_count : {A : Type 0} (run : Run) (host : Host A) (w : World A) (before : List Act)
    → frames_in (with_round run host w before) ≤ one_if (is_sent run (camera_turn run (client_turn run (rises w)).world)) + frames_in before
round_count run host w before =
    omega (
      arith,
      rest_count run host (client_turn run (rises w)).end (client_turn run (rises w)).world (with_client_turn (rises w) before),
      client_count w.client.asked (slice_get (setup_commands stream_peer) w.begun) (rises w).moment before,
    )

-- ---- the acts of a run

from_one : (b low : ℕ) (os : List Open) → 1 ≤ low → RiseFrom low os → HasBlock b os → 1 ≤ b
from_one b low [] h r n = absurd n
from_one b low (o ∷ os) h r (inl e) = let above : low ≤ o.block = r.0 in omega arith
from_one b low (o ∷ os) h r (inr n) = from_one b (o.block + 1) os (omega arith) r.1 n

fine_queue : (run : Run) (w : World Receiver) → HostGoes w → All IsFineDatagram (client_turn run (rises w)).world.to_camera
fine_queue run w g = All-weaker (AskedFor K) IsFineDatagram (λ d a. (weaker _ a.0, a.1)) (client_turn run (rises w)).world.to_camera b.to_camera
  where
    K : ℕ → Type 0
    K = λ b. 1 ≤ b

    weaker : (o : Option Resend) → IfSome o (AsksFor K) → IfSome o (λ r. 1 ≤ r.block)
    weaker None h = tt
    weaker (Some r) h = h.1

    b : Began K (rises w) (client_turn run (rises w)).world
    b = client_began K run (rises w) g.client
        (queue_asks K w g (λ b here low. from_one b w.host.acquisition.floor w.host.acquisition.opens g.receiver.sound.from_one g.receiver.sound.rise here))

fine_round : (run : Run) (w : World Receiver) (before : List Act) → HostGoes w → AreFine before → AreFine (with_round run soak_host w before)
fine_round run w before g h =
    fine_rest run soak_host (client_turn run (rises w)).end (client_turn run (rises w)).world (with_client_turn (rises w) before) (fine_queue run w g)
    (tt, (tt, fine_client w.client.asked (slice_get (setup_commands stream_peer) w.begun) (rises w).moment before h))

fine_acts : (run : Run) (n : ℕ) → GoesOn run soak_host start (n - 1) → AreFine (acts_after run soak_host start n)
fine_acts run zero h = (tt, tt)
fine_acts run (suc n) h =
    fine_round run (world_after run soak_host start n) (acts_after run soak_host start n) (running run n (λ m below. h m (omega arith))).goes.host
    (fine_acts run n (λ m below. h m (omega arith)))

-- So many frames were made, and no more than the run has.
record HasMade (run : Run) (w : World Receiver) (acts : List Act) : Type 0 where
  few : frames_in acts ≤ w.made
  most : w.made ≤ run.frames

due_below : (set over : Bool) (made frames : ℕ) → (set && not over && nat_lt made frames) ≡ true → made < frames
due_below true false made frames e = ltb-true made frames e
due_below true true made frames e = absurd (cc)
due_below false over made frames e = absurd (cc)

sent_below : (run : Run) (w : World Receiver) → HostGoes w → is_sent run (camera_turn run (client_turn run (rises w)).world) ≡ true → w.made < run.frames
sent_below run w g e =
    let due = (and_parts (is_due run (camera_turn run (client_turn run (rises w)).world)) (is_open (camera_turn run (client_turn run (rises w)).world).camera) e).0 in
    due_below (w.done == SETUP_SIZE) w.is_over w.made run.frames (sym (as_before run w g).due_is ∙ due)

-- one more frame, where one is sent
one_more : (sent : Bool) (made frames : ℕ) → (sent ≡ true → made < frames) → made ≤ frames → one_if sent + made ≤ frames
one_more true made frames below most = let less = below refl in omega arith
one_more false made frames below most = omega arith

made_next : (run : Run) (w : World Receiver) (acts : List Act) → HostGoes w → HasMade run w acts → (round run soak_host w).end ≡ None
    → HasMade run (round run soak_host w).world (with_round run soak_host w acts)
made_next run w acts g h e = record {
  few = let few = h.few in omega (arith, round_count run soak_host w acts, is);
  most = let most = one_more (is_sent run u) w.made run.frames (sent_below run w g) h.most in omega (arith, is);
}
  where
    u : World Receiver
    u = camera_turn run (client_turn run (rises w)).world

    is : (round run soak_host w).world.made ≡ one_if (is_sent run (camera_turn run (client_turn run (rises w)).world)) + w.made
    is = omega (arith, made_is_shown run w g e, made_count run (camera_turn run (client_turn run (rises w)).world), (as_before run w g).made_is)

has_made : (run : Run) (n : ℕ) → GoesOn run soak_host start n → HasMade run (world_after run soak_host start n) (acts_after run soak_host start n)
has_made run zero h = record { few = omega arith; most = omega arith }
has_made run (suc n) h =
    made_next run (world_after run soak_host start n) (acts_after run soak_host start n) (running run n (λ m below. h m (omega arith))).goes.host
    (has_made run n (λ m below. h m (omega arith))) (h n (omega arith))

few_frames : (run : Run) (n : ℕ) → GoesOn run soak_host start (n - 1) → frames_in (acts_after run soak_host start n) ≤ run.frames
few_frames run zero h = omega arith
few_frames run (suc n) h =
    let w = world_after run soak_host start n in
    let before = has_made run n (λ m below. h m (omega arith)) in
    let most = one_more (is_sent run (camera_turn run (client_turn run (rises w)).world)) w.made run.frames (sent_below run w (running run n (λ m below. h m (omega arith))).goes.host) before.most in
    let few = before.few in
    omega (arith, round_count run soak_host w (acts_after run soak_host start n))

-- ---- what the camera gives by them

fine_events : (acts : List Act) → AreFine acts → AllByRecursion IsFineEvent (camera_events acts)
fine_events [] h = tt
fine_events (at_client e ∷ acts) h = fine_events acts h.1
fine_events (at_camera e ∷ acts) h = (h.0, fine_events acts h.1)

abbrev IsSoakSent : Run → StreamPacket → Type 0
IsSoakSent run x = IsSent (soak_frames run) soak_config.p x

last_sent : (run : Run) (xs : List StreamPacket) (o : Option StreamPacket) → All (IsSoakSent run) xs → IfSome o (IsSoakSent run) → All (IsSoakSent run) (with_last xs o)
last_sent run xs None all h = all
last_sent run xs (Some x) all h = All-push (IsSoakSent run) xs x all h

fewer_frames : (e : cameras.Event) (es : List cameras.Event) → frame_events es ≤ frame_events (e ∷ es)
fewer_frames (cameras.command peer bytes moment) es = omega arith
fewer_frames (cameras.tick moment) es = omega arith
fewer_frames cameras.make_frame es = omega arith
fewer_frames cameras.next_packet es = omega arith
fewer_frames (cameras.set_short short) es = omega arith

given_sent : (run : Run) (acts : List Act) → AreFine acts → HaveRunRows run (camera_events acts) → frames_in acts ≤ run.frames
    → All (IsSoakSent run) (given_of run acts)
given_sent run [] h rows few = All-nil (IsSoakSent run)
given_sent run (at_client e ∷ acts) h rows few = given_sent run acts h.1 rows few
given_sent run (at_camera e ∷ acts) h rows few =
    last_sent run (given_of run acts) (given_by (line_of run acts).camera e) (given_sent run acts h.1 earlier fewer) (go e)
  where
    earlier : HaveRunRows run (camera_events acts)
    earlier =
        lines_step run.short image_shape (cameras.after (new_camera run.seed image_shape STORE_ROOM) (camera_events acts)) e
        (past (new_camera run.seed image_shape STORE_ROOM) (camera_events acts)) rows

    fewer : frames_in acts ≤ run.frames
    fewer = omega (arith, fewer_frames e (camera_events acts))

    next : IfSome (first_waiting (line_of run acts).camera.waiting) (IsSoakSent run)
    next =
        subst (λ (s : Camera). IfSome (first_waiting s.waiting) (IsSoakSent run)) (sym (apart run.seed image_shape STORE_ROOM acts).camera)
        (gives_sent run (camera_events acts) (fine_events acts h.1) earlier fewer)

    go : (e : cameras.Event) → IfSome (given_by (line_of run acts).camera e) (IsSoakSent run)
    go (cameras.command peer bytes moment) = tt
    go (cameras.tick moment) = tt
    go cameras.make_frame = tt
    go cameras.next_packet = next
    go (cameras.set_short short) = tt

-- ---- the law

soak_frames_are : (run : Run) → AreFrames (soak_frames run)
soak_frames_are run = record {
  valid = λ b f e. rw (frame_of_block run b f e).0 ((camera_makes run.short run.seed b image_shape).valid (omega arith, omega arith) (λ short. omega arith));
  own_id = λ b f e. ap (λ (g : Frame). g.block) (frame_of_block run b f e).0;
  from_one = λ b f e. (frame_of_block run b f e).1;
}

heard_sent : (run : Run) (n : ℕ) → GoesOn run soak_host start (n - 1) → (bytes : List ℕ) → Contains (host_acts_after run soak_host start n) (host_hears bytes) → IsSoakPacket run bytes
heard_sent run n h bytes among =
    let acts = acts_after run soak_host start n in
    let given = (hears_given run soak_host start n (soak_acts_once run).packets).given bytes among in
    record {
      packet = given.packet;
      spelled = given.spelled;
      sent = All-contains (IsSoakSent run) (given_of run acts) given.packet (given_sent run acts (fine_acts run n h) (shortness_is_set_first run soak_host start n).rows (few_frames run n h)) given.among;
    }

pub hears_its_frames : (run : Run) → HearsItsFrames run
hears_its_frames run = record {
  frames = soak_frames_are run;
  heard = heard_sent run;
  read = λ short n h bytes among x e.
      let p = heard_sent run n h bytes among in
      sent_reads run p.packet x short p.sent (subst (λ (l : List ℕ). packet_of l ≡ Some x) p.spelled e);
}
