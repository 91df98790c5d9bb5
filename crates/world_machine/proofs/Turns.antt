-- Each turn of a round is its acts.
use Rattle.std.proofs.Common.{◌≡◌, ◌⊎◌, ℕ, zero, suc, ◌+◌, Bool, true, false, List, [], ◌∷◌, Option, Some, None, refl, sym, ap, ◌∙◌, subst, inl, inr, arith}
use Rattle.std.specs.Prelude.{◌++◌, if◌then◌else◌, slice_get, option_to_list}
use Rattle.std.specs.List.{Contains, AllByRecursion}
use Rattle.std.proofs.lemmas.List.Elements.{Contains-append_left, Contains-append_right, Contains-append_cases}
use Rattle.stream_packets.specs.Packets.{StreamPacket}
use Rattle.gvcp_wire.specs.Messages.{PlainCommand}
use Rattle.bootstrap_regs.specs.Addresses.{CCP, SCP0, SCPS0, SCDA0}
use Rattle.lossy_queue.specs.declared.datagram.Channel.{Channel}
use Rattle.lossy_queue.specs.declared.datagram.Channel.TheVariants.{Control, Stream}
use Rattle.lossy_queue.specs.declared.datagram.Datagram.{Datagram}
use Rattle.client_machine.specs.Machine.{Asked, Client, ticked, to_send, submitted}
use Rattle.client_machine.specs.Events as clients
use Rattle.camera_machine.specs.Camera.{Camera, is_open}
use Rattle.camera_machine.specs.Stream.{waiting_count, all_waiting, first_waiting, given, packets_given, after_given, emptied}
use Rattle.camera_machine.specs.Events.{turn_of, frame_turn}
use Rattle.camera_machine.specs.Events as cameras
use Rattle.camera_machine.proofs.Order.{in_order}
use Rattle.world_machine.specs.Schedule.{Act, at_client, at_camera, IsSubmission, AllowedAtCamera, ack_of, submission_of, camera_events}
use Rattle.world_machine.proofs.Apart.{apart}
use Rattle.world_machine.specs.State.{Host, Run, World, image_shape, STORE_ROOM}
use Rattle.world_machine.specs.Queues.{ack_to_host}
use Rattle.world_machine.specs.ClientTurn.{End, client_peer, stream_peer, write_of, setup_commands, submits, begins, client_turn}
use Rattle.world_machine.specs.CameraTurn.{turned, obeys, obeys_all, looks, camera_turn, is_due, makes}
use Rattle.world_machine.specs.HostTurn.{arrives, unless_ended, arrive_all}
use Rattle.world_machine.specs.Acts.{with_setup, with_client_turn, with_packets, with_turn, with_obeyed, with_all_obeyed, with_camera_turn, with_frame, with_arrival, with_arrivals}
use Rattle.world_machine.specs.HostActs.{HostAct, host_hears, host_ticks, host_takes, with_hearing, with_hearings}
use Rattle.world_machine.proofs.Fits.{line_of, given_of, IsSent, IsAnswer, Fits, FitsWorld, none_in, head_in, tail_in, cons_in, kept_in, last_in, count_small, with_downs, fits_client, fits_camera, taken_is_sent, ack_is_answer, fits_sent, fits_ack, fits_packets}

-- ---- the client's turn

submits_write : (address value : ℕ) → IsSubmission (write_of address value)
submits_write address value = record {
  command = record {
    access = tt;
    command = λ req some. record { request = some; allowed = (refl, record { count = 1; some = omega arith; few = omega arith; whole = refl }); fits = omega arith };
  };
  widths = tt;
}

one_of : (P : PlainCommand → Type 0) (xs : List PlainCommand) (i : ℕ) (c : PlainCommand) → AllByRecursion P xs → slice_get xs i ≡ Some c → P c
one_of P [] i c all e = absurd (cc)
one_of P (x ∷ xs) zero c all e = let same : x ≡ c = cc in subst P same all.0
one_of P (x ∷ xs) (suc i) c all e = one_of P xs i c all.1 e

setup_is_submitted : (i : ℕ) (c : PlainCommand) → slice_get (setup_commands stream_peer) i ≡ Some c → IsSubmission c
setup_is_submitted i c e =
    one_of IsSubmission (setup_commands stream_peer) i c (
      submits_write CCP 2,
      (submits_write SCPS0 1500, (submits_write SCDA0 stream_peer.address, (submits_write SCP0 stream_peer.port, tt))),
    )
    e

with_asked : {A : Type 0} → World A → Option Asked → World A
with_asked w asked = record w { client = record w.client { asked = asked } }

-- a submission, if there is one, and a tick
fits_begun : {A : Type 0} (run : Run) (n : ℕ) (acts : List Act) (w : World A) (downs : List Datagram) (asked : Option Asked) (next : Option PlainCommand)
    → ((c : PlainCommand) → next ≡ Some c → IsSubmission c) → FitsWorld run n acts (with_asked w asked) [] downs
    → FitsWorld run (suc n) (at_client (clients.ticks w.moment) ∷ with_setup asked next w.moment acts)
    (record (submits asked next (with_asked w asked)) { client = (ticked (submits asked next (with_asked w asked)).client w.moment).client }) [] downs
unfolding with_asked
fits_begun run n acts w downs None None h f =
    fits_client run n (suc n) acts s w.camera w.to_camera w.to_host [] downs (clients.ticks w.moment) f tt
    (omega (arith, count_small (submission_of s (clients.ticks w.moment))))
  where
    s : Client
    s = record w.client { asked = None }
fits_begun run n acts w downs None (Some c) h f =
    fits_client run (suc n) (suc n) (at_client (clients.submits c w.moment) ∷ acts) (submitted s c w.moment) w.camera w.to_camera w.to_host [] downs (clients.ticks w.moment)
    (fits_client run n (suc n) acts s w.camera w.to_camera w.to_host [] downs (clients.submits c w.moment) f (h c refl) (omega arith)) tt (omega arith)
  where
    s : Client
    s = record w.client { asked = None }
fits_begun run n acts w downs (Some asked) next h f =
    fits_client run n (suc n) acts (record w.client { asked = Some asked }) w.camera w.to_camera w.to_host [] downs (clients.ticks w.moment) f tt (omega arith)

pub fits_client_turn : {A : Type 0} (run : Run) (n : ℕ) (acts : List Act) (w : World A) (downs : List Datagram) → FitsWorld run n acts w [] downs
    → FitsWorld run (suc n) (with_client_turn w acts) (client_turn run w).world [] downs
unfolding with_asked
fits_client_turn {A} run n acts w downs f =
    fits_sent run (suc n) (with_client_turn w acts) (record (begins w) { client = clients.step t clients.takes }) [] downs (to_send t.asked)
    (taken_is_sent run (suc n) before t (begins w).camera (begins w).to_camera (begins w).to_host [] downs ticked_fits)
    (fits_client run (suc n) (suc n) before t (begins w).camera (begins w).to_camera (begins w).to_host [] downs clients.takes ticked_fits tt (omega arith))
  where
    before : List Act
    before = at_client (clients.ticks w.moment) ∷ with_setup w.client.asked (slice_get (setup_commands stream_peer) w.begun) w.moment acts

    t : Client
    t = (ticked (begins w).client w.moment).client

    ticked_fits : Fits run (suc n) before t (begins w).camera (begins w).to_camera (begins w).to_host [] downs
    ticked_fits = fits_begun run n acts w downs w.client.asked (slice_get (setup_commands stream_peer) w.begun) (setup_is_submitted w.begun) f

-- ---- the camera's turn

-- packets that are given leave what was answered
given_acks : (run : Run) (k : ℕ) (acts : List Act) → (line_of run (with_packets k acts)).acks ≡ (line_of run acts).acks
given_acks run zero acts = refl
given_acks run (suc k) acts = given_acks run k (at_camera cameras.next_packet ∷ acts)

given_more : (run : Run) (k : ℕ) (acts : List Act) (x : StreamPacket) → Contains (given_of run acts) x → Contains (given_of run (with_packets k acts)) x
given_more run zero acts x h = h
given_more run (suc k) acts x h =
    given_more run k (at_camera cameras.next_packet ∷ acts) x (kept_in (given_of run acts) (first_waiting (line_of run acts).camera.waiting) x h)

only_in : (o : Option StreamPacket) (x : StreamPacket) → Contains (option_to_list o) x → o ≡ Some x
only_in None x h = absurd (none_in x h)
only_in (Some y) x h = go (cons_in y x [] h.0 h.1 h.2)
  where
    go : (y ≡ x) ⊎ Contains [] x → Some y ≡ Some x
    go (inl same) = ap (λ (z : StreamPacket). Some z) same
    go (inr among) = absurd (none_in x among)

-- what so many calls give is among what was given
given_among : (run : Run) (k : ℕ) (acts : List Act) (x : StreamPacket) → Contains (packets_given k (line_of run acts).camera) x
    → Contains (given_of run (with_packets k acts)) x
given_among run zero acts x h = absurd (none_in x h)
given_among run (suc k) acts x h =
    go (λ later. given_among run k next x later)
    (Contains-append_cases (option_to_list (first_waiting (line_of run acts).camera.waiting)) (packets_given k (given (line_of run acts).camera)) x h)
  where
    next : List Act
    next = at_camera cameras.next_packet ∷ acts

    go : (Contains (packets_given k (given (line_of run acts).camera)) x → Contains (given_of run (with_packets k next)) x)
        → Contains (option_to_list (first_waiting (line_of run acts).camera.waiting)) x ⊎ Contains (packets_given k (given (line_of run acts).camera)) x
        → Contains (given_of run (with_packets k next)) x
    go rest (inl first) =
        given_more run k next x
        (last_in (given_of run acts) (first_waiting (line_of run acts).camera.waiting) x (only_in (first_waiting (line_of run acts).camera.waiting) x first))
    go rest (inr later) = rest later

fits_given : (run : Run) (n k : ℕ) (acts : List Act) (s : Client) (c : Camera) (up down ups downs : List Datagram)
    → Fits run n acts s c up down ups downs → Fits run n (with_packets k acts) s (after_given k c) up down ups downs
fits_given run n zero acts s c up down ups downs f = f
fits_given run n (suc k) acts s c up down ups downs f =
    fits_given run n k (at_camera cameras.next_packet ∷ acts) s (given c) up down ups downs
    (fits_camera run n acts s c up down ups downs cameras.next_packet f tt)

-- as many packets as wait leave none
all_given : (run : Run) (acts : List Act) (c : Camera) → (line_of run acts).camera ≡ c → after_given (waiting_count c) c ≡ emptied c
all_given run acts c is =
    subst (λ (s : Camera). after_given (waiting_count s) s ≡ emptied s) (sym (apart run.seed image_shape STORE_ROOM acts).camera ∙ is)
    (in_order run.seed image_shape STORE_ROOM (camera_events acts)).emptied

-- and they are all that waited
all_are_given : (run : Run) (acts : List Act) (c : Camera) → (line_of run acts).camera ≡ c → packets_given (waiting_count c) (line_of run acts).camera ≡ all_waiting c.waiting
all_are_given run acts c is =
    ap (λ (s : Camera). packets_given (waiting_count c) s) is
    ∙ subst (λ (s : Camera). packets_given (waiting_count s) s ≡ all_waiting s.waiting) (sym (apart run.seed image_shape STORE_ROOM acts).camera ∙ is)
    (in_order run.seed image_shape STORE_ROOM (camera_events acts)).all

fits_turn : {A : Type 0} (run : Run) (n : ℕ) (acts : List Act) (w : World A) (ups downs : List Datagram) (e : cameras.Event)
    → AllowedAtCamera client_peer (line_of run acts) e → FitsWorld run n acts w ups downs
    → FitsWorld run n (with_turn w.camera e acts) (turned run w (turn_of (cameras.step w.camera e) (ack_of w.camera e))) ups downs
fits_turn {A} run n acts w ups downs e h f =
    fits_packets run n done (ack_to_host run v (ack_of w.camera e)) ups downs (all_waiting s.waiting) are_given
    (fits_ack run n done v ups downs (ack_of w.camera e) answered all)
  where
    s : Camera
    s = cameras.step w.camera e

    v : World A
    v = record w { camera = emptied s }

    done : List Act
    done = with_packets (waiting_count s) (at_camera e ∷ acts)

    first : Fits run n (at_camera e ∷ acts) w.client s w.to_camera w.to_host ups downs
    first = fits_camera run n acts w.client w.camera w.to_camera w.to_host ups downs e f h

    all : Fits run n done w.client (emptied s) w.to_camera w.to_host ups downs
    all =
        subst (λ (c : Camera). Fits run n done w.client c w.to_camera w.to_host ups downs) (all_given run (at_camera e ∷ acts) s first.camera)
        (fits_given run n (waiting_count s) (at_camera e ∷ acts) w.client s w.to_camera w.to_host ups downs first)

    are_given : (x : StreamPacket) → Contains (all_waiting s.waiting) x → Contains (given_of run done) x
    are_given x among =
        given_among run (waiting_count s) (at_camera e ∷ acts) x
        (subst (λ (xs : List StreamPacket). Contains xs x) (sym (all_are_given run (at_camera e ∷ acts) s first.camera)) among)

    answered : (bytes : List ℕ) → ack_of w.camera e ≡ Some bytes → Contains (line_of run done).acks bytes
    answered bytes is =
        subst (λ (xs : List (List ℕ)). Contains xs bytes) (sym (given_acks run (waiting_count s) (at_camera e ∷ acts)))
        (ack_is_answer run n acts w.client w.camera w.to_camera w.to_host ups downs e f bytes is)

reaches_camera : (run : Run) (acts : List Act) (bytes : List ℕ) (moment : ℕ) → IsSent (line_of run acts).sent bytes
    → AllowedAtCamera client_peer (line_of run acts) (cameras.command client_peer bytes moment)
reaches_camera run acts bytes moment (inl h) = inl (record { peer_is = refl; was_sent = h })
reaches_camera run acts bytes moment (inr h) = inr h

without_up : (run : Run) (n : ℕ) (acts : List Act) (s : Client) (c : Camera) (up down : List Datagram) (d : Datagram) (rest downs : List Datagram)
    → Fits run n acts s c up down (d ∷ rest) downs → Fits run n acts s c up down rest downs
without_up run n acts s c up down d rest downs f = record {
  schedule = f.schedule;
  client = f.client;
  camera = f.camera;
  few = f.few;
  up_is = f.up_is;
  down_is = f.down_is;
  ups_are = λ e among. f.ups_are e (tail_in d e rest among);
  downs_are = f.downs_are;
}

fits_obeyed : {A : Type 0} (run : Run) (n : ℕ) (ds : List Datagram) (acts : List Act) (w : World A) (downs : List Datagram) → FitsWorld run n acts w ds downs
    → FitsWorld run n (with_all_obeyed run w ds acts) (obeys_all run w ds) [] downs
fits_obeyed run n [] acts w downs f = f
fits_obeyed run n (d ∷ rest) acts w downs f =
    fits_obeyed run n rest (with_obeyed w d acts) (obeys run w d) downs
    (without_up run n (with_obeyed w d acts) (obeys run w d).client (obeys run w d).camera (obeys run w d).to_camera (obeys run w d).to_host d rest downs
    (fits_turn run n acts w (d ∷ rest) downs (cameras.command client_peer d.bytes w.moment)
    (reaches_camera run acts d.bytes w.moment (f.ups_are d (head_in d rest))) f))

-- what is in the camera's queue is taken out
without_queue : {A : Type 0} (run : Run) (n : ℕ) (acts : List Act) (w : World A) (downs : List Datagram) → FitsWorld run n acts w [] downs
    → FitsWorld run n acts (record w { to_camera = [] }) w.to_camera downs
without_queue run n acts w downs f = record {
  schedule = f.schedule;
  client = f.client;
  camera = f.camera;
  few = f.few;
  up_is = λ d among. absurd (none_in d among);
  down_is = f.down_is;
  ups_are = f.up_is;
  downs_are = f.downs_are;
}

pub fits_camera_turn : {A : Type 0} (run : Run) (n : ℕ) (acts : List Act) (w : World A) (downs : List Datagram) → FitsWorld run n acts w [] downs
    → FitsWorld run n (with_camera_turn run w acts) (camera_turn run w) [] downs
fits_camera_turn run n acts w downs f =
    fits_obeyed run n w.to_camera (with_turn w.camera (cameras.tick w.moment) acts) (looks run (record w { to_camera = [] })) downs
    (fits_turn run n acts (record w { to_camera = [] }) w.to_camera downs (cameras.tick w.moment) tt (without_queue run n acts w downs f))

pub fits_frame : {A : Type 0} (run : Run) (n : ℕ) (acts : List Act) (w : World A) (downs : List Datagram) → FitsWorld run n acts w [] downs
    → FitsWorld run n (with_frame run w acts) (makes run w) [] downs
fits_frame {A} run n acts w downs f = go (is_due run w) (is_open w.camera)
  where
    counted : World A
    counted = record w { made = w.made + 1 }

    go : (due open_now : Bool)
        → FitsWorld run n (if due then (if open_now then with_turn w.camera cameras.make_frame acts else acts) else acts)
        (if due then (if open_now then turned run (record w { made = w.made + 1 }) (frame_turn w.camera) else record w { is_over = true }) else w) [] downs
    go true true = fits_turn run n acts counted [] downs cameras.make_frame tt f
    go true false = f
    go false open_now = f

-- ---- what reaches the host

-- what was heard, as datagrams
abbrev pub heard_in : List HostAct → List Datagram
heard_in [] = []
heard_in (host_hears bytes ∷ hs) = record { channel = Stream; bytes = bytes } ∷ heard_in hs
heard_in (host_ticks moment ∷ hs) = heard_in hs
heard_in (host_takes ∷ hs) = heard_in hs

fits_arrival : {A : Type 0} (run : Run) (host : Host A) (n : ℕ) (acts : List Act) (w : World A) (ups downs : List Datagram) (channel : Channel) (bytes : List ℕ)
    → IsAnswer (line_of run acts).acks (given_of run acts) channel bytes → FitsWorld run n acts w ups downs
    → FitsWorld run n (with_arrival channel bytes w.moment acts) (arrives host w channel bytes).world ups downs
fits_arrival run host n acts w ups downs Control bytes h f =
    fits_client run n n acts w.client w.camera w.to_camera w.to_host ups downs (clients.receives bytes w.moment) f h (omega arith)
fits_arrival run host n acts w ups downs Stream bytes h f = f

-- an arrival is heard, or nothing new is
hearing_cases : (channel : Channel) (bytes : List ℕ) (hs : List HostAct) (x : Datagram) → Contains (heard_in (with_hearing channel bytes hs)) x
    → (record { channel = channel; bytes = bytes } ≡ x) ⊎ Contains (heard_in hs) x
hearing_cases Control bytes hs x h = inr h
hearing_cases Stream bytes hs x h = cons_in (record { channel = Stream; bytes = bytes }) x (heard_in hs) h.0 h.1 h.2

pub fits_arrivals : {A : Type 0} (run : Run) (host : Host A) (n : ℕ) (ds : List Datagram) (acts : List Act) (hs : List HostAct) (w : World A)
    → FitsWorld run n acts w [] (ds ++ heard_in hs)
    → FitsWorld run n (with_arrivals host w ds acts) (arrive_all host w ds).world [] (heard_in (with_hearings host w ds hs))
fits_arrivals run host n [] acts hs w f = f
fits_arrivals {A} run host n (d ∷ rest) acts hs w f =
    go (arrives host w d.channel d.bytes).end
    (with_downs run n next v.client v.camera v.to_camera v.to_host [] (d ∷ (rest ++ heard_in hs)) (heard_in heard) (λ x among. old x (hearing_cases d.channel d.bytes hs x among)) first)
    (fits_arrivals run host n rest next heard v
    (with_downs run n next v.client v.camera v.to_camera v.to_host [] (d ∷ (rest ++ heard_in hs)) (rest ++ heard_in heard) (λ x among. either x (Contains-append_cases rest (heard_in heard) x among)) first))
  where
    next : List Act
    next = with_arrival d.channel d.bytes w.moment acts

    heard : List HostAct
    heard = with_hearing d.channel d.bytes hs

    v : World A
    v = (arrives host w d.channel d.bytes).world

    first : FitsWorld run n next v [] (d ∷ (rest ++ heard_in hs))
    first = fits_arrival run host n acts w [] (d ∷ (rest ++ heard_in hs)) d.channel d.bytes (f.downs_are d (head_in d (rest ++ heard_in hs))) f

    old : (x : Datagram) → (d ≡ x) ⊎ Contains (heard_in hs) x → Contains (d ∷ (rest ++ heard_in hs)) x
    old x (inl same) = subst (λ (y : Datagram). Contains (d ∷ (rest ++ heard_in hs)) y) same (head_in d (rest ++ heard_in hs))
    old x (inr among) = tail_in d x (rest ++ heard_in hs) (Contains-append_right rest (heard_in hs) x among)

    either : (x : Datagram) → Contains rest x ⊎ Contains (heard_in heard) x → Contains (d ∷ (rest ++ heard_in hs)) x
    either x (inl among) = tail_in d x (rest ++ heard_in hs) (Contains-append_left rest (heard_in hs) x among)
    either x (inr among) = old x (hearing_cases d.channel d.bytes hs x among)

    go : (o : Option End) → FitsWorld run n next v [] (heard_in heard)
        → FitsWorld run n (with_arrivals host v rest next) (arrive_all host v rest).world [] (heard_in (with_hearings host v rest heard))
        → FitsWorld run n (unless_ended o next (with_arrivals host v rest next)) (unless_ended o (arrives host w d.channel d.bytes) (arrive_all host v rest)).world []
        (heard_in (unless_ended o heard (with_hearings host v rest heard)))
    go None ended more = more
    go (Some e) ended more = ended
