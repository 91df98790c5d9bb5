-- The turns of a round: what reaches the camera, which packets it gives, and what the receiver hears.
use Rattle.std.proofs.Common.{◌≡◌, ◌⊎◌, inl, inr, ℕ, ◌+◌, Bool, true, false, List, [], ◌∷◌, Option, Some, None, refl, sym, subst, ◌∙◌}
use Rattle.std.specs.Prelude.{if◌then◌else◌, slice_get, All, IfSome}
use Rattle.std.specs.List.{Contains, AllByRecursion}
use Rattle.std.proofs.lemmas.List.Elements.{All-nil, All-head, All-tail, All-weaker, All-contains, All-contains_itself}
use Rattle.stream_packets.specs.Packets.{StreamPacket}
use Rattle.gvsp_wire.specs.Plain.{plain}
use Rattle.gvcp_wire.specs.Messages.{PlainCommand}
use Rattle.gvcp_wire.specs.Reading.{command_reading}
use Rattle.lossy_queue.specs.declared.rates.Rates.{Rates}
use Rattle.lossy_queue.specs.declared.datagram.Channel.{Channel}
use Rattle.lossy_queue.specs.declared.datagram.Channel.TheVariants.{Control, Stream}
use Rattle.lossy_queue.specs.declared.datagram.Datagram.{Datagram}
use Rattle.lossy_queue.specs.Lossy.{put_lossy}
use Rattle.lossy_queue.proofs.Puts.{puts_one}
use Rattle.client_machine.specs.Machine.{Asked, ticked, to_send, taken}
use Rattle.camera_machine.specs.Camera.{is_open}
use Rattle.camera_machine.specs.Events.{Turn, command_turn, tick_turn, frame_turn}
use Rattle.camera_machine.specs.Sending.{asked_in}
use Rattle.acquisition_machine.specs.Machine.{State}
use Rattle.world_machine.specs.State.{Run, World}
use Rattle.world_machine.specs.Queues.{to_camera, to_host, sent_to_camera, all_to_camera, ack_to_host, packets_to_host}
use Rattle.world_machine.specs.ClientTurn.{End, Passed, client_peer, stream_peer, setup_commands, submits, begins, client_turn}
use Rattle.world_machine.specs.CameraTurn.{turned, obeys, obeys_all, looks, camera_turn, is_due, makes}
use Rattle.world_machine.specs.HostTurn.{arrives, unless_ended, arrive_all}
use Rattle.world_laws.specs.Receiver.{Receiver, soak_host, hears}
use Rattle.world_laws.specs.Sizes.{ReadsSize}
use Rattle.world_laws.specs.Tail.{IsOfSetup, CameraGoes, SetsUp}
use Rattle.world_laws.proofs.TailBlocks.{IsOf}
use Rattle.world_laws.proofs.TailCamera.{GivesOf, AsksFor, gives_looked, gives_commanded, gives_none, framed_counted}
use Rattle.world_laws.proofs.TailClient.{begins_quiet, ticked_quiet, taken_quiet, sends_quiet, received_quiet}

-- ---- queues

put_all : (P : Datagram → Type 0) (rates : Rates) (x : ℕ) (d : Datagram) (queue : List Datagram) → P d → All P queue → All P (put_lossy rates x d queue)
put_all P rates x d queue h all = All-weaker (Contains (put_lossy rates x d queue)) P here (put_lossy rates x d queue) (All-contains_itself (put_lossy rates x d queue))
  where
    go : (e : Datagram) → (e ≡ d) ⊎ Contains queue e → P e
    go e (inl same) = subst P (sym same) h
    go e (inr old) = All-contains P queue e all old

    here : (e : Datagram) → Contains (put_lossy rates x d queue) e → P e
    here e c = go e ((puts_one rates x d queue).only e c)

-- the command asks for packets of such blocks, if it asks for any, and leaves the packet size
abbrev pub AskedIn : (ℕ → Type 0) → List ℕ → Type 0
AskedIn K bytes = IfSome (asked_in (command_reading bytes)) (AsksFor K) × ReadsSize (command_reading bytes)

abbrev pub AskedFor : (ℕ → Type 0) → Datagram → Type 0
AskedFor K d = AskedIn K d.bytes

-- a packet is of such a block
abbrev pub IsHeardOn : (ℕ → Type 0) → Channel → List ℕ → Type 0
IsHeardOn K Control bytes = Unit {0}
IsHeardOn K Stream bytes = IsOf K bytes

abbrev pub IsHeard : (ℕ → Type 0) → Datagram → Type 0
IsHeard K d = IsHeardOn K d.channel d.bytes

-- ---- the client's turn

-- What the client's turn leaves of a world.
pub record Began {A : Type 0} (K : ℕ → Type 0) (v w : World A) : Type 0 where
  pub host_is : w.host ≡ v.host
  pub moment_is : w.moment ≡ v.moment
  pub made_is : w.made ≡ v.made
  pub over_is : w.is_over ≡ v.is_over
  pub done_is : w.done ≡ v.done
  pub to_host_is : w.to_host ≡ v.to_host
  pub camera_is : w.camera ≡ v.camera
  pub client : SetsUp w.client.asked
  pub to_camera : All (AskedFor K) w.to_camera

quiet_asks : (K : ℕ → Type 0) (bytes : List ℕ) → IsOfSetup bytes → AskedIn K bytes
quiet_asks K bytes e = (rw e.no_packets tt, e.size)

submitted_began : {A : Type 0} (K : ℕ → Type 0) (w : World A) (asked : Option Asked) (next : Option PlainCommand) → SetsUp (submits asked next w).client.asked
    → All (AskedFor K) w.to_camera → Began K w (submits asked next w)
submitted_began K w None None c t =
    record { host_is = refl; moment_is = refl; made_is = refl; over_is = refl; done_is = refl; to_host_is = refl; camera_is = refl; client = c; to_camera = t }
submitted_began K w None (Some command) c t =
    record { host_is = refl; moment_is = refl; made_is = refl; over_is = refl; done_is = refl; to_host_is = refl; camera_is = refl; client = c; to_camera = t }
submitted_began K w (Some asked) next c t =
    record { host_is = refl; moment_is = refl; made_is = refl; over_is = refl; done_is = refl; to_host_is = refl; camera_is = refl; client = c; to_camera = t }

sent_began : {A : Type 0} (K : ℕ → Type 0) (run : Run) (v w : World A) (o : Option (List ℕ)) → IfSome o IsOfSetup → Began K v w → Began K v (sent_to_camera run w o)
sent_began K run v w None q b = b
sent_began K run v w (Some bytes) q b = record {
  host_is = b.host_is;
  moment_is = b.moment_is;
  made_is = b.made_is;
  over_is = b.over_is;
  done_is = b.done_is;
  to_host_is = b.to_host_is;
  camera_is = b.camera_is;
  client = b.client;
  to_camera = put_all (AskedFor K) run.rates w.x (record { channel = Control; bytes = bytes }) w.to_camera (quiet_asks K bytes q) b.to_camera;
}

pub client_began : {A : Type 0} (K : ℕ → Type 0) (run : Run) (w : World A) → SetsUp w.client.asked → All (AskedFor K) w.to_camera → Began K w (client_turn run w).world
client_began {A} K run w c t = sent_began K run w v (to_send told) (sends_quiet told quiet) after
  where
    told : Option Asked
    told = (ticked (begins w).client w.moment).client.asked

    v : World A
    v = record (begins w) { client = taken (ticked (begins w).client w.moment).client }

    begun : Began K w (begins w)
    begun = submitted_began K w w.client.asked (slice_get (setup_commands stream_peer) w.begun) (begins_quiet w c) t

    quiet : SetsUp told
    quiet = ticked_quiet (begins w).client w.moment (begins w).client.asked (begins_quiet w c)

    after : Began K w v
    after = record {
      host_is = begun.host_is;
      moment_is = begun.moment_is;
      made_is = begun.made_is;
      over_is = begun.over_is;
      done_is = begun.done_is;
      to_host_is = begun.to_host_is;
      camera_is = begun.camera_is;
      client = taken_quiet told quiet;
      to_camera = begun.to_camera;
    }

-- ---- the camera's turn

-- What the camera's turn leaves of a world in which nothing was on its way to the host.
pub record Shows {A : Type 0} (K : ℕ → Type 0) (v w : World A) : Type 0 where
  pub host_is : w.host ≡ v.host
  pub moment_is : w.moment ≡ v.moment
  pub made_is : w.made ≡ v.made
  pub over_is : w.is_over ≡ v.is_over
  pub done_is : w.done ≡ v.done
  pub client_is : w.client ≡ v.client
  pub to_camera_is : w.to_camera ≡ v.to_camera
  pub to_host : All (IsHeard K) w.to_host
  pub camera : CameraGoes w.camera

put_shows : {A : Type 0} (K : ℕ → Type 0) (run : Run) (v w : World A) (d : Datagram) → IsHeard K d → Shows K v w → Shows K v (to_host run w d)
put_shows K run v w d h s = record {
  host_is = s.host_is;
  moment_is = s.moment_is;
  made_is = s.made_is;
  over_is = s.over_is;
  done_is = s.done_is;
  client_is = s.client_is;
  to_camera_is = s.to_camera_is;
  to_host = put_all (IsHeard K) run.rates w.x d w.to_host h s.to_host;
  camera = s.camera;
}

ack_shows : {A : Type 0} (K : ℕ → Type 0) (run : Run) (v w : World A) (o : Option (List ℕ)) → Shows K v w → Shows K v (ack_to_host run w o)
ack_shows K run v w None s = s
ack_shows K run v w (Some bytes) s = put_shows K run v w (record { channel = Control; bytes = bytes }) tt s

packets_show : {A : Type 0} (K : ℕ → Type 0) (run : Run) (v w : World A) (xs : List StreamPacket) → All (GivesOf K) xs → Shows K v w → Shows K v (packets_to_host run w xs)
packets_show K run v w [] all s = s
packets_show K run v w (x ∷ xs) all s =
    packets_show K run v (to_host run w (record { channel = Stream; bytes = plain x })) xs (All-tail (GivesOf K) x xs all)
    (put_shows K run v w (record { channel = Stream; bytes = plain x }) (All-head (GivesOf K) x xs all) s)

turned_shows : {A : Type 0} (K : ℕ → Type 0) (run : Run) (v w : World A) (t : Turn) → CameraGoes t.camera → All (GivesOf K) t.packets → Shows K v w → Shows K v (turned run w t)
turned_shows {A} K run v w t c all s = packets_show K run v (ack_to_host run u t.ack) t.packets all (ack_shows K run v u t.ack after)
  where
    u : World A
    u = record w { camera = t.camera }

    after : Shows K v u
    after = record {
      host_is = s.host_is;
      moment_is = s.moment_is;
      made_is = s.made_is;
      over_is = s.over_is;
      done_is = s.done_is;
      client_is = s.client_is;
      to_camera_is = s.to_camera_is;
      to_host = s.to_host;
      camera = c;
    }

obeyed_shows : {A : Type 0} (K : ℕ → Type 0) (run : Run) (v w : World A) (ds : List Datagram) → All (AskedFor K) ds → Shows K v w → Shows K v (obeys_all run w ds)
obeyed_shows K run v w [] all s = s
obeyed_shows K run v w (d ∷ rest) all s =
    let g = gives_commanded K w.camera client_peer d.bytes w.moment (All-head (AskedFor K) d rest all).0 (gives_none K w.camera s.camera) in
    obeyed_shows K run v (obeys run w d) rest (All-tail (AskedFor K) d rest all)
    (turned_shows K run v w (command_turn w.camera client_peer d.bytes w.moment) (record { none_wait = refl; counted = g.counted }) g.waiting s)

pub camera_shows : {A : Type 0} (K : ℕ → Type 0) (run : Run) (w : World A) → CameraGoes w.camera → w.to_host ≡ [] → All (AskedFor K) w.to_camera
    → Shows K (record w { to_camera = [] }) (camera_turn run w)
camera_shows {A} K run w c none all =
    let g = gives_looked K w.camera w.moment (gives_none K w.camera c) in
    obeyed_shows K run v (looks run v) w.to_camera all
    (turned_shows K run v v (tick_turn w.camera w.moment) (record { none_wait = refl; counted = g.counted }) g.waiting start)
  where
    v : World A
    v = record w { to_camera = [] }

    start : Shows K v v
    start = record {
      host_is = refl;
      moment_is = refl;
      made_is = refl;
      over_is = refl;
      done_is = refl;
      client_is = refl;
      to_camera_is = refl;
      to_host = rw none (All-nil (IsHeard K));
      camera = c;
    }

-- ---- a frame

-- What is there when datagrams arrive at the host.
pub record Ready {A : Type 0} (K : ℕ → Type 0) (v w : World A) : Type 0 where
  pub host_is : w.host ≡ v.host
  pub moment_is : w.moment ≡ v.moment
  pub client_is : w.client ≡ v.client
  pub to_camera_is : w.to_camera ≡ v.to_camera
  pub to_host : All (IsHeard K) w.to_host
  pub camera : CameraGoes w.camera

ready_from : {A : Type 0} (K : ℕ → Type 0) (v u w : World A) → u.host ≡ v.host → u.moment ≡ v.moment → u.client ≡ v.client → u.to_camera ≡ v.to_camera → Shows K u w → Ready K v w
ready_from K v u w h m c t s = record {
  host_is = s.host_is ∙ h;
  moment_is = s.moment_is ∙ m;
  client_is = s.client_is ∙ c;
  to_camera_is = s.to_camera_is ∙ t;
  to_host = s.to_host;
  camera = s.camera;
}

-- no frame is due, or its packets are of such blocks
pub makes_ready : {A : Type 0} (K : ℕ → Type 0) (run : Run) (v w : World A) → (is_due run w ≡ false) ⊎ ((x : StreamPacket) → GivesOf K x) → Shows K v w → Ready K v (makes run w)
makes_ready {A} K run v w (inl none) s = rw none (ready_from K v v w refl refl refl refl s)
makes_ready {A} K run v w (inr any) s = go (is_due run w) (is_open w.camera)
  where
    counted : World A
    counted = record w { made = w.made + 1 }

    start : Shows K counted counted
    start = record {
      host_is = refl;
      moment_is = refl;
      made_is = refl;
      over_is = refl;
      done_is = refl;
      client_is = refl;
      to_camera_is = refl;
      to_host = s.to_host;
      camera = s.camera;
    }

    same : Ready K v w
    same = ready_from K v v w refl refl refl refl s

    go : (due open_now : Bool) → Ready K v (if due then (if open_now then turned run counted (frame_turn w.camera) else record w { is_over = true }) else w)
    go true true =
        ready_from K v counted (turned run counted (frame_turn w.camera)) s.host_is s.moment_is s.client_is s.to_camera_is
        (turned_shows K run counted counted (frame_turn w.camera) (record { none_wait = refl; counted = framed_counted w.camera s.camera.counted }) (λ k d lt. any _) start)
    go true false = record {
      host_is = same.host_is;
      moment_is = same.moment_is;
      client_is = same.client_is;
      to_camera_is = same.to_camera_is;
      to_host = same.to_host;
      camera = same.camera;
    }
    go false open_now = same

-- how the count of frames, and whether their sending ended, go on where a frame is due or isn't
abbrev pub FramesGoOn : Bool → ℕ → Bool → ℕ → Bool → Type 0
FramesGoOn false made over made_after over_after = (made_after ≡ made) × (over_after ≡ over)
FramesGoOn true made over made_after over_after = ((made_after ≡ made + 1) × (over_after ≡ over)) ⊎ ((made_after ≡ made) × (over_after ≡ true))

pub frames_leave : {A : Type 0} (run : Run) (w : World A) (xs : List StreamPacket) → FramesGoOn false w.made w.is_over (packets_to_host run w xs).made (packets_to_host run w xs).is_over
frames_leave run w [] = (refl, refl)
frames_leave run w (x ∷ xs) = frames_leave run (to_host run w (record { channel = Stream; bytes = plain x })) xs

pub frames_made : {A : Type 0} (run : Run) (w : World A) → FramesGoOn (is_due run w) w.made w.is_over (makes run w).made (makes run w).is_over
frames_made {A} run w = go (is_due run w) (is_open w.camera)
  where
    counted : World A
    counted = record w { made = w.made + 1 }

    go : (due open_now : Bool)
        → FramesGoOn due w.made w.is_over (if due then (if open_now then turned run counted (frame_turn w.camera) else record w { is_over = true }) else w).made
        (if due then (if open_now then turned run counted (frame_turn w.camera) else record w { is_over = true }) else w).is_over
    go true true = inl (frames_leave run (record counted { camera = (frame_turn w.camera).camera }) (frame_turn w.camera).packets)
    go true false = inr (refl, refl)
    go false open_now = (refl, refl)

-- ---- what arrives

-- What is there while datagrams arrive: Q holds of the receiver.
pub record Hearing (Q : State → Type 0) (v w : World Receiver) : Type 0 where
  pub receiver : Q w.host.acquisition
  pub moment_is : w.moment ≡ v.moment
  pub made_is : w.made ≡ v.made
  pub over_is : w.is_over ≡ v.is_over
  pub to_camera_is : w.to_camera ≡ v.to_camera
  pub to_host_is : w.to_host ≡ []
  pub client : SetsUp w.client.asked
  pub camera : CameraGoes w.camera

-- datagrams of such blocks keep Q
abbrev pub IsKept : (ℕ → Type 0) → (State → Type 0) → Type 0
IsKept K Q = (r : Receiver) (bytes : List ℕ) → IsOf K bytes → Q r.acquisition → Q (hears r bytes).acquisition

arrives_heard : (K : ℕ → Type 0) (Q : State → Type 0) (v w : World Receiver) (channel : Channel) (bytes : List ℕ) → IsKept K Q → IsHeardOn K channel bytes → Hearing Q v w
    → Hearing Q v (arrives soak_host w channel bytes).world
arrives_heard K Q v w Control bytes kept h s = record {
  receiver = s.receiver;
  moment_is = s.moment_is;
  made_is = s.made_is;
  over_is = s.over_is;
  to_camera_is = s.to_camera_is;
  to_host_is = s.to_host_is;
  client = received_quiet w.client bytes w.moment s.client;
  camera = s.camera;
}
arrives_heard K Q v w Stream bytes kept h s = record {
  receiver = kept w.host bytes h s.receiver;
  moment_is = s.moment_is;
  made_is = s.made_is;
  over_is = s.over_is;
  to_camera_is = s.to_camera_is;
  to_host_is = s.to_host_is;
  client = s.client;
  camera = s.camera;
}

pub all_heard : (K : ℕ → Type 0) (Q : State → Type 0) (v : World Receiver) (ds : List Datagram) (w : World Receiver) → IsKept K Q → All (IsHeard K) ds → Hearing Q v w
    → Hearing Q v (arrive_all soak_host w ds).world
all_heard K Q v [] w kept all s = s
all_heard K Q v (d ∷ rest) w kept all s = go first.end here (all_heard K Q v rest first.world kept (All-tail (IsHeard K) d rest all) here)
  where
    first : Passed Receiver
    first = arrives soak_host w d.channel d.bytes

    here : Hearing Q v first.world
    here = arrives_heard K Q v w d.channel d.bytes kept (All-head (IsHeard K) d rest all) s

    go : (o : Option End) → Hearing Q v first.world → Hearing Q v (arrive_all soak_host first.world rest).world
        → Hearing Q v (unless_ended o first (arrive_all soak_host first.world rest)).world
    go None ended more = more
    go (Some e) ended more = ended

-- ---- what is asked for

-- What stays of a world while commands are put on their way to the camera, each of them P.
pub record Asking {A : Type 0} (P : List ℕ → Type 0) (v w : World A) : Type 0 where
  pub host_is : w.host ≡ v.host
  pub moment_is : w.moment ≡ v.moment
  pub made_is : w.made ≡ v.made
  pub over_is : w.is_over ≡ v.is_over
  pub client_is : w.client ≡ v.client
  pub camera_is : w.camera ≡ v.camera
  pub to_host_is : w.to_host ≡ v.to_host
  pub to_camera : All (λ d. P d.bytes) w.to_camera

pub all_asked : {A : Type 0} (P : List ℕ → Type 0) (run : Run) (v w : World A) (asked : List (List ℕ)) → AllByRecursion P asked → Asking P v w → Asking P v (all_to_camera run w asked)
all_asked P run v w [] all s = s
all_asked P run v w (bytes ∷ rest) all s = all_asked P run v (to_camera run w bytes) rest all.1 (record {
  host_is = s.host_is;
  moment_is = s.moment_is;
  made_is = s.made_is;
  over_is = s.over_is;
  client_is = s.client_is;
  camera_is = s.camera_is;
  to_host_is = s.to_host_is;
  to_camera = put_all (λ d. P d.bytes) run.rates w.x (record { channel = Control; bytes = bytes }) w.to_camera all.0 s.to_camera;
})
