-- A round keeps what holds of the receiver, and one without a frame brings a run nearer to its end.
use Rattle.std.proofs.Common.{◌≡◌, ◌⊎◌, ℕ, ◌+◌, Bool, true, false, List, [], ◌∷◌, ◌++◌, Option, Some, None, refl, sym, ap, subst, ◌∙◌}
use Rattle.std.specs.Prelude.{if◌then◌else◌, map, All}
use Rattle.std.proofs.lemmas.List.Elements.{All-nil}
use Rattle.stream_packets.specs.Packets.{StreamPacket}
use Rattle.lossy_queue.specs.declared.datagram.Datagram.{Datagram}
use Rattle.acquisition_machine.specs.Machine.{State, Request, request_bytes, tick, step}
use Rattle.world_machine.specs.State.{Host, Run, World}
use Rattle.world_machine.specs.Queues.{all_to_camera}
use Rattle.world_machine.specs.ClientTurn.{End, Passed, client_turn, done}
use Rattle.world_machine.specs.CameraTurn.{camera_turn, is_due}
use Rattle.world_machine.specs.HostTurn.{host_turn, asks, takes}
use Rattle.world_machine.specs.Rounds.{rises, is_done, last_line, Round, from_host, from_camera, round}
use Rattle.world_laws.specs.Receiver.{Receiver, soak_config, soak_host, told, waiting}
use Rattle.world_laws.specs.Tail.{AsksOpen, CameraGoes, SetsUp, HostGoes}
use Rattle.world_laws.proofs.SetupProgress.{shown}
use Rattle.world_laws.proofs.TailHears.{takes_leave}
use Rattle.world_laws.proofs.TailTicks.{Ticked}
use Rattle.world_laws.proofs.TailCamera.{GivesOf}
use Rattle.world_laws.proofs.TailWorld.{AskedFor, Began, client_began, Shows, camera_shows, Ready, makes_ready, Hearing, IsKept, all_heard, Asking, all_asked}

-- ---- a round that goes on

-- the world after the client's turn
abbrev pub began : {A : Type 0} → Run → World A → World A
began run w = (client_turn run (rises w)).world

-- what reached the host
abbrev arrived : {A : Type 0} → Run → Host A → World A → Passed A
arrived run host w = host_turn host (shown run (began run w))

-- the world at its end
abbrev pub left_by : {A : Type 0} → Run → Host A → World A → World A
left_by run host w = takes host (asks run host (arrived run host w).world)

-- The round leaves that world, and the run isn't done.
pub record WentOn {A : Type 0} (run : Run) (host : Host A) (left : World A) (r : Round A) : Type 0 where
  pub world_is : r.world ≡ left
  pub not_done : is_done run host left ≡ false

pub went_on : {A : Type 0} (run : Run) (host : Host A) (w : World A) → (round run host w).end ≡ None → WentOn run host (left_by run host w) (round run host w)
went_on {A} run host w = from_client (client_turn run (rises w)).end
  where
    left : World A
    left = left_by run host w

    lines : List ℕ
    lines = host.lines (asks run host (arrived run host w).world).host

    ends : Round A
    ends = record { world = left; text = lines ++ last_line run host left; end = Some done }

    goes_on : Round A
    goes_on = record { world = left; text = lines; end = None }

    closing : (b : Bool) → is_done run host left ≡ b → (if b then ends else goes_on).end ≡ None → WentOn run host left (if b then ends else goes_on)
    closing true d e = absurd (cc)
    closing false d e = record { world_is = refl; not_done = d }

    from_arrived : (o : Option End) → (from_host run host o (arrived run host w).world).end ≡ None → WentOn run host left (from_host run host o (arrived run host w).world)
    from_arrived (Some x) e = absurd (cc)
    from_arrived None e = closing (is_done run host left) refl e

    from_client : (o : Option End) → (from_camera run host o (began run w)).end ≡ None → WentOn run host left (from_camera run host o (began run w))
    from_client (Some x) e = absurd (cc)
    from_client None e = from_arrived (arrived run host w).end e

-- ---- what a round does to the receiver

-- In a round from w to v datagrams left the receiver in a state with Q, and then time came to a moment.
pub record Passes (Q : State → Type 0) (run : Run) (w v : World Receiver) : Type 0 where
  pub heard : State
  pub moment : ℕ
  pub later : moment ≡ w.moment + 10
  pub holds : Q heard
  pub ticks : Ticked moment heard (step soak_config heard (tick moment))
  pub receiver_is : v.host.acquisition ≡ (step soak_config heard (tick moment)).after
  pub moment_is : v.moment ≡ moment
  pub made_is : v.made ≡ (shown run (began run w)).made
  pub over_is : v.is_over ≡ (shown run (began run w)).is_over
  pub client : SetsUp v.client.asked
  pub camera : CameraGoes v.camera
  pub to_host_is : v.to_host ≡ []
  pub to_camera : All (λ d. AsksOpen (step soak_config heard (tick moment)).after.opens d.bytes) v.to_camera
  pub none : (step soak_config heard (tick moment)).requests ≡ [] → v.to_camera ≡ []

pub passes : (K : ℕ → Type 0) (Q : State → Type 0) (run : Run) (w : World Receiver) → HostGoes w → All (AskedFor K) w.to_camera
    → (is_due run (camera_turn run (began run w)) ≡ false) ⊎ ((x : StreamPacket) → GivesOf K x)
    → IsKept K Q → Q w.host.acquisition → ((s : State) (m : ℕ) → m ≡ w.moment + 10 → Q s → Ticked m s (step soak_config s (tick m)))
    → Passes Q run w (left_by run soak_host w)
passes K Q run w g queue frames kept q ticks = record {
  heard = u.host.acquisition;
  moment = u.moment;
  later = u_moment;
  holds = h.receiver;
  ticks = t;
  receiver_is = takes_leave (waiting (asks run soak_host u).host.board) (asks run soak_host u).host ∙ ap (λ (r : Receiver). r.acquisition) a.host_is;
  moment_is = a.moment_is;
  made_is = a.made_is ∙ h.made_is;
  over_is = a.over_is ∙ h.over_is;
  client = subst (λ c. SetsUp c.asked) (sym a.client_is) h.client;
  camera = subst CameraGoes (sym a.camera_is) h.camera;
  to_host_is = a.to_host_is ∙ h.to_host_is;
  to_camera = a.to_camera;
  none = λ e. none (step soak_config u.host.acquisition (tick u.moment)).requests e;
}
  where
    b : Began K (rises w) (began run w)
    b = client_began K run (rises w) g.client queue

    base : World Receiver
    base = record (began run w) { to_camera = [] }

    s : Shows K base (camera_turn run (began run w))
    s = camera_shows K run (began run w) (subst CameraGoes (sym b.camera_is) g.camera) (b.to_host_is ∙ g.to_host) b.to_camera

    ready : Ready K base (shown run (began run w))
    ready = makes_ready K run base (camera_turn run (began run w)) frames s

    before : World Receiver
    before = record (shown run (began run w)) { to_host = [] }

    u : World Receiver
    u = (arrived run soak_host w).world

    h : Hearing Q before u
    h = all_heard K Q before (shown run (began run w)).to_host before kept ready.to_host (record {
      receiver = subst (λ (r : Receiver). Q r.acquisition) (sym (ready.host_is ∙ b.host_is)) q;
      moment_is = refl;
      made_is = refl;
      over_is = refl;
      to_camera_is = refl;
      to_host_is = refl;
      client = subst (λ c. SetsUp c.asked) (sym ready.client_is) b.client;
      camera = ready.camera;
    })

    u_moment : u.moment ≡ w.moment + 10
    u_moment = h.moment_is ∙ (ready.moment_is ∙ b.moment_is)

    u_empty : u.to_camera ≡ []
    u_empty = h.to_camera_is ∙ ready.to_camera_is

    t : Ticked u.moment u.host.acquisition (step soak_config u.host.acquisition (tick u.moment))
    t = ticks u.host.acquisition u.moment u_moment h.receiver

    told_moment : World Receiver
    told_moment = record u { host = told (tick u.moment) u.host }

    P : List ℕ → Type 0
    P = AsksOpen (step soak_config u.host.acquisition (tick u.moment)).after.opens

    a : Asking P told_moment (asks run soak_host u)
    a = all_asked P run told_moment told_moment (map request_bytes (step soak_config u.host.acquisition (tick u.moment)).requests) t.asks (record {
      host_is = refl;
      moment_is = refl;
      made_is = refl;
      over_is = refl;
      client_is = refl;
      camera_is = refl;
      to_host_is = refl;
      to_camera = rw u_empty (All-nil (λ (d : Datagram). P d.bytes));
    })

    none : (rs : List Request) → rs ≡ [] → (all_to_camera run told_moment (map request_bytes rs)).to_camera ≡ []
    none [] e = u_empty
    none (r ∷ rs) e = absurd (cc)
