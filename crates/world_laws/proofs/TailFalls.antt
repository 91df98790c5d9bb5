-- Each round keeps what holds between rounds, and one without a frame leaves fewer rounds.
use Rattle.std.proofs.Common.{◌≡◌, ◌⊎◌, inl, inr, ℕ, ◌+◌, ◌*◌, ◌<◌, ◌≤◌, ◌^◌, Bool, true, false, List, [], ◌∷◌, length, None, refl, sym, ap, subst, ◌∙◌, arith}
use Rattle.std.specs.Prelude.{◌==◌, ◌&&◌, ◌||◌, not, nat_lt, All}
use Rattle.std.specs.List.{AllByRecursion}
use Rattle.std.proofs.lemmas.Bool.{eq-eqb}
use Rattle.std.proofs.lemmas.List.Elements.{All-weaker, All-nil}
use Rattle.stream_packets.specs.Packets.{StreamPacket}
use Rattle.lossy_queue.specs.declared.datagram.Datagram.{Datagram}
use Rattle.acquisition_machine.specs.Blocks.{Open}
use Rattle.acquisition_machine.specs.Machine.{State, Turn, Request, tick, step}
use Rattle.acquisition_machine.proofs.Window.{first_sound}
use Rattle.world_machine.specs.State.{Run, World, new_world}
use Rattle.world_machine.specs.ClientTurn.{SETUP_SIZE}
use Rattle.world_machine.specs.CameraTurn.{camera_turn, is_due, makes}
use Rattle.world_machine.specs.Rounds.{rises, is_done, round}
use Rattle.world_laws.specs.Receiver.{Receiver, soak_config, soak_host, hears, start}
use Rattle.world_laws.specs.Tail.{REPLY_ROUNDS, asks_left, ages_left, queue_left, tail_left, MOST_TAIL, HasBlock, IsRecent, ReceiverGoes, AsksOpen, HostGoes}
use Rattle.world_laws.proofs.SetupProgress.{shown}
use Rattle.world_laws.proofs.TailBlocks.{has_of, Standing, Follows, follows_itself, follows_both}
use Rattle.world_laws.proofs.TailHears.{hears_stands, hears_follows, hears_nothing}
use Rattle.world_laws.proofs.TailTicks.{owed, ticked}
use Rattle.world_laws.proofs.TailBytes.{request_asks, request_block, request_size, spelled_is_low}
use Rattle.world_laws.proofs.TailCamera.{GivesOf}
use Rattle.world_laws.proofs.TailWorld.{AskedIn, AskedFor, Began, client_began, Shows, camera_shows, FramesGoOn, frames_made, IsKept}
use Rattle.world_laws.proofs.TailRounds.{began, went_on, Passes, passes}

-- ---- what the requests on their way ask for

asks_for : (K : ℕ → Type 0) (now : ℕ) (os : List Open) (d : Datagram) → AllByRecursion (IsRecent now) os → ((b : ℕ) → HasBlock b os → b < 2 ^ 64 → K b) → AsksOpen os d.bytes → AskedFor K d
asks_for K now os d recent known a =
    subst (AskedIn K) (sym a.spelled) (
      rw (request_asks a.request a.number) (subst (λ (b : ℕ). (b < 2 ^ 64) × K b) (sym (request_block a.request.resend low)) (low, known a.request.resend.block a.is_open low)),
      request_size a.request a.number,
    )
  where
    low : a.request.resend.block < 2 ^ 64
    low = has_of {P = IsRecent now} a.request.resend.block os (λ b. b < 2 ^ 64) (λ o r. r.block) recent a.is_open

pub queue_asks : (K : ℕ → Type 0) (w : World Receiver) → HostGoes w → ((b : ℕ) → HasBlock b w.host.acquisition.opens → b < 2 ^ 64 → K b) → All (AskedFor K) w.to_camera
queue_asks K w g known =
    All-weaker (λ d. AsksOpen w.host.acquisition.opens d.bytes) (AskedFor K)
    (λ d a. asks_for K w.host.acquisition.now w.host.acquisition.opens d g.receiver.recent known a) w.to_camera g.to_camera

standing : (w : World Receiver) → HostGoes w → Standing w.host.acquisition.now w.host.acquisition
standing w g = record { sound = g.receiver.sound; recent = g.receiver.recent; now_is = refl }

-- ---- what holds is kept

goes_after : (Q : State → Type 0) (run : Run) (w v : World Receiver) → Passes Q run w v → HostGoes v
goes_after Q run w v p = record {
  receiver = subst (λ (s : State). ReceiverGoes v.moment s) (sym p.receiver_is) (subst (λ (m : ℕ). ReceiverGoes m (step soak_config p.heard (tick p.moment)).after) (sym p.moment_is) p.ticks.goes);
  camera = p.camera;
  client = p.client;
  to_host = p.to_host_is;
  to_camera = subst (λ (s : State). All (λ d. AsksOpen s.opens d.bytes) v.to_camera) (sym p.receiver_is) p.to_camera;
}

passes_round : (K : ℕ → Type 0) (Q : State → Type 0) (run : Run) (w : World Receiver) → HostGoes w → All (AskedFor K) w.to_camera
    → (is_due run (camera_turn run (began run w)) ≡ false) ⊎ ((x : StreamPacket) → GivesOf K x)
    → IsKept K Q → Q w.host.acquisition → ((s : State) → Q s → Standing w.host.acquisition.now s) → (round run soak_host w).end ≡ None
    → Passes Q run w (round run soak_host w).world
passes_round K Q run w g queue frames kept q stands e =
    subst (Passes Q run w) (sym (went_on run soak_host w e).world_is)
    (passes K Q run w g queue frames kept q (λ s m is h. let low = g.receiver.now in ticked w.host.acquisition.now m s (omega arith) (stands s h)))

-- whatever the packets are
low_passes : (run : Run) (w : World Receiver) → HostGoes w → (round run soak_host w).end ≡ None → Passes (Standing w.host.acquisition.now) run w (round run soak_host w).world
low_passes run w g e =
    passes_round (λ b. b < 2 ^ 64) (Standing w.host.acquisition.now) run w g (queue_asks (λ b. b < 2 ^ 64) w g (λ b here low. low)) (inr spelled_is_low)
    (λ r bytes h st. hears_stands (λ b. b < 2 ^ 64) w.host.acquisition.now r bytes (λ b low. low) h st) (standing w g) (λ s st. st) e

pub host_goes_on : (run : Run) (w : World Receiver) → HostGoes w → (round run soak_host w).end ≡ None → HostGoes (round run soak_host w).world
host_goes_on run w g e = goes_after (Standing w.host.acquisition.now) run w (round run soak_host w).world (low_passes run w g e)

-- ---- frames

-- The counts of frames, and whether one is due, are those of the round's start till then.
pub record IsAsBefore (run : Run) (w u : World Receiver) : Type 0 where
  pub made_is : u.made ≡ w.made
  pub over_is : u.is_over ≡ w.is_over
  pub due_is : is_due run u ≡ is_due run w

pub as_before : (run : Run) (w : World Receiver) → HostGoes w → IsAsBefore run w (camera_turn run (began run w))
as_before run w g = record {
  made_is = made;
  over_is = over;
  due_is = rw (made, over, s.done_is ∙ b.done_is) refl;
}
  where
    K : ℕ → Type 0
    K = λ b. b < 2 ^ 64

    b : Began K (rises w) (began run w)
    b = client_began K run (rises w) g.client (queue_asks K w g (λ b here low. low))

    s : Shows K (record (began run w) { to_camera = [] }) (camera_turn run (began run w))
    s = camera_shows K run (began run w) (rw b.camera_is g.camera) (b.to_host_is ∙ g.to_host) b.to_camera

    made : (camera_turn run (began run w)).made ≡ w.made
    made = s.made_is ∙ b.made_is

    over : (camera_turn run (began run w)).is_over ≡ w.is_over
    over = s.over_is ∙ b.over_is

pub made_is_shown : (run : Run) (w : World Receiver) → HostGoes w → (round run soak_host w).end ≡ None → (round run soak_host w).world.made ≡ (makes run (camera_turn run (began run w))).made
made_is_shown run w g e = (low_passes run w g e).made_is

same_frames : (due after : Bool) (made made_is new new_is : ℕ) (over over_is closed closed_is : Bool) → due ≡ after → made ≡ made_is → over ≡ over_is → new ≡ new_is → closed ≡ closed_is
    → FramesGoOn due made over new closed → FramesGoOn after made_is over_is new_is closed_is
same_frames due after made made_is new new_is over over_is closed closed_is p q r s t h = rw (← p, ← q, ← r, ← s, ← t) h

pub frames_go_on : (run : Run) (w : World Receiver) → HostGoes w → (round run soak_host w).end ≡ None
    → FramesGoOn (is_due run w) w.made w.is_over (round run soak_host w).world.made (round run soak_host w).world.is_over
frames_go_on run w g e =
    let p = low_passes run w g e in
    let before = as_before run w g in
    same_frames (is_due run (camera_turn run (began run w))) (is_due run w) (camera_turn run (began run w)).made w.made (shown run (began run w)).made (round run soak_host w).world.made
    (camera_turn run (began run w)).is_over w.is_over (shown run (began run w)).is_over (round run soak_host w).world.is_over
    before.due_is before.made_is before.over_is (sym p.made_is) (sym p.over_is) (frames_made run (camera_turn run (began run w)))

-- ---- a round without a frame

-- no frame is left
abbrev pub IsSentOut : Run → World Receiver → Type 0
IsSentOut run w = (not (nat_lt w.made run.frames) || w.is_over) ≡ true

none_due : (set over left : Bool) → (not left || over) ≡ true → (set && not over && left) ≡ false
none_due false over left e = refl
none_due true true left e = refl
none_due true false true e = absurd (cc)
none_due true false false e = refl

pub not_due : (run : Run) (w : World Receiver) → IsSentOut run w → is_due run w ≡ false
not_due run w sent = none_due (w.done == SETUP_SIZE) w.is_over (nat_lt w.made run.frames) sent

-- where no block is open and nothing is asked for, the run is done
no_block : (run : Run) (v : World Receiver) → v.done ≡ SETUP_SIZE → IsSentOut run v → v.host.acquisition.opens ≡ [] → v.to_camera ≡ [] → v.to_host ≡ []
    → is_done run soak_host v ≡ true
no_block run v d sent none up down = rw (eq-eqb v.done SETUP_SIZE d, sent, none, up, down) refl

queue_small : (ds : List Datagram) → queue_left ds ≤ REPLY_ROUNDS
queue_small [] = omega arith
queue_small (d ∷ ds) = omega arith

queue_paid : (ds : List Datagram) (rs : List Request) → (rs ≡ [] → ds ≡ []) → queue_left ds ≤ owed rs
queue_paid ds [] none = rw (none refl) (omega arith)
queue_paid ds (r ∷ rs) none = queue_small ds

-- what the open blocks have left
abbrev blocks_left : State → ℕ
blocks_left s = asks_left s.opens + ages_left s.now s.opens

-- Where commands are on their way, the packets that they bring are of blocks that are open or retired.
falls_with : (run : Run) (w : World Receiver) (d : Datagram) (ds : List Datagram) → HostGoes w → IsSentOut run w → (round run soak_host w).end ≡ None → w.to_camera ≡ d ∷ ds
    → tail_left (round run soak_host w).world < tail_left w
falls_with run w d ds g sent e some =
    let queue = queue_paid v.to_camera t.requests p.none in
    let fewer = p.holds.0.asks in
    let pays = p.ticks.pays in
    let young = p.ticks.young in
    omega (arith, ap blocks_left p.receiver_is, ap queue_left some)
  where
    v : World Receiver
    v = (round run soak_host w).world

    K : ℕ → Type 0
    K = λ b. HasBlock b w.host.acquisition.opens × (b < 2 ^ 64)

    Q : State → Type 0
    Q = λ s. Follows w.host.acquisition s × Standing w.host.acquisition.now s

    kept : IsKept K Q
    kept r bytes h q = (
      follows_both w.host.acquisition r.acquisition (hears r bytes).acquisition q.0
          (hears_follows K w.host.acquisition.now r bytes (λ b k. q.0.known b (inl k.0)) h q.1),
      hears_stands K w.host.acquisition.now r bytes (λ b k. k.1) h q.1,
    )

    p : Passes Q run w v
    p = passes_round K Q run w g (queue_asks K w g (λ b here low. (here, low))) (inl ((as_before run w g).due_is ∙ not_due run w sent)) kept (follows_itself w.host.acquisition, standing w g) (λ s q. q.1) e

    t : Turn
    t = step soak_config p.heard (tick p.moment)

-- Where none is, no packet comes, and the lowest block that stays grows older.
falls_without : (run : Run) (w : World Receiver) → HostGoes w → IsSentOut run w → (round run soak_host w).end ≡ None → (round run soak_host w).world.done ≡ SETUP_SIZE → w.to_camera ≡ []
    → tail_left (round run soak_host w).world < tail_left w
falls_without run w g sent e set none = go p.ticks.older
  where
    v : World Receiver
    v = (round run soak_host w).world

    K : ℕ → Type 0
    K = λ b. ⊥

    Q : State → Type 0
    Q = λ s. (s.opens ≡ w.host.acquisition.opens) × Standing w.host.acquisition.now s

    kept : IsKept K Q
    kept r bytes h q = (hears_nothing r bytes h ∙ q.0, hears_stands K w.host.acquisition.now r bytes (λ b k. absurd k) h q.1)

    still : FramesGoOn false w.made w.is_over v.made v.is_over
    still = subst (λ (due : Bool). FramesGoOn due w.made w.is_over v.made v.is_over) (not_due run w sent) (frames_go_on run w g e)

    p : Passes Q run w v
    p = passes_round K Q run w g (rw none (All-nil (AskedFor K))) (inl ((as_before run w g).due_is ∙ not_due run w sent)) kept (refl, standing w g) (λ s q. q.1) e

    t : Turn
    t = step soak_config p.heard (tick p.moment)

    over : t.after.opens ≡ [] → ⊥
    over empty =
        let is = no_block run v set (rw (still.0, still.1) sent) (ap (λ (s : State). s.opens) p.receiver_is ∙ empty) (p.none (p.ticks.none empty)) p.to_host_is in
        let more = went_on run soak_host w e in
        let not_done : is_done run soak_host v ≡ false = subst (λ (u : World Receiver). is_done run soak_host u ≡ false) (sym more.world_is) more.not_done in
        cc

    go : (t.after.opens ≡ []) ⊎ (ages_left t.after.now t.after.opens + 1 ≤ ages_left p.heard.now p.heard.opens) → tail_left v < tail_left w
    go (inl empty) = absurd (over empty)
    go (inr older) =
        let queue = queue_paid v.to_camera t.requests p.none in
        let pays = p.ticks.pays in
        let before : blocks_left p.heard ≡ blocks_left w.host.acquisition = rw (p.holds.0, p.holds.1.now_is) refl in
        omega (arith, ap blocks_left p.receiver_is, ap queue_left none)

pub tail_falls : (run : Run) (w : World Receiver) → HostGoes w → IsSentOut run w → (round run soak_host w).end ≡ None → (round run soak_host w).world.done ≡ SETUP_SIZE
    → tail_left (round run soak_host w).world < tail_left w
tail_falls run w g sent e set = go w.to_camera refl
  where
    go : (ds : List Datagram) → w.to_camera ≡ ds → tail_left (round run soak_host w).world < tail_left w
    go [] none = falls_without run w g sent e set none
    go (d ∷ ds) some = falls_with run w d ds g sent e some

-- ---- at most so many rounds

most_asks : (os : List Open) → asks_left os ≤ 117 * length os
most_asks [] = omega arith
most_asks (o ∷ os) = let rest = most_asks os in omega arith

most_ages : (now : ℕ) (os : List Open) → ages_left now os ≤ 20 * length os
most_ages now [] = omega arith
most_ages now (o ∷ os) = let rest = most_ages now os in omega arith

pub tail_most : (w : World Receiver) → HostGoes w → tail_left w ≤ MOST_TAIL
tail_most w g =
    let asks = most_asks w.host.acquisition.opens in
    let ages = most_ages w.host.acquisition.now w.host.acquisition.opens in
    let few = g.receiver.sound.room in
    let queue = queue_small w.to_camera in
    omega arith

-- ---- the start

pub host_begins : (run : Run) → HostGoes (new_world run start)
host_begins run = record {
  receiver = record { sound = first_sound soak_config; recent = tt; now = omega arith };
  camera = record { none_wait = refl; counted = record { some = omega arith; filled = omega arith; numbered = λ place. tt } };
  client = tt;
  to_host = refl;
  to_camera = All-nil (λ (d : Datagram). AsksOpen [] d.bytes);
}
