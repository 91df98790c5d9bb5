-- No command makes a camera count more frames, or changes whether its frames are short.
use Rattle.std.proofs.Common.{◌≡◌, ℕ, ◌+◌, ◌≤◌, refl, ◌∙◌, Bool, true, false, List, [], ◌∷◌, arith}
use Rattle.std.specs.Prelude.{if◌then◌else◌}
use Rattle.gev_types.specs.declared.peer.Peer.{Peer}
use Rattle.gev_types.specs.declared.frame.Shape.{Shape}
use Rattle.camera_machine.specs.Camera.{Camera, new_camera, is_open, looked}
use Rattle.camera_machine.specs.Stream.{next_frame, with_frame, framed}
use Rattle.camera_machine.specs.Commands.{commanded}
use Rattle.camera_machine.specs.Events.{Event, command, tick, make_frame, next_packet, set_short, after, last_short}
use Rattle.camera_machine.proofs.Walk.{Stays, stays_looked, stays_commanded}

-- it counts at most so many
abbrev pub Counts : ℕ → Camera → Type 0
Counts n s = s.shelf.count ≤ n

-- it counts at most so many, and its frames are short or not as here
abbrev Keeps : ℕ → Bool → Camera → Type 0
Keeps n short s = (s.shelf.count ≤ n) × (s.short ≡ short)

keeps : (n : ℕ) (short : Bool) → Stays (Keeps n short) (λ r. Unit {0})
keeps n short = record {
  rest = λ s words holder kept executed h. h;
  dropped = λ s h. h;
  forgotten = λ s h. (omega arith, h.1);
  replied = λ s r asks h. h;
}

keeps_looked : (n : ℕ) (short : Bool) (s : Camera) (moment : ℕ) → Keeps n short s → Keeps n short (looked s moment)
keeps_looked n short = stays_looked (Keeps n short) (λ r. Unit {0}) (keeps n short)

keeps_commanded : (n : ℕ) (short : Bool) (s : Camera) (peer : Peer) (bytes : List ℕ) (moment : ℕ) → Keeps n short s → Keeps n short (commanded s peer bytes moment).camera
keeps_commanded n short s peer bytes moment = stays_commanded (Keeps n short) (λ r. Unit {0}) (keeps n short) s peer bytes moment (λ r e. tt)

-- ---- the count

pub counts_looked : (n : ℕ) (s : Camera) (moment : ℕ) → Counts n s → Counts n (looked s moment)
counts_looked n s moment h = (keeps_looked n s.short s moment (h, refl)).0

pub counts_commanded : (n : ℕ) (s : Camera) (peer : Peer) (bytes : List ℕ) (moment : ℕ) → Counts n s → Counts n (commanded s peer bytes moment).camera
counts_commanded n s peer bytes moment h = (keeps_commanded n s.short s peer bytes moment (h, refl)).0

-- a frame is one more
pub counts_framed : (s : Camera) (n : ℕ) → Counts n s → Counts (n + 1) (framed s)
counts_framed s n h = go (is_open s)
  where
    go : (b : Bool) → Counts (n + 1) (if b then with_frame s (next_frame s) else s)
    go true = omega (arith, h)
    go false = omega (arith, h)

-- ---- whether frames are short

short_looked : (s : Camera) (moment : ℕ) → (looked s moment).short ≡ s.short
short_looked s moment = (keeps_looked s.shelf.count s.short s moment (omega arith, refl)).1

short_commanded : (s : Camera) (peer : Peer) (bytes : List ℕ) (moment : ℕ) → (commanded s peer bytes moment).camera.short ≡ s.short
short_commanded s peer bytes moment = (keeps_commanded s.shelf.count s.short s peer bytes moment (omega arith, refl)).1

short_framed : (s : Camera) → (framed s).short ≡ s.short
short_framed s = go (is_open s)
  where
    go : (b : Bool) → (if b then with_frame s (next_frame s) else s).short ≡ s.short
    go true = refl
    go false = refl

-- after any events of a new camera it is as the latest one that set it said
pub short_is : (seed : ℕ) (shape : Shape) (room : ℕ) (es : List Event) → (after (new_camera seed shape room) es).short ≡ last_short es
short_is seed shape room [] = refl
short_is seed shape room (command peer bytes moment ∷ es) =
    short_commanded (after (new_camera seed shape room) es) peer bytes moment ∙ short_is seed shape room es
short_is seed shape room (tick moment ∷ es) = short_looked (after (new_camera seed shape room) es) moment ∙ short_is seed shape room es
short_is seed shape room (make_frame ∷ es) = short_framed (after (new_camera seed shape room) es) ∙ short_is seed shape room es
short_is seed shape room (next_packet ∷ es) = short_is seed shape room es
short_is seed shape room (set_short short ∷ es) = refl
