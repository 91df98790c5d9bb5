-- The frames that a camera made stand behind the packets that it gave.
use Rattle.std.proofs.Common.{Bool, ℕ, zero, suc, ◌+◌, ◌*◌, ◌/◌, ◌%◌, ◌^◌, ◌<◌, List, [], ◌∷◌, Option, Some, None, sym, subst, arith}
use Rattle.std.specs.Prelude.{All, IfSome}
use Rattle.std.proofs.lemmas.List.Elements.{All-nil, All-push, All-weaker}
use Rattle.gev_types.specs.declared.frame.Shape.{Shape}
use Rattle.gev_frames.specs.Generator.{next, noise}
use Rattle.gev_frames.specs.Frames.{shape_size, rows_size, rows_of, camera_frame}
use Rattle.stream_packets.specs.Packets.{StreamPacket}
use Rattle.stream_packets.specs.Sent.{IsSent}
use Rattle.gvsp_wire.specs.Plain.{AreBytes}
use Rattle.camera_machine.specs.Camera.{Camera, new_camera}
use Rattle.camera_machine.specs.Events as cameras
use Rattle.camera_machine.specs.Events.{past, frames_made}
use Rattle.camera_machine.specs.Sending.{AskFromOne, HaveRows, HaveSize}
use Rattle.camera_machine.proofs.Sound.{Frames, sent_more}
use Rattle.camera_machine.proofs.Sending.{size_step, lines_step, asks_rest, frames_grow, frames_are, packets_sent}
use Rattle.world_machine.specs.Schedule.{Act, at_client, at_camera, new_line, after, with_last, camera_events}
use Rattle.world_machine.proofs.Apart.{apart}
use Rattle.world_machine.specs.HostActs.{given_by, given_in}
use Rattle.world_laws.specs.Schedule.{WorldEvent, session_acts}
use Rattle.world_laws.specs.Images.{FitsPackets, ShapeFits}
use Rattle.world_laws.specs.Laws.{PacketsAreOfMadeFrames}
use Rattle.world_laws.proofs.Reading.{bytes_taken}

-- ---- packets

-- the frames that were made by these acts
abbrev made_by : ℕ → Shape → ℕ → List cameras.Event → Frames
made_by seed shape room es = frames_made (past (new_camera seed shape room) es)

-- what an event gives is a sent packet
one_sent : (seed : ℕ) (shape : Shape) (room p : ℕ) (short : Bool) (e : cameras.Event) (es : List cameras.Event) → AskFromOne (e ∷ es)
    → HaveSize p (past (new_camera seed shape room) (e ∷ es)) → HaveRows short shape (past (new_camera seed shape room) (e ∷ es))
    → IfSome (given_by (cameras.after (new_camera seed shape room) es) e) (IsSent (made_by seed shape room (e ∷ es)) p)
one_sent seed shape room p short (cameras.command peer bytes moment) es asks size rows = tt
one_sent seed shape room p short (cameras.tick moment) es asks size rows = tt
one_sent seed shape room p short cameras.make_frame es asks size rows = tt
one_sent seed shape room p short cameras.next_packet es asks size rows = (packets_sent seed shape room p short es asks size rows).next
one_sent seed shape room p short (cameras.set_short to) es asks size rows = tt

pub last_all : (P : StreamPacket → Type 0) (xs : List StreamPacket) (o : Option StreamPacket) → All P xs → IfSome o P → All P (with_last xs o)
last_all P xs None all one = all
last_all P xs (Some x) all one = All-push P xs x all one

given_sent : (seed : ℕ) (shape : Shape) (room p : ℕ) (short : Bool) (acts : List Act) → AskFromOne (camera_events acts)
    → HaveSize p (past (new_camera seed shape room) (camera_events acts)) → HaveRows short shape (past (new_camera seed shape room) (camera_events acts))
    → All (IsSent (made_by seed shape room (camera_events acts)) p) (given_in (new_line seed shape room) acts)
given_sent seed shape room p short [] asks size rows = All-nil (IsSent (made_by seed shape room []) p)
given_sent seed shape room p short (at_client e ∷ acts) asks size rows = given_sent seed shape room p short acts asks size rows
given_sent seed shape room p short (at_camera e ∷ acts) asks size rows =
    let es : List cameras.Event = camera_events acts in
    let frames : Frames = made_by seed shape room es in
    let more : Frames = made_by seed shape room (e ∷ es) in
    let packets : List StreamPacket = given_in (new_line seed shape room) acts in
    let s : Camera = cameras.after (new_camera seed shape room) es in
    let before : All (IsSent frames p) packets
    = given_sent seed shape room p short acts (asks_rest e es asks) (size_step p s e (past (new_camera seed shape room) es) size)
    (lines_step short shape s e (past (new_camera seed shape room) es) rows) in
    let all : All (IsSent more p) packets
    = All-weaker (IsSent frames p) (IsSent more p) (λ x k. sent_more frames more p x (frames_grow short seed shape room e es rows) k) packets before in
    let one : IfSome (given_by (after (new_line seed shape room) acts).camera e) (IsSent more p)
    = subst (λ (s : Camera). IfSome (given_by s e) (IsSent more p)) (sym (apart seed shape room acts).camera) (one_sent seed shape room p short e es asks size rows) in
    last_all (IsSent more p) packets (given_by (after (new_line seed shape room) acts).camera e) all one

-- ---- frames

drawn_small : (y : ℕ) → y % 2 ^ 64 / 2 ^ 32 / 2 ^ 24 < 256
drawn_small y = omega arith

pub noise_small : (n x : ℕ) → AreBytes (noise n x)
unfolding noise
noise_small zero x i = omega arith
noise_small (suc n) x zero = drawn_small (x * 6364136223846793005 + 1442695040888963407)
noise_small (suc n) x (suc i) = noise_small n (next x) i

generated_fits : (short : Bool) (seed b : ℕ) (shape : Shape) → b < 2 ^ 64 → ShapeFits shape → FitsPackets (camera_frame short seed b shape)
generated_fits short seed b shape small fits = record {
  block = small;
  info = record {
    timestamp = small;
    pixel = fits.pixel;
    size_x = fits.size_x;
    size_y = fits.size_y;
    offset_x = omega arith;
    offset_y = omega arith;
    padding_x = omega arith;
    padding_y = omega arith;
  };
  pixels = bytes_taken (rows_size shape (rows_of short b shape)) (noise (shape_size shape) ((seed + b) % 2 ^ 64)) (noise_small (shape_size shape) ((seed + b) % 2 ^ 64));
}

pub of_made_frames : (seed : ℕ) (shape : Shape) (room : ℕ) (es : List WorldEvent) → PacketsAreOfMadeFrames seed shape room es
of_made_frames seed shape room es p short sends =
    let generated = (frames_are seed shape room (camera_events (session_acts es))).all short sends.one_shortness in
    record {
      generated = generated;
      frames = record {
        sent = record {
          are_frames = generated.valid sends.size sends.lines;
          payload_size = sends.payload_size;
          sent = given_sent seed shape room p short (session_acts es) sends.from_one sends.one_size sends.one_shortness;
        };
        fit = λ b f is. subst FitsPackets (sym (generated.same b f is)) (generated_fits short seed b shape (sends.ids b f is) sends.fits);
      };
    }
