-- What a camera gives are bytes: those of the frames that it drew.
use Rattle.std.proofs.Common.{ℕ, ◌+◌, Bool, true, false, List, [], ◌∷◌, drop, sym, subst}
use Rattle.std.specs.Prelude.{⊤, ◌%◌, ◌^◌, if◌then◌else◌, All, IfSome}
use Rattle.std.proofs.lemmas.List.Elements.{All-nil, All-push, All-contains}
use Rattle.gev_types.specs.declared.frame.Frame.{Frame}
use Rattle.gev_types.specs.declared.frame.Shape.{Shape}
use Rattle.gev_frames.specs.Generator.{noise}
use Rattle.gev_frames.specs.Frames.{shape_size, rows_size, rows_of, camera_frame}
use Rattle.stream_packets.specs.Packets.{StreamPacket, leader, payload, trailer, notice}
use Rattle.stream_packets.specs.FramePackets.{payload_start, packets_of}
use Rattle.resend_store.specs.declared.sent.SentFrame.{SentFrame}
use Rattle.resend_store.specs.Shelf.{staying}
use Rattle.gvsp_wire.specs.Plain.{plain, plain_header, AreBytes}
use Rattle.gvsp_wire.specs.Wire.{leader_fields, trailer_fields}
use Rattle.wire_fields.specs.Fields.{spelled}
use Rattle.camera_machine.specs.Camera.{Camera, new_camera, is_open}
use Rattle.camera_machine.specs.Stream.{sent_packets, again, all_waiting, next_frame, framed, with_frame}
use Rattle.camera_machine.specs.Events as cameras
use Rattle.camera_machine.proofs.Walk.{Stays, stays_looked, stays_commanded}
use Rattle.camera_machine.proofs.Waiting.{packets_all, held_all, staying_all, replies_all, waiting_push, waiting_reply, waiting_rest, next_sent}
use Rattle.world_machine.specs.Schedule.{Act, at_client, at_camera, new_line, after, camera_events}
use Rattle.world_machine.proofs.Apart.{apart}
use Rattle.world_machine.specs.HostActs.{given_by, given_in, IsGiven}
use Rattle.world_laws.proofs.Reading.{bytes_append, bytes_taken, bytes_dropped, spelled_small, header_small}
use Rattle.world_laws.proofs.Made.{noise_small, last_all}

-- ---- packets

-- what a payload carries are bytes
abbrev HasBytes : StreamPacket → Type 0
HasBytes (leader h i) = ⊤
HasBytes (payload h d) = AreBytes d
HasBytes (trailer h y) = ⊤
HasBytes (notice h) = ⊤

-- so are the pixels
abbrev IsDrawn : SentFrame → Type 0
IsDrawn sent = AreBytes sent.frame.pixels

plain_bytes : (x : StreamPacket) → HasBytes x → AreBytes (plain x)
plain_bytes (leader h i) small = bytes_append (plain_header h 1) (spelled (leader_fields 0 0 1 i)) (header_small h 1) (spelled_small (leader_fields 0 0 1 i))
plain_bytes (payload h d) small = bytes_append (plain_header h 3) d (header_small h 3) small
plain_bytes (trailer h y) small = bytes_append (plain_header h 2) (spelled (trailer_fields 0 1 y)) (header_small h 2) (spelled_small (trailer_fields 0 1 y))
plain_bytes (notice h) small = header_small h 3

frame_small : (f : Frame) (p : ℕ) → AreBytes f.pixels → All HasBytes (packets_of f p)
frame_small f p small =
    packets_all HasBytes f p tt (λ k one most. bytes_taken p (drop (payload_start p k) f.pixels) (bytes_dropped (payload_start p k) f.pixels small)) tt

again_small : (x : StreamPacket) → HasBytes x → HasBytes (again x)
again_small (leader h i) small = tt
again_small (payload h d) small = small
again_small (trailer h y) small = tt
again_small (notice h) small = tt

-- ---- a camera that holds such frames, and has such packets waiting

record IsSmall (s : Camera) : Type 0 where
  stored : All IsDrawn s.shelf.frames
  waiting : All HasBytes (all_waiting s.waiting)

small_stays : Stays IsSmall (λ r. Unit {0})
small_stays = record {
  rest = λ s words holder kept executed h. record { stored = h.stored; waiting = h.waiting };
  dropped = λ s h. record { stored = h.stored; waiting = All-nil HasBytes };
  forgotten = λ s h. record { stored = All-nil IsDrawn; waiting = h.waiting };
  replied = λ s r asks h. record {
    stored = h.stored;
    waiting = waiting_reply HasBytes s r h.waiting
        (replies_all HasBytes IsDrawn s.shelf r
        (record { sent = λ sent drawn. frame_small sent.frame sent.payload_size drawn; sent_again = again_small; told = λ status. tt })
        (held_all IsDrawn s.shelf r.block h.stored));
  };
}

-- ---- frames

drawn_small : (short : Bool) (seed b : ℕ) (shape : Shape) → AreBytes (camera_frame short seed b shape).pixels
drawn_small short seed b shape =
    bytes_taken (rows_size shape (rows_of short b shape)) (noise (shape_size shape) ((seed + b) % 2 ^ 64)) (noise_small (shape_size shape) ((seed + b) % 2 ^ 64))

small_framed : (s : Camera) → IsSmall s → IsSmall (framed s)
small_framed s h = go (is_open s)
  where
    drawn : AreBytes (next_frame s).frame.pixels
    drawn = drawn_small s.short s.seed (s.shelf.count + 1) s.shape

    go : (t : Bool) → IsSmall (if t then with_frame s (next_frame s) else s)
    go true = record {
      stored = All-push IsDrawn (staying s.shelf.room s.shelf.frames) (next_frame s) (staying_all IsDrawn s.shelf.room s.shelf.frames h.stored) drawn;
      waiting = waiting_push HasBytes s.waiting (record { is_reply = false; packets = sent_packets (next_frame s) }) h.waiting
          (frame_small (next_frame s).frame (next_frame s).payload_size drawn);
    }
    go false = h

small_step : (s : Camera) (e : cameras.Event) → IsSmall s → IsSmall (cameras.step s e)
small_step s (cameras.command peer bytes moment) h = stays_commanded IsSmall (λ r. Unit {0}) small_stays s peer bytes moment (λ r e. tt) h
small_step s (cameras.tick moment) h = stays_looked IsSmall (λ r. Unit {0}) small_stays s moment h
small_step s cameras.make_frame h = small_framed s h
small_step s cameras.next_packet h = record { stored = h.stored; waiting = waiting_rest HasBytes s.waiting h.waiting }
small_step s (cameras.set_short short) h = record { stored = h.stored; waiting = h.waiting }

small_after : (seed : ℕ) (shape : Shape) (room : ℕ) (es : List cameras.Event) → IsSmall (cameras.after (new_camera seed shape room) es)
small_after seed shape room [] = record { stored = All-nil IsDrawn; waiting = All-nil HasBytes }
small_after seed shape room (e ∷ es) = small_step (cameras.after (new_camera seed shape room) es) e (small_after seed shape room es)

-- ---- what is given

one_small : (s : Camera) (e : cameras.Event) → IsSmall s → IfSome (given_by s e) HasBytes
one_small s (cameras.command peer bytes moment) h = tt
one_small s (cameras.tick moment) h = tt
one_small s cameras.make_frame h = tt
one_small s cameras.next_packet h = next_sent HasBytes s.waiting h.waiting
one_small s (cameras.set_short short) h = tt

given_small : (seed : ℕ) (shape : Shape) (room : ℕ) (acts : List Act) → All HasBytes (given_in (new_line seed shape room) acts)
given_small seed shape room [] = All-nil HasBytes
given_small seed shape room (at_client e ∷ acts) = given_small seed shape room acts
given_small seed shape room (at_camera e ∷ acts) =
    last_all HasBytes (given_in (new_line seed shape room) acts) (given_by (after (new_line seed shape room) acts).camera e)
    (given_small seed shape room acts)
    (subst (λ (s : Camera). IfSome (given_by s e) HasBytes) (sym (apart seed shape room acts).camera)
    (one_small (cameras.after (new_camera seed shape room) (camera_events acts)) e (small_after seed shape room (camera_events acts))))

-- the bytes of a packet that a camera gave are bytes
pub given_bytes : (seed : ℕ) (shape : Shape) (room : ℕ) (acts : List Act) (bytes : List ℕ) → IsGiven (given_in (new_line seed shape room) acts) bytes → AreBytes bytes
given_bytes seed shape room acts bytes given =
    subst AreBytes (sym given.spelled)
    (plain_bytes given.packet (All-contains HasBytes (given_in (new_line seed shape room) acts) given.packet (given_small seed shape room acts) given.among))
