-- A camera of a map of frames holds frames of it, and its packets are of them.
use Rattle.std.proofs.Common.{◌≡◌, ℕ, ◌≤◌, false, Option, Some, refl, subst, inl, inr}
use Rattle.std.specs.Prelude.{All}
use Rattle.std.proofs.lemmas.List.Elements.{All-nil, All-push, All-weaker}
use Rattle.gev_types.specs.declared.frame.Frame.{Frame}
use Rattle.stream_packets.specs.Packets.{StreamPacket, leader, payload, trailer, notice, head_of}
use Rattle.stream_packets.specs.FramePackets.{packets_of}
use Rattle.stream_packets.specs.Sent.{CarriesFrame, IsSent}
use Rattle.resend_store.specs.declared.sent.SentFrame.{SentFrame}
use Rattle.resend_store.specs.Shelf.{staying}
use Rattle.camera_machine.specs.Stream.{StreamState, stream_of, sent_packets, again, all_waiting, frame_pushed}
use Rattle.camera_machine.proofs.Walk.{Stays}
use Rattle.camera_machine.proofs.Waiting.{packets_all, held_all, staying_all, replies_all, waiting_push, waiting_reply}

-- ---- the packets of one frame

abbrev pub Frames : Type 0
Frames = ℕ → Option Frame

frame_sent : (frames : Frames) (p : ℕ) (f : Frame) → frames f.block ≡ Some f → All (IsSent frames p) (packets_of f p)
frame_sent frames p f e =
    packets_all (IsSent frames p) f p (record { frame = f; of_block = e; packet = (refl, refl, refl); status = inl refl })
    (λ k one most. record { frame = f; of_block = e; packet = (refl, one, most, refl); status = inl refl })
    (record { frame = f; of_block = e; packet = (refl, refl, refl); status = inl refl })

again_sent : (frames : Frames) (p : ℕ) (x : StreamPacket) → IsSent frames p x → IsSent frames p (again x)
again_sent frames p (leader h i) c = record { frame = c.frame; of_block = c.of_block; packet = c.packet; status = inr refl }
again_sent frames p (payload h d) c = record { frame = c.frame; of_block = c.of_block; packet = c.packet; status = inr refl }
again_sent frames p (trailer h y) c = record { frame = c.frame; of_block = c.of_block; packet = c.packet; status = inr refl }
again_sent frames p (notice h) c = c

-- ---- frames that are added to a map

abbrev pub Grows : Frames → Frames → Type 0
Grows frames more = (b : ℕ) (f : Frame) → frames b ≡ Some f → more b ≡ Some f

carries_more : (frames more : Frames) (p : ℕ) (x : StreamPacket) → Grows frames more → CarriesFrame frames p x → CarriesFrame more p x
carries_more frames more p x g c =
    record { frame = c.frame; of_block = g (head_of x).block c.frame c.of_block; packet = c.packet; status = c.status }

pub sent_more : (frames more : Frames) (p : ℕ) (x : StreamPacket) → Grows frames more → IsSent frames p x → IsSent more p x
sent_more frames more p (leader h i) g c = carries_more frames more p (leader h i) g c
sent_more frames more p (payload h d) g c = carries_more frames more p (payload h d) g c
sent_more frames more p (trailer h y) g c = carries_more frames more p (trailer h y) g c
sent_more frames more p (notice h) g c = c

-- ---- what a camera of a map of frames holds

-- a stored frame is one of the map, with this payload size
pub record IsStored (frames : Frames) (p : ℕ) (sent : SentFrame) : Type 0 where
  pub of_block : frames sent.frame.block ≡ Some sent.frame
  pub size : sent.payload_size ≡ p

pub record IsSound (frames : Frames) (p : ℕ) (t : StreamState) : Type 0 where
  pub stored : All (IsStored frames p) t.shelf.frames
  pub waiting : All (IsSent frames p) (all_waiting t.waiting)

pub sound_more : (frames more : Frames) (p : ℕ) (t : StreamState) → Grows frames more → IsSound frames p t → IsSound more p t
sound_more frames more p t g h = record {
  stored = All-weaker (IsStored frames p) (IsStored more p) (λ x k. record { of_block = g x.frame.block x.frame k.of_block; size = k.size }) t.shelf.frames h.stored;
  waiting = All-weaker (IsSent frames p) (IsSent more p) (λ x k. sent_more frames more p x g k) (all_waiting t.waiting) h.waiting;
}

stored_packets : (frames : Frames) (p : ℕ) (sent : SentFrame) → IsStored frames p sent → All (IsSent frames p) (sent_packets sent)
stored_packets frames p sent k =
    subst (λ (n : ℕ). All (IsSent frames n) (sent_packets sent)) k.size (frame_sent frames sent.payload_size sent.frame k.of_block)

-- one more frame, of a map that has it
pub sound_pushed : (frames : Frames) (p : ℕ) (t : StreamState) (sent : SentFrame) → IsStored frames p sent → IsSound frames p t → IsSound frames p (frame_pushed t sent)
sound_pushed frames p t sent k h = record {
  stored = All-push (IsStored frames p) (staying t.shelf.room t.shelf.frames) sent (staying_all (IsStored frames p) t.shelf.room t.shelf.frames h.stored) k;
  waiting = waiting_push (IsSent frames p) t.waiting (record { is_reply = false; packets = sent_packets sent }) h.waiting (stored_packets frames p sent k);
}

-- what commands do to it, which ask for packets of a block from 1 on
pub sound_stays : (frames : Frames) (p : ℕ) → Stays (λ s. IsSound frames p (stream_of s)) (λ r. 1 ≤ r.block)
sound_stays frames p = record {
  rest = λ s words holder kept executed h. h;
  dropped = λ s h. record { stored = h.stored; waiting = All-nil (IsSent frames p) };
  forgotten = λ s h. record { stored = All-nil (IsStored frames p); waiting = h.waiting };
  replied = λ s r one h. record {
    stored = h.stored;
    waiting = waiting_reply (IsSent frames p) s r h.waiting
        (replies_all (IsSent frames p) (IsStored frames p) s.shelf r
        (record { sent = stored_packets frames p; sent_again = again_sent frames p; told = λ status. one })
        (held_all (IsStored frames p) s.shelf r.block h.stored));
  };
}
