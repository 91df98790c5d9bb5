-- The frames that a camera makes, the packets that wait, and the replies to PACKETRESEND (GigE Vision
-- 2.0, GVSP and PACKETRESEND).
use Rattle.std.specs.Prelude.{ℕ, zero, suc, option_to_list, ◌+◌, ◌-◌, ◌%◌, ◌^◌, Bool, true, false, nat_lt, if◌then◌else◌, List, [], ◌∷◌, ◌++◌, drop, take, length, map, flat_map, Option, Some, None}
use Rattle.gev_frames.specs.Frames.{camera_frame}
use Rattle.stream_packets.specs.declared.fields.Head.{Head}
use Rattle.stream_packets.specs.Packets.{StreamPacket, leader, payload, trailer, notice}
use Rattle.stream_packets.specs.FramePackets.{packets_of}
use Rattle.gvcp_wire.specs.declared.status.Status.TheVariants.{PacketResend}
use Rattle.gvcp_wire.specs.Status.{status_code}
use Rattle.gvcp_wire.specs.declared.resend.Resend.{Resend}
use Rattle.bootstrap_regs.specs.Addresses.{SCPS0}
use Rattle.bootstrap_regs.specs.Words.{word_at}
use Rattle.resend_store.specs.declared.sent.SentFrame.{SentFrame}
use Rattle.resend_store.specs.declared.reply.Reply.{Reply}
use Rattle.resend_store.specs.declared.reply.Reply.TheVariants.{Packets, Notice}
use Rattle.resend_store.specs.Shelf.{Shelf, empty_shelf, with_pushed, held_in, reply_in}
use Rattle.camera_machine.specs.Camera.{Camera, Job, is_open}

-- What the stream channel holds: the frames that can be sent again, and what waits to be sent.
pub record StreamState : Type 0 where
  pub shelf : Shelf
  pub waiting : List Job

abbrev pub stream_of : Camera → StreamState
stream_of s = record { shelf = s.shelf; waiting = s.waiting }

-- the camera whose stream channel holds this
abbrev pub with_stream : Camera → StreamState → Camera
with_stream s t = record s { shelf = t.shelf; waiting = t.waiting }

-- no frame was made yet; at most so many are held
abbrev pub new_stream : ℕ → StreamState
new_stream room = record { shelf = empty_shelf room; waiting = [] }

-- all frames are forgotten, and nothing waits
abbrev pub forgotten : StreamState → StreamState
forgotten t = new_stream t.shelf.room

-- what waits is dropped
abbrev pub dropped : StreamState → StreamState
dropped t = record t { waiting = [] }

-- ---- frames

-- a packet's size counts the headers of IP, UDP and the stream
abbrev pub HEADER_BYTES : ℕ
HEADER_BYTES = 48

-- how many bytes of an image a packet carries now
abbrev pub payload_size_of : Camera → ℕ
payload_size_of s = word_at s.words SCPS0 % 2 ^ 16 - HEADER_BYTES

-- the frame that is made next, short or not as is set now, with the payload size that stands now
abbrev pub next_frame : Camera → SentFrame
next_frame s = record { frame = camera_frame s.short s.seed (s.shelf.count + 1) s.shape; payload_size = payload_size_of s }

abbrev pub sent_packets : SentFrame → List StreamPacket
sent_packets sent = packets_of sent.frame sent.payload_size

abbrev pub frame_pushed : StreamState → SentFrame → StreamState
frame_pushed t sent = record {
  shelf = with_pushed t.shelf sent;
  waiting = t.waiting ++ record { is_reply = false; packets = sent_packets sent } ∷ [];
}

abbrev pub with_frame : Camera → SentFrame → Camera
with_frame s sent = with_stream s (frame_pushed (stream_of s) sent)

-- a frame is made while the channel is open
abbrev pub framed : Camera → Camera
framed s = if is_open s then with_frame s (next_frame s) else s

-- ---- replies

-- the status and the flag of a packet that is sent again
abbrev pub again_head : Head → Head
again_head h = record h { status = status_code PacketResend; flags = 1 }

abbrev pub again : StreamPacket → StreamPacket
again (leader h i) = leader (again_head h) i
again (payload h d) = payload (again_head h) d
again (trailer h y) = trailer (again_head h) y
again (notice h) = notice h

-- the packets with ids from `first` to `last` of a held frame, again
abbrev pub range_of : Option SentFrame → ℕ → ℕ → List StreamPacket
range_of None first last = []
range_of (Some sent) first last = map again (take (last + 1 - first) (drop first (sent_packets sent)))

abbrev pub reply_packets : Shelf → Resend → Reply → List StreamPacket
reply_packets shelf r (Packets first last) = range_of (held_in shelf r.block) first last
reply_packets shelf r (Notice status) = notice (record { status = status; flags = 0; block = r.block; id = r.first }) ∷ []

abbrev pub replies_to : Shelf → Resend → List StreamPacket
replies_to shelf r = reply_packets shelf r (reply_in shelf r.first r.last r.block)

-- how many replies may wait
abbrev pub MAX_REPLIES : ℕ
MAX_REPLIES = 64

abbrev pub reply_count : List Job → ℕ
reply_count [] = 0
reply_count (job ∷ jobs) = if job.is_reply then reply_count jobs + 1 else reply_count jobs

-- what a command asks for waits, unless too many replies do
abbrev pub reply_queued : StreamState → Resend → StreamState
reply_queued t r = record t {
  waiting = if nat_lt (reply_count t.waiting) MAX_REPLIES then t.waiting ++ record { is_reply = true; packets = replies_to t.shelf r } ∷ []
      else t.waiting;
}

abbrev pub with_reply : Camera → Resend → Camera
with_reply s r = with_stream s (reply_queued (stream_of s) r)

abbrev pub asked_again : Camera → Option Resend → Camera
asked_again s None = s
asked_again s (Some r) = with_reply s r

-- ---- what waits

-- all packets that wait, in order
abbrev pub all_waiting : List Job → List StreamPacket
all_waiting jobs = flat_map (λ job. job.packets) jobs

-- how many packets wait
abbrev pub waiting_count : Camera → ℕ
waiting_count s = length (all_waiting s.waiting)

abbrev pub has_packets : List StreamPacket → Bool
has_packets [] = false
has_packets (x ∷ xs) = true

abbrev pub first_of : List StreamPacket → Option StreamPacket
first_of [] = None
first_of (x ∷ xs) = Some x

-- the packet that is given next
abbrev pub first_waiting : List Job → Option StreamPacket
first_waiting [] = None
first_waiting (job ∷ jobs) = first_of job.packets

-- the job without its first packet, while others of it wait
abbrev pub rest_of : Bool → List StreamPacket → List Job → List Job
rest_of is_reply [] jobs = jobs
rest_of is_reply (x ∷ []) jobs = jobs
rest_of is_reply (x ∷ y ∷ ys) jobs = record { is_reply = is_reply; packets = y ∷ ys } ∷ jobs

-- what waits after the first packet was given
abbrev pub without_first : List Job → List Job
without_first [] = []
without_first (job ∷ jobs) = rest_of job.is_reply job.packets jobs

abbrev pub packet_given : StreamState → StreamState
packet_given t = record t { waiting = without_first t.waiting }

abbrev pub given : Camera → Camera
given s = with_stream s (packet_given (stream_of s))

-- the packets that so many calls give, and the camera after them
abbrev pub packets_given : ℕ → Camera → List StreamPacket
packets_given zero s = []
packets_given (suc n) s = option_to_list (first_waiting s.waiting) ++ packets_given n (given s)

abbrev pub after_given : ℕ → Camera → Camera
after_given zero s = s
after_given (suc n) s = after_given n (given s)

-- the camera after all that waits was given
abbrev pub emptied : Camera → Camera
emptied s = record s { waiting = [] }
