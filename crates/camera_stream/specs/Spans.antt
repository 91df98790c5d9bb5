-- What stands for the packets that wait: ranges of packet ids of held frames, and notices.
use Rattle.std.specs.Prelude.{ℕ, ◌+◌, ◌-◌, List, [], ◌∷◌, ◌++◌, drop, take, map, Option, Some, None, false, true}
use Rattle.stream_packets.specs.Packets.{StreamPacket, notice}
use Rattle.resend_store.specs.declared.sent.SentFrame.{SentFrame}
use Rattle.resend_store.specs.Shelf.{Shelf, held_in}
use Rattle.camera_machine.specs.Camera.{Job}
use Rattle.camera_machine.specs.Stream.{StreamState, sent_packets, range_of}
use Rattle.camera_stream.specs.declared.span.Span.{Span}
use Rattle.camera_stream.specs.declared.span.QueuedReply.{QueuedReply}
use Rattle.camera_stream.specs.declared.span.QueuedReply.TheVariants.{Packets, Notice}

-- the packets with ids from `next` to `last` of a held frame
abbrev pub ids_of : Option SentFrame → ℕ → ℕ → List StreamPacket
ids_of None next last = []
ids_of (Some sent) next last = take (last + 1 - next) (drop next (sent_packets sent))

-- a new frame's packets that wait
abbrev pub frame_job : Shelf → Span → Job
frame_job shelf span = record { is_reply = false; packets = ids_of (held_in shelf span.block) span.next span.last }

-- what waits of the reply to a PACKETRESEND
abbrev pub reply_job : Shelf → QueuedReply → Job
reply_job shelf (Packets span) = record { is_reply = true; packets = range_of (held_in shelf span.block) span.next span.last }
reply_job shelf (Notice head) = record { is_reply = true; packets = notice head ∷ [] }

abbrev pub frame_jobs : Shelf → Option Span → List Job
frame_jobs shelf None = []
frame_jobs shelf (Some span) = frame_job shelf span ∷ []

-- The frame that was made last goes before the replies, since it's made where nothing waits.
abbrev pub jobs_of : Shelf → Option Span → List QueuedReply → List Job
jobs_of shelf frame replies = frame_jobs shelf frame ++ map (reply_job shelf) replies

-- the stream channel that these stand for
abbrev pub state_of : Shelf → Option Span → List QueuedReply → StreamState
state_of shelf frame replies = record { shelf = shelf; waiting = jobs_of shelf frame replies }
