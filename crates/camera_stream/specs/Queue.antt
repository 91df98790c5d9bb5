-- The steps of what waits, over the ranges of packet ids that stand for it.
use Rattle.std.specs.Prelude.{ℕ, ◌+◌, ◌-◌, nat_lt, if◌then◌else◌, List, [], ◌∷◌, ◌++◌, length, Option, Some, None}
use Rattle.gvcp_wire.specs.declared.resend.Resend.{Resend}
use Rattle.resend_store.specs.declared.reply.Reply.{Reply}
use Rattle.resend_store.specs.declared.reply.Reply.TheVariants as answers
use Rattle.camera_machine.specs.Stream.{MAX_REPLIES}
use Rattle.camera_stream.specs.declared.span.Span.{Span}
use Rattle.camera_stream.specs.declared.span.QueuedReply.{QueuedReply}
use Rattle.camera_stream.specs.declared.span.QueuedReply.TheVariants.{Packets, Notice}

-- what is left after the first packet of a range
abbrev pub rest_span : Span → Option Span
rest_span span = if nat_lt span.next span.last then Some (record span { next = span.next + 1 }) else None

-- the replies where these packets of the first are left
abbrev pub after_span : Option Span → List QueuedReply → List QueuedReply
after_span None replies = replies
after_span (Some span) replies = Packets span ∷ replies

-- the replies after the first packet of them was given
abbrev pub after_reply : List QueuedReply → List QueuedReply
after_reply [] = []
after_reply (Packets span ∷ replies) = after_span (rest_span span) replies
after_reply (Notice head ∷ replies) = replies

-- what waits where the store answers a PACKETRESEND like this
abbrev pub queued : Resend → Reply → QueuedReply
queued r (answers.Packets first last) = Packets (record { block = r.block; next = first; last = last })
queued r (answers.Notice status) = Notice (record { status = status; flags = 0; block = r.block; id = r.first })

-- the replies where one more comes to wait, unless too many do
abbrev pub with_queued : List QueuedReply → QueuedReply → List QueuedReply
with_queued replies reply = if nat_lt (length replies) MAX_REPLIES then replies ++ reply ∷ [] else replies

-- ---- how many packets wait

abbrev pub span_left : Span → ℕ
span_left span = span.last + 1 - span.next

abbrev pub frame_left : Option Span → ℕ
frame_left None = 0
frame_left (Some span) = span_left span

abbrev pub reply_left : QueuedReply → ℕ
reply_left (Packets span) = span_left span
reply_left (Notice head) = 1
