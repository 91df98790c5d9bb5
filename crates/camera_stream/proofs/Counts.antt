-- How many packets wait.
use Rattle.std.proofs.Common.{◌≡◌, ℕ, ◌+◌, ◌-◌, ◌≤◌, List, [], ◌∷◌, length, drop, Option, Some, None, IfSome, refl, ◌∙◌, arith, length-append, length-drop}
use Rattle.std.specs.Prelude.{map, sum_by, All}
use Rattle.std.proofs.lemmas.List.{length-take, length-map}
use Rattle.std.proofs.lemmas.List.Elements.{All-head, All-tail}
use Rattle.std.proofs.lemmas.List.Sums.{sum_by-cons}
use Rattle.stream_packets.specs.Packets.{notice}
use Rattle.resend_store.specs.declared.sent.SentFrame.{SentFrame}
use Rattle.resend_store.specs.Sent.{trailer_id}
use Rattle.resend_store.specs.Shelf.{Shelf, held_in}
use Rattle.camera_machine.specs.Stream.{sent_packets, again, range_of, all_waiting}
use Rattle.camera_machine.proofs.Jobs.{length-sent_packets}
use Rattle.camera_stream.specs.declared.span.Span.{Span}
use Rattle.camera_stream.specs.declared.span.QueuedReply.{QueuedReply}
use Rattle.camera_stream.specs.declared.span.QueuedReply.TheVariants.{Packets, Notice}
use Rattle.camera_stream.specs.Spans.{ids_of, reply_job, jobs_of}
use Rattle.camera_stream.specs.Held.{AreIdsOf, IsHeldSpan, IsHeldReply}
use Rattle.camera_stream.specs.Queue.{frame_left, reply_left}

length-ids_of : (o : Option SentFrame) (next last : ℕ) → AreIdsOf o next last → length (ids_of o next last) ≡ last + 1 - next
length-ids_of None next last h = absurd h
length-ids_of (Some sent) next last h =
    let within : last ≤ trailer_id sent = h.1 in
    omega (arith, within, length-take (last + 1 - next) (drop next (sent_packets sent)), length-drop next (sent_packets sent), length-sent_packets sent)

length-range_of : (o : Option SentFrame) (next last : ℕ) → AreIdsOf o next last → length (range_of o next last) ≡ last + 1 - next
length-range_of None next last h = absurd h
length-range_of (Some sent) next last h =
    length-map (ids_of (Some sent) next last) again ∙ length-ids_of (Some sent) next last h

replies_left : (shelf : Shelf) (replies : List QueuedReply) → All (IsHeldReply shelf) replies
    → length (all_waiting (map (reply_job shelf) replies)) ≡ sum_by reply_left replies
replies_left shelf [] h = refl
replies_left shelf (Packets span ∷ replies) h =
    let all : length (all_waiting (map (reply_job shelf) (Packets span ∷ replies)))
    ≡ length (range_of (held_in shelf span.block) span.next span.last) + length (all_waiting (map (reply_job shelf) replies)) =
    length-append (range_of (held_in shelf span.block) span.next span.last) (all_waiting (map (reply_job shelf) replies)) in
    let total : sum_by reply_left (Packets span ∷ replies) ≡ (span.last + 1 - span.next) + sum_by reply_left replies = sum_by-cons reply_left (Packets span) replies in
    omega (
      arith,
      length-range_of (held_in shelf span.block) span.next span.last (All-head (IsHeldReply shelf) (Packets span) replies h),
      replies_left shelf replies (All-tail (IsHeldReply shelf) (Packets span) replies h),
    )
replies_left shelf (Notice head ∷ replies) h =
    let total : sum_by reply_left (Notice head ∷ replies) ≡ 1 + sum_by reply_left replies = sum_by-cons reply_left (Notice head) replies in
    let all : length (all_waiting (map (reply_job shelf) (Notice head ∷ replies))) ≡ 1 + length (all_waiting (map (reply_job shelf) replies)) =
    length-append (notice head ∷ []) (all_waiting (map (reply_job shelf) replies)) in
    omega (arith, replies_left shelf replies (All-tail (IsHeldReply shelf) (Notice head) replies h))

pub count_is : (shelf : Shelf) (frame : Option Span) (replies : List QueuedReply) → IfSome frame (IsHeldSpan shelf) → All (IsHeldReply shelf) replies
    → length (all_waiting (jobs_of shelf frame replies)) ≡ frame_left frame + sum_by reply_left replies
count_is shelf None replies f h = omega (arith, replies_left shelf replies h)
count_is shelf (Some span) replies f h =
    let all : length (all_waiting (jobs_of shelf (Some span) replies))
    ≡ length (ids_of (held_in shelf span.block) span.next span.last) + length (all_waiting (map (reply_job shelf) replies)) =
    length-append (ids_of (held_in shelf span.block) span.next span.last) (all_waiting (map (reply_job shelf) replies)) in
    omega (arith, length-ids_of (held_in shelf span.block) span.next span.last f, replies_left shelf replies h)
