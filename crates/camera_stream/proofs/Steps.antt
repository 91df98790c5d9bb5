-- The first packet that waits, and what waits after it was given.
use Rattle.std.proofs.Common.{◌≡◌, ℕ, ◌+◌, ◌<◌, Bool, true, false, List, [], ◌∷◌, ◌++◌, Option, Some, None, IfSome, refl, ◌∙◌, arith}
use Rattle.std.specs.Prelude.{nat_lt, if◌then◌else◌, map, All}
use Rattle.std.proofs.lemmas.Bool.{ltb-true}
use Rattle.std.proofs.lemmas.List.Elements.{All-cons, All-head, All-tail}
use Rattle.resend_store.specs.declared.sent.SentFrame.{SentFrame}
use Rattle.resend_store.specs.Shelf.{Shelf, held_in}
use Rattle.camera_machine.specs.Stream.{first_waiting, without_first, range_of}
use Rattle.camera_stream.specs.declared.span.Span.{Span}
use Rattle.camera_stream.specs.declared.span.QueuedReply.{QueuedReply}
use Rattle.camera_stream.specs.declared.span.QueuedReply.TheVariants.{Packets, Notice}
use Rattle.camera_stream.specs.Spans.{ids_of, frame_jobs, reply_job, jobs_of}
use Rattle.camera_stream.specs.Held.{AreIdsOf, IsHeldSpan, IsHeldReply}
use Rattle.camera_stream.specs.Queue.{rest_span, after_span, after_reply}
use Rattle.camera_stream.specs.Writing.{held_packet, first_head, first_reply}
use Rattle.camera_stream.proofs.Packets.{first_ids, first_again, rest_ids, rest_again}

-- ---- while packets of a frame wait

pub first_frame : (shelf : Shelf) (span : Span) (replies : List QueuedReply) → IsHeldSpan shelf span
    → first_waiting (jobs_of shelf (Some span) replies) ≡ held_packet (held_in shelf span.block) (first_head span)
first_frame shelf span replies h = first_ids (held_in shelf span.block) span.block span.next span.last h

pub rest_frame : (shelf : Shelf) (span : Span) (replies : List QueuedReply) → IsHeldSpan shelf span
    → without_first (jobs_of shelf (Some span) replies) ≡ jobs_of shelf (rest_span span) replies
rest_frame shelf span replies h = rest_ids (held_in shelf span.block) span.next span.last (map (reply_job shelf) replies) h ∙ go (nat_lt span.next span.last)
  where
    go : (t : Bool) → (if t then record { is_reply = false; packets = ids_of (held_in shelf span.block) (span.next + 1) span.last } ∷ map (reply_job shelf) replies else map (reply_job shelf) replies)
        ≡ frame_jobs shelf (if t then Some (record span { next = span.next + 1 }) else None) ++ map (reply_job shelf) replies
    go true = refl
    go false = refl

ids_on : (o : Option SentFrame) (next last : ℕ) → next < last → AreIdsOf o next last → AreIdsOf o (next + 1) last
ids_on None next last more h = h
ids_on (Some sent) next last more h = (omega (arith, more), h.1)

pub held_rest : (shelf : Shelf) (span : Span) → IsHeldSpan shelf span → IfSome (rest_span span) (IsHeldSpan shelf)
held_rest shelf span h = go (nat_lt span.next span.last) refl
  where
    go : (t : Bool) → nat_lt span.next span.last ≡ t → IfSome (if t then Some (record span { next = span.next + 1 }) else None) (IsHeldSpan shelf)
    go true t = ids_on (held_in shelf span.block) span.next span.last (ltb-true span.next span.last t) h
    go false t = tt

-- ---- while replies wait

pub first_replies : (shelf : Shelf) (replies : List QueuedReply) → All (IsHeldReply shelf) replies
    → first_waiting (jobs_of shelf None replies) ≡ first_reply shelf replies
first_replies shelf [] h = refl
first_replies shelf (Packets span ∷ replies) h =
    first_again (held_in shelf span.block) span.block span.next span.last (All-head (IsHeldReply shelf) (Packets span) replies h)
first_replies shelf (Notice head ∷ replies) h = refl

pub rest_replies : (shelf : Shelf) (replies : List QueuedReply) → All (IsHeldReply shelf) replies
    → without_first (jobs_of shelf None replies) ≡ jobs_of shelf None (after_reply replies)
rest_replies shelf [] h = refl
rest_replies shelf (Packets span ∷ replies) h =
    rest_again (held_in shelf span.block) span.next span.last (map (reply_job shelf) replies) (All-head (IsHeldReply shelf) (Packets span) replies h)
    ∙ go (nat_lt span.next span.last)
  where
    go : (t : Bool) → (if t then record { is_reply = true; packets = range_of (held_in shelf span.block) (span.next + 1) span.last } ∷ map (reply_job shelf) replies else map (reply_job shelf) replies)
        ≡ map (reply_job shelf) (after_span (if t then Some (record span { next = span.next + 1 }) else None) replies)
    go true = refl
    go false = refl
rest_replies shelf (Notice head ∷ replies) h = refl

held_span : (shelf : Shelf) (o : Option Span) (replies : List QueuedReply) → IfSome o (IsHeldSpan shelf) → All (IsHeldReply shelf) replies
    → All (IsHeldReply shelf) (after_span o replies)
held_span shelf None replies k h = h
held_span shelf (Some span) replies k h = All-cons (IsHeldReply shelf) (Packets span) replies k h

pub held_after : (shelf : Shelf) (replies : List QueuedReply) → All (IsHeldReply shelf) replies → All (IsHeldReply shelf) (after_reply replies)
held_after shelf [] h = h
held_after shelf (Packets span ∷ replies) h =
    held_span shelf (rest_span span) replies (held_rest shelf span (All-head (IsHeldReply shelf) (Packets span) replies h))
    (All-tail (IsHeldReply shelf) (Packets span) replies h)
held_after shelf (Notice head ∷ replies) h = All-tail (IsHeldReply shelf) (Notice head) replies h
