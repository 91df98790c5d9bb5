-- What the calls leave, over the fields that they change and the state that these stand for.
use Rattle.std.proofs.Common.{◌≡◌, ℕ, ◌+◌, ◌≤◌, Bool, true, false, List, [], ◌∷◌, ◌++◌, length, Option, Some, None, IfSome, refl, ap, sym, ◌∙◌, subst, arith}
use Rattle.std.specs.Prelude.{nat_lt, if◌then◌else◌, All}
use Rattle.std.proofs.lemmas.List.Elements.{All-nil, All-push}
use Rattle.stream_packets.specs.Packets.{StreamPacket}
use Rattle.gvcp_wire.specs.declared.resend.Resend.{Resend}
use Rattle.resend_store.specs.declared.sent.SentFrame.{SentFrame}
use Rattle.resend_store.specs.Sent.{trailer_id}
use Rattle.resend_store.specs.Shelf.{Shelf, with_pushed, held_in, reply_in}
use Rattle.camera_machine.specs.Camera.{Job}
use Rattle.camera_machine.specs.Stream.{StreamState, first_waiting, packet_given, frame_pushed, reply_queued, replies_to, sent_packets, MAX_REPLIES}
use Rattle.camera_stream.specs.declared.span.Span.{Span}
use Rattle.camera_stream.specs.declared.span.QueuedReply.{QueuedReply}
use Rattle.camera_stream.specs.Spans.{ids_of, state_of, jobs_of}
use Rattle.camera_stream.specs.Held.{AreIdsOf, IsHeldSpan, IsHeldReply, IsStream}
use Rattle.camera_stream.specs.Queue.{rest_span, after_reply, queued, with_queued}
use Rattle.camera_stream.specs.Writing.{held_packet, first_head, first_reply}
use Rattle.camera_stream.proofs.Packets.{whole_frame}
use Rattle.camera_stream.proofs.Steps.{first_frame, rest_frame, held_rest, first_replies, rest_replies, held_after}
use Rattle.camera_stream.proofs.Queueing.{held_pushed, reply_count_is, job_queued, jobs_queued, held_queued}

-- ---- a packet of a frame is given

held_span : (store : Shelf) (frame : Option Span) (span : Span) (replies : List QueuedReply) → frame ≡ Some span → IsStream store frame replies → IsHeldSpan store span
held_span store frame span replies e k = subst (λ (o : Option Span). IfSome o (IsHeldSpan store)) e k.frame

pub frame_first : (s : StreamState) (store : Shelf) (frame : Option Span) (span : Span) (replies : List QueuedReply)
    → state_of store frame replies ≡ s → frame ≡ Some span → IsStream store frame replies
    → held_packet (held_in store span.block) (first_head span) ≡ first_waiting s.waiting
frame_first s store frame span replies v e k =
    sym (first_frame store span replies (held_span store frame span replies e k))
    ∙ (ap (λ (o : Option Span). first_waiting (jobs_of store o replies)) (sym e) ∙ ap (λ (t : StreamState). first_waiting t.waiting) v)

pub frame_given : (s : StreamState) (store : Shelf) (frame : Option Span) (span : Span) (replies : List QueuedReply)
    → state_of store frame replies ≡ s → frame ≡ Some span → IsStream store frame replies → state_of store (rest_span span) replies ≡ packet_given s
frame_given s store frame span replies v e k =
    ap (λ (jobs : List Job). let t : StreamState = record { shelf = store; waiting = jobs } in t) (sym (rest_frame store span replies (held_span store frame span replies e k)))
    ∙ ap packet_given (ap (λ (o : Option Span). state_of store o replies) (sym e) ∙ v)

pub frame_kept : (store : Shelf) (frame : Option Span) (span : Span) (replies : List QueuedReply) → frame ≡ Some span → IsStream store frame replies
    → IsStream store (rest_span span) replies
frame_kept store frame span replies e k = record { some = k.some; frame = held_rest store span (held_span store frame span replies e k); replies = k.replies }

-- ---- a packet of a reply is given

pub reply_first : (s : StreamState) (store : Shelf) (frame : Option Span) (replies : List QueuedReply)
    → state_of store frame replies ≡ s → frame ≡ None → IsStream store frame replies → first_reply store replies ≡ first_waiting s.waiting
reply_first s store frame replies v e k =
    sym (first_replies store replies k.replies)
    ∙ (ap (λ (o : Option Span). first_waiting (jobs_of store o replies)) (sym e) ∙ ap (λ (t : StreamState). first_waiting t.waiting) v)

pub reply_given : (s : StreamState) (store : Shelf) (frame : Option Span) (replies : List QueuedReply)
    → state_of store frame replies ≡ s → frame ≡ None → IsStream store frame replies → state_of store frame (after_reply replies) ≡ packet_given s
reply_given s store frame replies v e k =
    ap (λ (o : Option Span). state_of store o (after_reply replies)) e
    ∙ (ap (λ (jobs : List Job). let t : StreamState = record { shelf = store; waiting = jobs } in t) (sym (rest_replies store replies k.replies))
    ∙ ap packet_given (ap (λ (o : Option Span). state_of store o replies) (sym e) ∙ v))

pub reply_kept : (store : Shelf) (frame : Option Span) (replies : List QueuedReply) → IsStream store frame replies → IsStream store frame (after_reply replies)
reply_kept store frame replies k = record { some = k.some; frame = k.frame; replies = held_after store replies k.replies }

-- ---- a frame is pushed

-- all packets of a frame
abbrev pub whole : SentFrame → Span
whole sent = record { block = sent.frame.block; next = 0; last = trailer_id sent }

pub pushed_kept : (store : Shelf) (sent : SentFrame) → 1 ≤ store.room → sent.frame.block ≡ store.count + 1
    → IsStream (with_pushed store sent) (Some (whole sent)) []
pushed_kept store sent some next = record {
  some = some;
  frame = subst (λ (o : Option SentFrame). AreIdsOf o 0 (trailer_id sent)) (sym (held_pushed store sent sent.frame.block some next)) (omega arith, omega arith);
  replies = All-nil (IsHeldReply (with_pushed store sent));
}

-- nothing waits, and so neither a frame's packets nor replies do
no_replies : (store : Shelf) (frame : Option Span) (replies : List QueuedReply) → jobs_of store frame replies ≡ [] → replies ≡ []
no_replies store frame [] e = refl
no_replies store None (reply ∷ replies) e = absurd (cc)
no_replies store (Some span) (reply ∷ replies) e = absurd (cc)

pub idle_replies : (s : StreamState) (store : Shelf) (frame : Option Span) (replies : List QueuedReply)
    → state_of store frame replies ≡ s → s.waiting ≡ [] → replies ≡ []
idle_replies s store frame replies v idle = no_replies store frame replies (ap (λ (t : StreamState). t.waiting) v ∙ idle)

pub pushed_is : (s : StreamState) (store : Shelf) (frame : Option Span) (replies : List QueuedReply) (sent : SentFrame)
    → state_of store frame replies ≡ s → 1 ≤ store.room → sent.frame.block ≡ store.count + 1 → s.waiting ≡ []
    → state_of (with_pushed store sent) (Some (whole sent)) [] ≡ frame_pushed s sent
pushed_is s store frame replies sent v some next idle =
    let packets : ids_of (held_in (with_pushed store sent) sent.frame.block) 0 (trailer_id sent) ≡ sent_packets sent =
    ap (λ (o : Option SentFrame). ids_of o 0 (trailer_id sent)) (held_pushed store sent sent.frame.block some next) ∙ whole_frame sent in
    let shelf : store ≡ s.shelf = ap (λ (t : StreamState). t.shelf) v in
    ap (λ (xs : List StreamPacket). let t : StreamState = record { shelf = with_pushed store sent; waiting = record { is_reply = false; packets = xs } ∷ [] } in t) packets
    ∙ (ap (λ (h : Shelf). let t : StreamState = record { shelf = with_pushed h sent; waiting = record { is_reply = false; packets = sent_packets sent } ∷ [] } in t) shelf
    ∙ ap (λ (jobs : List Job). let t : StreamState = record { shelf = with_pushed s.shelf sent; waiting = jobs ++ record { is_reply = false; packets = sent_packets sent } ∷ [] } in t) (sym idle))

-- ---- a reply is queued

pub queued_is : (s : StreamState) (store : Shelf) (frame : Option Span) (replies : List QueuedReply) (r : Resend)
    → state_of store frame replies ≡ s
    → state_of store frame (with_queued replies (queued r (reply_in store r.first r.last r.block))) ≡ reply_queued s r
queued_is s store frame replies r v =
    ap (λ (jobs : List Job). let t : StreamState = record { shelf = store; waiting = jobs } in t)
    (go (nat_lt (length replies) MAX_REPLIES)
    ∙ ap (λ (n : ℕ). if nat_lt n MAX_REPLIES then jobs_of store frame replies ++ record { is_reply = true; packets = replies_to store r } ∷ [] else jobs_of store frame replies)
    (sym (reply_count_is store frame replies)))
    ∙ ap (λ (t : StreamState). reply_queued t r) v
  where
    go : (b : Bool) → jobs_of store frame (if b then replies ++ queued r (reply_in store r.first r.last r.block) ∷ [] else replies)
        ≡ (if b then jobs_of store frame replies ++ record { is_reply = true; packets = replies_to store r } ∷ [] else jobs_of store frame replies)
    go true =
        jobs_queued store frame replies (queued r (reply_in store r.first r.last r.block))
        ∙ ap (λ (job : Job). jobs_of store frame replies ++ job ∷ []) (job_queued store r (reply_in store r.first r.last r.block))
    go false = refl

pub queued_kept : (store : Shelf) (frame : Option Span) (replies : List QueuedReply) (r : Resend) → IsStream store frame replies
    → IsStream store frame (with_queued replies (queued r (reply_in store r.first r.last r.block)))
queued_kept store frame replies r k = record { some = k.some; frame = k.frame; replies = go (nat_lt (length replies) MAX_REPLIES) }
  where
    go : (b : Bool) → All (IsHeldReply store) (if b then replies ++ queued r (reply_in store r.first r.last r.block) ∷ [] else replies)
    go true = All-push (IsHeldReply store) replies (queued r (reply_in store r.first r.last r.block)) k.replies (held_queued store r)
    go false = k.replies
