-- What comes to wait: a frame's packets, and a reply.
use Rattle.std.proofs.Common.{◌≡◌, ℕ, ◌+◌, ◌<◌, ◌≤◌, Bool, true, false, List, [], ◌∷◌, ◌++◌, length, min, Option, Some, None, refl, ap, sym, ◌∙◌, subst, arith, length-append, append_assoc}
use Rattle.std.specs.Prelude.{◌==◌, ◌&&◌, ◌-◌, nat_lt, nat_le, if◌then◌else◌, map, slice_get}
use Rattle.std.proofs.lemmas.Bool.{leb-true, le-leb, lt-ltb}
use Rattle.std.proofs.lemmas.List.{map-append}
use Rattle.gvcp_wire.specs.declared.status.Status.TheVariants.{PacketUnavailable, PacketNotYetAvailable, PacketRemovedFromMemory}
use Rattle.gvcp_wire.specs.Status.{status_code}
use Rattle.gvcp_wire.specs.declared.resend.Resend.{Resend}
use Rattle.resend_store.specs.declared.sent.SentFrame.{SentFrame}
use Rattle.resend_store.specs.declared.reply.Reply.{Reply}
use Rattle.resend_store.specs.declared.reply.Reply.TheVariants as answers
use Rattle.resend_store.specs.Sent.{trailer_id}
use Rattle.resend_store.specs.Pushes.{reply_for}
use Rattle.resend_store.specs.Shelf.{Shelf, staying, with_pushed, held_in, reply_in}
use Rattle.camera_machine.specs.Camera.{Job}
use Rattle.camera_machine.specs.Stream.{reply_count, reply_packets}
use Rattle.camera_stream.specs.declared.span.Span.{Span}
use Rattle.camera_stream.specs.declared.span.QueuedReply.{QueuedReply}
use Rattle.camera_stream.specs.declared.span.QueuedReply.TheVariants.{Packets, Notice}
use Rattle.camera_stream.specs.Spans.{frame_jobs, reply_job, jobs_of}
use Rattle.camera_stream.specs.Held.{AreIdsOf, IsHeldReply}
use Rattle.camera_stream.specs.Queue.{queued}
use Rattle.camera_stream.proofs.Ranges.{slice_get_here}

-- ---- a frame

-- the frame that was pushed is held
pub held_pushed : (shelf : Shelf) (sent : SentFrame) (b : ℕ) → 1 ≤ shelf.room → b ≡ shelf.count + 1 → held_in (with_pushed shelf sent) b ≡ Some sent
held_pushed shelf sent b some next =
    let kept : List SentFrame = staying shelf.room shelf.frames in
    let one : 1 ≤ b = omega (arith, next) in
    let made : b ≤ shelf.count + 1 = omega (arith, next) in
    let last : shelf.count + 1 - b < shelf.room = omega (arith, next, some) in
    let place : length (kept ++ sent ∷ []) - 1 - (shelf.count + 1 - b) ≡ length kept = omega (arith, next, length-append kept (sent ∷ [])) in
    rw (le-leb 1 b one, le-leb b (shelf.count + 1) made, lt-ltb (shelf.count + 1 - b) shelf.room last)
    (ap (slice_get (kept ++ sent ∷ [])) place ∙ slice_get_here kept [] sent)

-- ---- a reply

replies_counted : (shelf : Shelf) (replies : List QueuedReply) → reply_count (map (reply_job shelf) replies) ≡ length replies
replies_counted shelf [] = refl
replies_counted shelf (Packets span ∷ replies) = omega (arith, replies_counted shelf replies)
replies_counted shelf (Notice head ∷ replies) = omega (arith, replies_counted shelf replies)

pub reply_count_is : (shelf : Shelf) (frame : Option Span) (replies : List QueuedReply) → reply_count (jobs_of shelf frame replies) ≡ length replies
reply_count_is shelf None replies = replies_counted shelf replies
reply_count_is shelf (Some span) replies = replies_counted shelf replies

pub job_queued : (shelf : Shelf) (r : Resend) (reply : Reply) → reply_job shelf (queued r reply) ≡ record { is_reply = true; packets = reply_packets shelf r reply }
job_queued shelf r (answers.Packets first last) = refl
job_queued shelf r (answers.Notice status) = refl

-- one more reply at the end
pub jobs_queued : (shelf : Shelf) (frame : Option Span) (replies : List QueuedReply) (reply : QueuedReply)
    → jobs_of shelf frame (replies ++ reply ∷ []) ≡ jobs_of shelf frame replies ++ reply_job shelf reply ∷ []
jobs_queued shelf frame replies reply =
    ap (λ (jobs : List Job). frame_jobs shelf frame ++ jobs) (map-append (reply_job shelf) replies (reply ∷ []))
    ∙ sym (append_assoc (frame_jobs shelf frame) (map (reply_job shelf) replies) (reply_job shelf reply ∷ []))

pub held_queued : (shelf : Shelf) (r : Resend) → IsHeldReply shelf (queued r (reply_in shelf r.first r.last r.block))
held_queued shelf r = go (held_in shelf r.block) refl
  where
    notices : (a b : Bool) → IsHeldReply shelf (queued r (if a then answers.Notice (status_code PacketNotYetAvailable) else (if b then answers.Notice (status_code PacketUnavailable) else answers.Notice (status_code PacketRemovedFromMemory))))
    notices true b = refl
    notices false true = refl
    notices false false = refl

    packets : (sent : SentFrame) → held_in shelf r.block ≡ Some sent → (a b : Bool) → nat_le r.first (trailer_id sent) ≡ a → nat_le r.first r.last ≡ b
        → IsHeldReply shelf (queued r (if a && b then answers.Packets r.first (min r.last (trailer_id sent)) else answers.Notice (status_code PacketUnavailable)))
    packets sent e true true p q =
        let low : r.first ≤ trailer_id sent = leb-true r.first (trailer_id sent) p in
        let order : r.first ≤ r.last = leb-true r.first r.last q in
        subst (λ (o : Option SentFrame). AreIdsOf o r.first (min r.last (trailer_id sent))) (sym e) (omega (arith, low, order), omega (arith))
    packets sent e true false p q = refl
    packets sent e false b p q = refl

    go : (o : Option SentFrame) → held_in shelf r.block ≡ o → IsHeldReply shelf (queued r (reply_for o shelf.count r.first r.last r.block))
    go None e = notices (nat_lt shelf.count r.block) (r.block == 0)
    go (Some sent) e = packets sent e (nat_le r.first (trailer_id sent)) (nat_le r.first r.last) refl refl
