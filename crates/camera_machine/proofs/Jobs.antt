-- Each job has packets.
use Rattle.std.proofs.Common.{◌≡◌, ℕ, zero, suc, ◌+◌, ◌≤◌, Bool, true, false, List, [], ◌∷◌, ◌++◌, length, Option, Some, None, refl, sym, arith, subst, min, take, drop, length-append, length-drop}
use Rattle.std.specs.Prelude.{◌==◌, ◌&&◌, nat_lt, if◌then◌else◌, ◌-◌, nat_le}
use Rattle.std.proofs.lemmas.Bool.{leb-true}
use Rattle.gvcp_wire.specs.declared.status.Status.TheVariants.{PacketUnavailable, PacketNotYetAvailable, PacketRemovedFromMemory}
use Rattle.gvcp_wire.specs.declared.resend.Resend.{Resend}
use Rattle.resend_store.specs.Shelf.{Shelf, held_in}
use Rattle.camera_machine.specs.Camera.{Job}
use Rattle.camera_machine.specs.Stream.{replies_to, sent_packets, again, range_of, reply_packets, has_packets, rest_of, without_first}
use Rattle.std.proofs.lemmas.List.{length-take, length-map}
use Rattle.gev_types.specs.declared.frame.Frame.{Frame}
use Rattle.stream_packets.specs.Packets.{StreamPacket, payload, trailer}
use Rattle.stream_packets.specs.FramePackets.{payload_count, payload_bytes, payloads_of, sent_head}
use Rattle.gvcp_wire.specs.Status.{status_code}
use Rattle.resend_store.specs.declared.sent.SentFrame.{SentFrame}
use Rattle.resend_store.specs.declared.reply.Reply.TheVariants.{Packets, Notice}
use Rattle.resend_store.specs.Sent.{trailer_id}
use Rattle.resend_store.specs.Pushes.{reply_for}
use Rattle.camera_machine.specs.Laws.{AreFilled}

pub filled_push : (jobs : List Job) (job : Job) → AreFilled jobs → has_packets job.packets ≡ true → AreFilled (jobs ++ job ∷ [])
filled_push [] job h k = (k, tt)
filled_push (x ∷ jobs) job h k = (h.0, filled_push jobs job h.1 k)

pub filled_rest : (jobs : List Job) → AreFilled jobs → AreFilled (without_first jobs)
filled_rest [] h = tt
filled_rest (job ∷ jobs) h = go job.packets
  where
    go : (packets : List StreamPacket) → AreFilled (rest_of job.is_reply packets jobs)
    go [] = h.1
    go (x ∷ []) = h.1
    go (x ∷ y ∷ ys) = (refl, h.1)

some_packets : (xs : List StreamPacket) → 1 ≤ length xs → has_packets xs ≡ true
some_packets [] h = absurd (omega arith)
some_packets (x ∷ xs) h = refl

pub length-payloads_of : (f : Frame) (p n : ℕ) → length (payloads_of f p n) ≡ n
length-payloads_of f p zero = refl
length-payloads_of f p (suc n) =
    omega (arith, length-append (payloads_of f p n) (payload (sent_head f (suc n)) (payload_bytes p f.pixels (suc n)) ∷ []), length-payloads_of f p n)

pub length-sent_packets : (sent : SentFrame) → length (sent_packets sent) ≡ trailer_id sent + 1
length-sent_packets sent =
    let n : ℕ = payload_count sent.payload_size (length sent.frame.pixels) in
    omega (arith, length-append (payloads_of sent.frame sent.payload_size n) (trailer (sent_head sent.frame (n + 1)) sent.frame.rows ∷ []), length-payloads_of sent.frame sent.payload_size n)

range_filled : (sent : SentFrame) (first last : ℕ) → first ≤ trailer_id sent → first ≤ last → has_packets (range_of (Some sent) first last) ≡ true
range_filled sent first last low order =
    some_packets (range_of (Some sent) first last)
    (omega (arith, length-map (take (last + 1 - first) (drop first (sent_packets sent))) again, length-take (last + 1 - first) (drop first (sent_packets sent)), length-drop first (sent_packets sent), length-sent_packets sent))

pub replies_filled : (shelf : Shelf) (r : Resend) → has_packets (replies_to shelf r) ≡ true
replies_filled shelf r = go (held_in shelf r.block) refl
  where
    notices : (a b : Bool) → has_packets (reply_packets shelf r (if a then Notice (status_code PacketNotYetAvailable) else (if b then Notice (status_code PacketUnavailable) else Notice (status_code PacketRemovedFromMemory)))) ≡ true
    notices true b = refl
    notices false true = refl
    notices false false = refl

    packets : (sent : SentFrame) → held_in shelf r.block ≡ Some sent → (a b : Bool) → nat_le r.first (trailer_id sent) ≡ a → nat_le r.first r.last ≡ b
        → has_packets (reply_packets shelf r (if a && b then Packets r.first (min r.last (trailer_id sent)) else Notice (status_code PacketUnavailable))) ≡ true
    packets sent e true true p q =
        let low : r.first ≤ trailer_id sent = leb-true r.first (trailer_id sent) p in
        let order : r.first ≤ r.last = leb-true r.first r.last q in
        subst (λ (o : Option SentFrame). has_packets (range_of o r.first (min r.last (trailer_id sent))) ≡ true) (sym e)
        (range_filled sent r.first (min r.last (trailer_id sent)) low (omega arith))
    packets sent e true false p q = refl
    packets sent e false b p q = refl

    go : (o : Option SentFrame) → held_in shelf r.block ≡ o → has_packets (reply_packets shelf r (reply_for o shelf.count r.first r.last r.block)) ≡ true
    go None e = notices (nat_lt shelf.count r.block) (r.block == 0)
    go (Some sent) e = packets sent e (nat_le r.first (trailer_id sent)) (nat_le r.first r.last) refl refl
