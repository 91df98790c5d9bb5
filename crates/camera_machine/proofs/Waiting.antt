-- What holds of each packet of a frame, of a reply to a PACKETRESEND, and of all that waits.
use Rattle.std.proofs.Common.{ℕ, zero, suc, ◌+◌, ◌≤◌, Bool, true, false, List, [], ◌∷◌, ◌++◌, length, take, drop, Option, Some, None, arith}
use Rattle.std.specs.Prelude.{◌-◌, nat_lt, if◌then◌else◌, slice_get, All, IfSome}
use Rattle.std.proofs.lemmas.List.Elements.{All-nil, All-cons, All-head, All-tail, All-append, All-push, All-weaker, All-take, All-drop, All-map, All-same}
use Rattle.std.proofs.lemmas.List.Concat.{flat_map-append}
use Rattle.gev_types.specs.declared.frame.Frame.{Frame}
use Rattle.stream_packets.specs.Packets.{StreamPacket, leader, payload, trailer, notice}
use Rattle.stream_packets.specs.FramePackets.{payload_count, payloads_of, packets_of, sent_head, leader_info, payload_bytes}
use Rattle.resend_store.specs.declared.sent.SentFrame.{SentFrame}
use Rattle.resend_store.specs.declared.reply.Reply.{Reply}
use Rattle.resend_store.specs.declared.reply.Reply.TheVariants.{Packets, Notice}
use Rattle.resend_store.specs.Pushes.{is_held}
use Rattle.resend_store.specs.Shelf.{Shelf, held_in, staying, reply_in}
use Rattle.gvcp_wire.specs.declared.resend.Resend.{Resend}
use Rattle.camera_machine.specs.Camera.{Camera, Job}
use Rattle.camera_machine.specs.Stream.{sent_packets, again, range_of, reply_packets, replies_to, with_reply, reply_count, MAX_REPLIES, all_waiting, first_of, first_waiting, rest_of, without_first}

-- ---- the packets of a frame

abbrev pub OfPayloads : (StreamPacket → Type 0) → Frame → ℕ → Type 0
OfPayloads P f p = (k : ℕ) → 1 ≤ k → k ≤ payload_count p (length f.pixels) → P (payload (sent_head f k) (payload_bytes p f.pixels k))

payloads_all : (P : StreamPacket → Type 0) (f : Frame) (p : ℕ) → OfPayloads P f p → (n : ℕ) → n ≤ payload_count p (length f.pixels) → All P (payloads_of f p n)
payloads_all P f p each zero h = All-nil P
payloads_all P f p each (suc n) h =
    All-push P (payloads_of f p n) (payload (sent_head f (suc n)) (payload_bytes p f.pixels (suc n))) (payloads_all P f p each n (omega arith)) (each (suc n) (omega arith) h)

pub packets_all : (P : StreamPacket → Type 0) (f : Frame) (p : ℕ) → P (leader (sent_head f 0) (leader_info f)) → OfPayloads P f p
    → P (trailer (sent_head f (payload_count p (length f.pixels) + 1)) f.rows) → All P (packets_of f p)
packets_all P f p first each last =
    let n : ℕ = payload_count p (length f.pixels) in
    All-cons P (leader (sent_head f 0) (leader_info f)) (payloads_of f p n ++ trailer (sent_head f (n + 1)) f.rows ∷ []) first
    (All-push P (payloads_of f p n) (trailer (sent_head f (n + 1)) f.rows) (payloads_all P f p each n (omega arith)) last)

-- ---- held frames, and replies from them

pub get_all : {X : Type 0} (P : X → Type 0) (xs : List X) (i : ℕ) → All P xs → IfSome (slice_get xs i) P
get_all P [] i h = tt
get_all P (x ∷ xs) zero h = All-head P x xs h
get_all P (x ∷ xs) (suc i) h = get_all P xs i (All-tail P x xs h)

pub held_all : (S : SentFrame → Type 0) (shelf : Shelf) (b : ℕ) → All S shelf.frames → IfSome (held_in shelf b) S
held_all S shelf b h = go (is_held shelf.room shelf.count b)
  where
    go : (t : Bool) → IfSome (if t then slice_get shelf.frames (length shelf.frames - 1 - (shelf.count - b)) else None) S
    go true = get_all S shelf.frames (length shelf.frames - 1 - (shelf.count - b)) h
    go false = tt

pub staying_all : (S : SentFrame → Type 0) (room : ℕ) (held : List SentFrame) → All S held → All S (staying room held)
staying_all S room held h = go (nat_lt (length held) room)
  where
    go : (b : Bool) → All S (if b then held else drop 1 held)
    go true = h
    go false = All-drop S 1 held h

-- What has to be shown of replies: of the packets of such a frame, of a packet that is sent again, and of a notice.
pub record OfReplies (P : StreamPacket → Type 0) (S : SentFrame → Type 0) (r : Resend) : Type 0 where
  pub sent : (x : SentFrame) → S x → All P (sent_packets x)
  pub sent_again : (x : StreamPacket) → P x → P (again x)
  pub told : (status : ℕ) → P (notice (record { status = status; flags = 0; block = r.block; id = r.first }))

pub replies_all : (P : StreamPacket → Type 0) (S : SentFrame → Type 0) (shelf : Shelf) (r : Resend) → OfReplies P S r → IfSome (held_in shelf r.block) S
    → All P (replies_to shelf r)
replies_all P S shelf r o h = go (reply_in shelf r.first r.last r.block)
  where
    range : (x : Option SentFrame) (first last : ℕ) → IfSome x S → All P (range_of x first last)
    range None first last h = All-nil P
    range (Some x) first last h =
        All-map P again (take (last + 1 - first) (drop first (sent_packets x)))
        (All-weaker P (λ y. P (again y)) o.sent_again (take (last + 1 - first) (drop first (sent_packets x)))
        (All-take P (last + 1 - first) (drop first (sent_packets x)) (All-drop P first (sent_packets x) (o.sent x h))))

    go : (reply : Reply) → All P (reply_packets shelf r reply)
    go (Packets first last) = range (held_in shelf r.block) first last h
    go (Notice status) = All-cons P (notice (record { status = status; flags = 0; block = r.block; id = r.first })) [] (o.told status) (All-nil P)

-- ---- what waits

-- one more job at the end
pub waiting_push : (P : StreamPacket → Type 0) (jobs : List Job) (job : Job) → All P (all_waiting jobs) → All P job.packets → All P (all_waiting (jobs ++ job ∷ []))
waiting_push P jobs job h k =
    All-same P (all_waiting (jobs ++ job ∷ [])) (all_waiting jobs ++ all_waiting (job ∷ [])) (flat_map-append (λ (job : Job). job.packets) jobs (job ∷ []))
    (All-append P (all_waiting jobs) (all_waiting (job ∷ [])) h (All-append P job.packets [] k (All-nil P)))

-- a reply more, unless too many wait
pub waiting_reply : (P : StreamPacket → Type 0) (s : Camera) (r : Resend) → All P (all_waiting s.waiting) → All P (replies_to s.shelf r) → All P (all_waiting (with_reply s r).waiting)
waiting_reply P s r h k = go (nat_lt (reply_count s.waiting) MAX_REPLIES)
  where
    go : (b : Bool) → All P (all_waiting (if b then s.waiting ++ record { is_reply = true; packets = replies_to s.shelf r } ∷ [] else s.waiting))
    go true = waiting_push P s.waiting (record { is_reply = true; packets = replies_to s.shelf r }) h k
    go false = h

-- without the first packet
pub waiting_rest : (P : StreamPacket → Type 0) (jobs : List Job) → All P (all_waiting jobs) → All P (all_waiting (without_first jobs))
waiting_rest P [] h = h
waiting_rest P (job ∷ jobs) h = go job.packets h
  where
    go : (packets : List StreamPacket) → All P (packets ++ all_waiting jobs) → All P (all_waiting (rest_of job.is_reply packets jobs))
    go [] h = h
    go (x ∷ []) h = All-tail P x (all_waiting jobs) h
    go (x ∷ y ∷ ys) h = All-tail P x (y ∷ ys ++ all_waiting jobs) h

pub next_sent : (P : StreamPacket → Type 0) (jobs : List Job) → All P (all_waiting jobs) → IfSome (first_waiting jobs) P
next_sent P [] h = tt
next_sent P (job ∷ jobs) h = go job.packets h
  where
    go : (packets : List StreamPacket) → All P (packets ++ all_waiting jobs) → IfSome (first_of packets) P
    go [] h = tt
    go (x ∷ xs) h = All-head P x (xs ++ all_waiting jobs) h
