-- The packets of a frame by their packet ids.
use Rattle.std.proofs.Common.{◌≡◌, ℕ, zero, suc, ◌+◌, ◌-◌, ◌<◌, ◌≤◌, Bool, true, false, List, [], ◌∷◌, ◌++◌, length, take, drop, Option, Some, None, refl, ap, sym, ◌∙◌, arith}
use Rattle.std.specs.Prelude.{◌==◌, nat_lt, nat_le, slice_get, if◌then◌else◌, map, option_map}
use Rattle.std.proofs.lemmas.Bool.{ltb-true, ltb-false, leb-true, leb-false}
use Rattle.std.proofs.Math.Dec.{eqb-suc-zero}
use Rattle.std.proofs.lemmas.List.{take-map, drop-map, length-map, take_all}
use Rattle.std.proofs.lemmas.Option.{slice_get-map}
use Rattle.gev_types.specs.declared.frame.Frame.{Frame}
use Rattle.stream_packets.specs.declared.fields.Head.{Head}
use Rattle.stream_packets.specs.Packets.{StreamPacket, leader, payload, trailer}
use Rattle.stream_packets.specs.FramePackets.{payload_count, payload_bytes, payloads_of, sent_head, leader_info}
use Rattle.resend_store.specs.declared.sent.SentFrame.{SentFrame}
use Rattle.resend_store.specs.Sent.{trailer_id}
use Rattle.camera_machine.specs.Camera.{Job}
use Rattle.camera_machine.specs.Stream.{sent_packets, again, again_head, range_of, first_of, rest_of}
use Rattle.camera_machine.proofs.Jobs.{length-payloads_of, length-sent_packets}
use Rattle.camera_stream.specs.Spans.{ids_of}
use Rattle.camera_stream.specs.Held.{AreIdsOf}
use Rattle.camera_stream.specs.Writing.{packet_of, held_packet}
use Rattle.camera_stream.proofs.Ranges.{range, slice_get_here, slice_get_left, first_of_range, rest_of_range}

payload_at : (f : Frame) (p n i : ℕ) → i < n → slice_get (payloads_of f p n) i ≡ Some (payload (sent_head f (suc i)) (payload_bytes p f.pixels (suc i)))
payload_at f p zero i h = absurd (omega arith)
payload_at f p (suc n) i h = go (nat_lt i n) refl (payload_at f p n i)
  where
    go : (t : Bool) → nat_lt i n ≡ t → (i < n → slice_get (payloads_of f p n) i ≡ Some (payload (sent_head f (suc i)) (payload_bytes p f.pixels (suc i))))
        → slice_get (payloads_of f p n ++ payload (sent_head f (suc n)) (payload_bytes p f.pixels (suc n)) ∷ []) i
        ≡ Some (payload (sent_head f (suc i)) (payload_bytes p f.pixels (suc i)))
    go true t before =
        let low : i < n = ltb-true i n t in
        slice_get_left (payloads_of f p n) (payload (sent_head f (suc n)) (payload_bytes p f.pixels (suc n)) ∷ []) i (omega (arith, length-payloads_of f p n))
        ∙ before low
    go false t before =
        let high : n ≤ i = ltb-false i n t in
        let place : i ≡ length (payloads_of f p n) = omega (arith, length-payloads_of f p n) in
        let same : n ≡ i = omega arith in
        ap (slice_get (payloads_of f p n ++ payload (sent_head f (suc n)) (payload_bytes p f.pixels (suc n)) ∷ [])) place
        ∙ (slice_get_here (payloads_of f p n) [] (payload (sent_head f (suc n)) (payload_bytes p f.pixels (suc n)))
        ∙ ap (λ (k : ℕ). Some (payload (sent_head f (suc k)) (payload_bytes p f.pixels (suc k)))) same)

-- the packet with this id is the one that `packet_of` says
pub packet_at : (sent : SentFrame) (n : ℕ) → n ≤ trailer_id sent
    → slice_get (sent_packets sent) n ≡ Some (packet_of sent.frame sent.payload_size (sent_head sent.frame n))
packet_at sent zero h = refl
packet_at sent (suc i) h =
    let later : (suc i == 0) ≡ false = eqb-suc-zero i in
    go (nat_le (suc i) (payload_count sent.payload_size (length sent.frame.pixels))) refl
    ∙ ap (λ (b : Bool). Some (if b then leader (sent_head sent.frame (suc i)) (leader_info sent.frame)
    else (if nat_le (suc i) (payload_count sent.payload_size (length sent.frame.pixels)) then payload (sent_head sent.frame (suc i)) (payload_bytes sent.payload_size sent.frame.pixels (suc i)) else trailer (sent_head sent.frame (suc i)) sent.frame.rows)))
    (sym later)
  where
    go : (t : Bool) → nat_le (suc i) (payload_count sent.payload_size (length sent.frame.pixels)) ≡ t
        → slice_get (sent_packets sent) (suc i)
        ≡ Some (if t then payload (sent_head sent.frame (suc i)) (payload_bytes sent.payload_size sent.frame.pixels (suc i)) else trailer (sent_head sent.frame (suc i)) sent.frame.rows)
    go true t =
        let count : ℕ = payload_count sent.payload_size (length sent.frame.pixels) in
        let low : suc i ≤ count = leb-true (suc i) count t in
        slice_get_left (payloads_of sent.frame sent.payload_size count) (trailer (sent_head sent.frame (count + 1)) sent.frame.rows ∷ []) i
        (omega (arith, low, length-payloads_of sent.frame sent.payload_size count))
        ∙ payload_at sent.frame sent.payload_size count i (omega (arith, low))
    go false t =
        let count : ℕ = payload_count sent.payload_size (length sent.frame.pixels) in
        let high : count < suc i = leb-false (suc i) count t in
        let place : i ≡ length (payloads_of sent.frame sent.payload_size count) = omega (arith, h, high, length-payloads_of sent.frame sent.payload_size count) in
        let same : count + 1 ≡ suc i = omega (arith, h, high) in
        ap (slice_get (payloads_of sent.frame sent.payload_size count ++ trailer (sent_head sent.frame (count + 1)) sent.frame.rows ∷ [])) place
        ∙ (slice_get_here (payloads_of sent.frame sent.payload_size count) [] (trailer (sent_head sent.frame (count + 1)) sent.frame.rows)
        ∙ ap (λ (k : ℕ). Some (trailer (sent_head sent.frame k) sent.frame.rows)) same)

again_packet : (f : Frame) (p : ℕ) (h : Head) → again (packet_of f p h) ≡ packet_of f p (again_head h)
again_packet f p h = go (h.id == 0) (nat_le h.id (payload_count p (length f.pixels)))
  where
    go : (a b : Bool) → again (if a then leader h (leader_info f) else (if b then payload h (payload_bytes p f.pixels h.id) else trailer h f.rows))
        ≡ (if a then leader (again_head h) (leader_info f) else (if b then payload (again_head h) (payload_bytes p f.pixels h.id) else trailer (again_head h) f.rows))
    go true b = refl
    go false true = refl
    go false false = refl

-- ---- ranges of them

again_range : (xs : List StreamPacket) (n l : ℕ) → range (map again xs) n l ≡ map again (range xs n l)
again_range xs n l = ap (take (l + 1 - n)) (drop-map again n xs) ∙ take-map again (l + 1 - n) (drop n xs)

pub first_ids : (o : Option SentFrame) (block next last : ℕ) → AreIdsOf o next last
    → first_of (ids_of o next last) ≡ held_packet o (record { status = 0; flags = 0; block = block; id = next })
first_ids None block next last h = absurd h
first_ids (Some sent) block next last h =
    let order : next ≤ last = h.0 in
    let within : last ≤ trailer_id sent = h.1 in
    first_of_range (sent_packets sent) next last (packet_of sent.frame sent.payload_size (sent_head sent.frame next)) (packet_at sent next (omega (arith, order, within))) order

pub first_again : (o : Option SentFrame) (block next last : ℕ) → AreIdsOf o next last
    → first_of (range_of o next last) ≡ held_packet o (again_head (record { status = 0; flags = 0; block = block; id = next }))
first_again None block next last h = absurd h
first_again (Some sent) block next last h =
    let order : next ≤ last = h.0 in
    let within : last ≤ trailer_id sent = h.1 in
    let x : StreamPacket = packet_of sent.frame sent.payload_size (sent_head sent.frame next) in
    ap first_of (sym (again_range (sent_packets sent) next last))
    ∙ (first_of_range (map again (sent_packets sent)) next last (again x)
    (slice_get-map again (sent_packets sent) next ∙ ap (option_map again) (packet_at sent next (omega (arith, order, within)))) order
    ∙ ap (λ (y : StreamPacket). Some y) (again_packet sent.frame sent.payload_size (sent_head sent.frame next)))

pub rest_ids : (o : Option SentFrame) (next last : ℕ) (jobs : List Job) → AreIdsOf o next last
    → rest_of false (ids_of o next last) jobs ≡ (if nat_lt next last then record { is_reply = false; packets = ids_of o (next + 1) last } ∷ jobs else jobs)
rest_ids None next last jobs h = absurd h
rest_ids (Some sent) next last jobs h =
    let order : next ≤ last = h.0 in
    let within : last ≤ trailer_id sent = h.1 in
    rest_of_range false (sent_packets sent) next last (packet_of sent.frame sent.payload_size (sent_head sent.frame next)) jobs
    (packet_at sent next (omega (arith, order, within))) order (omega (arith, within, length-sent_packets sent))

pub rest_again : (o : Option SentFrame) (next last : ℕ) (jobs : List Job) → AreIdsOf o next last
    → rest_of true (range_of o next last) jobs ≡ (if nat_lt next last then record { is_reply = true; packets = range_of o (next + 1) last } ∷ jobs else jobs)
rest_again None next last jobs h = absurd h
rest_again (Some sent) next last jobs h =
    let order : next ≤ last = h.0 in
    let within : last ≤ trailer_id sent = h.1 in
    let xs : List StreamPacket = map again (sent_packets sent) in
    let x : StreamPacket = packet_of sent.frame sent.payload_size (sent_head sent.frame next) in
    ap (λ (ys : List StreamPacket). rest_of true ys jobs) (sym (again_range (sent_packets sent) next last))
    ∙ (rest_of_range true (map again (sent_packets sent)) next last (again x) jobs
    (slice_get-map again (sent_packets sent) next ∙ ap (option_map again) (packet_at sent next (omega (arith, order, within)))) order
    (omega (arith, within, length-sent_packets sent, length-map (sent_packets sent) again))
    ∙ ap (λ (ys : List StreamPacket). if nat_lt next last then record { is_reply = true; packets = ys } ∷ jobs else jobs) (again_range (sent_packets sent) (next + 1) last))

-- all packets of a frame are its range up to the trailer
pub whole_frame : (sent : SentFrame) → ids_of (Some sent) 0 (trailer_id sent) ≡ sent_packets sent
whole_frame sent = take_all (trailer_id sent + 1 - 0) (sent_packets sent) (omega (arith, length-sent_packets sent))
