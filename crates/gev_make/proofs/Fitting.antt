-- The packets of a frame make lines of a script, also behind a network.
use Rattle.std.proofs.Common.{◌≡◌, inl, inr, ℕ, zero, suc, ◌+◌, ◌*◌, ◌/◌, ◌%◌, ◌^◌, ◌<◌, ◌≤◌, true, List, [], ◌∷◌, ◌++◌, length, get_or, drop, refl, sym, arith, subst, lit≤, length-append, length-take}
use Rattle.std.specs.List.{All, list_all, Contains}
use Rattle.std.specs.Int.{bytes_high_first, byte_at}
use Rattle.std.proofs.lemmas.Bool.{le-leb, eq-eqb, and_from}
use Rattle.std.proofs.lemmas.List.Sums.{AllPass-from_list_all}
use Rattle.std.proofs.lemmas.List.Elements.{All-nil, All-cons, All-head, All-tail, All-append, All-take, All-drop, All-weaker, All-contains, All-contains_itself}
use Rattle.hex.specs.Hex.{encode_with, encode_lower, lower_digits}
use Rattle.hex.proofs.HexLemmas.{length-encode_with}
use Rattle.gev_types.specs.declared.frame.Frame.{Frame}
use Rattle.gev_frames.specs.Generator.{next, drawn_byte, noise}
use Rattle.gev_frames.specs.Frames.{shape_size, frame_of}
use Rattle.wire_fields.specs.Fields.{spelled, width_of}
use Rattle.wire_fields.proofs.Spellings.{length-spelled}
use Rattle.stream_packets.specs.declared.fields.Head.{Head}
use Rattle.stream_packets.specs.Packets.{StreamPacket, payload}
use Rattle.stream_packets.specs.FramePackets.{sent_head, leader_info, payload_count, payload_start, payload_bytes, payloads_of, packets_of}
use Rattle.gvsp_wire.specs.Wire.{header_fields, leader_fields, trailer_fields, leader_format, payload_format, trailer_format, image_payload}
use Rattle.gvsp_wire.specs.Plain.{plain, plain_header}
use Rattle.gvsp_wire.proofs.Writings.{length-plain_header}
use Rattle.lossy_queue.specs.declared.datagram.Datagram.{Datagram}
use Rattle.lossy_queue.specs.declared.rates.Rates.{Rates}
use Rattle.lossy_queue.specs.Lossy.{put_lossy}
use Rattle.lossy_queue.proofs.Puts.{puts_one}
use Rattle.gev_script.specs.Numbers.{is_hex_digit}
use Rattle.gev_make.specs.declared.network.Network.{Network}
use Rattle.gev_make.specs.MakeText.{image_shape, payload_size, block_packets, FitsLine}
use Rattle.gev_make.specs.Network.{stream_datagram, carried, all_carried}

abbrev AreSmall : List ℕ → Type 0
AreSmall bytes = All (λ (b : ℕ). b < 256) bytes

-- bytes that a datagram's line may hold
record IsPacket (bytes : List ℕ) : Type 0 where
  small : AreSmall bytes
  some : 1 ≤ length bytes
  few : length bytes ≤ 1472

abbrev IsPlain : StreamPacket → Type 0
IsPlain x = IsPacket (plain x)

-- ---- hex digits

digit_is_hex : (k : ℕ) → k < 16 → is_hex_digit (get_or lower_digits k 0) ≡ true
digit_is_hex k h = AllPass-from_list_all is_hex_digit lower_digits refl k 0 h

high_digit : (b : ℕ) → b < 256 → b / 16 < 16
high_digit b h = omega arith

low_digit : (b : ℕ) → b % 16 < 16
low_digit b = omega arith

encoded_is_hex : (bytes : List ℕ) → AreSmall bytes → list_all is_hex_digit (encode_lower bytes) ≡ true
unfolding encode_with
encoded_is_hex [] h = refl
encoded_is_hex (b ∷ rest) h =
    and_from _ _ (digit_is_hex (b / 16) (high_digit b (All-head (λ (b : ℕ). b < 256) b rest h)))
    (and_from _ _ (digit_is_hex (b % 16) (low_digit b)) (encoded_is_hex rest (All-tail (λ (b : ℕ). b < 256) b rest h)))

twice_is_even : (n m : ℕ) → n ≡ 2 * m → n % 2 ≡ 0
twice_is_even n m e = omega arith

packet_fits : (bytes : List ℕ) → IsPacket bytes → FitsLine (stream_datagram bytes)
packet_fits bytes p =
    let wide : length (encode_lower bytes) ≡ 2 * length bytes = length-encode_with lower_digits bytes in
    let some : 1 ≤ length bytes = p.some in
    let few : length bytes ≤ 1472 = p.few in
    record {
      line = record {
        hex =
            and_from _ _
            (and_from _ _ (le-leb 1 (length (encode_lower bytes)) (omega arith)) (eq-eqb (length (encode_lower bytes) % 2) 0 (twice_is_even _ _ wide)))
            (encoded_is_hex bytes p.small);
        short = omega arith;
      };
      few = few;
    }

-- ---- packets

rest_small : (m : ℕ) → m % 256 < 256
rest_small m = omega arith

byte_small : (k n : ℕ) → byte_at k n < 256
byte_small zero n = rest_small n
byte_small (suc k) n = rest_small (n / 256 ^ suc k)

number_small : (k n : ℕ) → AreSmall (bytes_high_first k n)
number_small zero n = All-nil (λ (b : ℕ). b < 256)
number_small (suc k) n = All-cons (λ (b : ℕ). b < 256) (byte_at k n) (bytes_high_first k n) (byte_small k n) (number_small k n)

spelled_small : (fields : List (ℕ × ℕ)) → AreSmall (spelled fields)
spelled_small [] = All-nil (λ (b : ℕ). b < 256)
spelled_small ((width, x) ∷ fields) =
    All-append (λ (b : ℕ). b < 256) (bytes_high_first width x) (spelled fields) (number_small width x) (spelled_small fields)

drawn_small : (y : ℕ) → y % 2 ^ 64 / 2 ^ 32 / 2 ^ 24 < 256
drawn_small y = omega arith

noise_small : (n x : ℕ) → AreSmall (noise n x)
unfolding noise
noise_small zero x = All-nil (λ (b : ℕ). b < 256)
noise_small (suc n) x =
    All-cons (λ (b : ℕ). b < 256) (drawn_byte x) (noise n (next x)) (drawn_small (x * 6364136223846793005 + 1442695040888963407)) (noise_small n (next x))

headed_fits : (h : Head) (format : ℕ) (body : List ℕ) → AreSmall body → length body ≤ 1452 → IsPacket (plain_header h format ++ body)
headed_fits h format body small few =
    let long : length (plain_header h format ++ body) ≡ 20 + length body =
    omega (arith, length-append (plain_header h format) body, length-plain_header h format) in
    record {
      small = All-append (λ (b : ℕ). b < 256) (plain_header h format) body (spelled_small (header_fields h (2 ^ 7 + format) 0)) small;
      some = omega arith;
      few = omega arith;
    }

fields_fit : (h : Head) (format : ℕ) (fields : List (ℕ × ℕ)) → width_of fields ≤ 1452 → IsPacket (plain_header h format ++ spelled fields)
fields_fit h format fields few = headed_fits h format (spelled fields) (spelled_small fields) (omega (arith, length-spelled fields))

payload_fits : (h : Head) (pixels : List ℕ) (k : ℕ) → AreSmall pixels → IsPlain (payload h (payload_bytes payload_size pixels k))
payload_fits h pixels k small =
    headed_fits h payload_format (payload_bytes payload_size pixels k)
    (All-take (λ (b : ℕ). b < 256) payload_size (drop (payload_start payload_size k) pixels) (All-drop (λ (b : ℕ). b < 256) (payload_start payload_size k) pixels small))
    (omega (arith, length-take payload_size (drop (payload_start payload_size k) pixels)))

payloads_fit : (frame : Frame) (n : ℕ) → AreSmall frame.pixels → All IsPlain (payloads_of frame payload_size n)
payloads_fit frame zero small = All-nil IsPlain
payloads_fit frame (suc n) small =
    All-append IsPlain (payloads_of frame payload_size n) _ (payloads_fit frame n small)
    (All-cons IsPlain _ [] (payload_fits (sent_head frame (suc n)) frame.pixels (suc n) small) (All-nil IsPlain))

packets_fit : (frame : Frame) → AreSmall frame.pixels → All IsPlain (packets_of frame payload_size)
packets_fit frame small =
    let n : ℕ = payload_count payload_size (length frame.pixels) in
    All-cons IsPlain _ _ (fields_fit (sent_head frame 0) leader_format (leader_fields 0 0 image_payload (leader_info frame)) (lit≤ tt))
    (All-append IsPlain (payloads_of frame payload_size n) _ (payloads_fit frame n small)
    (All-cons IsPlain _ [] (fields_fit (sent_head frame (n + 1)) trailer_format (trailer_fields 0 image_payload frame.rows) (lit≤ tt)) (All-nil IsPlain)))

-- ---- the network

put_fits : (rates : Rates) (x : ℕ) (d : Datagram) (queue : List Datagram) → FitsLine d → All FitsLine queue → All FitsLine (put_lossy rates x d queue)
put_fits rates x d queue one all =
    All-weaker (Contains (put_lossy rates x d queue)) FitsLine
    (λ e c. elim ((puts_one rates x d queue).only e c) as (λ _. FitsLine e) [
      | inl same ↦ subst FitsLine (sym same) one
      | inr there ↦ All-contains FitsLine queue e all there
    ])
    (put_lossy rates x d queue) (All-contains_itself (put_lossy rates x d queue))

carried_fits : (n : Network) (bytes : List ℕ) → IsPacket bytes → All FitsLine n.queue → All FitsLine (carried n bytes).queue
unfolding carried
carried_fits n bytes p all = put_fits n.rates n.generator (stream_datagram bytes) n.queue (packet_fits bytes p) all

all_carried_fits : (n : Network) (xs : List StreamPacket) → All IsPlain xs → All FitsLine n.queue → All FitsLine (all_carried n xs).queue
all_carried_fits n [] ps all = all
all_carried_fits n (x ∷ xs) ps all =
    all_carried_fits (carried n (plain x)) xs (All-tail IsPlain x xs ps) (carried_fits n (plain x) (All-head IsPlain x xs ps) all)

-- What a network holds after the packets of a block makes lines, if it did before.
pub block_fits : (n : Network) (seed b : ℕ) → All FitsLine n.queue → All FitsLine (all_carried n (block_packets seed b)).queue
unfolding block_packets
block_fits n seed b all =
    all_carried_fits n (packets_of (frame_of seed b image_shape) payload_size)
    (packets_fit (frame_of seed b image_shape) (noise_small (shape_size image_shape) ((seed + b) % 2 ^ 64))) all
