-- What each step of reading answers, given the facts that it tests.
use Rattle.std.proofs.Common.{sym, ◌∙◌, ◌≡◌, ℕ, ◌<◌, ◌≤◌, ◌^◌, true, false, List, length, drop, Option, Some, None, Ok, Err, refl, arith}
use Rattle.std.proofs.lemmas.Bool.{ltb-true, leb-true, lt-ltb, le-ltb, le-leb, eq-eqb, ne_eqb, and_parts, and_from, false_from_ne_true}
use Rattle.std.proofs.lemmas.List.{length-drop}
use Rattle.wire_fields.specs.Fields.{number_at}
use Rattle.stream_packets.specs.declared.fields.Head.{Head}
use Rattle.stream_packets.specs.declared.fields.LeaderInfo.{LeaderInfo}
use Rattle.stream_packets.specs.Packets.{leader, payload, trailer}
use Rattle.gev_types.specs.FrameSize.{IsImageSize}
use Rattle.gvsp_wire.specs.declared.wire_error.WireError.TheVariants.{Short, BadId, PayloadType, FrameSize}
use Rattle.gvsp_wire.specs.declared.form.Form.{Form}
use Rattle.gvsp_wire.specs.declared.form.Form.TheVariants.{Leader, Trailer, Payload}
use Rattle.gvsp_wire.specs.Wire.{size_of, IsId, body_size}
use Rattle.gvsp_wire.proofs.Forms.{code, leader_not_id, other_not_id, not_leader}
use Rattle.gvsp_wire.specs.Reading.{is_image_size, info_at, sized_info, leader_with, leader_of, trailer_of, payload_of, body_of}

-- ---- the size of an image

pub size_fits : (n : ℕ) → IsImageSize n → is_image_size n ≡ true
size_fits n h = and_from _ _ (lt-ltb 0 n h.0) (le-leb n (2 ^ 26) h.1)

pub fits_size : (n : ℕ) → is_image_size n ≡ true → IsImageSize n
fits_size n e = let p = and_parts _ _ e in (ltb-true 0 n p.0, leb-true n (2 ^ 26) p.1)

pub size_outside : (n : ℕ) → (IsImageSize n → ⊥) → is_image_size n ≡ false
size_outside n h = false_from_ne_true _ (λ e. h (fits_size n e))

pub info_fits : (bytes : List ℕ) → IsImageSize (info_at bytes).size → sized_info bytes ≡ Some (info_at bytes)
unfolding sized_info
info_fits bytes h = rw (size_fits _ h) refl

pub info_outside : (bytes : List ℕ) → (IsImageSize (info_at bytes).size → ⊥) → sized_info bytes ≡ None
unfolding sized_info
info_outside bytes h = rw (size_outside _ h) refl

-- ---- a leader's body

pub leader_read : (h : Head) (bytes : List ℕ) (o : Option LeaderInfo) → h.id ≡ 0 → 56 ≤ length bytes → number_at 22 2 bytes ≡ 1 → sized_info bytes ≡ o → leader_of h bytes ≡ leader_with h o
unfolding leader_of
leader_read h bytes o id len image info = rw (eq-eqb h.id 0 id, le-ltb (length bytes) 56 len, eq-eqb (number_at 22 2 bytes) 1 image, info) refl

-- the fields that were read, with the size that they say
pub info_is : (bytes : List ℕ) (i : LeaderInfo) → i.timestamp ≡ number_at 24 8 bytes → i.pixel ≡ number_at 32 4 bytes → i.size_x ≡ number_at 36 4 bytes → i.size_y ≡ number_at 40 4 bytes → i.offset_x ≡ number_at 44 4 bytes → i.offset_y ≡ number_at 48 4 bytes → i.padding_x ≡ number_at 52 2 bytes → i.padding_y ≡ number_at 54 2 bytes → i.size ≡ size_of i → i ≡ info_at bytes
info_is bytes i t p x y ox oy px py s =
    let size : i.size ≡ (info_at bytes).size = s ∙ rw (p, x, y, px, py) refl in
    λ k. record {
      timestamp = t k;
      pixel = p k;
      size_x = x k;
      size_y = y k;
      offset_x = ox k;
      offset_y = oy k;
      padding_x = px k;
      padding_y = py k;
      size = size k;
    }

-- ---- the other bodies, and what each form's tests answer

pub trailer_read : (h : Head) (bytes : List ℕ) → 1 ≤ h.id → 28 ≤ length bytes → number_at 22 2 bytes ≡ 1 → trailer_of h bytes ≡ Ok (trailer h (number_at 24 4 bytes))
unfolding trailer_of
trailer_read h bytes id len image =
    let not_first : h.id ≡ 0 → ⊥ = λ e. omega arith in
    rw (ne_eqb h.id 0 not_first, le-ltb (length bytes) 28 len, eq-eqb (number_at 22 2 bytes) 1 image) refl

pub payload_read : (h : Head) (bytes : List ℕ) → 1 ≤ h.id → 21 ≤ length bytes → payload_of h bytes ≡ Ok (payload h (drop 20 bytes))
unfolding payload_of
payload_read h bytes id len =
    let not_first : h.id ≡ 0 → ⊥ = λ e. omega arith in
    rw (ne_eqb h.id 0 not_first, le-ltb (length bytes) 21 len) refl

-- a packet id that the form doesn't have
pub bad_id_read : (form : Form) (h : Head) (bytes : List ℕ) → (IsId (code form) h.id → ⊥) → body_of form h bytes ≡ Err (BadId h.id)
unfolding leader_of trailer_of payload_of
bad_id_read Leader h bytes bad = rw (ne_eqb h.id 0 (leader_not_id h.id bad)) refl
bad_id_read Trailer h bytes bad = rw (eq-eqb h.id 0 (other_not_id 2 h.id (omega arith) bad)) refl
bad_id_read Payload h bytes bad = rw (eq-eqb h.id 0 (other_not_id 3 h.id (omega arith) bad)) refl

-- a body that ends too early
pub short_read : (form : Form) (h : Head) (bytes : List ℕ) → IsId (code form) h.id → 20 ≤ length bytes → length (drop 20 bytes) < body_size (code form) → body_of form h bytes ≡ Err (Short (length bytes))
unfolding leader_of trailer_of payload_of
short_read Leader h bytes id len lt =
    let short : length bytes < 56 = omega (arith, length-drop 20 bytes) in
    rw (eq-eqb h.id 0 (id.0 refl), lt-ltb (length bytes) 56 short) refl
short_read Trailer h bytes id len lt =
    let short : length bytes < 28 = omega (arith, length-drop 20 bytes) in
    rw (ne_eqb h.id 0 (not_leader 2 h.id (omega arith) id), lt-ltb (length bytes) 28 short) refl
short_read Payload h bytes id len lt =
    let short : length bytes < 21 = omega (arith, length-drop 20 bytes) in
    rw (ne_eqb h.id 0 (not_leader 3 h.id (omega arith) id), lt-ltb (length bytes) 21 short) refl

-- another payload type
pub leader_type_read : (h : Head) (bytes : List ℕ) → h.id ≡ 0 → 56 ≤ length bytes → (number_at 22 2 bytes ≡ 1 → ⊥) → leader_of h bytes ≡ Err (PayloadType (number_at 22 2 bytes))
unfolding leader_of
leader_type_read h bytes id len other = rw (eq-eqb h.id 0 id, le-ltb (length bytes) 56 len, ne_eqb (number_at 22 2 bytes) 1 other) refl

pub trailer_type_read : (h : Head) (bytes : List ℕ) → (h.id ≡ 0 → ⊥) → 28 ≤ length bytes → (number_at 22 2 bytes ≡ 1 → ⊥) → trailer_of h bytes ≡ Err (PayloadType (number_at 22 2 bytes))
unfolding trailer_of
trailer_type_read h bytes id len other = rw (ne_eqb h.id 0 id, le-ltb (length bytes) 28 len, ne_eqb (number_at 22 2 bytes) 1 other) refl

-- ---- a leader's body, as an answer

pub leader_found : (h : Head) (bytes : List ℕ) (i : LeaderInfo) → h.id ≡ 0 → 56 ≤ length bytes → number_at 22 2 bytes ≡ 1 → Some i ≡ sized_info bytes → Ok (leader h i) ≡ leader_of h bytes
leader_found h bytes i id len image info = sym (leader_read h bytes (Some i) id len image (sym info))

pub leader_outside : (h : Head) (bytes : List ℕ) → h.id ≡ 0 → 56 ≤ length bytes → number_at 22 2 bytes ≡ 1 → None ≡ sized_info bytes → Err FrameSize ≡ leader_of h bytes
leader_outside h bytes id len image info = sym (leader_read h bytes None id len image (sym info))
