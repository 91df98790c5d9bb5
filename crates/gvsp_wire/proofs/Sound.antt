-- What reading answers is so by the format.
use Rattle.std.proofs.Common.{ℕ, ◌%◌, ◌^◌, ◌≤◌, List, length, drop, slice_index, Result, Ok, Err, refl, inl, inr, arith}
use Rattle.std.specs.Prelude.{nat_lt, ◌==◌}
use Rattle.std.proofs.lemmas.Bool.{cases_Bool, ltb-true, ltb-false, eqb-true, eqb-false, both_ways}
use Rattle.std.proofs.lemmas.List.{length-drop}
use Rattle.wire_fields.specs.Fields.{number_at}
use Rattle.stream_packets.specs.declared.fields.Head.{Head}
use Rattle.stream_packets.specs.Packets.{StreamPacket}
use Rattle.gvsp_wire.specs.declared.form.Form.{Form}
use Rattle.gvsp_wire.specs.declared.form.Form.TheVariants.{Leader, Trailer, Payload}
use Rattle.gvsp_wire.specs.declared.wire_error.WireError.{WireError}
use Rattle.gvsp_wire.specs.Wire.{before_format, in_header, in_body, HasHeader, HasBlock, HasPacket, Stream, Refused, is_notice_status}
use Rattle.gvsp_wire.specs.Reading.{is_extended, form_of, head_at, block_of, known_of, header_of, is_image_size, info_at, sized_info, leader_of, trailer_of, payload_of, body_of, packet_after, reading}
use Rattle.gvsp_wire.proofs.Steps.{fits_size, size_fits}
use Rattle.gvsp_wire.proofs.Forms.{code, code_known, form_cases, leader_id, other_id}
use Rattle.gvsp_wire.proofs.Headers.{format_byte_made, test_extended, extended_test, header_made, leader_body_made, trailer_body_made}

abbrev pub HeaderSound : List ℕ → Result (Form × Head) WireError → Type 0
HeaderSound bytes (Ok x) = HasBlock bytes (code x.0) x.1 (drop 20 bytes) × (20 ≤ length bytes)
HeaderSound bytes (Err e) = Refused bytes e

-- a header of a known form: its block id decides
block_sound : (bytes : List ℕ) (form : Form) (h : Head) → 20 ≤ length bytes → HasHeader bytes (code form) h (drop 20 bytes) → HeaderSound bytes (block_of form h)
block_sound bytes form h len has =
    elim (cases_Bool (h.block == 0)) [
      | inl t ↦ rw t (record {
        format = code form;
        h = h;
        body = drop 20 bytes;
        header = has;
        known = code_known form;
        zero_block = eqb-true h.block 0 t;
      })
      | inr f ↦
          let above = eqb-false h.block 0 f in
          rw f (record { header = has; known = code_known form; block = omega (arith, above) }, len)
    ]

-- a whole header: its format decides first
known_sound : (bytes : List ℕ) (format : ℕ) (h : Head) → 20 ≤ length bytes → HasHeader bytes format h (drop 20 bytes) → HeaderSound bytes (known_of format (form_of format) h)
known_sound bytes format h len has =
    elim (form_cases format) [
      | inl known ↦ rw known.1 (block_sound bytes known.0 h len (rw known.2 has))
      | inr unknown ↦ rw unknown.0 (record { h = h; body = drop 20 bytes; header = has; unknown = unknown.1 })
    ]

pub header_sound : (bytes : List ℕ) → HeaderSound bytes (header_of bytes)
unfolding header_of
header_sound bytes =
    elim (cases_Bool (nat_lt (length bytes) 8)) [
      | inl short ↦ rw short (refl, before_format (ltb-true (length bytes) 8 short))
      | inr f8 ↦
          let len : 8 ≤ length bytes = ltb-false (length bytes) 8 f8 in
          let byte = format_byte_made bytes len in
          elim (cases_Bool (is_extended (slice_index bytes 4))) [
            | inl ext ↦ elim (cases_Bool (nat_lt (length bytes) 20)) [
              | inl short ↦ rw (f8, ext, short) (refl, in_header (slice_index bytes 4) byte (test_extended (slice_index bytes 4) ext) (ltb-true (length bytes) 20 short))
              | inr f20 ↦
                  let whole = ltb-false (length bytes) 20 f20 in
                  rw (f8, ext, f20) (known_sound bytes (slice_index bytes 4 % 2 ^ 4) (head_at bytes) whole (header_made bytes whole ext))
            ]
            | inr standard ↦ rw (f8, standard) (record {
              format_byte = slice_index bytes 4;
              byte = byte;
              standard = λ e. both_ways _ standard (extended_test (slice_index bytes 4) e);
            })
          ]
    ]

abbrev pub Sound : List ℕ → Result StreamPacket WireError → Type 0
Sound bytes (Ok x) = Stream bytes x
Sound bytes (Err e) = Refused bytes e

leader_sound : (bytes : List ℕ) (h : Head) → 20 ≤ length bytes → HasPacket bytes 1 h (drop 20 bytes) → Sound bytes (leader_of h bytes)
unfolding leader_of sized_info
leader_sound bytes h len has =
    elim (cases_Bool (h.id == 0)) [
      | inr f ↦ rw f (record {
        format = 1;
        h = h;
        body = drop 20 bytes;
        packet = has;
        id_is = refl;
        bad = λ n. eqb-false h.id 0 f (n.0 refl);
      })
      | inl t ↦
          let id = eqb-true h.id 0 t in
          elim (cases_Bool (nat_lt (length bytes) 56)) [
            | inl short ↦
                let lt = ltb-true (length bytes) 56 short in
                rw (t, short) (refl, in_body 1 h (drop 20 bytes) has (leader_id h.id id) (omega (arith, length-drop 20 bytes)))
            | inr f56 ↦
                let body = leader_body_made bytes (ltb-false (length bytes) 56 f56) in
                elim (cases_Bool (number_at 22 2 bytes == 1)) [
                  | inr other ↦ rw (t, f56, other) (record {
                    format = 1;
                    h = h;
                    body = drop 20 bytes;
                    packet = has;
                    id = leader_id h.id id;
                    payload_type = inl (refl, info_at bytes, body);
                    other = eqb-false (number_at 22 2 bytes) 1 other;
                  })
                  | inl image ↦
                      let image_body = rw (eqb-true (number_at 22 2 bytes) 1 image) at body in
                      elim (cases_Bool (is_image_size (info_at bytes).size)) [
                        | inl fits ↦ rw (t, f56, image, fits) (record {
                          body = drop 20 bytes;
                          packet = has;
                          first = id;
                          info = image_body;
                          in_limits = fits_size (info_at bytes).size fits;
                        })
                        | inr outside ↦ rw (t, f56, image, outside) (record {
                          h = h;
                          i = info_at bytes;
                          body = drop 20 bytes;
                          packet = has;
                          first = id;
                          info = image_body;
                          outside = λ s. both_ways _ outside (size_fits (info_at bytes).size s);
                        })
                      ]
                ]
          ]
    ]

trailer_sound : (bytes : List ℕ) (h : Head) → 20 ≤ length bytes → HasPacket bytes 2 h (drop 20 bytes) → Sound bytes (trailer_of h bytes)
unfolding trailer_of
trailer_sound bytes h len has =
    elim (cases_Bool (h.id == 0)) [
      | inl t ↦ rw t (record {
        format = 2;
        h = h;
        body = drop 20 bytes;
        packet = has;
        id_is = refl;
        bad = λ n. absurd (omega (arith, n.1 (eqb-true h.id 0 t)));
      })
      | inr f ↦
          let ne = eqb-false h.id 0 f in
          let one : 1 ≤ h.id = omega (arith, ne) in
          elim (cases_Bool (nat_lt (length bytes) 28)) [
            | inl short ↦
                let lt = ltb-true (length bytes) 28 short in
                rw (f, short) (refl, in_body 2 h (drop 20 bytes) has (other_id 2 h.id (omega arith) one) (omega (arith, length-drop 20 bytes)))
            | inr f28 ↦
                let body = trailer_body_made bytes (ltb-false (length bytes) 28 f28) in
                elim (cases_Bool (number_at 22 2 bytes == 1)) [
                  | inr other ↦ rw (f, f28, other) (record {
                    format = 2;
                    h = h;
                    body = drop 20 bytes;
                    packet = has;
                    id = other_id 2 h.id (omega arith) one;
                    payload_type = inr (refl, number_at 24 4 bytes, body);
                    other = eqb-false (number_at 22 2 bytes) 1 other;
                  })
                  | inl image ↦
                      let image_body = rw (eqb-true (number_at 22 2 bytes) 1 image) at body in
                      rw (f, f28, image) (record { body = drop 20 bytes; packet = has; after_leader = one; lines = image_body })
                ]
          ]
    ]

payload_sound : (bytes : List ℕ) (h : Head) → 20 ≤ length bytes → HasPacket bytes 3 h (drop 20 bytes) → Sound bytes (payload_of h bytes)
unfolding payload_of
payload_sound bytes h len has =
    elim (cases_Bool (h.id == 0)) [
      | inl t ↦ rw t (record {
        format = 3;
        h = h;
        body = drop 20 bytes;
        packet = has;
        id_is = refl;
        bad = λ n. absurd (omega (arith, n.1 (eqb-true h.id 0 t)));
      })
      | inr f ↦
          let ne = eqb-false h.id 0 f in
          let one : 1 ≤ h.id = omega (arith, ne) in
          elim (cases_Bool (nat_lt (length bytes) 21)) [
            | inl short ↦
                let lt = ltb-true (length bytes) 21 short in
                rw (f, short) (refl, in_body 3 h (drop 20 bytes) has (other_id 3 h.id (omega arith) one) (omega (arith, length-drop 20 bytes)))
            | inr f21 ↦
                let some = ltb-false (length bytes) 21 f21 in
                rw (f, f21) (record { packet = has; after_leader = one; some = omega (arith, length-drop 20 bytes) })
          ]
    ]

body_sound : (form : Form) (bytes : List ℕ) (h : Head) → 20 ≤ length bytes → HasPacket bytes (code form) h (drop 20 bytes) → Sound bytes (body_of form h bytes)
body_sound Leader bytes h len has = leader_sound bytes h len has
body_sound Trailer bytes h len has = trailer_sound bytes h len has
body_sound Payload bytes h len has = payload_sound bytes h len has

after_sound : (bytes : List ℕ) (r : Result (Form × Head) WireError) → HeaderSound bytes r → Sound bytes (packet_after r bytes)
after_sound bytes (Err e) refused = refused
after_sound bytes (Ok x) has =
    elim (cases_Bool (is_notice_status x.1.status)) [
      | inl t ↦ rw t (record { format = code x.0; ignored = drop 20 bytes; has_block = has.0; status = t })
      | inr f ↦ rw f (body_sound x.0 bytes x.1 has.1 (record { has_block = has.0; no_notice = λ n. both_ways _ f n }))
    ]

-- Every datagram is a packet or refused, as reading says.
pub reading_sound : (bytes : List ℕ) → Sound bytes (reading bytes)
unfolding reading
reading_sound bytes = after_sound bytes (header_of bytes) (header_sound bytes)
