-- What follows the test of the identifiers is told only where they are extended.
use Rattle.std.proofs.Common.{◌≡◌, ◌≢◌, ℕ, ◌%◌, ◌<◌, ◌≤◌, true, List, length, Some, None, Ok, Err, refl, sym, ap, ◌∙◌}
use Rattle.std.specs.Prelude.{slice_index}
use Rattle.std.proofs.lemmas.Bool.{lt-ltb, le-ltb, eq-eqb, ne_eqb}
use Rattle.wire_fields.specs.Fields.{number_at}
use Rattle.stream_packets.specs.declared.fields.Head.{Head}
use Rattle.gvsp_wire.specs.declared.form.Form.{Form}
use Rattle.gvsp_wire.specs.declared.wire_error.WireError.{WireError}
use Rattle.gvsp_wire.specs.declared.wire_error.WireError.TheVariants.{Short, Format, ZeroBlock}
use Rattle.gvsp_wire.specs.Reading.{is_extended, form_of, head_at, header_of}
use Rattle.gvsp_wire.proofs.header.header.Goals as goal

ends_early : (bytes : List ℕ) (e : WireError) → 8 ≤ length bytes → is_extended (slice_index bytes 4) ≡ true → length bytes < 20 → e ≡ Short (length bytes) → Err e ≡ header_of bytes
unfolding header_of
ends_early bytes e l wide m is = rw (is, le-ltb (length bytes) 8 l, wide, lt-ltb (length bytes) 20 m) refl

no_form : (bytes : List ℕ) → 8 ≤ length bytes → is_extended (slice_index bytes 4) ≡ true → 20 ≤ length bytes → None ≡ form_of (slice_index bytes 4 % 16)
    → Err (Format (slice_index bytes 4 % 16)) ≡ header_of bytes
unfolding header_of
no_form bytes l wide m is = rw (le-ltb (length bytes) 8 l, wide, le-ltb (length bytes) 20 m, ← is) refl

no_block : (bytes : List ℕ) (form : Form) (h : Head) → 8 ≤ length bytes → is_extended (slice_index bytes 4) ≡ true → 20 ≤ length bytes
    → Some form ≡ form_of (slice_index bytes 4 % 16) → h ≡ head_at bytes → h.block ≡ 0 → Err ZeroBlock ≡ header_of bytes
unfolding header_of
no_block bytes form h l wide m is fields zero =
    rw (le-ltb (length bytes) 8 l, wide, le-ltb (length bytes) 20 m, ← is, eq-eqb (number_at 8 8 bytes) 0 (sym (ap (λ (x : Head). x.block) fields) ∙ zero)) refl

is_read : (bytes : List ℕ) (form : Form) (h : Head) → 8 ≤ length bytes → is_extended (slice_index bytes 4) ≡ true → 20 ≤ length bytes
    → Some form ≡ form_of (slice_index bytes 4 % 16) → h ≡ head_at bytes → h.block ≢ 0 → Ok (form, h) ≡ header_of bytes
unfolding header_of
is_read bytes form h l wide m is fields some =
    rw (le-ltb (length bytes) 8 l, wide, le-ltb (length bytes) 20 m, ← is, ne_eqb (number_at 8 8 bytes) 0 (λ e. some (ap (λ (x : Head). x.block) fields ∙ e)))
    (ap (λ (x : Head). Ok (form, x)) fields)

pub returns-then-bytes-lt-HEADER_SIZE : goal.returns-then-bytes-lt-HEADER_SIZE
returns-then-bytes-lt-HEADER_SIZE c = ends_early c.args.bytes.now _ c.if-bytes-lt-SHORTEST_HEADER.false (cc) c.if-bytes-lt-HEADER_SIZE.true c.short-then-bytes-lt-HEADER_SIZE.ensures

pub returns-in_default : goal.returns-in_default
returns-in_default c = no_form c.args.bytes.now c.if-bytes-lt-SHORTEST_HEADER.false (cc) c.if-bytes-lt-HEADER_SIZE.false c.in_default.ensures

pub returns-then-head-eq0 : goal.returns-then-head-eq0
returns-then-head-eq0 c =
    no_block c.args.bytes.now c.in-Some.form c.head-head.result c.if-bytes-lt-SHORTEST_HEADER.false (cc) c.if-bytes-lt-HEADER_SIZE.false
    (sym c.in-Some.is ∙ c.known_form.ensures) c.head-head.ensures c.if-head-eq0.true

pub returns : goal.returns
returns c =
    is_read c.args.bytes.now c.in-Some.form c.head-head.result c.if-bytes-lt-SHORTEST_HEADER.false (cc) c.if-bytes-lt-HEADER_SIZE.false
    (sym c.in-Some.is ∙ c.known_form.ensures) c.head-head.ensures c.if-head-eq0.false
