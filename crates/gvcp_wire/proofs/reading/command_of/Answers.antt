-- A command that is long enough is read behind its key.
use Rattle.std.proofs.Common.{◌≡◌, ◌≢◌, ℕ, ◌≤◌, List, length, slice_index, Option, Some, None, Ok, Err, ap, sym, refl, ◌∙◌, option_map}
use Rattle.std.proofs.lemmas.Bool.{le-ltb, eq-eqb, ne_eqb}
use Rattle.std.proofs.lemmas.Result.{err_from_is_err_and}
use Rattle.wire_fields.specs.Fields.{number_at}
use Rattle.gvcp_wire.specs.declared.message.CommandHead.{CommandHead}
use Rattle.gvcp_wire.specs.declared.message.ControlError.{ControlError}
use Rattle.gvcp_wire.specs.declared.message.ControlError.TheVariants.{Key}
use Rattle.gvcp_wire.specs.Messages.{PlainCommand, view}
use Rattle.gvcp_wire.specs.Reading.{head_at, or_form, body_reading, body_seen, command_in, command_of, command_reading}
use Rattle.gvcp_wire.proofs.reading.command_of.Goals as goal

-- the fields of a header whose flags stand in these bytes
abbrev head_of : List ℕ → ℕ → ℕ → CommandHead
head_of bytes code req = record { flags = slice_index bytes 1; code = code; req = req }

keyed : (bytes : List ℕ) → 8 ≤ length bytes → slice_index bytes 0 ≡ 66 → command_reading bytes ≡ command_of (head_at bytes) (body_reading bytes)
keyed bytes long key = rw (le-ltb (length bytes) 8 long, eq-eqb (slice_index bytes 0) 66 key) refl

behind_key : (bytes body : List ℕ) (code req : ℕ) (found : Option PlainCommand) → 8 ≤ length bytes → slice_index bytes 0 ≡ 66 → Ok body ≡ body_reading bytes
    → code ≡ number_at 2 2 bytes → req ≡ number_at 6 2 bytes → found ≡ command_in (head_of bytes code req) body
    → or_form (head_of bytes code req) found ≡ command_reading bytes
behind_key bytes body code req found long key read is_code is_req is =
    ap (or_form (head_of bytes code req)) is
    ∙ ap (λ (n : ℕ). command_of (head_of bytes n req) (Ok body)) is_code
    ∙ ap (λ (n : ℕ). command_of (head_of bytes (number_at 2 2 bytes) n) (Ok body)) is_req
    ∙ ap (command_of (head_at bytes)) read
    ∙ sym (keyed bytes long key)

pub returns-in-Some : goal.returns-in-Some
returns-in-Some c =
    behind_key c.args.bytes.now c.in_ok-body.body.now c.u16_at.result c.u16_at-2.result (Some (view c.in-Some.command)) c.if-bytes-lt-HEADER_SIZE.false c.if-bytes-ne-KEY.false
    (ap body_seen (sym c.in_ok-body.was) ∙ c.body_of.ensures) c.u16_at.ensures c.u16_at-2.ensures (ap (option_map view) (sym c.in-Some.is) ∙ c.command_in.ensures)

pub returns-in-None : goal.returns-in-None
returns-in-None c =
    behind_key c.args.bytes.now c.in_ok-body.body.now c.u16_at.result c.u16_at-2.result None c.if-bytes-lt-HEADER_SIZE.false c.if-bytes-ne-KEY.false
    (ap body_seen (sym c.in_ok-body.was) ∙ c.body_of.ensures) c.u16_at.ensures c.u16_at-2.ensures (ap (option_map view) (sym c.in-None.is) ∙ c.command_in.ensures)

other_key : (bytes : List ℕ) → 8 ≤ length bytes → slice_index bytes 0 ≢ 66 → Err (Key (slice_index bytes 0)) ≡ command_reading bytes
other_key bytes long other = sym (rw (le-ltb (length bytes) 8 long, ne_eqb (slice_index bytes 0) 66 other) refl)

pub returns-then-bytes-ne-KEY : goal.returns-then-bytes-ne-KEY
returns-then-bytes-ne-KEY c = other_key c.args.bytes.now c.if-bytes-lt-HEADER_SIZE.false c.if-bytes-ne-KEY.true

refused_body : (bytes : List ℕ) (e : ControlError) → 8 ≤ length bytes → slice_index bytes 0 ≡ 66 → Err e ≡ body_reading bytes → Err e ≡ command_reading bytes
refused_body bytes e long key read = ap (command_of (head_at bytes)) read ∙ sym (keyed bytes long key)

pub returns-in_err-body : goal.returns-in_err-body
returns-in_err-body c =
    let p = err_from_is_err_and c.from_residual.result c.from_residual.ensures.1 in
    rw (p.1, p.2)
    (refused_body c.args.bytes.now c.in_err-body.field-0.0 c.if-bytes-lt-HEADER_SIZE.false c.if-bytes-ne-KEY.false (ap body_seen (sym c.in_err-body.was) ∙ c.body_of.ensures))
