-- What is read of the body of PENDING is what the relation says.
use Rattle.std.specs.Prelude.{◌↔◌}
use Rattle.std.proofs.Common.{◌≡◌, ℕ, Bool, true, false, ◌&&◌, cond, eqb, List, [], length, Option, Some, None, refl, ap, subst, ◌∙◌, arith, inl, inr, length-drop, drop_of_length-le}
use Rattle.std.proofs.lemmas.Bool.{cond_both, and_parts, and_cases, eqb-true, eqb-false, eq-eqb, ne_eqb}
use Rattle.wire_fields.specs.Fields.{number_at}
use Rattle.wire_fields.proofs.InOrder.{fields_read, fields_made}
use Rattle.gvcp_wire.specs.Messages.{PlainAck}
use Rattle.gvcp_wire.specs.Bodies.{pending_fields, IsPendingBody, IsPending, IsNoPending, no_pending, no_pending_size}
use Rattle.gvcp_wire.specs.BodyReading.{pending_reading}
use Rattle.gvcp_wire.specs.BodyLaws.{ReadsPending}

-- ---- the body

body_at : (body : List ℕ) → length body ≡ 4 → IsPendingBody body (number_at 2 2 body)
body_at body whole = record {
  reserved = number_at 0 2 body;
  fields =
      fields_made 0 (pending_fields (number_at 0 2 body) (number_at 2 2 body)) [] body
      (omega arith, refl, (omega arith, refl, drop_of_length-le body {i = 4} (omega arith)));
}

record HasParts (body : List ℕ) (time : ℕ) : Type 0 where
  pub whole : length body ≡ 4
  pub time_is : number_at 2 2 body ≡ time

parts_of : (body : List ℕ) (time : ℕ) → IsPendingBody body time → HasParts body time
parts_of body time h =
    let (reserved_fits, reserved_is, (time_fits, time_is, rest_is)) = fields_read 0 (pending_fields h.reserved time) [] body h.fields in
    record { whole = omega (arith, time_fits, ap length rest_is, length-drop 4 body); time_is = time_is }

-- ---- the reading

abbrev Says : PlainAck → Option ℕ → Type 0
Says ack (Some time) = IsPending ack time
Says ack None = IsNoPending ack

says : (ack : PlainAck) → Says ack (pending_reading ack)
says ack =
    let code = eqb ack.code 137 in
    let size = eqb (length ack.body) 4 in
    cond_both (code && size) (Some (number_at 2 2 ack.body)) None (Says ack)
    (λ e.
    let t = and_parts code size e in
    record { code = eqb-true ack.code 137 t.0; spelled = body_at ack.body (eqb-true (length ack.body) 4 t.1) })
    (λ e. elim (and_cases code size e) [
      | inl c ↦ no_pending (eqb-false ack.code 137 c)
      | inr s ↦ no_pending_size (eqb-false (length ack.body) 4 s)
    ])

abbrev read_if : Bool → Bool → ℕ → Option ℕ
read_if code size time = cond (code && size) (Some time) None

reads : (ack : PlainAck) (time : ℕ) → IsPending ack time → pending_reading ack ≡ Some time
reads ack time h =
    let p = parts_of ack.body time h.spelled in
    let size = eqb (length ack.body) 4 in
    ap (λ (b : Bool). read_if b size (number_at 2 2 ack.body)) (eq-eqb ack.code 137 h.code)
    ∙ ap (λ (b : Bool). read_if true b (number_at 2 2 ack.body)) (eq-eqb (length ack.body) 4 p.whole)
    ∙ ap (read_if true true) p.time_is

none_without_size : (code : Bool) (time : ℕ) → read_if code false time ≡ None
none_without_size true time = refl
none_without_size false time = refl

reads_none : (ack : PlainAck) → IsNoPending ack → pending_reading ack ≡ None
reads_none ack (no_pending n) = rw (ne_eqb ack.code 137 n) refl
reads_none ack (no_pending_size n) =
    let code = eqb ack.code 137 in
    ap (λ (b : Bool). read_if code b (number_at 2 2 ack.body)) (ne_eqb (length ack.body) 4 n) ∙ none_without_size code (number_at 2 2 ack.body)

-- ---- the law

pub reads_pending : (ack : PlainAck) → ReadsPending ack
reads_pending ack = record {
  given = λ time. (λ e. subst (Says ack) e (says ack), reads ack time);
  none = (λ e. subst (Says ack) e (says ack), reads_none ack);
}

-- what a function gave whose answer is the reading
pub given_by : (ack : PlainAck) (r : Option ℕ) → r ≡ pending_reading ack → (time : ℕ) → (r ≡ Some time) ↔ IsPending ack time
given_by ack r e time = rw e ((reads_pending ack).given time)

pub none_by : (ack : PlainAck) (r : Option ℕ) → r ≡ pending_reading ack → (r ≡ None) ↔ IsNoPending ack
none_by ack r e = rw e (reads_pending ack).none
