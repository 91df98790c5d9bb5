-- What is read of the body of PACKETRESEND is what the relation says.
use Rattle.std.specs.Prelude.{◌↔◌}
use Rattle.std.proofs.Common.{◌≡◌, ◌⊎◌, ℕ, Bool, true, false, ◌&&◌, cond, eqb, List, [], length, Option, Some, None, refl, ap, subst, ◌∙◌, arith, inl, inr, length-drop, drop_of_length-le}
use Rattle.std.proofs.lemmas.Bool.{cond_both, eqb-true, eqb-false, eq-eqb, ne_eqb}
use Rattle.wire_fields.specs.Fields.{number_at}
use Rattle.wire_fields.proofs.InOrder.{fields_read, fields_made}
use Rattle.gvcp_wire.specs.declared.message.CommandHead.{CommandHead}
use Rattle.gvcp_wire.specs.Flags.{has_flag}
use Rattle.gvcp_wire.specs.declared.resend.Resend.{Resend}
use Rattle.gvcp_wire.specs.Bodies.{resend_fields, IsResendBody, IsResend, IsNoResend, no_resend, standard_ids, no_resend_size}
use Rattle.gvcp_wire.specs.BodyReading.{resend_at, resend_reading}
use Rattle.gvcp_wire.specs.BodyLaws.{ReadsResend}

-- ---- the body

body_at : (body : List ℕ) → length body ≡ 20 → IsResendBody body (resend_at body)
body_at body whole = record {
  reserved = number_at 2 2 body;
  fields =
      fields_made 0 (resend_fields (number_at 2 2 body) (resend_at body)) [] body
      (omega arith, refl, (omega arith, refl, (omega arith, refl, (omega arith, refl, (omega arith, refl, drop_of_length-le body {i = 20} (omega arith))))));
}

record HasParts (body : List ℕ) (resend : Resend) : Type 0 where
  pub whole : length body ≡ 20
  pub resend_is : resend_at body ≡ resend

same_resend : (r s : Resend) → r.channel ≡ s.channel → r.first ≡ s.first → r.last ≡ s.last → r.block ≡ s.block → r ≡ s
same_resend r s p q t u =
    let of_parts : ℕ → ℕ → ℕ → ℕ → Resend = λ channel first last block. record { channel = channel; first = first; last = last; block = block } in
    ap (λ (n : ℕ). of_parts n r.first r.last r.block) p
    ∙ ap (λ (n : ℕ). of_parts s.channel n r.last r.block) q
    ∙ ap (λ (n : ℕ). of_parts s.channel s.first n r.block) t
    ∙ ap (λ (n : ℕ). of_parts s.channel s.first s.last n) u

parts_of : (body : List ℕ) (resend : Resend) → IsResendBody body resend → HasParts body resend
parts_of body resend h =
    let (channel_fits, channel_is, (reserved_fits, reserved_is, (first_fits, first_is, (last_fits, last_is, (block_fits, block_is, rest_is))))) =
    fields_read 0 (resend_fields h.reserved resend) [] body h.fields in
    record {
      whole = omega (arith, block_fits, ap length rest_is, length-drop 20 body);
      resend_is = same_resend (resend_at body) resend channel_is first_is last_is block_is;
    }

-- ---- the reading

all_three : (x y z : Bool) → (x && y && z) ≡ true → (x ≡ true) × (y ≡ true) × (z ≡ true)
all_three true true true h = (refl, refl, refl)
all_three true true false h = absurd cc
all_three true false z h = absurd cc
all_three false y z h = absurd cc

not_all : (x y z : Bool) → (x && y && z) ≡ false → (x ≡ false) ⊎ ((y ≡ false) ⊎ (z ≡ false))
not_all true true true h = absurd cc
not_all true true false h = inr (inr refl)
not_all true false z h = inr (inl refl)
not_all false y z h = inl refl

abbrev Says : CommandHead → List ℕ → Option Resend → Type 0
Says head body (Some resend) = IsResend head body resend
Says head body None = IsNoResend head body

says : (head : CommandHead) (body : List ℕ) → Says head body (resend_reading head body)
says head body =
    let code = eqb head.code 64 in
    let flag = has_flag 0x10 head.flags in
    let size = eqb (length body) 20 in
    cond_both (code && flag && size) (Some (resend_at body)) None (Says head body)
    (λ e.
    let t = all_three code flag size e in
    record { code = eqb-true head.code 64 t.0; extended = t.1; spelled = body_at body (eqb-true (length body) 20 t.2) })
    (λ e. elim (not_all code flag size e) [
      | inl c ↦ no_resend (eqb-false head.code 64 c)
      | inr other ↦ elim other [ inl f ↦ standard_ids f | inr s ↦ no_resend_size (eqb-false (length body) 20 s) ]
    ])

abbrev read_if : Bool → Bool → Bool → Resend → Option Resend
read_if code flag size resend = cond (code && flag && size) (Some resend) None

reads : (head : CommandHead) (body : List ℕ) (resend : Resend) → IsResend head body resend → resend_reading head body ≡ Some resend
reads head body resend h =
    let p = parts_of body resend h.spelled in
    let flag = has_flag 0x10 head.flags in
    let size = eqb (length body) 20 in
    ap (λ (b : Bool). read_if b flag size (resend_at body)) (eq-eqb head.code 64 h.code)
    ∙ ap (λ (b : Bool). read_if true b size (resend_at body)) h.extended
    ∙ ap (λ (b : Bool). read_if true true b (resend_at body)) (eq-eqb (length body) 20 p.whole)
    ∙ ap (read_if true true true) p.resend_is

none_without_flag : (code size : Bool) (resend : Resend) → read_if code false size resend ≡ None
none_without_flag true size resend = refl
none_without_flag false size resend = refl

none_without_size : (code flag : Bool) (resend : Resend) → read_if code flag false resend ≡ None
none_without_size true true resend = refl
none_without_size true false resend = refl
none_without_size false flag resend = refl

reads_none : (head : CommandHead) (body : List ℕ) → IsNoResend head body → resend_reading head body ≡ None
reads_none head body (no_resend n) = rw (ne_eqb head.code 64 n) refl
reads_none head body (standard_ids f) =
    let code = eqb head.code 64 in
    let size = eqb (length body) 20 in
    ap (λ (b : Bool). read_if code b size (resend_at body)) f ∙ none_without_flag code size (resend_at body)
reads_none head body (no_resend_size n) =
    let code = eqb head.code 64 in
    let flag = has_flag 0x10 head.flags in
    ap (λ (b : Bool). read_if code flag b (resend_at body)) (ne_eqb (length body) 20 n) ∙ none_without_size code flag (resend_at body)

-- ---- the law

pub reads_resend : (head : CommandHead) (body : List ℕ) → ReadsResend head body
reads_resend head body = record {
  given = λ resend. (λ e. subst (Says head body) e (says head body), reads head body resend);
  none = (λ e. subst (Says head body) e (says head body), reads_none head body);
}

-- what a function gave whose answer is the reading
pub given_by : (head : CommandHead) (body : List ℕ) (r : Option Resend) → r ≡ resend_reading head body → (resend : Resend) → (r ≡ Some resend) ↔ IsResend head body resend
given_by head body r e resend = rw e ((reads_resend head body).given resend)

pub none_by : (head : CommandHead) (body : List ℕ) (r : Option Resend) → r ≡ resend_reading head body → (r ≡ None) ↔ IsNoResend head body
none_by head body r e = rw e (reads_resend head body).none
