-- The three forms and their packet formats.
use Rattle.std.proofs.Common.{◌≡◌, ℕ, ◌≤◌, ◌<◌, Option, Some, None, refl, sym, inl, inr, arith}
use Rattle.std.specs.Prelude.{◌⊎◌}
use Rattle.std.proofs.lemmas.Bool.{cases_eq, eq-eqb, ne_eqb}
use Rattle.gvsp_wire.specs.declared.form.Form.{Form}
use Rattle.gvsp_wire.specs.declared.form.Form.TheVariants.{Leader, Trailer, Payload}
use Rattle.gvsp_wire.specs.Wire.{IsFormat, IsId}
use Rattle.gvsp_wire.specs.Reading.{form_of}

abbrev pub code : Form → ℕ
code Leader = 1
code Trailer = 2
code Payload = 3

pub code_known : (form : Form) → IsFormat (code form)
code_known Leader = inl refl
code_known Trailer = inr (inl refl)
code_known Payload = inr (inr refl)

abbrev some_form : Form → Option Form
some_form form = Some form

abbrev pub KnownForm : ℕ → Type 0
KnownForm f = (form : Form) × (form_of f ≡ some_form form) × (code form ≡ f)

abbrev pub UnknownForm : ℕ → Type 0
UnknownForm f = (form_of f ≡ None) × (IsFormat f → ⊥)

pub form_cases : (f : ℕ) → KnownForm f ⊎ UnknownForm f
form_cases f =
    elim (cases_eq f 1) [
      | inl e1 ↦ inl (Leader, rw (eq-eqb f 1 e1) refl, sym e1)
      | inr n1 ↦ elim (cases_eq f 2) [
        | inl e2 ↦ inl (Trailer, rw (ne_eqb f 1 n1, eq-eqb f 2 e2) refl, sym e2)
        | inr n2 ↦ elim (cases_eq f 3) [
          | inl e3 ↦ inl (Payload, rw (ne_eqb f 1 n1, ne_eqb f 2 n2, eq-eqb f 3 e3) refl, sym e3)
          | inr n3 ↦ inr (
            rw (ne_eqb f 1 n1, ne_eqb f 2 n2, ne_eqb f 3 n3) refl,
            λ k. elim k [
              | inl a ↦ n1 a
              | inr b ↦ elim b [ inl a ↦ n2 a | inr a ↦ n3 a ]
            ],
          )
        ]
      ]
    ]

-- a known format has a form
pub known_form : (f : ℕ) → IsFormat f → KnownForm f
known_form f k = elim (form_cases f) [ inl known ↦ known | inr unknown ↦ absurd (unknown.1 k) ]

pub unknown_form : (f : ℕ) → (IsFormat f → ⊥) → form_of f ≡ None
unknown_form f n =
    elim (form_cases f) [
      | inl known ↦ absurd (n (rw (← known.2) (code_known known.0)))
      | inr unknown ↦ unknown.0
    ]

pub is_leader : (form : Form) → code form ≡ 1 → form ≡ Leader
is_leader Leader e = refl
is_leader Trailer e = absurd (omega arith)
is_leader Payload e = absurd (omega arith)

pub is_trailer : (form : Form) → code form ≡ 2 → form ≡ Trailer
is_trailer Leader e = absurd (omega arith)
is_trailer Trailer e = refl
is_trailer Payload e = absurd (omega arith)

pub is_payload : (form : Form) → code form ≡ 3 → form ≡ Payload
is_payload Leader e = absurd (omega arith)
is_payload Trailer e = absurd (omega arith)
is_payload Payload e = refl

-- ---- the packet id that a form asks for

pub leader_id : (id : ℕ) → id ≡ 0 → IsId 1 id
leader_id id e = (λ f. e, λ f. refl)

pub other_id : (f id : ℕ) → 1 < f → 1 ≤ id → IsId f id
other_id f id above one = (λ e. absurd (omega arith), λ e. absurd (omega arith))

pub leader_not_id : (id : ℕ) → (IsId 1 id → ⊥) → id ≡ 0 → ⊥
leader_not_id id n e = n (leader_id id e)

pub other_not_id : (f id : ℕ) → 1 < f → (IsId f id → ⊥) → id ≡ 0
other_not_id f id above n =
    elim (cases_eq id 0) [ inl e ↦ e | inr ne ↦ absurd (n (other_id f id above (omega (arith, ne)))) ]

pub not_leader : (f id : ℕ) → 1 < f → IsId f id → id ≡ 0 → ⊥
not_leader f id above is e = let one : f ≡ 1 = is.1 e in omega arith
