-- What the table says of writes, address by address.
use Rattle.std.specs.Prelude.{find}
use Rattle.std.proofs.Common.{◌≡◌, ◌≢◌, ◌⊎◌, inl, inr, ℕ, ◌+◌, ◌-◌, ◌*◌, ◌/◌, ◌%◌, ◌<◌, ◌≤◌, Bool, true, false, ◌&&◌, ltb, leb, List, [], ◌∷◌, Option, Some, None, refl, ap, ◌∙◌, arith}
use Rattle.std.proofs.lemmas.Bool.{cond_both, cases_lt, cases_eq, lt-leb, le-ltb}
use Rattle.gvcp_wire.specs.declared.status.Status.TheVariants.{WriteProtect}
use Rattle.bootstrap_regs.specs.declared.table.Writable.TheVariants.{No, Between, PacketSize}
use Rattle.bootstrap_regs.specs.declared.table.Register.{Register}
use Rattle.bootstrap_regs.specs.Table.{TABLE}
use Rattle.bootstrap_regs.specs.Registers.{covers, register_at, refused_by, refused_in, value_refusal}

-- ---- registers that can't be written

-- the register can't be written, or lies elsewhere
abbrev KeepsOut : ℕ → Register → Type 0
KeepsOut a r = (r.writable ≡ No) ⊎ (covers r a ≡ false)

abbrev AllKeepOut : ℕ → List Register → Type 0
AllKeepOut a [] = Unit {0}
AllKeepOut a (r ∷ rs) = KeepsOut a r × AllKeepOut a rs

one_more : (a v : ℕ) (r : Register) (rs : List Register) → KeepsOut a r → refused_in (find (λ s. covers s a) rs) v ≡ Some WriteProtect
    → refused_in (find (λ s. covers s a) (r ∷ rs)) v ≡ Some WriteProtect
one_more a v r rs (inl locked) more =
    cond_both (covers r a) (Some r) (find (λ s. covers s a) rs) (λ (o : Option Register). refused_in o v ≡ Some WriteProtect)
    (λ there. ap (λ w. refused_by w v) locked)
    (λ elsewhere. more)
one_more a v r rs (inr elsewhere) more = rw elsewhere more

kept_out : (a v : ℕ) (rs : List Register) → AllKeepOut a rs → refused_in (find (λ s. covers s a) rs) v ≡ Some WriteProtect
kept_out a v [] h = refl
kept_out a v (r ∷ rs) h = one_more a v r rs h.0 (kept_out a v rs h.1)

-- ---- addresses where no writable register lies

and_last : (b : Bool) → (b && false) ≡ false
and_last true = refl
and_last false = refl

missed : (from words a : ℕ) → (a < from) ⊎ (from + 4 * words ≤ a) → (leb from a && ltb ((a - from) / 4) words) ≡ false
missed from words a (inl below) = rw (lt-leb from a below) refl
missed from words a (inr above) =
    let far : ltb ((a - from) / 4) words ≡ false = le-ltb ((a - from) / 4) words (omega arith) in
    rw far (and_last (leb from a))

apart : (from a : ℕ) → from % 4 ≡ 0 → a % 4 ≡ 0 → a ≢ from → (a < from) ⊎ (from + 4 * 1 ≤ a)
apart from a p q n = elim (cases_lt a from) [ inl lt ↦ inl lt | inr ge ↦ inr (omega (arith, n)) ]

pub record IsElsewhere (a : ℕ) : Type 0 where
  pub aligned : a % 4 ≡ 0
  pub name : (a < 232) ⊎ (248 ≤ a)
  pub timeout : a ≢ 2360
  pub privilege : a ≢ 2560
  pub port : a ≢ 3328
  pub size : a ≢ 3332
  pub delay : a ≢ 3336
  pub destination : a ≢ 3352

other_registers : (a : ℕ) → IsElsewhere a → AllKeepOut a TABLE
other_registers a e = (
  inl refl,
  (
    inl refl,
    (
      inl refl,
      (
        inl refl,
        (
          inl refl,
          (
            inl refl,
            (
              inl refl,
              (
                inl refl,
                (
                  inl refl,
                  (
                    inl refl,
                    (
                      inl refl,
                      (
                        inl refl,
                        (
                          inl refl,
                          (
                            inl refl,
                            (
                              inr (missed 232 4 a e.name),
                              (
                                inl refl,
                                (
                                  inl refl,
                                  (
                                    inl refl,
                                    (
                                      inl refl,
                                      (
                                        inl refl,
                                        (
                                          inl refl,
                                          (
                                            inr (missed 2360 1 a (apart 2360 a refl e.aligned e.timeout)),
                                            (
                                              inr (missed 2560 1 a (apart 2560 a refl e.aligned e.privilege)),
                                              (
                                                inr (missed 3328 1 a (apart 3328 a refl e.aligned e.port)),
                                                (
                                                  inr (missed 3332 1 a (apart 3332 a refl e.aligned e.size)),
                                                  (
                                                    inr (missed 3336 1 a (apart 3336 a refl e.aligned e.delay)),
                                                    (inr (missed 3352 1 a (apart 3352 a refl e.aligned e.destination)), tt),
                                                  ),
                                                ),
                                              ),
                                            ),
                                          ),
                                        ),
                                      ),
                                    ),
                                  ),
                                ),
                              ),
                            ),
                          ),
                        ),
                      ),
                    ),
                  ),
                ),
              ),
            ),
          ),
        ),
      ),
    ),
  ),
)

pub protected_there : (a v : ℕ) → IsElsewhere a → value_refusal a v ≡ Some WriteProtect
unfolding register_at
protected_there a v e = kept_out a v TABLE (other_registers a e)

-- ---- addresses of writable registers

pub timeout_refusal : (v : ℕ) → value_refusal 2360 v ≡ refused_by (Between 500 60000) v
unfolding register_at
timeout_refusal v = refl

pub privilege_refusal : (v : ℕ) → value_refusal 2560 v ≡ refused_by (Between 0 2) v
unfolding register_at
privilege_refusal v = refl

pub port_refusal : (v : ℕ) → value_refusal 3328 v ≡ refused_by (Between 0 65535) v
unfolding register_at
port_refusal v = refl

pub size_refusal : (v : ℕ) → value_refusal 3332 v ≡ refused_by PacketSize v
unfolding register_at
size_refusal v = refl

pub delay_refusal : (v : ℕ) → value_refusal 3336 v ≡ None
unfolding register_at
delay_refusal v = refl

pub destination_refusal : (v : ℕ) → value_refusal 3352 v ≡ None
unfolding register_at
destination_refusal v = refl

first_of_name : (v : ℕ) → value_refusal 232 v ≡ None
unfolding register_at
first_of_name v = refl

second_of_name : (v : ℕ) → value_refusal 236 v ≡ None
unfolding register_at
second_of_name v = refl

third_of_name : (v : ℕ) → value_refusal 240 v ≡ None
unfolding register_at
third_of_name v = refl

last_of_name : (v : ℕ) → value_refusal 244 v ≡ None
unfolding register_at
last_of_name v = refl

pub name_refusal : (a v : ℕ) → a % 4 ≡ 0 → 232 ≤ a → a < 248 → value_refusal a v ≡ None
name_refusal a v aligned low high =
    elim (cases_eq a 232) [
      | inl e ↦ ap (λ n. value_refusal n v) e ∙ first_of_name v
      | inr n1 ↦ elim (cases_eq a 236) [
        | inl e ↦ ap (λ n. value_refusal n v) e ∙ second_of_name v
        | inr n2 ↦ elim (cases_eq a 240) [
          | inl e ↦ ap (λ n. value_refusal n v) e ∙ third_of_name v
          | inr n3 ↦
              let e : a ≡ 244 = omega (arith, n1, n2, n3) in
              ap (λ n. value_refusal n v) e ∙ last_of_name v
        ]
      ]
    ]
