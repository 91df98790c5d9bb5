-- Why a write is refused is what the causes say.
use Rattle.std.specs.Prelude.{◌↔◌}
use Rattle.std.specs.Option.{option_or}
use Rattle.std.proofs.Common.{◌≡◌, ℕ, ◌/◌, ◌%◌, ◌^◌, ◌<◌, ◌≤◌, true, ◌&&◌, cond, ltb, leb, eqb, inl, inr, Option, Some, None, refl, sym, subst, arith}
use Rattle.std.proofs.lemmas.Bool.{cond_both, and_parts, and_from, cases_lt, cases_eq, leb-true, le-leb, eqb-true, eqb-false, eq-eqb, ltb-true, ltb-false, lt-ltb}
use Rattle.gvcp_wire.specs.declared.status.Status.{Status}
use Rattle.gvcp_wire.specs.declared.status.Status.TheVariants.{InvalidParameter, InvalidAddress, WriteProtect, BadAlignment}
use Rattle.bootstrap_regs.specs.declared.table.Writable.TheVariants.{Between, PacketSize}
use Rattle.bootstrap_regs.specs.Registers.{is_packet_size, refused_by, value_refusal}
use Rattle.bootstrap_regs.specs.Words.{write_refusal}
use Rattle.bootstrap_regs.specs.Writables.{IsPacketSize, MayBeWritten, user_defined_name, heartbeat_timeout, privilege, stream_port, packet_size, packet_delay, destination, IsWritable, IsWordAddress, CauseOf}
use Rattle.bootstrap_regs.proofs.Tables.{IsElsewhere, protected_there, timeout_refusal, privilege_refusal, port_refusal, size_refusal, delay_refusal, destination_refusal, name_refusal}

-- why a value is refused or taken by the word at an address
abbrev Says : ℕ → ℕ → Option Status → Type 0
Says a v (Some WriteProtect) = IsWritable a → ⊥
Says a v (Some InvalidParameter) = IsWritable a × (MayBeWritten a v → ⊥)
Says a v None = MayBeWritten a v
Says a v (Some other) = ⊥

-- ---- values in a range

between_says : (a v least most : ℕ) → IsWritable a → (least ≤ v → v ≤ most → MayBeWritten a v) → (MayBeWritten a v → (least ≤ v) × (v ≤ most))
    → Says a v (refused_by (Between least most) v)
between_says a v least most w to from =
    cond_both (leb least v && leb v most) None (Some InvalidParameter) (Says a v)
    (λ e.
    let p = and_parts (leb least v) (leb v most) e in
    to (leb-true least v p.0) (leb-true v most p.1))
    (λ e. (
      w,
      λ m.
          let p = from m in
          cc (e, and_from (leb least v) (leb v most) (le-leb least v p.0) (le-leb v most p.1)),
    ))

timeout_values : (v : ℕ) → MayBeWritten 2360 v → (500 ≤ v) × (v ≤ 60000)
timeout_values v (user_defined_name low high) = absurd (omega arith)
timeout_values v (heartbeat_timeout is low high) = (low, high)
timeout_values v (privilege is high) = absurd (omega arith)
timeout_values v (stream_port is high) = absurd (omega arith)
timeout_values v (packet_size is size) = absurd (omega arith)
timeout_values v (packet_delay is) = absurd (omega arith)
timeout_values v (destination is) = absurd (omega arith)

privilege_values : (v : ℕ) → MayBeWritten 2560 v → (0 ≤ v) × (v ≤ 2)
privilege_values v (user_defined_name low high) = absurd (omega arith)
privilege_values v (heartbeat_timeout is low high) = absurd (omega arith)
privilege_values v (privilege is high) = (omega arith, high)
privilege_values v (stream_port is high) = absurd (omega arith)
privilege_values v (packet_size is size) = absurd (omega arith)
privilege_values v (packet_delay is) = absurd (omega arith)
privilege_values v (destination is) = absurd (omega arith)

port_values : (v : ℕ) → MayBeWritten 3328 v → (0 ≤ v) × (v ≤ 65535)
port_values v (user_defined_name low high) = absurd (omega arith)
port_values v (heartbeat_timeout is low high) = absurd (omega arith)
port_values v (privilege is high) = absurd (omega arith)
port_values v (stream_port is high) = (omega arith, high)
port_values v (packet_size is size) = absurd (omega arith)
port_values v (packet_delay is) = absurd (omega arith)
port_values v (destination is) = absurd (omega arith)

size_values : (v : ℕ) → MayBeWritten 3332 v → IsPacketSize v
size_values v (user_defined_name low high) = absurd (omega arith)
size_values v (heartbeat_timeout is low high) = absurd (omega arith)
size_values v (privilege is high) = absurd (omega arith)
size_values v (stream_port is high) = absurd (omega arith)
size_values v (packet_size is size) = size
size_values v (packet_delay is) = absurd (omega arith)
size_values v (destination is) = absurd (omega arith)

-- ---- packet sizes

size_passes : (v : ℕ) → is_packet_size v ≡ true → IsPacketSize v
size_passes v e =
    let below = ltb v (2 ^ 31) in
    let bits = eqb (v / 2 ^ 16 % 2 ^ 14) 0 in
    let least = leb 576 (v % 2 ^ 16) in
    let most = leb (v % 2 ^ 16) 9000 in
    let p = and_parts (below && bits && least) most e in
    let q = and_parts (below && bits) least p.0 in
    let r = and_parts below bits q.0 in
    let is_below : v < 2 ^ 31 = ltb-true v (2 ^ 31) r.0 in
    let no_bits : v / 2 ^ 16 % 2 ^ 14 ≡ 0 = eqb-true (v / 2 ^ 16 % 2 ^ 14) 0 r.1 in
    record {
      size = v % 2 ^ 16;
      do_not_fragment = v / 2 ^ 30;
      parts = omega arith;
      flag = omega arith;
      least = leb-true 576 (v % 2 ^ 16) q.1;
      most = leb-true (v % 2 ^ 16) 9000 p.1;
    }

size_tested : (v : ℕ) → IsPacketSize v → is_packet_size v ≡ true
size_tested v s =
    let below = ltb v (2 ^ 31) in
    let bits = eqb (v / 2 ^ 16 % 2 ^ 14) 0 in
    let least = leb 576 (v % 2 ^ 16) in
    let most = leb (v % 2 ^ 16) 9000 in
    and_from (below && bits && least) most
    (and_from (below && bits) least
    (and_from below bits
    (lt-ltb v (2 ^ 31) (omega (arith, s.parts, s.flag, s.most)))
    (eq-eqb (v / 2 ^ 16 % 2 ^ 14) 0 (omega (arith, s.parts, s.flag, s.most))))
    (le-leb 576 (v % 2 ^ 16) (omega (arith, s.parts, s.flag, s.least, s.most))))
    (le-leb (v % 2 ^ 16) 9000 (omega (arith, s.parts, s.flag, s.most)))

size_says : (v : ℕ) → Says 3332 v (refused_by PacketSize v)
size_says v =
    cond_both (is_packet_size v) None (Some InvalidParameter) (Says 3332 v)
    (λ e. packet_size refl (size_passes v e))
    (λ e. (
      (576, packet_size refl (record { size = 576; do_not_fragment = 0; parts = refl; flag = omega arith; least = omega arith; most = omega arith })),
      λ m. cc (e, size_tested v (size_values v m)),
    ))

-- ---- the value at each address

timeout_says : (v : ℕ) → Says 2360 v (value_refusal 2360 v)
timeout_says v =
    subst (Says 2360 v) (sym (timeout_refusal v))
    (between_says 2360 v 500 60000 (500, heartbeat_timeout refl (omega arith) (omega arith)) (heartbeat_timeout refl) (timeout_values v))

privilege_says : (v : ℕ) → Says 2560 v (value_refusal 2560 v)
privilege_says v =
    subst (Says 2560 v) (sym (privilege_refusal v))
    (between_says 2560 v 0 2 (0, privilege refl (omega arith)) (λ low high. privilege refl high) (privilege_values v))

port_says : (v : ℕ) → Says 3328 v (value_refusal 3328 v)
port_says v =
    subst (Says 3328 v) (sym (port_refusal v))
    (between_says 3328 v 0 65535 (0, stream_port refl (omega arith)) (λ low high. stream_port refl high) (port_values v))

written_nowhere : (a v : ℕ) → IsElsewhere a → MayBeWritten a v → ⊥
written_nowhere a v e (user_defined_name low high) = elim e.name [ inl below ↦ omega arith | inr above ↦ omega arith ]
written_nowhere a v e (heartbeat_timeout is low high) = e.timeout is
written_nowhere a v e (privilege is high) = e.privilege is
written_nowhere a v e (stream_port is high) = e.port is
written_nowhere a v e (packet_size is size) = e.size is
written_nowhere a v e (packet_delay is) = e.delay is
written_nowhere a v e (destination is) = e.destination is

elsewhere_says : (a v : ℕ) → IsElsewhere a → Says a v (value_refusal a v)
elsewhere_says a v e = subst (Says a v) (sym (protected_there a v e)) (λ w. written_nowhere a w.0 e w.1)

abbrev SaysAt : ℕ → ℕ → Type 0
SaysAt v a = Says a v (value_refusal a v)

says : (a v : ℕ) → a % 4 ≡ 0 → Says a v (value_refusal a v)
says a v aligned =
    elim (cases_eq a 2360) [
      | inl e ↦ subst (SaysAt v) (sym e) (timeout_says v)
      | inr timeout ↦ elim (cases_eq a 2560) [
        | inl e ↦ subst (SaysAt v) (sym e) (privilege_says v)
        | inr ccp ↦ elim (cases_eq a 3328) [
          | inl e ↦ subst (SaysAt v) (sym e) (port_says v)
          | inr port ↦ elim (cases_eq a 3332) [
            | inl e ↦ subst (SaysAt v) (sym e) (subst (Says 3332 v) (sym (size_refusal v)) (size_says v))
            | inr size ↦ elim (cases_eq a 3336) [
              | inl e ↦ subst (SaysAt v) (sym e) (subst (Says 3336 v) (sym (delay_refusal v)) (packet_delay refl))
              | inr delay ↦ elim (cases_eq a 3352) [
                | inl e ↦ subst (SaysAt v) (sym e) (subst (Says 3352 v) (sym (destination_refusal v)) (destination refl))
                | inr address ↦ elim (cases_lt a 232) [
                  | inl below ↦ elsewhere_says a v (record { aligned = aligned; name = inl below; timeout = timeout; privilege = ccp; port = port; size = size; delay = delay; destination = address })
                  | inr from ↦ elim (cases_lt a 248) [
                    | inl inside ↦ subst (Says a v) (sym (name_refusal a v aligned from inside)) (user_defined_name from inside)
                    | inr above ↦ elsewhere_says a v (record { aligned = aligned; name = inr above; timeout = timeout; privilege = ccp; port = port; size = size; delay = delay; destination = address })
                  ]
                ]
              ]
            ]
          ]
        ]
      ]
    ]

-- ---- the cause of each answer

word_cause : (a v : ℕ) → IsWordAddress a → (r : Option Status) → Says a v r → CauseOf a v r
word_cause a v w (Some WriteProtect) h = (w, h)
word_cause a v w (Some InvalidParameter) h = (w, h.0, h.1)
word_cause a v w None h = (w, h)
word_cause a v w (Some other) h = absurd h

cause : (a v : ℕ) → CauseOf a v (write_refusal a v)
cause a v =
    let P : Option Status → Type 0 = λ o. CauseOf a v (option_or o (value_refusal a v)) in
    cond_both (eqb (a % 4) 0) (cond (ltb a 3392) None (Some InvalidAddress)) (Some BadAlignment) P
    (λ e.
    let aligned = eqb-true (a % 4) 0 e in
    cond_both (ltb a 3392) None (Some InvalidAddress) P
    (λ b. word_cause a v (record { aligned = aligned; inside = ltb-true a 3392 b }) (value_refusal a v) (says a v aligned))
    (λ b. (aligned, ltb-false a 3392 b)))
    (λ n. eqb-false (a % 4) 0 n)

is_alignment : (a v : ℕ) (r : Option Status) → CauseOf a v r → CauseOf a v (Some BadAlignment) → r ≡ Some BadAlignment
is_alignment a v (Some BadAlignment) c h = refl
is_alignment a v (Some InvalidAddress) c h = absurd (h c.0)
is_alignment a v (Some WriteProtect) c h = absurd (h c.0.aligned)
is_alignment a v (Some InvalidParameter) c h = absurd (h c.0.aligned)
is_alignment a v None c h = absurd (h c.0.aligned)
is_alignment a v (Some other) c h = absurd c

is_address : (a v : ℕ) (r : Option Status) → CauseOf a v r → CauseOf a v (Some InvalidAddress) → r ≡ Some InvalidAddress
is_address a v (Some BadAlignment) c h = absurd (c h.0)
is_address a v (Some InvalidAddress) c h = refl
is_address a v (Some WriteProtect) c h = absurd (omega (arith, c.0.inside, h.1))
is_address a v (Some InvalidParameter) c h = absurd (omega (arith, c.0.inside, h.1))
is_address a v None c h = absurd (omega (arith, c.0.inside, h.1))
is_address a v (Some other) c h = absurd c

is_protection : (a v : ℕ) (r : Option Status) → CauseOf a v r → CauseOf a v (Some WriteProtect) → r ≡ Some WriteProtect
is_protection a v (Some BadAlignment) c h = absurd (c h.0.aligned)
is_protection a v (Some InvalidAddress) c h = absurd (omega (arith, c.1, h.0.inside))
is_protection a v (Some WriteProtect) c h = refl
is_protection a v (Some InvalidParameter) c h = absurd (h.1 c.1)
is_protection a v None c h = absurd (h.1 (v, c.1))
is_protection a v (Some other) c h = absurd c

is_value : (a v : ℕ) (r : Option Status) → CauseOf a v r → CauseOf a v (Some InvalidParameter) → r ≡ Some InvalidParameter
is_value a v (Some BadAlignment) c h = absurd (c h.0.aligned)
is_value a v (Some InvalidAddress) c h = absurd (omega (arith, c.1, h.0.inside))
is_value a v (Some WriteProtect) c h = absurd (c.1 h.1)
is_value a v (Some InvalidParameter) c h = refl
is_value a v None c h = absurd (h.2 c.1)
is_value a v (Some other) c h = absurd c

is_done : (a v : ℕ) (r : Option Status) → CauseOf a v r → CauseOf a v None → r ≡ None
is_done a v (Some BadAlignment) c h = absurd (c h.0.aligned)
is_done a v (Some InvalidAddress) c h = absurd (omega (arith, c.1, h.0.inside))
is_done a v (Some WriteProtect) c h = absurd (c.1 (v, h.1))
is_done a v (Some InvalidParameter) c h = absurd (c.2 h.1)
is_done a v None c h = refl
is_done a v (Some other) c h = absurd c

refused_for : (a v : ℕ) (r : Option Status) → CauseOf a v r → write_refusal a v ≡ r
refused_for a v (Some BadAlignment) h = is_alignment a v (write_refusal a v) (cause a v) h
refused_for a v (Some InvalidAddress) h = is_address a v (write_refusal a v) (cause a v) h
refused_for a v (Some WriteProtect) h = is_protection a v (write_refusal a v) (cause a v) h
refused_for a v (Some InvalidParameter) h = is_value a v (write_refusal a v) (cause a v) h
refused_for a v None h = is_done a v (write_refusal a v) (cause a v) h
refused_for a v (Some other) h = absurd h

pub has_cause : (a v : ℕ) (r : Option Status) → (write_refusal a v ≡ r) ↔ CauseOf a v r
has_cause a v r = (λ e. subst (CauseOf a v) e (cause a v), refused_for a v r)
