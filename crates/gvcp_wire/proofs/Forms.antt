-- The form of a command's body, as the table of commands says it and as the parser tests it.
use Rattle.std.specs.Prelude.{◌==◌}
use Rattle.std.proofs.Common.{◌≡◌, ◌≢◌, ℕ, ◌*◌, ◌/◌, ◌≤◌, Bool, true, false, ◌&&◌, ltb, leb, eqb, ◌%◌, inl, inr, List, length, drop, Option, Some, None, refl, ap, subst, ◌∙◌, arith}
use Rattle.std.proofs.lemmas.Bool.{cond_both, and_parts, and_from, eqb-true, eqb-false, eq-eqb, ne_eqb, leb-true, le-leb, ltb-false, le-ltb, cases_eq}
use Rattle.std.proofs.lemmas.List.{nil_from_length}
use Rattle.wire_fields.specs.Fields.{number_at}
use Rattle.gvcp_wire.specs.declared.message.CommandHead.{CommandHead}
use Rattle.gvcp_wire.specs.Items.{AreItems}
use Rattle.gvcp_wire.specs.Flags.{has_flag}
use Rattle.gvcp_wire.specs.Messages.{PlainCommand, read_reg, write_reg, read_mem, write_mem, other}
use Rattle.gvcp_wire.specs.Control.{IsOther, discovery, packet_resend, unknown, IsReadMem, IsWriteMem, IsInTable, IsBody, HasForm}
use Rattle.gvcp_wire.specs.Reading.{are_items, given_if, is_other, read_reg_in, write_reg_in, read_mem_in, write_mem_in, other_in, in_table, command_in}
use Rattle.gvcp_wire.proofs.Pieces.{read_mem_at, reads_mem, write_mem_at, writes_mem}

-- ---- items of one size

three : (x y z : Bool) → (x && y && z) ≡ true → (x ≡ true) × (y ≡ true) × (z ≡ true)
three true true true h = (refl, refl, refl)
three true true false h = absurd cc
three true false z h = absurd cc
three false y z h = absurd cc

three_from : (x y z : Bool) → x ≡ true → y ≡ true → z ≡ true → (x && y && z) ≡ true
three_from x y z p q r = rw (p, q, r) refl

pub words_are : (most : ℕ) (bytes : List ℕ) → are_items 4 most bytes ≡ true → AreItems 4 most bytes
words_are most bytes h =
    let n = length bytes in
    let t = three (leb 1 n) (leb n (4 * most)) (eqb (n % 4) 0) h in
    let some = leb-true 1 n t.0 in
    let few = leb-true n (4 * most) t.1 in
    let whole = eqb-true (n % 4) 0 t.2 in
    record { count = n / 4; some = omega arith; few = omega arith; whole = omega arith }

pub are_words : (most : ℕ) (bytes : List ℕ) → AreItems 4 most bytes → are_items 4 most bytes ≡ true
are_words most bytes h =
    let n = length bytes in
    three_from (leb 1 n) (leb n (4 * most)) (eqb (n % 4) 0)
    (le-leb 1 n (omega (arith, h.some, h.whole)))
    (le-leb n (4 * most) (omega (arith, h.few, h.whole)))
    (eq-eqb (n % 4) 0 (omega (arith, h.whole)))

pub pairs_are : (most : ℕ) (bytes : List ℕ) → are_items 8 most bytes ≡ true → AreItems 8 most bytes
pairs_are most bytes h =
    let n = length bytes in
    let t = three (leb 1 n) (leb n (8 * most)) (eqb (n % 8) 0) h in
    let some = leb-true 1 n t.0 in
    let few = leb-true n (8 * most) t.1 in
    let whole = eqb-true (n % 8) 0 t.2 in
    record { count = n / 8; some = omega arith; few = omega arith; whole = omega arith }

pub are_pairs : (most : ℕ) (bytes : List ℕ) → AreItems 8 most bytes → are_items 8 most bytes ≡ true
are_pairs most bytes h =
    let n = length bytes in
    three_from (leb 1 n) (leb n (8 * most)) (eqb (n % 8) 0)
    (le-leb 1 n (omega (arith, h.some, h.whole)))
    (le-leb n (8 * most) (omega (arith, h.few, h.whole)))
    (eq-eqb (n % 8) 0 (omega (arith, h.whole)))

-- ---- from the tests to the table

-- what a parser found in the body has the body's form
abbrev Forms : CommandHead → List ℕ → Option PlainCommand → Type 0
Forms head body None = Unit {0}
Forms head body (Some command) = HasForm head body command

forms_if : (head : CommandHead) (body : List ℕ) (allowed : Bool) (command : PlainCommand) → (allowed ≡ true → HasForm head body command) → Forms head body (given_if allowed command)
forms_if head body allowed command h = cond_both allowed (Some command) None (Forms head body) h (λ _. tt)

resend_forms : (head : CommandHead) (body : List ℕ) → length body ≤ 540 → head.code ≡ 64
    → ((length body == 20) && has_flag 0x10 head.flags) ≡ true → HasForm head body (other head.code body)
resend_forms head body fits is h =
    let p = and_parts (length body == 20) (has_flag 0x10 head.flags) h in
    record { fits = fits; allowed = (refl, packet_resend is (eqb-true (length body) 20 p.0) p.1); spelled = refl }

other_forms : (head : CommandHead) (body : List ℕ) → length body ≤ 540 → head.code ≢ 128 → head.code ≢ 130 → head.code ≢ 132 → head.code ≢ 134 → Forms head body (other_in head body)
other_forms head body fits n1 n2 n3 n4 =
    let made : IsOther head body → HasForm head body (other head.code body) = λ (o : IsOther head body). record { fits = fits; allowed = (refl, o); spelled = refl } in
    forms_if head body (is_other head body) (other head.code body)
    (λ h. elim (cases_eq head.code 2) [
      | inl is ↦ made (discovery is (nil_from_length body (eqb-true (length body) 0 (rw is at h))))
      | inr isnt ↦ elim (cases_eq head.code 64) [
        | inl is ↦
            let test : ((length body == 20) && has_flag 0x10 head.flags) ≡ true = rw (ne_eqb head.code 2 isnt, eq-eqb head.code 64 is) at h in
            resend_forms head body fits is test
        | inr neither ↦ made (unknown isnt neither n1 n2 n3 n4)
      ]
    ])

write_mem_forms : (head : CommandHead) (body : List ℕ) → length body ≤ 540 → head.code ≡ 134 → Forms head body (write_mem_in body)
write_mem_forms head body fits is =
    forms_if head body (leb 4 (length body) && are_items 4 134 (drop 4 body)) (write_mem (number_at 0 4 body) (drop 4 body))
    (λ h.
    let p = and_parts (leb 4 (length body)) (are_items 4 134 (drop 4 body)) h in
    record { fits = fits; allowed = (is, words_are 134 (drop 4 body) p.1); spelled = write_mem_at body (leb-true 4 (length body) p.0) })

table_forms : (head : CommandHead) (body : List ℕ) → length body ≤ 540 → Forms head body (in_table head body)
table_forms head body fits =
    let P = Forms head body in
    cond_both (eqb head.code 128) (read_reg_in body) _ P
    (λ e. forms_if head body (are_items 4 135 body) (read_reg body) (λ h. record { fits = fits; allowed = (eqb-true head.code 128 e, words_are 135 body h); spelled = refl }))
    (λ n1. cond_both (eqb head.code 130) (write_reg_in body) _ P
    (λ e. forms_if head body (are_items 8 67 body) (write_reg body) (λ h. record { fits = fits; allowed = (eqb-true head.code 130 e, pairs_are 67 body h); spelled = refl }))
    (λ n2. cond_both (eqb head.code 132) (read_mem_in body) _ P
    (λ e. forms_if head body (eqb (length body) 8) (read_mem (number_at 0 4 body) (number_at 6 2 body)) (λ h. record { fits = fits; allowed = eqb-true head.code 132 e; spelled = read_mem_at body (eqb-true (length body) 8 h) }))
    (λ n3. cond_both (eqb head.code 134) (write_mem_in body) _ P
    (λ e. write_mem_forms head body fits (eqb-true head.code 134 e))
    (λ n4. other_forms head body fits (eqb-false head.code 128 n1) (eqb-false head.code 130 n2) (eqb-false head.code 132 n3) (eqb-false head.code 134 n4)))))

forms : (head : CommandHead) (body : List ℕ) → Forms head body (command_in head body)
forms head body = cond_both (ltb 540 (length body)) None (in_table head body) (Forms head body) (λ _. tt) (λ h. table_forms head body (ltb-false 540 (length body) h))

-- what the parser finds in a body is what the body has the form of
pub form_of : (head : CommandHead) (body : List ℕ) (command : PlainCommand) → command_in head body ≡ Some command → HasForm head body command
form_of head body command e = subst (λ (o : Option PlainCommand). Forms head body o) e (forms head body)

-- ---- from the table to the tests

read_reg_found : (head : CommandHead) (body addresses : List ℕ) → head.code ≡ 128 → AreItems 4 135 addresses → body ≡ addresses → in_table head body ≡ Some (read_reg addresses)
read_reg_found head body addresses code items is =
    rw (code, is, are_words 135 addresses items) refl

write_reg_found : (head : CommandHead) (body pairs : List ℕ) → head.code ≡ 130 → AreItems 8 67 pairs → body ≡ pairs → in_table head body ≡ Some (write_reg pairs)
write_reg_found head body pairs code items is =
    rw (code, is, are_pairs 67 pairs items) refl

read_mem_found : (head : CommandHead) (body : List ℕ) (address count : ℕ) → head.code ≡ 132 → IsReadMem body address count → in_table head body ≡ Some (read_mem address count)
read_mem_found head body address count code spelled =
    let m = reads_mem body address count spelled in
    let chosen : in_table head body ≡ given_if (eqb (length body) 8) (read_mem (number_at 0 4 body) (number_at 6 2 body)) = rw code refl in
    let whole = ap (λ (n : ℕ). given_if (eqb n 8) (read_mem (number_at 0 4 body) (number_at 6 2 body))) m.whole in
    let address_is = ap (λ (n : ℕ). given_if true (read_mem n (number_at 6 2 body))) m.address_is in
    chosen ∙ whole ∙ address_is ∙ ap (λ (n : ℕ). given_if true (read_mem address n)) m.count_is

write_mem_found : (head : CommandHead) (body : List ℕ) (address : ℕ) (bytes : List ℕ) → head.code ≡ 134 → AreItems 4 134 bytes → IsWriteMem body address bytes
    → in_table head body ≡ Some (write_mem address bytes)
write_mem_found head body address bytes code items spelled =
    let m = writes_mem body address bytes spelled in
    let found : Bool → ℕ → List ℕ → Option PlainCommand = λ long n rest. given_if (long && are_items 4 134 rest) (write_mem n rest) in
    let chosen : in_table head body ≡ found (leb 4 (length body)) (number_at 0 4 body) (drop 4 body) = rw code refl in
    let long = ap (λ (b : Bool). found b (number_at 0 4 body) (drop 4 body)) (le-leb 4 (length body) m.long) in
    let address_is = ap (λ (n : ℕ). found true n (drop 4 body)) m.address_is in
    let bytes_are = ap (found true address) m.bytes_are in
    chosen ∙ long ∙ address_is ∙ bytes_are ∙ ap (λ (b : Bool). given_if b (write_mem address bytes)) (are_words 134 bytes items)

other_found : (head : CommandHead) (body : List ℕ) → IsOther head body → in_table head body ≡ Some (other head.code body)
other_found head body (discovery is nil) =
    let chosen : in_table head body ≡ given_if (eqb (length body) 0) (other head.code body) = rw is refl in
    chosen ∙ ap (λ (b : List ℕ). given_if (eqb (length b) 0) (other head.code body)) nil
other_found head body (packet_resend is whole flag) =
    let chosen : in_table head body ≡ given_if (eqb (length body) 20 && has_flag 0x10 head.flags) (other head.code body) = rw is refl in
    chosen ∙ ap (λ (b : Bool). given_if b (other head.code body)) (and_from (eqb (length body) 20) (has_flag 0x10 head.flags) (eq-eqb (length body) 20 whole) flag)
other_found head body (unknown n1 n2 n3 n4 n5 n6) =
    rw (ne_eqb head.code 128 n3, ne_eqb head.code 130 n4, ne_eqb head.code 132 n5, ne_eqb head.code 134 n6, ne_eqb head.code 2 n1, ne_eqb head.code 64 n2) refl

found : (head : CommandHead) (body : List ℕ) (command : PlainCommand) → IsInTable head command → IsBody body command → in_table head body ≡ Some command
found head body (read_reg addresses) allowed spelled = read_reg_found head body addresses allowed.0 allowed.1 spelled
found head body (write_reg pairs) allowed spelled = write_reg_found head body pairs allowed.0 allowed.1 spelled
found head body (read_mem address count) allowed spelled = read_mem_found head body address count allowed spelled
found head body (write_mem address bytes) allowed spelled = write_mem_found head body address bytes allowed.0 allowed.1 spelled
found head body (other code rest) allowed spelled =
    let whole : in_table head rest ≡ Some (other code rest) = rw (← allowed.0) (other_found head rest allowed.1) in
    rw spelled whole

-- the parser finds each command that the body has the form of
pub form_found : (head : CommandHead) (body : List ℕ) (command : PlainCommand) → HasForm head body command → command_in head body ≡ Some command
form_found head body command h =
    let short : ltb 540 (length body) ≡ false = le-ltb 540 (length body) h.fits in
    rw short (found head body command h.allowed h.spelled)
