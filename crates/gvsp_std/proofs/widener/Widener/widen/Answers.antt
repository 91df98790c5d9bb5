use Rattle.std.proofs.Common.{ℕ, ◌∙◌, refl, sym, ap, arith, rules}
use Rattle.std.specs.Prelude.{max}
use Rattle.gvsp_wire.specs.Plain.{AreBytes}
use Rattle.gvsp_std.specs.Widening.{wide_in}
use Rattle.gvsp_std.proofs.Written.{wide_long, widened_so, widened_slow, call_widened}
use Rattle.gvsp_std.proofs.widener.Widener.widen.Goals as goal

pub write_wide-len-requires-clause-room : goal.write_wide-len-requires-clause-room
write_wide-len-requires-clause-room c =
    let is = widened_so c.args.self.now c.self.inside.top c.args.bytes.now c.u16_at-id.result c.in-Some.block c.has_extended_ids.result
    c.if-bytes-lt-STANDARD_SIZE.false c.has_extended_ids.ensures c.if-has_extended_ids.false c.u16_at-id.ensures c.if-id-eq-NO_BLOCK.false
    (sym c.self.view_is) (sym c.chosen.ensures ∙ c.in-Some.is) in
    let room = c.requires.room (c.in-Some.block, wide_in c.in-Some.block c.args.bytes.now) is in
    omega (arith, room, wide_long c.in-Some.block c.args.bytes.now c.if-bytes-lt-STANDARD_SIZE.false)

pub returns-in_default-clause-answer : goal.returns-in_default-clause-answer
returns-in_default-clause-answer c = record { is = first_of (search rules, grind arith); top_stays = cc; out_stays = refl }

pub returns-clause-answer : goal.returns-clause-answer
returns-clause-answer c =
    let is = widened_so c.args.self.now c.self.inside.top c.args.bytes.now c.u16_at-id.result c.in-Some.block c.has_extended_ids.result
    c.if-bytes-lt-STANDARD_SIZE.false c.has_extended_ids.ensures c.if-has_extended_ids.false c.u16_at-id.ensures c.if-id-eq-NO_BLOCK.false
    (sym c.self.view_is) (sym c.chosen.ensures ∙ c.in-Some.is) in
    let are : AreBytes c.args.bytes.now = λ i. omega (arith, c.type_inv.bytes i) in
    call_widened c.args.self.now c.args.bytes.now c.args.out.now c.in-Some.block c.write_wide-len.result c.max-self-inside.result c.write_wide-len.new.out
    c.requires.top are c.if-bytes-lt-STANDARD_SIZE.false is (c.max-self-inside.ensures ∙ ap (λ (n : ℕ). max n c.in-Some.block) c.self.view_is)
    c.write_wide-len.ensures.len c.write_wide-len.ensures.written

pub returns-clause-slow : goal.returns-clause-slow
returns-clause-slow c =
    let is = widened_so c.args.self.now c.self.inside.top c.args.bytes.now c.u16_at-id.result c.in-Some.block c.has_extended_ids.result
    c.if-bytes-lt-STANDARD_SIZE.false c.has_extended_ids.ensures c.if-has_extended_ids.false c.u16_at-id.ensures c.if-id-eq-NO_BLOCK.false
    (sym c.self.view_is) (sym c.chosen.ensures ∙ c.in-Some.is) in
    let are : AreBytes c.args.bytes.now = λ i. omega (arith, c.type_inv.bytes i) in
    widened_slow c.args.self.now c.args.bytes.now c.in-Some.block c.max-self-inside.result (wide_in c.in-Some.block c.args.bytes.now) are is
    (c.max-self-inside.ensures ∙ ap (λ (n : ℕ). max n c.in-Some.block) c.self.view_is)
