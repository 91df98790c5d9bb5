use Rattle.std.proofs.Common.{rules, arith, ◌≡◌, ℕ, ◌≤◌, false, Some, None, length, set, sym, ap, subst, ◌∙◌}
use Rattle.gev_types.specs.declared.block_record.Record.{Record}
use Rattle.gev_types.specs.Filling.{Filling, empty_record}
use Rattle.board_machine.specs.Machine.{Board, word_at, IsActor, InHand}
use Rattle.board_model.specs.Plain.{lying}
use Rattle.board_model.proofs.CallsAnnounce.{put_has}
use Rattle.board_model.proofs.CallsFill.{set_twice, lying_cleared, lying_within, emptied_there, left_filled, left_laid, filled_one, laid_one}
use Rattle.board_model.proofs.board.PlainBoard.fill_empty.Goals as goal

is_blank : (r : Record) → (r.block ≡ 0) × ((r.complete ≡ false) × ((r.larger ≡ false) × ((r.has_leader ≡ false) × ((r.data_len ≡ 0) × ((r.filled ≡ 0) × ((r.image ≡ None) × (r.account ≡ None))))))) → r ≡ empty_record
is_blank r blank = search rules

is_within : (n m : ℕ) → n ≡ 0 → n ≤ m
is_within n m none = omega arith

pub set_rec-requires-clause-data_len : goal.set_rec-requires-clause-data_len
set_rec-requires-clause-data_len c = is_within c.default.result.data_len _ c.default.ensures.1.1.1.1.0

pub set_rec-requires-clause-filled : goal.set_rec-requires-clause-filled
set_rec-requires-clause-filled c = is_within c.default.result.filled _ c.default.ensures.1.1.1.1.1.0

pub fill-requires-clause-actor : goal.fill-requires-clause-actor
fill-requires-clause-actor c = subst (λ (b : Board). IsActor b c.args.actor) (sym c.lift-buf.ensures.board) c.requires.actor

pub fill-requires-clause-in_hand : goal.fill-requires-clause-in_hand
fill-requires-clause-in_hand c = subst (λ (b : Board). InHand b c.args.actor c.args.place) (sym c.lift-buf.ensures.board) c.requires.in_hand

pub fill-requires-clause-lifted : goal.fill-requires-clause-lifted
fill-requires-clause-lifted c = ap (λ d. lying d c.args.place) c.lift-buf.ensures.contents ∙ lying_cleared c.args.self.now.contents c.args.place

pub fill-requires-clause-size : goal.fill-requires-clause-size
fill-requires-clause-size c =
    ap length c.set_rec.ensures.bytes ∙ c.lift-buf.ensures.size ∙ ap (λ (b : Board). (word_at b c.args.place).size) (sym c.lift-buf.ensures.board)

pub set_down-requires-clause-actor : goal.set_down-requires-clause-actor
set_down-requires-clause-actor c = subst (λ (b : Board). IsActor b c.args.actor) (sym (c.in-Closed.ensures.step.after ∙ c.lift-buf.ensures.board)) c.requires.actor

pub set_down-requires-clause-in_hand : goal.set_down-requires-clause-in_hand
set_down-requires-clause-in_hand c =
    subst (λ (b : Board). InHand b c.args.actor c.args.place) (sym (c.in-Closed.ensures.step.after ∙ c.lift-buf.ensures.board)) c.requires.in_hand

pub set_down-requires-clause-lifted : goal.set_down-requires-clause-lifted
set_down-requires-clause-lifted c =
    ap (λ d. lying d c.args.place) (c.in-Closed.ensures.contents ∙ c.lift-buf.ensures.contents) ∙ lying_cleared c.args.self.now.contents c.args.place

pub set_down-requires-clause-size : goal.set_down-requires-clause-size
set_down-requires-clause-size c =
    ap (λ (f : Filling). length f.bytes) c.in-Closed.ensures.back ∙ ap length c.set_rec.ensures.bytes ∙ c.lift-buf.ensures.size
    ∙ ap (λ (b : Board). (word_at b c.args.place).size) (sym (c.in-Closed.ensures.step.after ∙ c.lift-buf.ensures.board))

pub lay-requires-clause-actor : goal.lay-requires-clause-actor
lay-requires-clause-actor c =
    subst (λ (b : Board). IsActor b c.args.actor) (sym (c.set_down.ensures.board ∙ c.in-Closed.ensures.step.after ∙ c.lift-buf.ensures.board)) c.requires.actor

pub lay-requires-clause-in_hand : goal.lay-requires-clause-in_hand
lay-requires-clause-in_hand c =
    subst (λ (b : Board). InHand b c.args.actor c.args.place) (sym (c.set_down.ensures.board ∙ c.in-Closed.ensures.step.after ∙ c.lift-buf.ensures.board)) c.requires.in_hand

pub lay-requires-clause-set_down : goal.lay-requires-clause-set_down
lay-requires-clause-set_down c =
    put_has c.args.self.now.contents c.set_down.new.self.contents c.args.place c.in-Closed.back (lying_within c.args.self.now.contents c.args.place c.requires.set_down)
    (c.set_down.ensures.contents ∙ ap (λ d. set d c.args.place (Some c.in-Closed.back)) (c.in-Closed.ensures.contents ∙ c.lift-buf.ensures.contents)
    ∙ set_twice c.args.self.now.contents c.args.place _ (Some c.in-Closed.back))

pub returns-in-Filled-clause-entries : goal.returns-in-Filled-clause-entries
returns-in-Filled-clause-entries c = filled_one _ _ _ _ _ c.args.place c.lift-buf.result c.set_rec.new.self c.lift-buf.ensures.board c.lift-buf.ensures.value c.set_rec.ensures.bytes (c.set_rec.ensures.rec ∙ is_blank c.default.result c.default.ensures) c.in-Filled.ensures.step

pub returns-in-Filled-clause-in_hand : goal.returns-in-Filled-clause-in_hand
returns-in-Filled-clause-in_hand c = left_filled _ _ _ _ c.args.place c.set_rec.new.self c.lift-buf.ensures.board c.in-Filled.ensures.step

pub returns-in-Filled-clause-contents : goal.returns-in-Filled-clause-contents
returns-in-Filled-clause-contents c =
    emptied_there _ _ _ c.args.place c.lift-buf.result c.set_rec.new.self c.lift-buf.ensures.value c.lift-buf.ensures.contents c.set_rec.ensures.bytes (c.set_rec.ensures.rec ∙ is_blank c.default.result c.default.ensures) c.in-Filled.ensures.contents

pub returns-in-Closed-clause-entries : goal.returns-in-Closed-clause-entries
returns-in-Closed-clause-entries c =
    laid_one _ _ _ _ _ _ _ c.args.place c.lift-buf.result c.set_rec.new.self c.lift-buf.ensures.board c.lift-buf.ensures.value c.set_rec.ensures.bytes (c.set_rec.ensures.rec ∙ is_blank c.default.result c.default.ensures) c.in-Closed.ensures.step c.set_down.ensures.board c.lay.ensures.step

pub returns-in-Closed-clause-in_hand : goal.returns-in-Closed-clause-in_hand
returns-in-Closed-clause-in_hand c =
    left_laid _ _ _ _ c.args.place (c.set_down.ensures.board ∙ c.in-Closed.ensures.step.after ∙ c.lift-buf.ensures.board) c.lay.ensures.step

pub returns-in-Closed-clause-contents : goal.returns-in-Closed-clause-contents
returns-in-Closed-clause-contents c =
    emptied_there _ _ _ c.args.place c.lift-buf.result c.set_rec.new.self c.lift-buf.ensures.value c.lift-buf.ensures.contents c.set_rec.ensures.bytes (c.set_rec.ensures.rec ∙ is_blank c.default.result c.default.ensures)
    (c.lay.ensures.contents ∙ c.set_down.ensures.contents ∙ ap (λ d. set d c.args.place (Some c.in-Closed.back)) c.in-Closed.ensures.contents
    ∙ ap (λ (f : Filling). set c.lift-buf.new.self.contents c.args.place (Some f)) c.in-Closed.ensures.back)
