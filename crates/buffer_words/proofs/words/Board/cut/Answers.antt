use Rattle.std.proofs.Common.{rules, subst, sym}
use Rattle.atomic_table.specs.Table.{Splits}
use Rattle.buffer_words.specs.declared.view.View.{View}
use Rattle.buffer_words.specs.Rule.{Kept}
use Rattle.buffer_words.specs.Plays.{Seated, stays_idle, newborn}
use Rattle.buffer_words.specs.Meeting.{HasParted}
use Rattle.buffer_words.proofs.Meets.{parts}
use Rattle.buffer_words.proofs.Parts.{has_cut}
use Rattle.buffer_words.proofs.words.Board.cut.Goals as goal

pub split_seat-requires : goal.split_seat-requires
split_seat-requires c = (
  c.requires.table,
  search rules,
  subst (λ (v : View). Splits Kept c.args.seat.now.id v (stays_idle v) (newborn v)) (sym c.requires.bearing.view) (parts _ _ _ _),
)

pub returns : goal.returns
returns c = record {
  table = c.split_seat.ensures.0;
  same = c.split_seat.ensures.3;
  parts = λ before borne.
      subst (λ (m : Seated). HasParted before m c.split_seat.result.me) (sym c.split_seat.ensures.2)
      (subst (λ (m : Seated). HasParted before (stays_idle c.args.seat.now.me.0, c.args.seat.now.me.1) m) (sym c.split_seat.ensures.4) (has_cut before c.args.seat.now.me borne));
}
