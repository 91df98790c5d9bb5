use Rattle.std.proofs.Common.{refl}
use Rattle.buffer_words.proofs.Hands.{same_has}
use Rattle.buffer_words.proofs.Lending.{whole_same, down_before, grows_stays, run_stays, lent}
use Rattle.buffer_words.proofs.words.Board.lend.Goals as goal

pub lift-buf-requires-clause-holds : goal.lift-buf-requires-clause-holds
lift-buf-requires-clause-holds c = whole_same _ _ c.args.place c.word_in_hand-generation.ensures.hands c.requires.holds

pub returns : goal.returns
returns c = let first = c.word_in_hand-generation.ensures in let second = c.lift-buf.ensures in record {
  grows = grows_stays _ _ _ first.grows second.stays;
  run = run_stays _ _ first.run second.stays;
  place = refl;
  was = down_before _ _ c.args.place _ first.hands second.was;
  loan = lent _ _ c.args.place _ _ _ first.word refl second.size second.stays second.hands;
  hands = same_has c.args.place _ _ _ _ first.hands second.hands;
}
