use Rattle.board_machine.proofs.Counts.{stands_below, hand_tally}
use Rattle.soak_receiver.proofs.taking.generation_at.Goals as goal

pub word-requires : goal.word-requires
word-requires c = stands_below c.args.board.now.board c.args.place c.owned.ensures.counted (hand_tally c.args.board.now.board 0 c.args.place c.requires.in_hand)
