use Rattle.note_tape.proofs.Retired.{tells_done}
use Rattle.note_tape.proofs.gaps.tape_done.Goals as goal

pub returns : goal.returns
returns c config b low cause o is same out =
    tells_done c.args.tape.now.items c.push.new.self.items config b low cause o c.args.end c.args.buffer c.args.filled c.in_ok-push.ensures.items is same out
