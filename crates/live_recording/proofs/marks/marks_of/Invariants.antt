use Rattle.live_recording.proofs.Noting.{MarksFront}
use Rattle.live_recording.proofs.marks.marks_of.Given as goal

abbrev pub invariant-loop-turn : goal.invariant-loop-turn
invariant-loop-turn l = MarksFront l.journal l.turn l.marks.items
