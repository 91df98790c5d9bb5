use Rattle.std.proofs.Common.{drop, List}
use Rattle.script_trace.specs.Notes.{Note}
use Rattle.note_tape.specs.Telling.{AreNoted}
use Rattle.note_tape.proofs.Prints.{PrintsOn}
use Rattle.note_tape.proofs.printing.print.Given as goal

abbrev pub invariant-loop-told : goal.invariant-loop-told
invariant-loop-told l = (ns : List Note) → AreNoted l.tape ns → PrintsOn l.at.line l.at.moment (drop l.told-index l.tape) l.initial.out.items l.out.items l.initial.counts l.counts ns
