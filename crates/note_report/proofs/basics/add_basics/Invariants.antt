use Rattle.std.proofs.Common.{◌≡◌, ◌++◌, take}
use Rattle.std.specs.List.{flat_map}
use Rattle.note_report.specs.Pieces.{basic_text}
use Rattle.note_report.proofs.basics.add_basics.Given as goal

abbrev pub invariant-loop-basic : goal.invariant-loop-basic
invariant-loop-basic l = l.out.items ≡ l.initial.out.items ++ flat_map basic_text (take l.basic-index l.basics)
