use Rattle.std.proofs.Common.{◌≡◌, ◌++◌}
use Rattle.take_lines.specs.Texts.{text_of, take_lines}
use Rattle.take_lines.proofs.lines.add_takes.Given as goal

abbrev pub invariant-loop : goal.invariant-loop
invariant-loop l = l.out.items ≡ l.initial.out.items ++ text_of (take_lines l.counter)
