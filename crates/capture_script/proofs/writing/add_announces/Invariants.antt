use Rattle.std.proofs.Common.{◌≡◌, ◌++◌}
use Rattle.capture_script.specs.Script.{text_of, announce_lines}
use Rattle.capture_script.proofs.writing.add_announces.Given as goal

abbrev pub invariant-loop : goal.invariant-loop
invariant-loop l = l.out.items ≡ l.initial.out.items ++ text_of (announce_lines l.counter l.size)
