use Rattle.std.proofs.Common.{◌≡◌, take}
use Rattle.std.specs.List.{list_all}
use Rattle.gev_script.specs.Numbers.{is_hex_digit}
use Rattle.gev_script.proofs.numbers.are_hex_digits.Given as goal

abbrev pub invariant-loop-b : goal.invariant-loop-b
invariant-loop-b l = l.good ≡ list_all is_hex_digit (take l.b-index l.word)
