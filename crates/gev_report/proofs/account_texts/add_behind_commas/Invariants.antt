use Rattle.std.proofs.Common.{◌≡◌, ◌++◌, take, vec_len}
use Rattle.std.specs.List.{flat_map}
use Rattle.gev_report.proofs.Joining.{comma_span}
use Rattle.gev_report.proofs.account_texts.add_behind_commas.Given as goal

abbrev pub invariant-loop-range : goal.invariant-loop-range
invariant-loop-range l =
    (l.out.items ≡ l.initial.out.items ++ flat_map comma_span (take l.range-index l.ranges))
    × (l.start ≡ vec_len l.initial.out)
