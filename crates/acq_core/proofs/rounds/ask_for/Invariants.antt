use Rattle.std.proofs.Common.{◌≡◌, ◌+◌, ◌++◌, map, drop}
use Rattle.std.specs.Prelude.{vec_len, vec_capacity}
use Rattle.acquisition_machine.specs.Machine.{requests_for, number_after}
use Rattle.acq_core.specs.Standing.{asked_of}
use Rattle.acq_core.proofs.rounds.ask_for.Given as goal

abbrev pub invariant-loop-range : goal.invariant-loop-range
invariant-loop-range l = record {
  requests : l.requests.items ++ map asked_of (requests_for l.number l.block (drop l.range-index l.ranges)) ≡ l.initial.requests.items ++ map asked_of (requests_for l.initial.from l.block l.ranges);
  number : number_after l.number (drop l.range-index l.ranges) ≡ number_after l.initial.from l.ranges;
  more : vec_len l.requests ≡ vec_len l.initial.requests + l.range-index;
  capacity : vec_capacity l.requests ≡ vec_capacity l.initial.requests;
}
