-- The last lines of the report, counted from the trace.
use Rattle.std.specs.Prelude.{ℕ, ◌+◌, ◌-◌, ◌^◌, min, Bool, true, false, List, [], ◌++◌, length, count_by, codes}
use Rattle.gev_report.specs.declared.end_counts.EndCounts.{EndCounts}
use Rattle.gev_report.specs.ReplayLines.{end_line, number_line}
use Rattle.board_machine.specs.Machine.{Item}
use Rattle.board_machine.specs.Histories.{own_of}
use Rattle.board_machine.specs.Handout.{filled}
use Rattle.acquisition_machine.specs.declared.config.AcqConfig.{AcqConfig}
use Rattle.acquisition_machine.specs.declared.counts.Counts.{Counts}
use Rattle.acquisition_machine.specs.Runs.{After}
use Rattle.script_trace.specs.Trace.{Trace, acquirer}
use Rattle.script_trace.specs.Modes.{handed_out, dropped}

-- A count stands still at its type's end.
abbrev pub as_count : ℕ → ℕ
as_count n = min n (2 ^ 64 - 1)

-- what the acquisition filled into the output
abbrev pub filled_blocks : Trace → List Item
filled_blocks t = filled (own_of acquirer t.entries)

-- the acquisition's counts, and what the trace tells; so many datagrams were refused before they came to the
-- acquisition
abbrev pub with_counts : Trace → ℕ → Counts → EndCounts
with_counts t refused counts = record {
  taken = as_count (length (handed_out t.entries));
  fills = as_count (length (filled_blocks t));
  complete = as_count (count_by (λ x. x.filling.rec.complete) (filled_blocks t));
  underrun = as_count counts.underrun;
  requests = as_count counts.requests;
  foreign = as_count (counts.foreign + refused);
  late = as_count counts.late;
  repeat = as_count counts.repeat;
  misfit = as_count counts.misfit;
  starved = as_count counts.starved;
  notice = as_count counts.notice;
  idle = as_count t.idle;
}

abbrev pub end_counts : AcqConfig → ℕ → Trace → EndCounts
end_counts c refused t = with_counts t refused (After c t.inputs).counts

-- so many places were dropped, told where a line set the mode
abbrev pub dropped_text : Bool → ℕ → List ℕ
dropped_text true n = number_line (codes "dropped") n
dropped_text false n = []

-- what the line `end` tells
abbrev pub end_text : AcqConfig → ℕ → Trace → List ℕ
end_text c refused t = dropped_text t.told_mode (as_count (length (dropped t.entries))) ++ end_line (end_counts c refused t)
