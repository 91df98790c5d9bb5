-- How many buffers the acquisition filled into the output, how many of these were complete, and how many it
-- dropped.
use Rattle.std.specs.Prelude.{ℕ, ◌+◌, ◌-◌, ◌^◌, ◌==◌, min, Bool, if◌then◌else◌, List, [], ◌∷◌, length}
use Rattle.board_machine.specs.declared.events.Entry.{Entry}
use Rattle.board_machine.specs.Machine.{Item}
use Rattle.board_machine.specs.Histories.{own_of}
use Rattle.board_machine.specs.Handout.{filled}
use Rattle.script_trace.specs.Trace.{acquirer}
use Rattle.script_trace.specs.Modes.{dropped}
use Rattle.script_replay.specs.declared.fill_counts.FillCounts.{FillCounts}

-- where a count stands still
abbrev pub most_count : ℕ
most_count = 2 ^ 64 - 1

abbrev pub one_more : ℕ → ℕ
one_more n = min (n + 1) most_count

-- with one more buffer that was filled, complete or not
abbrev pub with_fill : FillCounts → Bool → FillCounts
with_fill counts complete = record {
  fills = one_more counts.fills;
  complete = if complete then one_more counts.complete else counts.complete;
  dropped = counts.dropped;
}

-- with so many more that were dropped
abbrev pub with_dropped : FillCounts → ℕ → FillCounts
with_dropped counts n = if n == 0 then counts else record counts { dropped = min (counts.dropped + n) most_count }

-- with a claimed place, where it was dropped for the claim
abbrev pub counted_claim : FillCounts → Bool → FillCounts
counted_claim counts was_dropped = if was_dropped then with_dropped counts 1 else counts

-- with these, in order
abbrev pub counted_on : FillCounts → List Item → FillCounts
counted_on counts [] = counts
counted_on counts (x ∷ xs) = counted_on (with_fill counts x.filling.rec.complete) xs

-- what the acquisition filled into the output
abbrev pub blocks_in : List Entry → List Item
blocks_in es = filled (own_of acquirer es)

-- where nothing was filled yet
abbrev pub no_fills : FillCounts
no_fills = record { fills = 0; complete = 0; dropped = 0 }

-- with what the acquisition did in these entries
abbrev pub counted_in : FillCounts → List Entry → FillCounts
counted_in counts es = with_dropped (counted_on counts (blocks_in es)) (length (dropped es))
