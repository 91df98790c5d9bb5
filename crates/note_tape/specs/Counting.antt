-- How many blocks notes tell of, by kind.
use Rattle.std.specs.Prelude.{◌≡◌, ℕ, ◌+◌, ◌-◌, ◌^◌, min, Bool, List, [], ◌∷◌, ◌++◌, if◌then◌else◌}
use Rattle.missing_ranges.specs.Lost.{ids_in}
use Rattle.script_trace.specs.Notes.{Note, idle, ignored, unwidened, leads, opens, asks, first, absent, drops, done, unbuffered}
use Rattle.script_trace.specs.Counted.{is_opening, times_so}
use Rattle.script_trace.specs.Ending.{as_count}
use Rattle.script_trace.specs.Explaining.{is_whole, is_partial, is_unbuffered, is_drop, absent_spans}
use Rattle.note_report.specs.declared.block_counts.BlockCounts.{BlockCounts}

-- the counts of these notes, each as far as its type goes
abbrev pub tally : List Note → BlockCounts
tally notes = record {
  opened = as_count (times_so is_opening notes);
  complete = as_count (times_so is_whole notes);
  incomplete = as_count (times_so is_partial notes);
  unbuffered = as_count (times_so is_unbuffered notes);
  absent = as_count (ids_in (absent_spans notes));
  dropped = as_count (times_so is_drop notes);
}

-- so many more
abbrev pub counted_up : ℕ → ℕ → ℕ
counted_up n more = min (n + more) (2 ^ 64 - 1)

-- a block that retired with a buffer, with a whole image or without
abbrev pub with_end : Bool → BlockCounts → BlockCounts
with_end complete n =
    if complete then record n { complete = counted_up n.complete 1 } else record n { incomplete = counted_up n.incomplete 1 }

-- with one more note
abbrev pub with_note : Note → BlockCounts → BlockCounts
with_note (idle bytes) n = n
with_note (ignored why x) n = n
with_note (unwidened e) n = n
with_note (leads b i) n = n
with_note (opens b buffer) n = record n { opened = counted_up n.opened 1 }
with_note (asks b r round) n = n
with_note (first b) n = n
with_note (absent r) n = record n { absent = counted_up n.absent (r.1 + 1 - r.0) }
with_note (drops b buffer) n = record n { dropped = counted_up n.dropped 1 }
with_note (done o) n = with_end o.complete n
with_note (unbuffered b cause) n = record n { unbuffered = counted_up n.unbuffered 1 }

-- with these, in order
abbrev pub with_notes : List Note → BlockCounts → BlockCounts
with_notes [] n = n
with_notes (x ∷ xs) n = with_notes xs (with_note x n)

-- Counting note by note is counting all of them.
abbrev pub TalliesAreCounted : Type 0
TalliesAreCounted = (before more : List Note) → tally (before ++ more) ≡ with_notes more (tally before)
