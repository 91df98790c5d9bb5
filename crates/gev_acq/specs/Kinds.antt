-- What kinds of acts the reader of a live run does, in each buffer handling mode.
use Rattle.std.specs.Prelude.{Bool, true, false}
use Rattle.board_machine.specs.declared.events.Event.{Event}
use Rattle.board_machine.specs.declared.events.Event.TheVariants.{LookRun, Claim, Take, Pool, Fill, Lay, Stop}
use Rattle.board_calls.specs.declared.mode.Mode.{Mode}
use Rattle.board_calls.specs.declared.mode.Mode.TheVariants.{OldestFirst, OldestFirstOverwrite, NewestOnly}

-- whether claims and fills may drop buffers that wait
abbrev pub may_drop : Mode → Bool
may_drop OldestFirst = false
may_drop OldestFirstOverwrite = true
may_drop NewestOnly = true

-- A look at the run word, the claim of a buffer, its fill, its lay where the output was closed, and the stop; where
-- buffers may be dropped also a take, and the pooling of what it took.
abbrev pub is_readers : Mode → Event → Bool
is_readers mode (LookRun run) = true
is_readers mode (Claim place) = true
is_readers mode (Take end) = may_drop mode
is_readers mode (Pool place) = may_drop mode
is_readers mode (Fill place filling filled) = true
is_readers mode (Lay place) = true
is_readers mode (Stop kill answer) = true
is_readers mode _ = false

-- the same without the lay
abbrev pub is_strict_readers : Mode → Event → Bool
is_strict_readers mode (LookRun run) = true
is_strict_readers mode (Claim place) = true
is_strict_readers mode (Take end) = may_drop mode
is_strict_readers mode (Pool place) = may_drop mode
is_strict_readers mode (Fill place filling filled) = true
is_strict_readers mode (Stop kill answer) = true
is_strict_readers mode _ = false
