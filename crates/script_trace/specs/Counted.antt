-- What notes count, and which of them are of blocks that retired.
use Rattle.std.specs.Prelude.{ℕ, ◌+◌, List, [], ◌∷◌, Bool, true, false, Option, Some, None, if◌then◌else◌}
use Rattle.gentl_types.specs.declared.buffer_id.BufferId.{BufferId}
use Rattle.acquisition_machine.specs.declared.counts.Counts.{Counts}
use Rattle.acquisition_machine.specs.Machine.{count}
use Rattle.script_trace.specs.Notes.{Note, idle, ignored, unwidened, leads, opens, asks, first, absent, drops, done, unbuffered}

-- a block that was opened without a buffer is an underrun
abbrev pub count_opened : Option BufferId → Counts → Counts
count_opened None n = record n { underrun = n.underrun + 1 }
count_opened (Some buffer) n = n

abbrev pub count_note : Note → Counts → Counts
count_note (idle bytes) n = n
count_note (ignored why x) n = count why n
count_note (unwidened e) n = n
count_note (leads b i) n = n
count_note (opens b buffer) n = count_opened buffer n
count_note (asks b r round) n = record n { requests = n.requests + 1 }
count_note (first b) n = n
count_note (absent r) n = n
count_note (drops b buffer) n = n
count_note (done o) n = n
count_note (unbuffered b cause) n = n

-- the counts after these notes
abbrev pub counted : List Note → Counts → Counts
counted [] n = n
counted (x ∷ xs) n = counted xs (count_note x n)

abbrev pub is_opening : Note → Bool
is_opening (idle bytes) = false
is_opening (ignored why x) = false
is_opening (unwidened e) = false
is_opening (leads b i) = false
is_opening (opens b buffer) = true
is_opening (asks b r round) = false
is_opening (first b) = false
is_opening (absent r) = false
is_opening (drops b buffer) = false
is_opening (done o) = false
is_opening (unbuffered b cause) = false

abbrev pub is_ending : Note → Bool
is_ending (idle bytes) = false
is_ending (ignored why x) = false
is_ending (unwidened e) = false
is_ending (leads b i) = false
is_ending (opens b buffer) = false
is_ending (asks b r round) = false
is_ending (first b) = false
is_ending (absent r) = false
is_ending (drops b buffer) = false
is_ending (done o) = true
is_ending (unbuffered b cause) = true

-- the notes of blocks that retired
abbrev pub endings : List Note → List Note
endings [] = []
endings (x ∷ xs) = if is_ending x then x ∷ endings xs else endings xs

-- of how many notes the test says true
abbrev pub times_so : (Note → Bool) → List Note → ℕ
times_so test [] = 0
times_so test (x ∷ xs) = (if test x then 1 else 0) + times_so test xs
