-- Scripts, written out with their reports.
use Rattle.std.specs.Prelude.{◌≡◌, ℕ, ◌+◌, List, [], ◌∷◌, ◌++◌, length, codes}
use Rattle.script_runs.specs.declared.ran.Ran.TheVariants.{Ended}
use Rattle.script_runs.specs.Runs.{RunsLines, lines_text}
use Rattle.script_trace.specs.Standing.{Standing, first, ReplayRuns}

pub record Row : Type 0 where
  -- the lines before the last one, which is `end`
  pub lines : List (List ℕ)
  -- the lines of the report
  pub report : List (List ℕ)

-- The lines are run, then `end` is, and this is the report.
pub record IsWorked (r : Row) : Type 0 where
  pub text : List ℕ
  pub now : Standing
  pub runs : RunsLines ReplayRuns first 0 r.lines text now
  pub last : List ℕ
  pub new : Standing
  pub ended : ReplayRuns now (length r.lines + 1) (codes "end") Ended last new
  pub is : text ++ last ≡ lines_text r.report

abbrev pub header_line : List ℕ
header_line = codes "gevacq 1 528 1 1000 100 2"

abbrev pub zeros : List ℕ
zeros = codes "end taken=0 fills=0 complete=0 underrun=0 requests=0 foreign=0 late=0 repeat=0 misfit=0 starved=0 notice=0 idle=0"

-- nothing but a header and an end
abbrev pub nothing_done : Row
nothing_done = record { lines = header_line ∷ []; report = zeros ∷ [] }

-- Handles are opened and closed, the stream with its device; the board is closed with it.
abbrev pub device_closed : Row
device_closed = record {
  lines =
      header_line
      ∷ codes "open 3 0"
      ∷ codes "open 3 4"
      ∷ codes "open 3 1"
      ∷ codes "open 9 0"
      ∷ codes "close 3"
      ∷ codes "close 4"
      ∷ codes "announce 3"
      ∷ [];
  report =
      codes "open -1004"
      ∷ codes "open -1017"
      ∷ codes "open 6"
      ∷ codes "open -1006"
      ∷ codes "close ok"
      ∷ codes "close -1006"
      ∷ codes "announce -1006"
      ∷ zeros
      ∷ [];
}

-- the stream is closed between a claim and its fill
abbrev pub closed_before_fill : Row
closed_before_fill = record {
  lines =
      header_line
      ∷ codes "announce 3"
      ∷ codes "queue 0.1"
      ∷ codes "step 1 claim"
      ∷ codes "step 2 close"
      ∷ codes "step 1 fill 0"
      ∷ codes "step 1 lay 0"
      ∷ codes "take"
      ∷ codes "queue 0.1"
      ∷ codes "revoke 0.1"
      ∷ [];
  report =
      codes "announce 0.1"
      ∷ codes "queue ok"
      ∷ codes "step 1 claim 0"
      ∷ codes "step 2 close ok"
      ∷ codes "step 1 fill closed"
      ∷ codes "step 1 lay ok"
      ∷ codes "take -1006"
      ∷ codes "queue -1006"
      ∷ codes "revoke ok"
      ∷ zeros
      ∷ [];
}

-- a leader of block 1, of 3 by 1 pixels
abbrev pub leader_line : List ℕ
leader_line = codes "d 0000000081000000000000000000000100000000000000010000000000000000010800010000000300000001000000000000000000000000"

-- A datagram comes before the start, and a block's leader after it; then a kill stop puts the block into the output.
abbrev pub killed_with_block : Row
killed_with_block = record {
  lines =
      header_line
      ∷ codes "announce 3"
      ∷ codes "queue 0.1"
      ∷ codes "d 00"
      ∷ codes "start"
      ∷ leader_line
      ∷ codes "stop 1"
      ∷ codes "info 1000"
      ∷ codes "info 5"
      ∷ codes "stop 0"
      ∷ [];
  report =
      codes "announce 0.1"
      ∷ codes "queue ok"
      ∷ codes "start ok"
      ∷ codes "stop ok"
      ∷ codes "info 1000 0"
      ∷ codes "info 5 1"
      ∷ codes "stop -1004"
      ∷ codes "end taken=0 fills=1 complete=0 underrun=0 requests=0 foreign=0 late=0 repeat=0 misfit=0 starved=0 notice=0 idle=1"
      ∷ [];
}

pub record ScriptsAreWorked : Type 0 where
  pub with_nothing : IsWorked nothing_done
  pub with_handles : IsWorked device_closed
  pub with_steps : IsWorked closed_before_fill
  pub with_block : IsWorked killed_with_block
