-- Camera scripts, written out with their reports.
use Rattle.std.specs.Prelude.{◌≡◌, ℕ, ◌+◌, List, [], ◌∷◌, ◌++◌, length, codes}
use Rattle.script_runs.specs.declared.ran.Ran.TheVariants.{Ended}
use Rattle.script_runs.specs.Runs.{RunsLines, lines_text}
use Rattle.camera_replay.specs.Standing.{Standing, first, CameraRuns}

pub record Row : Type 0 where
  -- the lines before the last one, which is `end`
  pub lines : List (List ℕ)
  -- the lines of the report
  pub report : List (List ℕ)

-- The lines are run, then `end` is, and this is the report.
pub record IsWorked (r : Row) : Type 0 where
  pub text : List ℕ
  pub now : Standing
  pub runs : RunsLines CameraRuns first 0 r.lines text now
  pub last : List ℕ
  pub new : Standing
  pub ended : CameraRuns now (length r.lines + 1) (codes "end") Ended last new
  pub is : text ++ last ≡ lines_text r.report

abbrev pub header_line : List ℕ
header_line = codes "gevacq-camera 1"

-- A peer without control reads a word, and can't write one; neither command counts.
abbrev pub stranger : Row
stranger = record {
  lines =
      header_line
      ∷ codes "c 1 420100800004000100000004"
      ∷ codes "c 1 4201008200080002000009380000012c"
      ∷ [];
  report =
      codes "a 1 000000810004000180000001"
      ∷ codes "a 1 800600830004000200000000"
      ∷ codes "end executed=0"
      ∷ [];
}

-- A frame is asked for before the stream channel is open, and a packet of a block that wasn't sent yet.
abbrev pub nothing_sent : Row
nothing_sent = record {
  lines =
      header_line
      ∷ codes "c 1 420100820008000100000a0000000002"
      ∷ codes "frame"
      ∷ codes "c 1 420100820008000200000d000000c000"
      ∷ codes "c 1 42100040001400030000000000000003000000030000000000000001"
      ∷ [];
  report =
      codes "a 1 000000830004000100000001"
      ∷ codes "frame closed"
      ∷ codes "a 1 000000830004000200000001"
      ∷ codes "s 49152 8010000083000000000000000000000100000003"
      ∷ codes "end executed=2"
      ∷ [];
}

-- A second peer gets control when the heartbeat of the first has run out; its repeat isn't executed.
abbrev pub second_peer : Row
second_peer = record {
  lines =
      header_line
      ∷ codes "c 1 420100820008000100000a0000000002"
      ∷ codes "c 2 420100820008000700000a0000000002"
      ∷ codes "t 3000"
      ∷ codes "c 2 420100820008000700000a0000000002"
      ∷ codes "c 2 420100820008000700000a0000000002"
      ∷ codes "c 2 42010084000800080000000000000219"
      ∷ codes "c 2 420100800004000900000a01"
      ∷ codes "c 2 420100800008000a0000000000000a00"
      ∷ [];
  report =
      codes "a 1 000000830004000100000001"
      ∷ codes "a 2 800600830004000700000000"
      ∷ codes "a 2 000000830004000700000001"
      ∷ codes "a 2 000000830004000700000001"
      ∷ codes "a 2 8002008500000008"
      ∷ codes "a 2 8005008100000009"
      ∷ codes "a 2 000000810008000a0002000000000002"
      ∷ codes "end executed=5"
      ∷ [];
}

pub record ScriptsAreWorked : Type 0 where
  pub of_stranger : IsWorked stranger
  pub with_nothing_sent : IsWorked nothing_sent
  pub of_second_peer : IsWorked second_peer
