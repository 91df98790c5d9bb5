-- More lists of inputs with all that the machine makes of them: blocks that grow old, and missing packets.
use Rattle.std.specs.Prelude.{ℕ, true, false, List, [], ◌∷◌, ◌++◌, replicate}
use Rattle.gev_types.specs.declared.block_account.Cause.TheVariants.{Old, Stopped}
use Rattle.gev_types.specs.Reasons.{no_reason}
use Rattle.acquisition_machine.specs.declared.need.Need.TheVariants.{Buffer, Done, Ignored}
use Rattle.acquisition_machine.specs.declared.need.Why.TheVariants.{Notice}
use Rattle.acquisition_machine.specs.declared.retired.Retired.{Retired}
use Rattle.acquisition_machine.specs.Machine.{Input, tick, stop}
use Rattle.acquisition_machine.specs.Runs.{no_counts}
use Rattle.acquisition_machine.specs.Worked.{Row, config, leads, carries, trails, denies, finds, abc, seen, lost_range, retired_part, leader_alone, comes_back, asks_for}

-- a leader alone, when the stream stops
abbrev pub stops_early : Row
stops_early = record {
  config = config 528 1 2;
  inputs = leads 1 3 1 ∷ finds 0 3 ∷ leads 1 3 1 ∷ stop ∷ [];
  answers = Buffer 1 ∷ Done ∷ [];
  filled = comes_back 0 (0 ∷ 0 ∷ 0 ∷ []) 1 false false (seen 3 1) 3 0 (leader_alone Stopped) ∷ [];
  commands = [];
  counts = no_counts;
}

-- an image of 64 bytes none of which came
abbrev pub empty_image : Retired
empty_image = comes_back 0 (replicate 64 0) 1 false false (seen 8 8) 64 0 (retired_part Old (lost_range 1 1 1) (record no_reason { no_payload = true }))

abbrev pub ages : List Input
ages = leads 1 8 8 ∷ finds 0 64 ∷ leads 1 8 8 ∷ tick 999 ∷ trails 1 2 8 ∷ tick 1998 ∷ []

-- a kept packet renews the block's time
abbrev pub not_yet_old : Row
not_yet_old = record {
  config = config 528 1 0;
  inputs = ages;
  answers = Buffer 1 ∷ Done ∷ Done ∷ [];
  filled = [];
  commands = [];
  counts = no_counts;
}

abbrev pub grows_old : Row
grows_old = record {
  config = config 528 1 0;
  inputs = ages ++ tick 1999 ∷ [];
  answers = Buffer 1 ∷ Done ∷ Done ∷ [];
  filled = empty_image ∷ [];
  commands = [];
  counts = no_counts;
}

abbrev pub lacks_payload : List Input
lacks_payload = leads 1 8 8 ∷ finds 0 64 ∷ leads 1 8 8 ∷ trails 1 2 8 ∷ tick 100 ∷ []

abbrev pub later_ticks : List Input
later_ticks = tick 200 ∷ tick 300 ∷ tick 1000 ∷ []

-- A lost payload is asked for twice, and then the block is old.
abbrev pub asks_twice : Row
asks_twice = record {
  config = config 528 1 2;
  inputs = lacks_payload ++ later_ticks;
  answers = Buffer 1 ∷ Done ∷ Done ∷ [];
  filled = empty_image ∷ [];
  commands = asks_for 1 1 1 ∷ asks_for 2 1 1 ∷ [];
  counts = record no_counts { requests = 2 };
}

-- the camera says that the payload is gone
abbrev pub asks_once : Row
asks_once = record {
  config = config 528 1 2;
  inputs = lacks_payload ++ denies 0x8012 1 1 ∷ later_ticks;
  answers = Buffer 1 ∷ Done ∷ Done ∷ Ignored Notice ∷ [];
  filled = empty_image ∷ [];
  commands = asks_for 1 1 1 ∷ [];
  counts = record no_counts { requests = 1; notice = 1 };
}

-- the camera says that the payload isn't there yet
abbrev pub asks_again : Row
asks_again = record {
  config = config 528 1 2;
  inputs = lacks_payload ++ denies 0x8010 1 1 ∷ later_ticks;
  answers = Buffer 1 ∷ Done ∷ Done ∷ Ignored Notice ∷ [];
  filled = empty_image ∷ [];
  commands = asks_for 1 1 1 ∷ asks_for 2 1 1 ∷ [];
  counts = record no_counts { requests = 2; notice = 1 };
}

-- Before the leader came, what lies below the highest id is asked for.
abbrev pub asks_for_leader : Row
asks_for_leader = record {
  config = config 528 1 2;
  inputs = carries 1 1 abc ∷ finds 0 3 ∷ carries 1 1 abc ∷ tick 100 ∷ [];
  answers = Buffer 1 ∷ Done ∷ [];
  filled = [];
  commands = asks_for 1 0 0 ∷ [];
  counts = record no_counts { requests = 1 };
}

abbrev pub four : List ℕ
four = 97 ∷ 97 ∷ 97 ∷ 97 ∷ []

-- Of twenty payloads each other one is lost, and eight ranges are asked for in a round.
abbrev pub asks_for_eight : Row
asks_for_eight = record {
  config = config 4 1 2;
  inputs =
      leads 1 8 10 ∷ finds 0 80 ∷ leads 1 8 10 ∷ carries 1 2 four ∷ carries 1 4 four ∷ carries 1 6 four ∷ carries 1 8 four
      ∷ carries 1 10 four ∷ carries 1 12 four ∷ carries 1 14 four ∷ carries 1 16 four ∷ carries 1 18 four
      ∷ carries 1 20 four ∷ trails 1 21 10 ∷ tick 100 ∷ tick 200 ∷ [];
  answers = Buffer 1 ∷ replicate 12 Done;
  filled = [];
  commands =
      asks_for 1 1 1 ∷ asks_for 2 3 3 ∷ asks_for 3 5 5 ∷ asks_for 4 7 7 ∷ asks_for 5 9 9 ∷ asks_for 6 11 11
      ∷ asks_for 7 13 13 ∷ asks_for 8 15 15 ∷ asks_for 9 1 1 ∷ asks_for 10 3 3 ∷ asks_for 11 5 5 ∷ asks_for 12 7 7
      ∷ asks_for 13 9 9 ∷ asks_for 14 11 11 ∷ asks_for 15 13 13 ∷ asks_for 16 15 15 ∷ [];
  counts = record no_counts { requests = 16 };
}
