-- Two notes worked out by hand: the last one, in which no two numbers are equal, and that of a datagram which came while
-- the stream wasn't running.
use Rattle.std.specs.Prelude.{◌≡◌, ℕ, zero, suc, Bool, true, false, List, [], ◌∷◌, ◌++◌, codes, Some, None}
use Rattle.gentl_types.specs.declared.buffer_id.BufferId.{BufferId}
use Rattle.gev_script.specs.Lines as line
use Rattle.acquisition_machine.specs.declared.config.AcqConfig.{AcqConfig}
use Rattle.acquisition_machine.specs.Blocks.{old, displaced}
use Rattle.acquisition_machine.specs.Machine.{Input, claimed}
use Rattle.gev_types.specs.Reasons.{no_reason}
use Rattle.script_trace.specs.Notes.{Note, opens, absent, drops, done, unbuffered}
use Rattle.script_trace.specs.Trace.{Trace}
use Rattle.script_trace.specs.Opening.{opening}
use Rattle.script_trace.specs.Texts.{words_line, notes_text}
use Rattle.script_trace.specs.Explaining.{blocks_words}
use Rattle.script_trace.specs.LineNotes.{idle_notes}
use Rattle.script_trace.specs.WorkedInputs.{leads}

-- so many notes of one kind
abbrev pub times : ℕ → Note → List Note
times zero x = []
times (suc n) x = x ∷ times n x

abbrev pub buffer : BufferId
buffer = record { place = 3; generation = 4 }

-- a block that retired with a buffer, whole or not
abbrev pub ended : Bool → Note
ended whole = done (record { block = 9; buffer = buffer; cause = old; complete = whole; kept = 3; why = no_reason; lost = []; out = true })

-- ten blocks were opened: two were whole, three weren't, one had no buffer, and four are open. Blocks 4 to 6 and 20 to 25
-- are absent, and five entries gave way.
abbrev pub notes : List Note
notes =
    times 9 (opens 9 (Some buffer)) ++ (times 3 (ended false) ++ (times 5 (drops 8 buffer) ++ (absent (4, 6) ∷ absent (20, 25) ∷
    (times 2 (ended true) ++ (unbuffered 7 displaced ∷ opens 7 None ∷ [])))))

abbrev pub five_blocks : AcqConfig
five_blocks = record { p = 528; window = 5; timeout = 1000; age = 100; rounds = 2 }

-- a block is opened without a buffer
abbrev pub starts : ℕ → List Input → List Input
starts b q = leads b ∷ claimed None ∷ q

abbrev pub four_open : Trace
four_open = record opening { inputs = starts 1 (starts 2 (starts 3 (starts 4 []))) }

pub record EndsAreWorked : Type 0 where
  pub last :
      words_line 90 17 (blocks_words five_blocks four_open notes)
      ≡ codes "# 90 17 blocks opened=10 complete=2 incomplete=3 unbuffered=1 open=4 absent=9 dropped=5\n"
  -- the bytes that the line's digits are, and none where the stream was running
  pub idle : notes_text 7 40 (idle_notes (line.datagram (codes "0001feff61")) 1) ≡ codes "# 7 40 idle bytes=5\n"
  pub running : idle_notes (line.datagram (codes "0001feff61")) 0 ≡ []
