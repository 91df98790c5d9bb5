-- What the notes of an acquisition account for.
use Rattle.std.specs.Prelude.{◌≡◌, ◌⊎◌, ◌↔◌, ℕ, ◌+◌, ◌≤◌, true, List, [], ◌∷◌, ◌++◌, length, Option, Some, None}
use Rattle.missing_ranges.specs.Accounts.{lost_of}
use Rattle.missing_ranges.specs.Missing.{top_of}
use Rattle.gev_types.specs.Reasons.{no_reason}
use Rattle.missing_ranges.specs.ReasonLaws.{AreLost}
use Rattle.board_machine.specs.Machine.{Board, Item}
use Rattle.acquisition_machine.specs.declared.config.AcqConfig.{AcqConfig}
use Rattle.acquisition_machine.specs.Blocks.{Given, Retirement, cause_of, kept_in, filling_in}
use Rattle.acquisition_machine.specs.Machine.{Input, restart, State}
use Rattle.acquisition_machine.specs.Runs.{no_counts, first_state, After, retired_from}
use Rattle.acquisition_machine.specs.Laws.{HasNoRestart}
use Rattle.script_trace.specs.Notes.{Outcome, Note, done, unbuffered}
use Rattle.script_trace.specs.Inputs.{notes_from}
use Rattle.script_trace.specs.Counted.{counted, is_opening, is_ending, endings, times_so}
use Rattle.script_trace.specs.Spans.{spans, AreAccounted}

-- Every datagram is accounted for: what was counted is what the notes count.
abbrev pub CountsAreAccounted : Type 0
CountsAreAccounted =
    (c : AcqConfig) (b : Board) (ds : List (List Item)) (q : List Input)
    → counted (notes_from c b ds first_state q) no_counts ≡ (After c q).counts

-- no input came yet, or an acquisition has just begun
abbrev pub IsBeginning : List Input → Type 0
IsBeginning before = (before ≡ []) ⊎ ((q : List Input) × (before ≡ q ++ restart ∷ []))

-- Every block id of an acquisition is accounted for.
abbrev pub BlocksAreAccounted : Type 0
BlocksAreAccounted =
    (c : AcqConfig) (b : Board) (ds : List (List Item)) (before since : List Input) → 1 ≤ c.window
    → IsBeginning before → HasNoRestart since
    → AreAccounted (spans (notes_from c b ds (After c before) since)) (After c (before ++ since)).floor

-- Every block that was opened retired, or is open.
abbrev pub OpenedAreAccounted : Type 0
OpenedAreAccounted =
    (c : AcqConfig) (b : Board) (ds : List (List Item)) (q : List Input) → 1 ≤ c.window
    → times_so is_opening (notes_from c b ds first_state q)
    ≡ times_so is_ending (notes_from c b ds first_state q) + length (After c q).opens

-- The outcome is of this block, which retired with this buffer. It names a reason exactly where the image isn't
-- whole, and as lost the ids up to the block's last one that have no kept packet.
pub record IsReasoned (c : AcqConfig) (r : Retirement) (given : Given) (o : Outcome) : Type 0 where
  pub of_block : o.block ≡ r.was.block
  pub by : o.cause ≡ r.cause
  pub place : o.buffer.place ≡ given.place
  pub as_recorded : o.complete ≡ (filling_in c.p r given).rec.complete
  pub kept : o.kept ≡ length (kept_in c.p r.was)
  pub why : (o.complete ≡ true) ↔ (o.why ≡ no_reason)
  pub lost : (top : ℕ) → top_of c.p (kept_in c.p r.was) ≡ Some top → AreLost (kept_in c.p r.was) top o.lost
  -- where no packet tells a last id
  pub nothing : top_of c.p (kept_in c.p r.was) ≡ None → o.lost ≡ []
  -- and the record of the buffer tells the same
  pub told : (filling_in c.p r given).rec.account ≡ Some (record { cause = cause_of o.cause; lost = lost_of o.lost; why = o.why })

-- The note tells how this block ended, with this buffer or none.
abbrev pub TellsEnd : AcqConfig → Retirement → Option Given → Note → Type 0
TellsEnd c r None x = x ≡ unbuffered r.was.block r.cause
TellsEnd c r (Some given) x = (o : Outcome) × (x ≡ done o) × IsReasoned c r given o

-- The notes tell how these blocks ended, one each, in order.
abbrev pub TellEnds : AcqConfig → List Retirement → List Note → Type 0
TellEnds c [] xs = xs ≡ []
TellEnds c (r ∷ rs) [] = ⊥
TellEnds c (r ∷ rs) (x ∷ xs) = TellsEnd c r r.was.given x × TellEnds c rs xs

-- Of the blocks that these inputs retire each one's end is told once, in order, and no other.
abbrev pub NotesAreReasoned : Type 0
NotesAreReasoned =
    (c : AcqConfig) (b : Board) (ds : List (List Item)) (s : State) (q : List Input) → 1 ≤ c.p
    → TellEnds c (retired_from c s q) (endings (notes_from c b ds s q))
