-- Laws of what is asked for again.
use Rattle.std.specs.Prelude.{◌≡◌, ◌⊎◌, ℕ, ◌+◌, ◌-◌, ◌<◌, ◌≤◌, ◌==◌, true, List, [], ◌∷◌, Some, is_some, if◌then◌else◌}
use Rattle.std.specs.List.{AllByRecursion, Contains}
use Rattle.missing_ranges.specs.RangeLaws.{IsHole}
use Rattle.missing_ranges.specs.Missing.{top_of, is_settled}
use Rattle.acquisition_machine.specs.declared.config.AcqConfig.{AcqConfig}
use Rattle.acquisition_machine.specs.Blocks.{Open, kept_in}
use Rattle.acquisition_machine.specs.Machine.{Input, State, Turn, Request}
use Rattle.acquisition_machine.specs.Runs.{After, turn}
use Rattle.acquisition_machine.specs.Sound.{IsRequestNumber}

-- A request names a maximal range of ids, up to the top, that have no kept packet and no recorded notice. Its
-- block was open, with a buffer and rounds left, and none of its packets was kept or asked for of late.
-- After the turn the block has done one more round.
pub record IsAsked (c : AcqConfig) (s : State) (t : Turn) (r : Request) : Type 0 where
  pub asking : Open
  pub was_open : Contains s.opens asking
  pub is_open : Contains t.after.opens (record asking { rounds = asking.rounds + 1; round_at = t.after.now })
  pub of_block : r.resend.block ≡ asking.block
  pub has_buffer : is_some asking.given ≡ true
  pub rounds_left : asking.rounds < c.rounds
  pub age : c.age ≤ t.after.now - asking.last
  pub pause : (asking.rounds ≡ 0) ⊎ (c.age ≤ t.after.now - asking.round_at)
  pub top : ℕ
  pub top_is : top_of c.p (kept_in c.p asking) ≡ Some top
  pub hole : IsHole (is_settled c.p asking.block asking.heard) 0 (top + 1) (r.resend.first, r.resend.last)
  pub number : IsRequestNumber r.number

-- whatever is asked for is missing
abbrev pub RequestsAreMissing : Type 0
RequestsAreMissing = (c : AcqConfig) (q : List Input) (i : Input) → 1 ≤ c.window → AllByRecursion (IsAsked c (After c q) (turn c q i)) (turn c q i).requests

-- how many of the requests name block b
abbrev pub times_of : ℕ → List Request → ℕ
times_of b [] = 0
times_of b (r ∷ rs) = (if r.resend.block == b then 1 else 0) + times_of b rs

-- of one block at most eight ranges are asked for at once
abbrev pub RequestsAreFew : Type 0
RequestsAreFew = (c : AcqConfig) (q : List Input) (i : Input) (b : ℕ) → 1 ≤ c.window → times_of b (turn c q i).requests ≤ 8

-- no block, open or retired, does more rounds than it may
pub record RoundsAreFew : Type 0 where
  pub of_open : (c : AcqConfig) (q : List Input) → 1 ≤ c.window → AllByRecursion (λ o. o.rounds ≤ c.rounds) (After c q).opens
  pub of_retired : (c : AcqConfig) (q : List Input) (i : Input) → 1 ≤ c.window → AllByRecursion (λ r. r.was.rounds ≤ c.rounds) (turn c q i).retired
