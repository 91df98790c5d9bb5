-- What the steps on the kill mark and on the run word tell.
use Rattle.std.specs.Prelude.{◌≡◌, ◌≢◌, ℕ, ◌≤◌, ◌==◌, Bool, cond, Ok, Err}
use Rattle.atomic_table.specs.Table.{Step}
use Rattle.board_machine.specs.declared.events.Event.TheVariants.{LookRun, Start, Stop, Post, Unpost}
use Rattle.buffer_words.specs.Rule.{Slot}
use Rattle.buffer_words.specs.Plays.{Seated, LooksAt}

-- A look at the run word.
pub record LooksRun (before : Seated) (found : ℕ) (after : Seated) : Type 0 where
  pub small : found ≤ 2
  pub looks : LooksAt before (LookRun found) after

abbrev pub looked_run : Step Slot → Seated → ℕ → Seated → Type 0
looked_run st before found after = LooksRun before found after

-- A start's exchange: the run word wasn't 1, or it's the refusal.
pub record Started (before : Seated) (found : ℕ) (after : Seated) : Type 0 where
  pub done : found ≢ 1 → LooksAt before (Start (Ok tt)) after
  pub refused : found ≡ 1 → LooksAt before (Start (Err found)) after

abbrev pub started : Step Slot → Seated → ℕ → Seated → Type 0
started st before found after = Started before found after

-- the run word after a stop
abbrev pub stopped_run : Bool → ℕ
stopped_run kill = cond kill 2 0

-- A stop's exchange: the run word was 1, or it's the refusal.
pub record Stopped (kill : Bool) (before : Seated) (found : ℕ) (after : Seated) : Type 0 where
  pub small : found ≤ 2
  pub done : found ≡ 1 → LooksAt before (Stop kill (Ok tt)) after
  pub refused : found ≢ 1 → LooksAt before (Stop kill (Err found)) after

-- of the kill stop or the default one, by the run word that it leaves
abbrev pub stopped : Step Slot → Seated → ℕ → Seated → Type 0
stopped st before found after = Stopped (st.second == 2) before found after

abbrev pub posted : Step Slot → Seated → ℕ → Seated → Type 0
posted st before found after = LooksAt before Post after

abbrev pub unposted : Step Slot → Seated → ℕ → Seated → Type 0
unposted st before found after = LooksAt before (Unpost (found == 1)) after
