-- What holds of every state that inputs lead to.
use Rattle.std.specs.Prelude.{◌≡◌, ◌≢◌, ⊤, ℕ, ◌+◌, ◌<◌, ◌≤◌, List, [], ◌∷◌, length, Some}
use Rattle.std.specs.List.{AllByRecursion}
use Rattle.acquisition_machine.specs.declared.config.AcqConfig.{AcqConfig}
use Rattle.acquisition_machine.specs.Blocks.{Open}
use Rattle.acquisition_machine.specs.Machine.{State}

-- the blocks' ids rise, from this one on
abbrev pub RiseFrom : ℕ → List Open → Type 0
RiseFrom low [] = ⊤
RiseFrom low (o ∷ os) = (low ≤ o.block) × RiseFrom (o.block + 1) os

-- none of them is block b
abbrev pub AreOthers : ℕ → List Open → Type 0
AreOthers b os = AllByRecursion (λ o. o.block ≢ b) os

-- Block b may be opened: it isn't open, no later block retired, and there is room in the window.
pub record MayOpen (c : AcqConfig) (s : State) (b : ℕ) : Type 0 where
  pub others : AreOthers b s.opens
  pub above : s.floor ≤ b
  pub room : length s.opens < c.window

-- a number that a request may have
pub record IsRequestNumber (n : ℕ) : Type 0 where
  pub from_one : 1 ≤ n
  pub at_most : n ≤ 65535

-- The open blocks are in order of their ids, none below the floor, and no more than the window has; and a
-- block for which a buffer is claimed may be opened.
pub record IsSound (c : AcqConfig) (s : State) : Type 0 where
  pub from_one : 1 ≤ s.floor
  pub rise : RiseFrom s.floor s.opens
  pub room : length s.opens ≤ c.window
  pub claim : (b : ℕ) → s.asked ≡ Some b → MayOpen c s b
  pub number : IsRequestNumber s.number
