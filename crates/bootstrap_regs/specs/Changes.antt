-- What the words hold after a list of writes and releases.
use Rattle.std.specs.Prelude.{◌≡◌, ℕ, ◌*◌, ◌<◌, ◌||◌, ◌==◌, List, [], ◌∷◌, length, slice_index, if◌then◌else◌}
use Rattle.bootstrap_regs.specs.Addresses.{CCP, SCP0, WORDS}
use Rattle.bootstrap_regs.specs.Registers.{initial_at}

pub data Change : Type 0 where
  -- a value was written to an address
  written : ℕ → ℕ → Change
  -- control was released, which writes 0 to CCP and SCP0
  released : Change

-- What the word at this address holds after these changes, the latest first: the value of the latest
-- write to it, a release counting as writes of 0, else its first value.
abbrev pub value_after : List Change → ℕ → ℕ
value_after [] address = initial_at address
value_after (written to value ∷ before) address = if to == address then value else value_after before address
value_after (released ∷ before) address = if address == CCP || address == SCP0 then 0 else value_after before address

-- The words are those after the changes.
pub record Holds (words : List ℕ) (changes : List Change) : Type 0 where
  pub size : length words ≡ WORDS
  pub values : (i : ℕ) → i < WORDS → slice_index words i ≡ value_after changes (4 * i)
