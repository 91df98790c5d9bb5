-- The numbers in the words of the table: one for each place, one for the pool, the output, the kill mark
-- and the run word.
use Rattle.std.specs.Prelude.{◌≡◌, ℕ, ◌+◌, ◌*◌, ◌/◌, ◌%◌, ◌^◌, ◌<◌, ◌==◌, Bool, cond, List, [], ◌∷◌}
use Rattle.std.specs.Int.{bit_at}
use Rattle.gentl_types.specs.declared.word.Word.{Word}
use Rattle.gentl_types.specs.declared.word.State.{State}
use Rattle.gentl_types.specs.declared.word.State.TheVariants.{Vacant, Held, Away}
use Rattle.board_machine.specs.Places.{times}

-- bits 0 and 1 of a place's word
abbrev pub state_code : State → ℕ
state_code Vacant = 0
state_code Held = 1
state_code Away = 2

-- a place's word: the state, the size from bit 2 on, the generation from bit 29 on
abbrev pub code : Word → ℕ
code w = state_code w.state + 4 * w.size + 2 ^ 29 * w.generation

abbrev pub state_of : ℕ → State
state_of n = cond (n == 0) Vacant (cond (n == 1) Held Away)

-- the word of which this is the number
abbrev pub decode : ℕ → Word
decode n = record { state = state_of (n % 4); size = n / 4 % 2 ^ 27; generation = n / 2 ^ 29 % 2 ^ 32 }

-- the pool's word has a bit for each place
abbrev pub IsPool : ℕ → List ℕ → Type 0
IsPool n is = (n < 2 ^ 15) × ((i : ℕ) → bit_at n i ≡ times i is)

-- the output's word has four bits for each of its places, the first in the lowest, each the place plus 1
abbrev pub out_code : List ℕ → ℕ
out_code [] = 0
out_code (i ∷ is) = (i + 1) + 16 * out_code is

-- the close mark, in the output's word
abbrev pub mark_code : Bool → ℕ
mark_code closed = cond closed (2 ^ 60) 0

abbrev pub kill_code : Bool → ℕ
kill_code kill = cond kill 1 0
