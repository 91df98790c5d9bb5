-- The acquisition that a captured script plays: a window of four blocks over buffers that go back at once. It
-- says behind which line of the script how many buffers are filled.
use Rattle.std.specs.Prelude.{ℕ, ◌^◌, ◌&&◌, not, max, nat_lt, nat_le, List, [], ◌∷◌, ◌++◌, length, slice_index, Bool, Option, Some, None, Result, Ok, Err, if◌then◌else◌}
use Rattle.gvsp_wire.specs.Reading.{is_extended}
use Rattle.gvsp_std.specs.declared.std_error.StdError.{StdError}
use Rattle.gvsp_std.specs.Widening.{widened}
use Rattle.acquisition_machine.specs.declared.config.AcqConfig.{AcqConfig}
use Rattle.acquisition_machine.specs.declared.need.Need.{Need}
use Rattle.acquisition_machine.specs.declared.need.Need.TheVariants.{Buffer, Done, Ignored}
use Rattle.acquisition_machine.specs.Blocks.{fills}
use Rattle.acquisition_machine.specs.Machine.{Input, datagram, claimed, tick, stop}
use Rattle.acquisition_machine.specs.Runs.{After, turn, retired_from}

-- how many blocks may be open
abbrev pub open_blocks : ℕ
open_blocks = 4

-- the numbers of the script's header: a block is old after 200 ms, and nothing is asked for
abbrev pub config : ℕ → AcqConfig
config p = record { p = p; window = open_blocks; timeout = 200; age = 20; rounds = 0 }

pub record Played : Type 0 where
  -- what the acquisition was told, first in first
  pub inputs : List Input
  -- the greatest block of a datagram with standard identifiers, 0 before the first
  pub top : ℕ

abbrev pub nothing_played : Played
nothing_played = record { inputs = []; top = 0 }

-- what was played behind a line, and how many buffers were filled there
pub record Line : Type 0 where
  pub after : Played
  pub filled : ℕ

-- these inputs come
abbrev pub told : ℕ → List Input → Played → Line
told p is s = record {
  after = record s { inputs = s.inputs ++ is };
  filled = length (fills p (retired_from (config p) (After (config p) s.inputs) is));
}

-- ---- a datagram

-- A datagram, and where it asks for a buffer, a claim that finds one of this size, and the datagram again. The
-- acquisition doesn't look at the place.
abbrev pub inputs_by : ℕ → List ℕ → Option Need → List Input
inputs_by size bytes (Some (Buffer b)) =
    datagram bytes ∷ claimed (Some (record { place = 0; size = size })) ∷ datagram bytes ∷ []
inputs_by size bytes (Some Done) = datagram bytes ∷ []
inputs_by size bytes (Some (Ignored why)) = datagram bytes ∷ []
inputs_by size bytes None = datagram bytes ∷ []

abbrev pub hears : ℕ → ℕ → List ℕ → Played → Line
hears p size bytes s = told p (inputs_by size bytes (turn (config p) s.inputs (datagram bytes)).need) s

-- A standard header: its datagram is told with extended identifiers. (No capture has so many packets that a block
-- passes 2 ^ 63.)
abbrev pub is_standard : ℕ → List ℕ → Bool
is_standard top bytes = nat_le top (2 ^ 63) && not (nat_lt (length bytes) 8) && not (is_extended (slice_index bytes 4))

-- One whose id names no block isn't told.
abbrev pub hears_widened : ℕ → ℕ → Result (ℕ × List ℕ) StdError → Played → Line
hears_widened p size (Ok x) s = hears p size x.1 (record s { top = max s.top x.0 })
hears_widened p size (Err e) s = record { after = s; filled = 0 }

-- a datagram comes
abbrev pub heard : ℕ → ℕ → List ℕ → Played → Line
heard p size bytes s =
    if is_standard s.top bytes then hears_widened p size (widened s.top bytes) s else hears p size bytes s

-- ---- a moment, a stop

abbrev pub ticked : ℕ → ℕ → Played → Line
ticked p moment s = told p (tick moment ∷ []) s

abbrev pub stopped : ℕ → Played → Line
stopped p s = told p (stop ∷ []) s
