-- The outcome of a claim.
use Rattle.std.specs.Prelude.{ℕ, length, Option, Some, None}
use Rattle.gev_types.specs.Filling.{Filling}
use Rattle.acquisition_machine.specs.Blocks.{Given}

-- a buffer is known by the number of its place and its size in bytes
abbrev pub given_as : Option (ℕ × Filling) → Option Given
given_as None = None
given_as (Some g) = Some (record { place = g.0; size = length g.1.bytes })
