-- What it is that a list of commands was carried out which goes on behind a refusal.
use Rattle.std.specs.Prelude.{◌≡◌, ◌⊎◌, ℕ, ◌+◌, List, [], ◌∷◌, length, slice_get, Option, Some, None}
use Rattle.gvcp_wire.specs.Messages.{PlainCommand}
use Rattle.gev_links.specs.Links.{Address}
use Rattle.gev_control.specs.declared.acq_end.AcqEnd.{AcqEnd}
use Rattle.gev_control.specs.declared.acq_end.AcqEnd.TheVariants as how
use Rattle.gev_control.specs.declared.carried.Refusal.{Refusal}
use Rattle.gev_control.specs.declared.carried.CarriedThrough.{CarriedThrough}
use Rattle.gev_control.specs.CarriesOut.{ControlSide, CarriesOut}

-- the end with which no further command is submitted, if it's one
abbrev pub given_up : AcqEnd → Option AcqEnd
given_up how.Stopped = None
given_up how.Spent = Some how.Spent
given_up how.Fault = Some how.Fault
given_up (how.NoAnswer req) = Some (how.NoAnswer req)
given_up (how.Refused status) = None

-- the first refusal, where so far this one was the first, and the command at this place was refused
abbrev pub first_refusal : Option Refusal → ℕ → ℕ → Option Refusal
first_refusal None place status = Some (record { place = place; status = status })
first_refusal (Some refusal) place status = Some refusal

-- the first refusal after the command at this place ended so
abbrev pub refusal_after : Option Refusal → ℕ → AcqEnd → Option Refusal
refusal_after refused place how.Stopped = refused
refusal_after refused place how.Spent = refused
refusal_after refused place how.Fault = refused
refusal_after refused place (how.NoAnswer req) = refused
refusal_after refused place (how.Refused status) = first_refusal refused place status

-- The command at this place was carried out alone.
pub record CarriesOne (camera : Address) (command : PlainCommand) (place : ℕ) (refused refused_after : Option Refusal) (o n : ControlSide) (end : Option AcqEnd) : Type 0 where
  pub how_so : AcqEnd
  pub carried : CarriesOut camera (command ∷ []) o n how_so
  pub refusal : refused_after ≡ refusal_after refused place how_so
  pub ended : end ≡ given_up how_so

-- The first n commands were carried out, each alone and behind the one before it, and each was acknowledged or
-- refused.
pub data GoesThrough (camera : Address) (orders : List PlainCommand) (o : ControlSide) : ℕ → ControlSide → Option Refusal → Type 0 where
  begins : GoesThrough camera orders o 0 o None
  goes_on : (n : ℕ) (m u : ControlSide) (refused refused_after : Option Refusal) (command : PlainCommand) → GoesThrough camera orders o n m refused
      → slice_get orders n ≡ Some command → CarriesOne camera command n refused refused_after m u None → GoesThrough camera orders o (n + 1) u refused_after

-- The command at this place ended so, and no further one was submitted.
pub record GivesUp (camera : Address) (orders : List PlainCommand) (place : ℕ) (refused refused_after : Option Refusal) (m n : ControlSide) (end : AcqEnd) : Type 0 where
  pub command : PlainCommand
  pub there : slice_get orders place ≡ Some command
  pub one : CarriesOne camera command place refused refused_after m n (Some end)

-- Nothing more was to be done.
pub record IsThrough (orders : List PlainCommand) (done : ℕ) (refused refused_after : Option Refusal) (m n : ControlSide) (end : AcqEnd) : Type 0 where
  pub all : done ≡ length orders
  pub same : n ≡ m
  pub refusal : refused_after ≡ refused
  pub ended : end ≡ how.Stopped

-- All were gone through, or one of them had no answer or met a fault.
pub record CarriesThrough (camera : Address) (orders : List PlainCommand) (o n : ControlSide) (result : CarriedThrough) : Type 0 where
  pub done : ℕ
  pub side : ControlSide
  pub refused : Option Refusal
  pub through : GoesThrough camera orders o done side refused
  pub rest : IsThrough orders done refused result.refused side n result.end ⊎ GivesUp camera orders done refused result.refused side n result.end
