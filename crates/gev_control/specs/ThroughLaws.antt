-- What is submitted while a list is carried out that goes on behind a refusal.
use Rattle.std.specs.Prelude.{◌≡◌, ℕ, List, [], ◌∷◌, ◌++◌, take, Option}
use Rattle.gvcp_wire.specs.Messages.{PlainCommand}
use Rattle.client_machine.specs.Machine.{IsIdle}
use Rattle.gev_links.specs.Links.{Address}
use Rattle.gev_control.specs.declared.acq_end.AcqEnd.{AcqEnd}
use Rattle.gev_control.specs.declared.carried.Refusal.{Refusal}
use Rattle.gev_control.specs.OrderTurns.{progress}
use Rattle.gev_control.specs.CarriesOut.{ControlSide, orders_events, CarriesOut}
use Rattle.gev_control.specs.OrderLaws.{submitted_in}
use Rattle.gev_control.specs.CarriesThrough.{GoesThrough, begins, goes_on}

-- the commands that were submitted while a list was carried out
abbrev pub list_submitted : {camera : Address} → (orders : List PlainCommand) → (o : ControlSide) → {n : ControlSide} → {end : AcqEnd}
    → CarriesOut camera orders o n end → List PlainCommand
list_submitted orders o carried = submitted_in (orders_events orders (progress o.client 0) (carried.before ++ carried.last ∷ []))

-- the same of commands that were gone through one by one
abbrev pub through_submitted : {camera : Address} → {orders : List PlainCommand} → {o : ControlSide} → {n : ℕ} → {u : ControlSide} → {refused : Option Refusal}
    → GoesThrough camera orders o n u refused → List PlainCommand
through_submitted begins = []
through_submitted (goes_on n m u refused refused_after command through there one) = through_submitted through ++ list_submitted (command ∷ []) m one.carried

-- Of a client that had none outstanding: the commands that were gone through were submitted, in order, each once.
pub record SubmitsThrough {camera : Address} {orders : List PlainCommand} {o : ControlSide} {n : ℕ} {u : ControlSide} {refused : Option Refusal}
    (through : GoesThrough camera orders o n u refused) : Type 0 where
  pub submitted : through_submitted through ≡ take n orders
  pub idle : IsIdle u.client

abbrev pub ThroughInOrder : Type 0
ThroughInOrder =
    (camera : Address) (orders : List PlainCommand) (o : ControlSide) (n : ℕ) (u : ControlSide) (refused : Option Refusal)
    (through : GoesThrough camera orders o n u refused) → IsIdle o.client → SubmitsThrough through
