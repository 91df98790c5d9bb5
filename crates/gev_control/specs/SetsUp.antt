-- What the setup of a camera promises of all its turns: its commands were carried out as a list.
use Rattle.std.specs.Prelude.{ℕ, List}
use Rattle.client_machine.specs.Events.{Event}
use Rattle.client_machine.specs.Setup.{setup_commands}
use Rattle.gev_links.specs.Links.{Address, Answer}
use Rattle.gev_control.specs.declared.acq_end.AcqEnd.{AcqEnd}
use Rattle.gev_control.specs.SetupTurns.{SetUp, SetupTurned}
use Rattle.gev_control.specs.CarriesOut.{ControlSide, orders_after, OrdersGoOn, orders_sent, orders_events, order_heards, order_moments, CarriesOut}

-- What is told of the outside: what was received and sent on the control link, and the moments; and the client.
abbrev pub SetupSide : Type 0
SetupSide = ControlSide

-- the setup after these turns
abbrev pub setup_after : Address → SetUp → List SetupTurned → SetUp
setup_after stream s ts = orders_after (setup_commands stream) s ts

-- the setup goes on after each of these turns
abbrev pub SetupGoesOn : Address → SetUp → List SetupTurned → Type 0
SetupGoesOn stream s ts = OrdersGoOn (setup_commands stream) s ts

-- what the turns sent
abbrev pub setup_sent : Address → SetUp → List SetupTurned → List (List ℕ)
setup_sent stream s ts = orders_sent (setup_commands stream) s ts

-- what the client went through, first in first
abbrev pub setup_events : Address → SetUp → List SetupTurned → List Event
setup_events stream s ts = orders_events (setup_commands stream) s ts

-- what their receives gave
abbrev pub setup_heards : List SetupTurned → List Answer
setup_heards ts = order_heards ts

abbrev pub setup_moments : List SetupTurned → List ℕ
setup_moments ts = order_moments ts

-- Turns were made after which the setup goes on, and then one that ended it so. Nothing else was received or
-- sent, and no other moment read.
abbrev pub SetsUp : Address → Address → SetupSide → SetupSide → AcqEnd → Type 0
SetsUp camera stream o n end = CarriesOut camera (setup_commands stream) o n end
