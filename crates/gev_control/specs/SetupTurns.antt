-- A turn of the setup of a camera: its commands are carried out as a list.
use Rattle.std.specs.Prelude.{ℕ, Option}
use Rattle.client_machine.specs.declared.outcome.Outcome.{Outcome}
use Rattle.client_machine.specs.Machine.{Asked, Client}
use Rattle.client_machine.specs.Setup.{setup_commands, SETUP_SIZE}
use Rattle.gev_links.specs.Links.{Address, Answer}
use Rattle.gev_control.specs.declared.turn_end.TurnEnd.{TurnEnd}
use Rattle.gev_control.specs.declared.acq_end.AcqEnd.{AcqEnd}
use Rattle.gev_control.specs.Controlled.{ControlTurn}
use Rattle.gev_control.specs.OrderTurns.{Progress, progress, OrderTurned, OrderPart, OrderTurn, OrderHeard, next_with, next_part, end_at, hears_order, ticked_order, after_send, order_turn, IsHeardBy}
pub use Rattle.gev_control.specs.OrderTurns.{turned_at, submits_next, joins, ends_with, sent_if_heard, MayHear}

-- The client, and how many of the setup's commands were submitted to it.
abbrev pub SetUp : Type 0
SetUp = Progress

abbrev pub set_up : Client → ℕ → SetUp
set_up client begun = progress client begun

-- What came from outside in a turn.
abbrev pub SetupTurned : Type 0
SetupTurned = OrderTurned

abbrev pub SetupPart : Type 0
SetupPart = OrderPart

abbrev pub SetupTurn : Type 0
SetupTurn = OrderTurn

abbrev pub SetupHeard : Type 0
SetupHeard = OrderHeard

-- the next command is submitted where no command is outstanding, if one is left
abbrev pub begins_with : Option Asked → Address → SetUp → ℕ → SetupPart
begins_with asked stream s moment = next_with asked (setup_commands stream) s moment

abbrev pub begins : Address → SetUp → ℕ → SetupPart
begins stream s moment = next_part (setup_commands stream) s moment

-- what came of the setup, of which so many commands were submitted
abbrev pub ends_by : ℕ → Outcome → Option AcqEnd
ends_by begun outcome = end_at SETUP_SIZE begun outcome

abbrev pub hears_setup : Client → ℕ → ℕ → Option Answer → SetupHeard
hears_setup s begun moment heard = hears_order SETUP_SIZE s begun moment heard

-- what the client does between its next command and the receive
abbrev pub setup_ticked : Address → SetUp → ℕ → ControlTurn
setup_ticked stream s moment = ticked_order (setup_commands stream) s moment

abbrev pub after_ticks : TurnEnd → ControlTurn → ℕ → SetupTurned → SetupHeard
after_ticks end t begun turned = after_send SETUP_SIZE end t begun turned

abbrev pub setup_turn : Address → SetUp → SetupTurned → SetupTurn
setup_turn stream s turned = order_turn (setup_commands stream) s turned

abbrev pub IsHeard : Address → SetUp → SetupTurned → Type 0
IsHeard stream s turned = IsHeardBy (setup_commands stream) s turned
