-- The value that a heartbeat told in a turn of the reader (GigE Vision 2.0, bootstrap registers: control channel
-- privilege).
use Rattle.std.specs.Prelude.{◌≡◌, ℕ, Bool, true, false, Option, Some, None, IsSome}
use Rattle.client_machine.specs.Machine.{Asked, Client}
use Rattle.control_client.specs.Values.{value_of}
use Rattle.gev_links.specs.Links.{Answer}
use Rattle.gev_control.specs.declared.turn_end.TurnEnd.TheVariants as ends
use Rattle.gev_control.specs.Controlled.{control_of}
use Rattle.gev_control.specs.OrderLaws.{IsToldBy}

-- the value, where a command was outstanding before the turn and none is after it
abbrev pub told_value : Bool → Option Asked → Client → Option ℕ
told_value true None s = value_of s.body
told_value true (Some asked) s = None
told_value false asked s = None

-- A turn that goes on, before which a command was outstanding and after which none is, heard its acknowledge with
-- success, and the client's body is what that told.
abbrev pub TellsTheHeartbeat : Client → Option Answer → ℕ → Type 0
TellsTheHeartbeat s heard moment =
    IsSome s.asked → (control_of s heard moment).end ≡ ends.GoesOn → (control_of s heard moment).state.asked ≡ None
    → IsToldBy s heard (control_of s heard moment).state
