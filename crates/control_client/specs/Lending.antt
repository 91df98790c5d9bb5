-- The client after what it lent was given back.
use Rattle.std.specs.Prelude.{◌≡◌, ⊤}
use Rattle.std.specs.Borrow.{follows_so, MutBor, Fml}
use mathlib.Core.Option.{none}
use Rattle.client_machine.specs.Machine.{Client}
use Rattle.client_machine.specs.Events.{step, takes}
use Rattle.control_client.specs.contracts.client.Client.{the_row}

-- the client ends as one whose waiting bytes were taken
abbrev pub EndsTaken : MutBor Client → Fml
EndsTaken s = follows_so the_row the_row s.ghost_name none (λ _ _. ⊤) (λ v. v ≡ step s.now takes)
