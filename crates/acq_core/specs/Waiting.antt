-- What waits to be taken: fills, and requests as the bytes that are sent.
use Rattle.std.specs.Prelude.{ℕ, ◌≤◌, List, map}
use Rattle.std.specs.List.{AllByRecursion}
use Rattle.gvcp_wire.specs.Control.{plain}
use Rattle.gvcp_wire.specs.Bodies.{resend_head, resend_command}
use Rattle.acquisition_machine.specs.declared.retired.Retired.{Retired}
use Rattle.gvcp_wire.specs.declared.resend.Resend.{Resend}
use Rattle.acq_core.specs.declared.asked.Asked.{Asked}
use Rattle.acq_core.specs.declared.ended.Ended.{Ended}
use Rattle.acq_core.specs.declared.window.Window.{Window}

-- the command's 28 bytes
abbrev pub asked_bytes : Asked → List ℕ
asked_bytes a = plain (resend_head a.number) (resend_command a.resend)

-- the fills that wait, first in first
abbrev pub waiting_fills : Window → List Retired
waiting_fills m = m.fills.items

-- the requests that wait, first in first
abbrev pub waiting_requests : Window → List (List ℕ)
waiting_requests m = map asked_bytes m.requests.items

-- what they ask for
abbrev pub waiting_resends : Window → List Resend
waiting_resends m = map (λ a. a.resend) m.requests.items

-- the blocks that retired at the last input and weren't told yet, first in first
abbrev pub waiting_ends : Window → List Ended
waiting_ends m = m.ends.items

-- each has a number from 1 on
abbrev pub AreNumbered : Window → Type 0
AreNumbered m = AllByRecursion (λ a. 1 ≤ a.number) m.requests.items
