-- The control sessions of a camera: which register and memory commands of the primary were executed in each (GigE Vision 2.0, control channel privilege).
use Rattle.std.specs.Prelude.{ℕ, Bool, ◌==◌, ◌&&◌, not, if◌then◌else◌, List, [], ◌∷◌, ◌++◌, Option, Some, None}
use Rattle.gev_types.specs.declared.peer.Peer.{Peer}
use Rattle.bootstrap_regs.specs.Addresses.{CCP}
use Rattle.bootstrap_regs.specs.Changes as changes
use Rattle.bootstrap_regs.specs.Changes.{Change}
use Rattle.control_privilege.specs.Control.{is_primary}
use Rattle.camera_machine.specs.Camera.{Camera, has_lost, looked}
use Rattle.camera_machine.specs.Commands.{Execution, commanded}
use Rattle.camera_machine.specs.Events as cameras

-- A session lasts from the execution that makes a peer primary to the next release. It holds the bytes
-- of the primary's executed register and memory commands in order, that of the command that ends it too.
pub record Sessions : Type 0 where
  -- the latest first
  pub ended : List (List (List ℕ))
  -- the commands of the session that lasts; none while nobody has control
  pub running : List (List ℕ)

abbrev pub no_sessions : Sessions
no_sessions = record { ended = []; running = [] }

-- ---- how sessions begin and end

abbrev pub with_ended : List (List ℕ) → List (List (List ℕ)) → List (List (List ℕ))
with_ended [] ended = ended
with_ended (x ∷ xs) ended = (x ∷ xs) ∷ ended

-- a release ends the session that lasts
abbrev pub closed : Sessions → Sessions
closed z = record { ended = with_ended z.running z.ended; running = [] }

abbrev pub begun : List (List ℕ) → List ℕ → List (List ℕ)
begun [] bytes = bytes ∷ []
begun (x ∷ xs) bytes = x ∷ xs

-- whether a write gives its sender control
abbrev pub is_grant : ℕ → ℕ → Bool
is_grant address value = (address == CCP) && not (value == 0)

-- A command changes something: a release ends the session that lasts, and where none lasts a grant
-- begins one with the command.
abbrev pub changed_by : List ℕ → Change → Sessions → Sessions
changed_by bytes changes.released z = closed z
changed_by bytes (changes.written address value) z =
    if is_grant address value then record z { running = begun z.running bytes } else z

-- the same for all that a command changes, the latest first
abbrev pub all_changed_by : List ℕ → List Change → Sessions → Sessions
all_changed_by bytes [] z = z
all_changed_by bytes (c ∷ cs) z = changed_by bytes c (all_changed_by bytes cs z)

-- ---- what commands and looks at the heartbeat do

-- the primary's executed command goes on with its session
abbrev pub joined : Bool → List ℕ → Sessions → Sessions
joined was_primary bytes z = if was_primary then record z { running = z.running ++ bytes ∷ [] } else z

-- An executed command joins the session of the primary that sent it, before what it changes ends it.
abbrev pub executed_in : Option Execution → Bool → List ℕ → List Change → Sessions → Sessions
executed_in None was_primary bytes changes z = z
executed_in (Some execution) was_primary bytes changes z = all_changed_by bytes changes (joined was_primary bytes z)

-- a look at the heartbeat
abbrev pub after_look : Camera → ℕ → Sessions → Sessions
after_look s moment z = if has_lost s moment then closed z else z

-- a datagram of a peer at a moment
abbrev pub after_command : Camera → Peer → List ℕ → ℕ → Sessions → Sessions
after_command s peer bytes moment z =
    executed_in (commanded s peer bytes moment).execution (is_primary (looked s moment).holder peer) bytes (commanded s peer bytes moment).changes
    (after_look s moment z)

-- the sessions after what happens to a camera
abbrev pub sessions_after : Camera → cameras.Event → Sessions → Sessions
sessions_after s (cameras.command peer bytes moment) z = after_command s peer bytes moment z
sessions_after s (cameras.tick moment) z = after_look s moment z
sessions_after s cameras.make_frame z = z
sessions_after s cameras.next_packet z = z
sessions_after s (cameras.set_short short) z = z
