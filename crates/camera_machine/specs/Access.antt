-- What a peer's commands read and write (GigE Vision 2.0, READREG, WRITEREG, READMEM, WRITEMEM).
use Rattle.std.specs.Prelude.{ℕ, zero, suc, ◌+◌, ◌==◌, ◌&&◌, ◌||◌, Bool, false, not, if◌then◌else◌, List, [], ◌∷◌, ◌++◌, drop, Option, Some, None, Result, Ok, Err}
use Rattle.std.specs.Option.{option_or}
use Rattle.wire_fields.specs.Fields.{number_at}
use Rattle.gev_types.specs.declared.peer.Peer.{Peer}
use Rattle.gvcp_wire.specs.declared.status.Status.{Status}
use Rattle.gvcp_wire.specs.declared.status.Status.TheVariants.{AccessDenied}
use Rattle.bootstrap_regs.specs.Addresses.{CCP, SCP0}
use Rattle.bootstrap_regs.specs.Registers.{address_refusal, value_refusal}
use Rattle.bootstrap_regs.specs.Words.{word_at, with_word}
use Rattle.bootstrap_regs.specs.Changes as changes
use Rattle.bootstrap_regs.specs.Changes.{Change}
use Rattle.control_privilege.specs.Control.{may_read, may_write, granted}
use Rattle.resend_store.specs.Shelf.{empty_shelf}
use Rattle.camera_machine.specs.Camera.{Camera, is_open, released}

abbrev pub denied_unless : Bool → Option Status
denied_unless allowed = if allowed then None else Some AccessDenied

-- ---- reading

-- Why a peer can't read the word at this address: first the address, then its access.
abbrev pub read_refusal : Camera → Peer → ℕ → Option Status
read_refusal s peer address = option_or (address_refusal address) (denied_unless (may_read s.holder peer))

abbrev pub with_first : ℕ → Result (List ℕ) Status → Result (List ℕ) Status
with_first value (Ok values) = Ok (value ∷ values)
with_first value (Err status) = Err status

abbrev pub unless_refused : Option Status → Result (List ℕ) Status → Result (List ℕ) Status
unless_refused None values = values
unless_refused (Some status) values = Err status

-- what the words at these addresses hold, or why the first that can't be read can't
abbrev pub read_all : Camera → Peer → List ℕ → Result (List ℕ) Status
read_all s peer [] = Ok []
read_all s peer (address ∷ rest) =
    unless_refused (read_refusal s peer address) (with_first (word_at s.words address) (read_all s peer rest))

-- ---- writing one word

pub record Write : Type 0 where
  pub address : ℕ
  pub value : ℕ

-- Why a peer can't do a write: first the address, then its access, then the register and the value.
abbrev pub refusal_of : Camera → Peer → Write → Option Status
refusal_of s peer w =
    option_or (address_refusal w.address) (option_or (denied_unless (may_write s.holder peer (w.address == CCP))) (value_refusal w.address w.value))

-- A write to the host port. With 0 it closes the stream channel, which drops what waits. Opening it
-- forgets the frames that were sent before, and block ids count from 1 again.
abbrev pub with_port : Camera → ℕ → Camera
with_port s value = record s {
  words = with_word s.words SCP0 value;
  shelf = if is_open s || (value == 0) then s.shelf else empty_shelf s.shelf.room;
  waiting = if value == 0 then [] else s.waiting;
}

-- a write to the control channel privilege
abbrev pub with_privilege : Camera → Peer → ℕ → ℕ → Camera
with_privilege s peer moment value =
    if value == 0 then released s
    else record s { words = with_word s.words CCP value; holder = granted peer value moment }

-- a write that isn't refused
abbrev pub written : Camera → Peer → ℕ → Write → Camera
written s peer moment w =
    if w.address == CCP then with_privilege s peer moment w.value
    else (if w.address == SCP0 then with_port s w.value
    else record s { words = with_word s.words w.address w.value })

-- what such a write does to the words
abbrev pub change_of : Write → Change
change_of w = if (w.address == CCP) && (w.value == 0) then changes.released else changes.written w.address w.value

-- whether such a write gives its sender control
abbrev pub grants : Write → Bool
grants w = (w.address == CCP) && not (w.value == 0)

-- ---- writing words in order

-- What writes in order left, up to the first that was refused.
pub record Written : Type 0 where
  pub camera : Camera
  -- how many were done
  pub done : ℕ
  -- why the next one wasn't
  pub refusal : Option Status
  -- what the done ones changed, the latest first
  pub changes : List Change
  -- whether one of them gave the sender control
  pub has_granted : Bool

abbrev pub after_one : Write → Written → Written
after_one w rest = record rest {
  done = rest.done + 1;
  changes = rest.changes ++ change_of w ∷ [];
  has_granted = grants w || rest.has_granted;
}

abbrev pub ended_by : Option Status → Camera → Written → Written
ended_by None s goes_on = goes_on
ended_by (Some status) s goes_on = record { camera = s; done = 0; refusal = Some status; changes = []; has_granted = false }

abbrev pub write_all : Camera → Peer → ℕ → List Write → Written
write_all s peer moment [] = record { camera = s; done = 0; refusal = None; changes = []; has_granted = false }
write_all s peer moment (w ∷ ws) = ended_by (refusal_of s peer w) s (after_one w (write_all (written s peer moment w) peer moment ws))

-- ---- the bodies of commands

-- the addresses in a body of READREG, so many
abbrev pub addresses_in : ℕ → List ℕ → List ℕ
addresses_in zero bytes = []
addresses_in (suc n) bytes = number_at 0 4 bytes ∷ addresses_in n (drop 4 bytes)

-- the writes in a body of WRITEREG, so many
abbrev pub pairs_in : ℕ → List ℕ → List Write
pairs_in zero bytes = []
pairs_in (suc n) bytes = record { address = number_at 0 4 bytes; value = number_at 4 4 bytes } ∷ pairs_in n (drop 8 bytes)

-- the writes of so many words of WRITEMEM, from an address on
abbrev pub words_in : ℕ → ℕ → List ℕ → List Write
words_in zero address bytes = []
words_in (suc n) address bytes = record { address = address; value = number_at 0 4 bytes } ∷ words_in n (address + 4) (drop 4 bytes)
