-- What is told of the blocks that retire.
use Rattle.std.specs.Prelude.{ℕ, ◌+◌, List, [], ◌∷◌, ◌++◌, Bool, true, false, Option, Some, None}
use Rattle.stream_packets.specs.Packets.{StreamPacket}
use Rattle.block_image.specs.Kept.{kept}
use Rattle.block_assembly.specs.Accounts.{account_of}
use Rattle.acquisition_machine.specs.Blocks.{Given, Open, Retirement, cause_of}
use Rattle.acquisition_machine.specs.Blocks.{Cause as Why}
use Rattle.acquisition_machine.specs.Machine.{shown}
use Rattle.gev_types.specs.declared.block_account.Cause.{Cause}
use Rattle.acq_core.specs.declared.ended.Held.{Held}
use Rattle.acq_core.specs.declared.ended.Ended.{Ended}

abbrev pub cause_if : Option Why → Option Cause
cause_if None = None
cause_if (Some why) = Some (cause_of why)

-- what block b gave, of whose packets these were heard
abbrev pub held_of : ℕ → ℕ → Option Given → List StreamPacket → Option Held
held_of p b None heard = None
held_of p b (Some g) heard = Some (record { place = g.place; account = account_of p g.size (kept p b heard) })

-- the block retired, behind this floor
abbrev pub end_of : ℕ → ℕ → Cause → Open → Ended
end_of p floor cause o = record { block = o.block; floor = shown floor; cause = cause; held = held_of p o.block o.given o.heard }

-- if ends are told
abbrev pub told_end : Bool → Ended → List Ended
told_end true e = e ∷ []
told_end false e = []

-- these blocks retired, in order: behind each of them lies the floor of the next
abbrev pub ends_of : Bool → ℕ → ℕ → List Retirement → List Ended
ends_of telling p floor [] = []
ends_of telling p floor (r ∷ rs) = told_end telling (end_of p floor (cause_of r.cause) r.was) ++ ends_of telling p (r.was.block + 1) rs
