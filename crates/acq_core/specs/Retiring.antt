-- What blocks that retire leave of the receiver's state.
use Rattle.std.specs.Prelude.{◌≡◌, ◌+◌, List, ◌++◌}
use Rattle.acquisition_machine.specs.Blocks.{Open, Retirement, given_back, fills}
use Rattle.acquisition_machine.specs.Machine.{floor_after}
use Rattle.acq_core.specs.declared.window.Window.{Window}
use Rattle.gev_types.specs.declared.block_account.Cause.{Cause}
use Rattle.acq_core.specs.Standing.{SlotsStand, floor_of}
use Rattle.acq_core.specs.Ending.{end_of, told_end, ends_of}

-- Only the slots, the floor, the fills, the waiting bitmaps and what is told may differ.
abbrev pub ChangesSlots : Window → Window → Type 0
ChangesSlots old new = new ≡ record old { floor = new.floor; slots = new.slots; spare = new.spare; fills = new.fills; ends = new.ends }

-- the lowest block retired, for this cause, and these stay
pub record RetiresFirst (old new : Window) (cause : Cause) (o : Open) (os : List Open) : Type 0 where
  pub slots : SlotsStand old.config.p new.slots.items os
  pub fills : new.fills.items ≡ old.fills.items ++ given_back old.config.p cause o o.given
  pub ends : new.ends.items ≡ old.ends.items ++ told_end old.telling (end_of old.config.p (floor_of old.floor) cause o)
  pub floor : floor_of new.floor ≡ o.block + 1

-- these retired, and those stay
pub record RetiresAll (old new : Window) (rs : List Retirement) (os : List Open) : Type 0 where
  pub slots : SlotsStand old.config.p new.slots.items os
  pub fills : new.fills.items ≡ old.fills.items ++ fills old.config.p rs
  pub ends : new.ends.items ≡ old.ends.items ++ ends_of old.telling old.config.p (floor_of old.floor) rs
  pub floor : floor_of new.floor ≡ floor_after (floor_of old.floor) rs
