-- The opening of a handle: what it becomes, or why it's refused.
use Rattle.std.specs.Prelude.{ℕ, ◌+◌, ◌==◌, ◌||◌, nat_lt, List, [], ◌∷◌, ◌++◌, length, Option, Some, None, unwrap_or, option_and_then, Result, Ok, Err, if◌then◌else◌}
use Rattle.gentl_types.specs.declared.errors.GcError.{GcError}
use Rattle.gentl_types.specs.declared.errors.GcError.TheVariants.{ResourceInUse, InvalidHandle, InvalidIndex, ResourceExhausted}
use Rattle.gentl_types.specs.declared.errors.Shown.TheVariants.{NoHandle}
use Rattle.gentl_handles.specs.declared.level.Level.{Level}
use Rattle.gentl_handles.specs.declared.level.Level.TheVariants.{System, Interface, Device, Stream, Event}
use Rattle.gentl_handles.specs.declared.opened.Opened.{Opened}
use Rattle.gentl_handles.specs.Handles.{Handles, found, child_of}

-- the level of a child: nothing opens under an event
abbrev pub level_below : Level → Option Level
level_below System = Some Interface
level_below Interface = Some Device
level_below Device = Some Stream
level_below Stream = Some Event
level_below Event = None

-- What opens under this parent, if it's open; without a parent it's a system.
abbrev pub child_level : Option ℕ → List Opened → Option Level
child_level None handles = Some System
child_level (Some parent) handles = option_and_then (λ o. level_below o.level) (found parent handles)

-- There is one system, and one event of a stream, and there are four of each other level.
abbrev pub most_index : Level → ℕ
most_index System = 0
most_index Interface = 3
most_index Device = 3
most_index Stream = 3
most_index Event = 0

-- 64 are open, or the serials are spent
abbrev pub next_opened : Handles → Option ℕ → ℕ → Level → Result Opened GcError
next_opened hs parent index level =
    if length hs.handles == 64 || hs.openings == 18446744073709551615 then Err ResourceExhausted
    else Ok (record { serial = hs.openings + 1; level = level; parent = parent; index = index })

abbrev pub opening_at : Handles → Option ℕ → ℕ → Level → Option Opened → Result Opened GcError
opening_at hs parent index level None = next_opened hs parent index level
opening_at hs parent index level (Some o) = Err (ResourceInUse (NoHandle o.serial))

abbrev pub opening_of : Handles → Option ℕ → ℕ → Option Level → Result Opened GcError
opening_of hs parent index None = Err (InvalidHandle (NoHandle (unwrap_or parent 0)))
opening_of hs parent index (Some level) =
    if nat_lt (most_index level) index then Err (InvalidIndex index)
    else opening_at hs parent index level (child_of parent index hs.handles)

-- The child that opens with this number under this parent. It's refused in this order: the parent isn't
-- open or is an event; the number is too high; that child is open; nothing more can be opened.
abbrev pub opening : Handles → Option ℕ → ℕ → Result Opened GcError
opening hs parent index = opening_of hs parent index (child_level parent hs.handles)

-- the handles after it
abbrev pub with_opened : Handles → Result Opened GcError → Handles
with_opened hs (Ok o) = record { handles = hs.handles ++ o ∷ []; openings = o.serial }
with_opened hs (Err e) = hs
