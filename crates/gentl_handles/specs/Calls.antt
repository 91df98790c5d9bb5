-- Laws over lists of calls.
use Rattle.std.specs.Prelude.{◌≡◌, ⊤, ℕ, ◌<◌, ◌≤◌, not, filter, All, List, [], ◌∷◌, Option, Some, None, Result, Ok, Err}
use Rattle.gentl_types.specs.declared.errors.GcError.{GcError}
use Rattle.gentl_handles.specs.declared.opened.Opened.{Opened}
use Rattle.gentl_handles.specs.Handles.{Handles, no_handles}
use Rattle.gentl_handles.specs.Opening.{opening, with_opened}
use Rattle.gentl_handles.specs.Closing.{closing, without_closed, sorted_by, is_among, falls}

pub data Call : Type 0 where
  -- a child of this parent with this number is opened
  open_child : Option ℕ → ℕ → Call
  -- the handle with this serial is closed, with all below it
  close_all : ℕ → Call

abbrev pub after_call : Handles → Call → Handles
after_call hs (open_child parent index) = with_opened hs (opening hs parent index)
after_call hs (close_all serial) = without_closed hs serial (closing hs serial)

abbrev pub after_calls : Handles → List Call → Handles
after_calls hs [] = hs
after_calls hs (call ∷ calls) = after_calls (after_call hs call) calls

-- the serial that was given, and others
abbrev pub with_serial : Result Opened GcError → List ℕ → List ℕ
with_serial (Ok o) serials = o.serial ∷ serials
with_serial (Err e) serials = serials

-- the serials that these calls give, in order
abbrev pub serials_given : Handles → List Call → List ℕ
serials_given hs [] = []
serials_given hs (open_child parent index ∷ calls) =
    with_serial (opening hs parent index) (serials_given (with_opened hs (opening hs parent index)) calls)
serials_given hs (close_all serial ∷ calls) = serials_given (without_closed hs serial (closing hs serial)) calls

-- each number is above the one before, and the first above this one
abbrev pub RiseFrom : ℕ → List ℕ → Type 0
RiseFrom low [] = ⊤
RiseFrom low (n ∷ ns) = (low < n) × RiseFrom n ns

-- a parent has a lower serial
abbrev pub IsBehind : Option ℕ → ℕ → Type 0
IsBehind None serial = ⊤
IsBehind (Some parent) serial = parent < serial

-- Serials rise, each handle stands behind its parent, and no serial is above the number of openings.
abbrev pub AreOrdered : ℕ → List Opened → ℕ → Type 0
AreOrdered low [] openings = low ≤ openings
AreOrdered low (o ∷ os) openings = (low < o.serial) × IsBehind o.parent o.serial × AreOrdered o.serial os openings

-- What is closed is the handle with this serial and all below it: a handle is closed exactly where it is
-- that handle or its parent is closed; and the others stay.
pub record ClosesAllBelow (serial : ℕ) (handles : List Opened) : Type 0 where
  pub closed : All (λ o. is_among (sorted_by serial handles).closed (Some o.serial) ≡ falls serial (sorted_by serial handles).closed o) handles
  pub kept : (sorted_by serial handles).kept ≡ filter (λ o. not (is_among (sorted_by serial handles).closed (Some o.serial))) handles

-- No serial is given twice: each that is given is above the one before.
abbrev pub SerialsRise : Type 0
SerialsRise = (hs : Handles) (calls : List Call) → RiseFrom hs.openings (serials_given hs calls)

abbrev pub CallsKeepOrder : Type 0
CallsKeepOrder = (calls : List Call) → AreOrdered 0 (after_calls no_handles calls).handles (after_calls no_handles calls).openings

abbrev pub ClosingTakesAllBelow : Type 0
ClosingTakesAllBelow = (calls : List Call) (serial : ℕ) → ClosesAllBelow serial (after_calls no_handles calls).handles
