-- The closing of a handle and of all below it.
use Rattle.std.specs.Prelude.{ℕ, ◌==◌, ◌||◌, Bool, false, List, [], ◌∷◌, ◌++◌, Option, Some, None, Result, Ok, Err, if◌then◌else◌}
use Rattle.std.specs.List.{list_any}
use Rattle.gentl_types.specs.declared.errors.GcError.{GcError}
use Rattle.gentl_types.specs.declared.errors.GcError.TheVariants.{InvalidHandle}
use Rattle.gentl_types.specs.declared.errors.Shown.TheVariants.{NoHandle}
use Rattle.gentl_handles.specs.declared.opened.Opened.{Opened}
use Rattle.gentl_handles.specs.Handles.{Handles, found}

-- the serials that are closed, and the handles that stay
pub record Sorted : Type 0 where
  pub closed : List ℕ
  pub kept : List Opened

abbrev pub is_among : List ℕ → Option ℕ → Bool
is_among serials None = false
is_among serials (Some parent) = list_any (λ s. s == parent) serials

-- the handle is the one that is closed, or its parent was closed before
abbrev pub falls : ℕ → List ℕ → Opened → Bool
falls serial closed o = o.serial == serial || is_among closed o.parent

abbrev pub sort_one : ℕ → Sorted → Opened → Sorted
sort_one serial s o =
    if falls serial s.closed o then record s { closed = s.closed ++ o.serial ∷ [] }
    else record s { kept = s.kept ++ o ∷ [] }

-- A handle stands behind its parent, so that each parent is sorted out before its children.
abbrev pub sort_out : ℕ → Sorted → List Opened → Sorted
sort_out serial s [] = s
sort_out serial s (o ∷ os) = sort_out serial (sort_one serial s o) os

abbrev pub none_sorted : Sorted
none_sorted = record { closed = []; kept = [] }

abbrev pub sorted_by : ℕ → List Opened → Sorted
sorted_by serial handles = sort_out serial none_sorted handles

abbrev pub closing_of : Option Opened → ℕ → Sorted → Result (List ℕ) GcError
closing_of None serial sorted = Err (InvalidHandle (NoHandle serial))
closing_of (Some o) serial sorted = Ok sorted.closed

-- The serials of the handle and all below it, rising. It's refused where the handle isn't open.
abbrev pub closing : Handles → ℕ → Result (List ℕ) GcError
closing hs serial = closing_of (found serial hs.handles) serial (sorted_by serial hs.handles)

-- the handles after it
abbrev pub without_closed : Handles → ℕ → Result (List ℕ) GcError → Handles
without_closed hs serial (Ok closed) = record hs { handles = (sorted_by serial hs.handles).kept }
without_closed hs serial (Err e) = hs
