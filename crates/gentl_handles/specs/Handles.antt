-- The open handles, by rising serial, and how many openings there were so far.
use Rattle.std.specs.Prelude.{ℕ, ◌==◌, ◌&&◌, Bool, true, false, List, [], ◌∷◌, Option, Some, None, if◌then◌else◌}
use Rattle.gentl_handles.specs.declared.opened.Opened.{Opened}

pub record Handles : Type 0 where
  pub handles : List Opened
  pub openings : ℕ

abbrev pub no_handles : Handles
no_handles = record { handles = []; openings = 0 }

-- the open handle with this serial
abbrev pub found : ℕ → List Opened → Option Opened
found serial [] = None
found serial (o ∷ os) = if o.serial == serial then Some o else found serial os

abbrev pub same_parent : Option ℕ → Option ℕ → Bool
same_parent None None = true
same_parent None (Some b) = false
same_parent (Some a) None = false
same_parent (Some a) (Some b) = a == b

abbrev pub is_child : Option ℕ → ℕ → Opened → Bool
is_child parent index o = same_parent o.parent parent && o.index == index

-- the open handle with this number under this parent
abbrev pub child_of : Option ℕ → ℕ → List Opened → Option Opened
child_of parent index [] = None
child_of parent index (o ∷ os) = if is_child parent index o then Some o else child_of parent index os
