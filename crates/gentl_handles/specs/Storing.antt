-- How the tree keeps its handles: a slab of what is known of each, and the keys by rising serial.
use Rattle.std.specs.Prelude.{◌≡◌, ◌≢◌, ⊤, ◌⊎◌, ℕ, ◌≤◌, List, [], ◌∷◌, map, length, None, IsSome, unwrap_or}
use Rattle.slab.specs.Slab.{Slab, get, slab_len}
use Rattle.gentl_handles.specs.declared.handle.Handle.{Handle}
use Rattle.gentl_handles.specs.declared.level.Level.TheVariants.{System}
use Rattle.gentl_handles.specs.declared.opened.Opened.{Opened}
use Rattle.gentl_handles.specs.Calls.{AreOrdered}

-- what is read under a key that holds nothing
abbrev pub nothing_opened : Opened
nothing_opened = record { serial = 0; level = System; parent = None; index = 0 }

abbrev pub opened_at : Slab Opened → ℕ → Opened
opened_at entries key = unwrap_or (get entries key) nothing_opened

-- the handles, in the order of these keys
abbrev pub opened_by : Slab Opened → List ℕ → List Opened
opened_by entries order = map (λ key. opened_at entries key) order

abbrev pub IsIn : ℕ → List ℕ → Type 0
IsIn key [] = ⊥
IsIn key (k ∷ ks) = (k ≡ key) ⊎ IsIn key ks

abbrev pub IsNotIn : ℕ → List ℕ → Type 0
IsNotIn key [] = ⊤
IsNotIn key (k ∷ ks) = (k ≢ key) × IsNotIn key ks

-- The keys are different ones, and something lies under each.
abbrev pub AreKeys : Slab Opened → List ℕ → Type 0
AreKeys entries [] = ⊤
AreKeys entries (k ∷ ks) = IsSome (get entries k) × IsNotIn k ks × AreKeys entries ks

-- These keys are all that the slab holds, which has room for 64.
pub record AreStored (entries : Slab Opened) (order : List ℕ) : Type 0 where
  pub keys : AreKeys entries order
  pub all : (key : ℕ) → IsSome (get entries key) → IsIn key order
  pub counted : slab_len entries ≡ length order
  pub few : length order ≤ 64
  pub room : 64 ≤ entries.capacity

pub record IsTree (entries : Slab Opened) (order : List ℕ) (openings : ℕ) : Type 0 where
  pub stored : AreStored entries order
  pub ordered : AreOrdered 0 (opened_by entries order) openings

-- the serials of handles
abbrev pub serials_of : List Handle → List ℕ
serials_of handles = map (λ h. h.serial) handles
