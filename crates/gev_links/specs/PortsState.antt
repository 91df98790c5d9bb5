-- What ports in memory are seen as.
use Rattle.std.specs.Prelude.{◌≡◌, ⊤, ℕ, ◌≤◌, List, [], ◌∷◌, Option, Some}
use Rattle.gev_links.specs.Links.{Answer, Address, IsBlank}
use Rattle.gev_links.specs.Moments.{ClockState}

pub record PortsState (L : Type 0) : Type 0 where
  -- how many binds were made
  pub binds : ℕ
  -- the addresses of the links that were bound; None: one of them isn't kept
  pub bound : Option (List Address)
  -- the links that came back; None: one of them isn't kept
  pub links : Option (List L)
  pub clocks : Option (List ClockState)
  pub faults : ℕ

-- A link has received and sent nothing, and has no fault.
pub record IsNew (received : Option (List Answer)) (sent : Option (List (Address × List ℕ))) (faults : ℕ) : Type 0 where
  pub unheard : IsBlank received
  pub unsent : IsBlank sent
  pub no_fault : faults ≡ 0

-- these links are new, by their lists and counts
abbrev pub AreNew : {L : Type 0} → (L → Option (List Answer)) → (L → Option (List (Address × List ℕ))) → (L → ℕ) → List L → Type 0
AreNew received sent faults [] = ⊤
AreNew received sent faults (l ∷ ls) = IsNew (received l) (sent l) (faults l) × AreNew received sent faults ls

-- no clock has told a moment
abbrev pub AreUntold : List ClockState → Type 0
AreUntold [] = ⊤
AreUntold (c ∷ cs) = (c.count ≡ Some 0) × AreUntold cs

-- Ports in memory give new links and clocks only, and have room for three of each that come back and for three addresses.
pub record IsHolding {L : Type 0} (received : L → Option (List Answer)) (sent : L → Option (List (Address × List ℕ))) (faults : L → ℕ)
    (links : List L) (clocks : List ClockState) (links_room clocks_room bound_room : ℕ) : Type 0 where
  pub new_links : AreNew received sent faults links
  pub new_clocks : AreUntold clocks
  pub room_for_links : 3 ≤ links_room
  pub room_for_clocks : 3 ≤ clocks_room
  pub room_for_bound : 3 ≤ bound_room
