-- What is sent on one link, in order, up to the first send that fails.
use Rattle.std.specs.Prelude.{◌≡◌, ℕ, Bool, true, false, List, [], ◌∷◌, ◌++◌, Option}
use Rattle.gev_links.specs.Faults.{Rose}
use Rattle.gev_links.specs.Links.{Address, Adds}

-- these datagrams go to one peer
abbrev pub addressed : Address → List (List ℕ) → List (Address × List ℕ)
addressed peer [] = []
addressed peer (bytes ∷ rest) = (peer, bytes) ∷ addressed peer rest

-- These are sent in order, until one fails. Where something failed before nothing is sent; both flags say
-- that something has failed by then.
pub record SendsOn (peer : Address) (all : List (List ℕ)) (was now : Bool) (old new : Option (List (Address × List ℕ))) : Type 0 where
  pub done : List (List ℕ)
  pub rest : List (List ℕ)
  pub is : all ≡ done ++ rest
  pub sent : Adds old new (addressed peer done)
  pub none : was ≡ true → done ≡ []
  pub stays : was ≡ true → now ≡ true
  pub whole : now ≡ false → rest ≡ []

-- The count of faults, by whether something had failed before, and has failed by now: it rises exactly where
-- the first failure came in between.
abbrev pub Fails : Bool → Bool → ℕ → ℕ → Type 0
Fails false false old new = new ≡ old
Fails false true old new = Rose old new
Fails true true old new = new ≡ old
Fails true false old new = ⊥
