-- What a link in memory is seen as.
use Rattle.std.specs.Prelude.{ℕ, List, Option}
use Rattle.gev_links.specs.Links.{Address, Answer}

pub record LinkState : Type 0 where
  -- the link's own address
  pub address : Address
  -- what the receives gave; None: more than are counted
  pub received : Option (List Answer)
  -- what was sent
  pub sent : List (Address × List ℕ)
  -- how many calls failed
  pub faults : ℕ

-- a link that keeps nothing of what is sent, and never fails
pub record DiscardingState : Type 0 where
  pub address : Address
  pub received : Option (List Answer)
