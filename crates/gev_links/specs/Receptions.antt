-- What the receives of a link in memory gave: first by the members of its list, then nothing for ever.
use Rattle.std.specs.Prelude.{◌≡◌, ⊤, ℕ, zero, suc, ◌-◌, ◌^◌, ◌<◌, ◌≤◌, min, List, [], ◌∷◌, ◌++◌, length, map, Option, Some, None, option_map}
use Rattle.gev_links.specs.declared.reception.Reception.{Reception}
use Rattle.gev_links.specs.declared.reception.Reception.TheVariants.{Nothing, Failed, Came}
use Rattle.gev_links.specs.Links.{Answer, nothing, failed, came}

abbrev pub answer_given : Reception → Answer
answer_given Nothing = nothing
answer_given Failed = failed
answer_given (Came bytes peer) = came bytes.now peer

-- nothing, so many times
abbrev pub silent : ℕ → List Answer
silent zero = []
silent (suc n) = silent n ++ nothing ∷ []

-- What so many receives gave, when these gave a member of the list.
abbrev pub heard : List Reception → ℕ → List Answer
heard given n = map answer_given given ++ silent (n - length given)

-- the same, where the receives are still counted
abbrev pub heard_by : List Reception → Option ℕ → Option (List Answer)
heard_by given count = option_map (heard given) count

-- as many receives as were counted took a member of the list, as far as it goes
abbrev pub IsCounted : ℕ → ℕ → Option ℕ → Type 0
IsCounted members given None = ⊤
IsCounted members given (Some n) = (n < 2 ^ 64) × (given ≡ min n members)

pub record IsReceiving (members given room : ℕ) (count : Option ℕ) : Type 0 where
  pub fits : members ≤ room
  pub few : given ≤ members
  pub counted : IsCounted members given count
