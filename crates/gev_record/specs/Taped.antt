-- What a tape keeps of what its link told.
use Rattle.std.specs.Prelude.{◌≡◌, ⊤, ℕ, ◌<◌, ◌≤◌, nat_lt, List, [], ◌∷◌, ◌++◌, length, map, take, Option, Some, None, if◌then◌else◌}
use Rattle.std.specs.List.{AllByRecursion}
use Rattle.gev_links.specs.Links.{Answer, nothing, failed, came}
use Rattle.gev_record.specs.declared.kept.Kept.{Kept}
use Rattle.gev_record.specs.declared.kept.Kept.TheVariants.{Nothing, Came}

-- the datagram that a receive gave
abbrev pub datagram_of : Answer → Option (List ℕ)
datagram_of nothing = None
datagram_of failed = None
datagram_of (came bytes peer) = Some bytes

-- the datagrams of the first so many receives
abbrev pub front_of : ℕ → List Answer → List (Option (List ℕ))
front_of turns answers = map datagram_of (take turns answers)

-- These are what the first receives gave, as many as a tape of so many turns keeps, where the link tells.
abbrev pub KeepsFront : ℕ → Option (List Answer) → List (Option (List ℕ)) → Type 0
KeepsFront turns None kept = ⊤
KeepsFront turns (Some answers) kept = kept ≡ front_of turns answers

-- one more, where there is room for it
abbrev pub kept_on : ℕ → List Kept → Kept → List Kept
kept_on turns kept one = if nat_lt (length kept) turns then kept ++ one ∷ [] else kept

abbrev pub shown : Kept → Option (List ℕ)
shown Nothing = None
shown (Came bytes len) = Some (take len bytes)

abbrev pub Fits : Kept → Type 0
Fits Nothing = ⊤
Fits (Came bytes len) = (len ≤ 1600) × AllByRecursion (λ b. b < 256) (take len bytes)

-- A tape: its link, how many receives it keeps, and what those gave that were made.
pub record TapeState (L : Type 0) : Type 0 where
  pub inner : L
  pub turns : ℕ
  pub kept : List (Option (List ℕ))
