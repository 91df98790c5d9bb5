-- What holds of each list of kept packets.
use Rattle.std.specs.Prelude.{◌≡◌, ℕ, ◌≤◌, ◌&&◌, not, ⊤, List, [], ◌∷◌, ◌==◌, true, false, Bool}
use Rattle.std.specs.List.{AllByRecursion}
use Rattle.stream_packets.specs.Packets.{StreamPacket, leader, payload, trailer, notice, head_of, is_trailer, is_notice}
use Rattle.block_image.specs.Extent.{TellsItsSize}
use Rattle.block_image.specs.Kept.{fits, has_id, has_trailer}

-- no id stands twice
abbrev pub HasDistinctIds : List StreamPacket → Type 0
HasDistinctIds [] = ⊤
HasDistinctIds (x ∷ xs) = (has_id (head_of x).id xs ≡ false) × HasDistinctIds xs

-- after a trailer comes no other
abbrev pub HasOneTrailer : List StreamPacket → Type 0
HasOneTrailer [] = ⊤
HasOneTrailer (x ∷ xs) = ((is_trailer x && has_trailer xs) ≡ false) × HasOneTrailer xs

-- The packet may be kept of block b: it is of the block, no notice, and fits.
abbrev pub may_keep : ℕ → ℕ → StreamPacket → Bool
may_keep p b x = (head_of x).block == b && not (is_notice x) && fits p x

-- a list that `kept` may give
pub record IsKept (p b : ℕ) (ks : List StreamPacket) : Type 0 where
  pub distinct : HasDistinctIds ks
  pub one_trailer : HasOneTrailer ks
  pub of_block : AllByRecursion (λ x. may_keep p b x ≡ true) ks

-- a payload has an id from 1 on, as each parsed one does
abbrev pub IsNumbered : StreamPacket → Type 0
IsNumbered (leader h i) = ⊤
IsNumbered (payload h d) = 1 ≤ h.id
IsNumbered (trailer h y) = ⊤
IsNumbered (notice h) = ⊤

abbrev pub ArePayloadsNumbered : List StreamPacket → Type 0
ArePayloadsNumbered ks = AllByRecursion IsNumbered ks

-- a leader has the id 0, as each parsed one does
abbrev pub IsLeaderFirst : StreamPacket → Type 0
IsLeaderFirst (leader h i) = h.id ≡ 0
IsLeaderFirst (payload h d) = ⊤
IsLeaderFirst (trailer h y) = ⊤
IsLeaderFirst (notice h) = ⊤

abbrev pub AreLeadersFirst : List StreamPacket → Type 0
AreLeadersFirst ks = AllByRecursion IsLeaderFirst ks

-- a leader tells the size of its image, as each parsed one does
abbrev pub TellsSize : StreamPacket → Type 0
TellsSize (leader h i) = TellsItsSize i
TellsSize (payload h d) = ⊤
TellsSize (trailer h y) = ⊤
TellsSize (notice h) = ⊤

abbrev pub DoLeadersTellSizes : List StreamPacket → Type 0
DoLeadersTellSizes ks = AllByRecursion TellsSize ks
