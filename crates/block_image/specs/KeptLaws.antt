-- Laws of kept packets, in words of their own.
use Rattle.std.specs.Prelude.{◌≡◌, ◌≢◌, ◌⊎◌, ℕ, List, [], ◌∷◌, ◌++◌, map, true, false}
use Rattle.std.specs.List.{All, AllPairs, Contains}
use Rattle.stream_packets.specs.declared.fields.LeaderInfo.{LeaderInfo}
use Rattle.stream_packets.specs.Packets.{StreamPacket, leader, payload, trailer, notice, head_of, is_trailer, is_notice}
use Rattle.block_image.specs.Kept.{fits, has_id, has_trailer, kept}

-- the first list is what stays of the second, in order, when some of it is left out
pub data IsSublist : List StreamPacket → List StreamPacket → Type 0 where
  is_empty : IsSublist [] []
  with_head : {x : StreamPacket} {xs ys : List StreamPacket} → IsSublist xs ys → IsSublist (x ∷ xs) (x ∷ ys)
  without_head : {y : StreamPacket} {xs ys : List StreamPacket} → IsSublist xs ys → IsSublist xs (y ∷ ys)

-- the packet, with something else in its place where it is a leader's word on the image
abbrev pub with_info : (LeaderInfo → LeaderInfo) → StreamPacket → StreamPacket
with_info f (leader h i) = leader h (f i)
with_info f (payload h d) = payload h d
with_info f (trailer h y) = trailer h y
with_info f (notice h) = notice h

-- a packet that block b may keep
pub record MayBeKept (p b : ℕ) (x : StreamPacket) : Type 0 where
  pub of_block : (head_of x).block ≡ b
  pub no_notice : is_notice x ≡ false
  pub fits : fits p x ≡ true

-- no id is kept twice
abbrev pub KeepsNoIdTwice : Type 0
KeepsNoIdTwice = (p b : ℕ) (xs : List StreamPacket) → AllPairs (λ x y. (head_of x).id ≢ (head_of y).id) (kept p b xs)

-- at most one trailer is kept
abbrev pub KeepsOneTrailer : Type 0
KeepsOneTrailer = (p b : ℕ) (xs : List StreamPacket) → AllPairs (λ x y. is_trailer x ≡ true → is_trailer y ≡ false) (kept p b xs)

-- what is kept is a part of what came, in order of arrival
abbrev pub KeepsInOrder : Type 0
KeepsInOrder = (p b : ℕ) (xs : List StreamPacket) → IsSublist (kept p b xs) xs

-- What was kept stays, whatever comes later. So the first of an id is kept, and the first trailer.
abbrev pub KeepsTheFirst : Type 0
KeepsTheFirst =
    (p b : ℕ) (xs ys : List StreamPacket)
    → (later : List StreamPacket) × (kept p b (xs ++ ys) ≡ kept p b xs ++ later)

-- what is kept is of the block, no notice, and fits
abbrev pub KeepsWhatFits : Type 0
KeepsWhatFits = (p b : ℕ) (xs : List StreamPacket) → All (MayBeKept p b) (kept p b xs)

-- Of each packet that may be kept, its id is kept; or it is a trailer, and a trailer is kept.
abbrev pub MissesNothing : Type 0
MissesNothing =
    (p b : ℕ) (xs : List StreamPacket) (x : StreamPacket) → Contains xs x → MayBeKept p b x
    → (has_id (head_of x).id (kept p b xs) ≡ true) ⊎ ((is_trailer x ≡ true) × (has_trailer (kept p b xs) ≡ true))

-- which packets are kept doesn't depend on what the leaders say
abbrev pub IgnoresLeaderInfo : Type 0
IgnoresLeaderInfo =
    (f : LeaderInfo → LeaderInfo) (p b : ℕ) (xs : List StreamPacket)
    → kept p b (map (with_info f) xs) ≡ map (with_info f) (kept p b xs)
