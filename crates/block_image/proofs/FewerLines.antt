-- How long the image of kept packets is, by their leader and their trailer.
use Rattle.std.proofs.Common.{◌≡◌, ◌⊎◌, inl, inr, ℕ, ◌≤◌, List, [], ◌∷◌, ◌++◌, length, true, false, refl, ap, sym, ◌∙◌, arith}
use Rattle.std.specs.Prelude.{◌&&◌, nat_le, Option, Some, None}
use Rattle.std.proofs.lemmas.Bool.{and_parts, and_from, cond-true, cond-false, cases_Bool, leb-true, le-leb}
use Rattle.gev_types.specs.declared.frame.Frame.{Frame}
use Rattle.gev_types.specs.FrameSize.{image_size, IsImageSize, IsFrame}
use Rattle.gev_types.proofs.Shorter.{fewer_lines}
use Rattle.stream_packets.specs.declared.fields.Head.{Head}
use Rattle.stream_packets.specs.declared.fields.LeaderInfo.{LeaderInfo}
use Rattle.stream_packets.specs.Packets.{StreamPacket, leader, payload, trailer, notice}
use Rattle.stream_packets.specs.FramePackets.{leader_info}
use Rattle.block_image.specs.Extent.{size_with, extent, extent_of, TellsItsSize, TellsSizeIfLeader}
use Rattle.block_image.specs.Kept.{has_trailer}
use Rattle.block_image.specs.KeptFacts.{DoLeadersTellSizes}
use Rattle.block_image.specs.Image.{leader_in, lines_in, extent_in, has_trailer_at}
use Rattle.block_image.proofs.FrameKept.{AreOfFrame}

-- the lines are as many as the leader announces, or fewer
pub size_with-fewer : (i : LeaderInfo) (y : ℕ) → 1 ≤ y → y ≤ i.size_y → size_with i y ≡ image_size i.pixel i.size_x y i.padding_x i.padding_y
size_with-fewer i y one fewer =
    cond-true (nat_le 1 y && nat_le y i.size_y) (image_size i.pixel i.size_x y i.padding_x i.padding_y) i.size
    (and_from (nat_le 1 y) (nat_le y i.size_y) (le-leb 1 y one) (le-leb y i.size_y fewer))

-- The extent of a leader that tells its size is a size that a frame may have, and no more than the leader's.
pub record IsExtent (i : LeaderInfo) (len : ℕ) : Type 0 where
  pub in_limits : IsImageSize len
  pub no_larger : len ≤ i.size

size_with_fits : (i : LeaderInfo) (y : ℕ) → TellsItsSize i → IsExtent i (size_with i y)
size_with_fits i y told = go (cases_Bool (nat_le 1 y && nat_le y i.size_y)) where
  go : ((nat_le 1 y && nat_le y i.size_y) ≡ true) ⊎ ((nat_le 1 y && nat_le y i.size_y) ≡ false) → IsExtent i (size_with i y)
  go (inl some) =
      let parts = and_parts (nat_le 1 y) (nat_le y i.size_y) some in
      let one : 1 ≤ y = leb-true 1 y parts.0 in
      let fewer : y ≤ i.size_y = leb-true y i.size_y parts.1 in
      let fits = fewer_lines i.pixel i.size_x i.size_y i.padding_x i.padding_y y fewer in
      rw (size_with-fewer i y one fewer)
      record {
        in_limits = fits.in_limits one (omega (arith, told.0, told.1.0), omega (arith, told.0, told.1.1));
        no_larger = omega (arith, told.0, fits.no_larger);
      }
  go (inr none) =
      rw (cond-false (nat_le 1 y && nat_le y i.size_y) (image_size i.pixel i.size_x y i.padding_x i.padding_y) i.size none)
      record { in_limits = told.1; no_larger = omega arith }

pub extent_fits : (i : LeaderInfo) (lines : Option ℕ) → TellsItsSize i → IsExtent i (extent i lines)
extent_fits i None told = record { in_limits = told.1; no_larger = omega arith }
extent_fits i (Some y) told = size_with_fits i y told

-- the leader among packets whose leaders tell their sizes does
pub leader_tells : (ks : List StreamPacket) → DoLeadersTellSizes ks → TellsSizeIfLeader (leader_in ks)
leader_tells [] all = tt
leader_tells (leader h i ∷ xs) all = all.0
leader_tells (payload h d ∷ xs) all = leader_tells xs all.1
leader_tells (trailer h y ∷ xs) all = leader_tells xs all.1
leader_tells (notice h ∷ xs) all = leader_tells xs all.1

-- one packet more

pub lines_in-push_leader : (ks : List StreamPacket) (h : Head) (i : LeaderInfo) → lines_in (ks ++ leader h i ∷ []) ≡ lines_in ks
lines_in-push_leader [] h i = refl
lines_in-push_leader (leader k j ∷ xs) h i = lines_in-push_leader xs h i
lines_in-push_leader (payload k d ∷ xs) h i = lines_in-push_leader xs h i
lines_in-push_leader (trailer k y ∷ xs) h i = refl
lines_in-push_leader (notice k ∷ xs) h i = lines_in-push_leader xs h i

pub lines_in-push_payload : (ks : List StreamPacket) (h : Head) (d : List ℕ) → lines_in (ks ++ payload h d ∷ []) ≡ lines_in ks
lines_in-push_payload [] h d = refl
lines_in-push_payload (leader k j ∷ xs) h d = lines_in-push_payload xs h d
lines_in-push_payload (payload k e ∷ xs) h d = lines_in-push_payload xs h d
lines_in-push_payload (trailer k y ∷ xs) h d = refl
lines_in-push_payload (notice k ∷ xs) h d = lines_in-push_payload xs h d

pub lines_in-push_trailer : (ks : List StreamPacket) (h : Head) (y : ℕ) → has_trailer ks ≡ false → lines_in (ks ++ trailer h y ∷ []) ≡ Some y
lines_in-push_trailer [] h y none = refl
lines_in-push_trailer (leader k j ∷ xs) h y none = lines_in-push_trailer xs h y none
lines_in-push_trailer (payload k d ∷ xs) h y none = lines_in-push_trailer xs h y none
lines_in-push_trailer (trailer k z ∷ xs) h y none = cc
lines_in-push_trailer (notice k ∷ xs) h y none = lines_in-push_trailer xs h y none

-- packets of one frame

pub has_trailer-at : (k : ℕ) (ks : List StreamPacket) → has_trailer_at k ks ≡ true → has_trailer ks ≡ true
has_trailer-at k [] has = cc
has_trailer-at k (leader h i ∷ xs) has = has_trailer-at k xs has
has_trailer-at k (payload h d ∷ xs) has = has_trailer-at k xs has
has_trailer-at k (trailer h y ∷ xs) has = refl
has_trailer-at k (notice h ∷ xs) has = has_trailer-at k xs has

pub lines_in-of_frame : (f : Frame) (p : ℕ) (ks : List StreamPacket) → AreOfFrame f p ks → has_trailer ks ≡ true → lines_in ks ≡ Some f.rows
lines_in-of_frame f p [] all has = cc
lines_in-of_frame f p (leader h i ∷ xs) all has = lines_in-of_frame f p xs all.1 has
lines_in-of_frame f p (payload h d ∷ xs) all has = lines_in-of_frame f p xs all.1 has
lines_in-of_frame f p (trailer h y ∷ xs) all has = ap Some all.0.2
lines_in-of_frame f p (notice h ∷ xs) all has = absurd all.0

-- The leader and any trailer of a frame tell the length of its pixels.
pub extent_in-of_frame : (f : Frame) (p : ℕ) (ks : List StreamPacket) → IsFrame f → AreOfFrame f p ks
    → leader_in ks ≡ Some (leader_info f) → has_trailer ks ≡ true → extent_in ks ≡ Some (length f.pixels)
extent_in-of_frame f p ks valid all leads has =
    ap (λ (o : Option LeaderInfo). extent_of o (lines_in ks)) leads
    ∙ ap (λ (o : Option ℕ). Some (extent (leader_info f) o)) (lines_in-of_frame f p ks all has)
    ∙ ap Some (size_with-fewer (leader_info f) f.rows valid.some valid.rows ∙ sym valid.size)
