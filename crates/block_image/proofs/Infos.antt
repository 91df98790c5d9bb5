-- What is known of the image of kept packets, by their leader and their trailer.
use Rattle.std.proofs.Common.{◌≡◌, ◌⊎◌, inl, inr, ℕ, ◌≤◌, List, [], ◌∷◌, true, false, refl, ap, sym, ◌∙◌}
use Rattle.std.specs.Prelude.{◌&&◌, nat_le, Option, Some, None, is_some}
use Rattle.std.proofs.lemmas.Bool.{and_from, cond-true, cond-false, cases_Bool, le-leb}
use Rattle.gev_types.specs.declared.frame.Frame.{Frame}
use Rattle.gev_types.specs.declared.image_info.ImageInfo.{ImageInfo}
use Rattle.gev_types.specs.FrameSize.{image_size, IsFrame}
use Rattle.stream_packets.specs.declared.fields.LeaderInfo.{LeaderInfo}
use Rattle.stream_packets.specs.Packets.{StreamPacket, leader, payload, trailer, notice}
use Rattle.stream_packets.specs.FramePackets.{leader_info}
use Rattle.block_image.specs.Extent.{extent, extent_of, TellsItsSize, TellsSizeIfLeader}
use Rattle.block_image.specs.Infos.{rows_of, image_info, info_of, frame_info, IsInfoOf}
use Rattle.block_image.specs.Kept.{kept, has_trailer}
use Rattle.block_image.specs.KeptFacts.{TellsSize}
use Rattle.block_image.specs.Image.{leader_in, lines_in, extent_in, is_larger, image_len, record_of}
use Rattle.block_image.specs.InfoLaws.{info_size, TellsLength, RecordsTellTheirLength, LeadersTellImages}
use Rattle.block_image.proofs.IsKept.{kept-all}
use Rattle.block_image.proofs.FrameKept.{AreOfFrame, some_same, leader_in-of_frame}
use Rattle.block_image.proofs.FewerLines.{lines_in-of_frame, leader_tells}

-- ---- packets of one frame

-- a leader and a trailer of a frame tell its lines
rows_of-fewer : (i : LeaderInfo) (y : ℕ) → 1 ≤ y → y ≤ i.size_y → rows_of i (Some y) ≡ y
rows_of-fewer i y some few =
    cond-true (nat_le 1 y && nat_le y i.size_y) y i.size_y (and_from (nat_le 1 y) (nat_le y i.size_y) (le-leb 1 y some) (le-leb y i.size_y few))

pub info-of_ends : (f : Frame) (p : ℕ) (ks : List StreamPacket) → IsFrame f → AreOfFrame f p ks
    → leader_in ks ≡ Some (leader_info f) → has_trailer ks ≡ true → info_of (leader_in ks) (lines_in ks) ≡ Some (frame_info f f.rows)
info-of_ends f p ks valid all leads has =
    ap (λ (l : Option LeaderInfo). info_of l (lines_in ks)) leads
    ∙ ap (λ (o : Option ℕ). info_of (Some (leader_info f)) o) (lines_in-of_frame f p ks all has)
    ∙ ap (λ r. Some (image_info (leader_info f) r)) (rows_of-fewer (leader_info f) f.rows valid.some valid.rows)

-- whatever trailer was kept tells the frame's lines
lines_of_frame : (f : Frame) (p : ℕ) (ks : List StreamPacket) (y : ℕ) → AreOfFrame f p ks → lines_in ks ≡ Some y → y ≡ f.rows
lines_of_frame f p [] y all e = cc
lines_of_frame f p (leader h i ∷ xs) y all e = lines_of_frame f p xs y all.1 e
lines_of_frame f p (payload h d ∷ xs) y all e = lines_of_frame f p xs y all.1 e
lines_of_frame f p (trailer h z ∷ xs) y all e = sym (some_same z y e) ∙ all.0.2
lines_of_frame f p (notice h ∷ xs) y all e = absurd all.0

-- the lines that the leader and what there is of a trailer tell
some_rows : (f : Frame) (o : Option ℕ) → ((y : ℕ) → o ≡ Some y → y ≡ f.rows) → (rows_of (leader_info f) o ≡ f.rows) ⊎ (rows_of (leader_info f) o ≡ f.size_y)
some_rows f None told = inr refl
some_rows f (Some y) told = go (cases_Bool (nat_le 1 y && nat_le y f.size_y)) where
  go : ((nat_le 1 y && nat_le y f.size_y) ≡ true) ⊎ ((nat_le 1 y && nat_le y f.size_y) ≡ false) → (rows_of (leader_info f) (Some y) ≡ f.rows) ⊎ (rows_of (leader_info f) (Some y) ≡ f.size_y)
  go (inl few) = inl (cond-true (nat_le 1 y && nat_le y f.size_y) y f.size_y few ∙ told y refl)
  go (inr other) = inr (cond-false (nat_le 1 y && nat_le y f.size_y) y f.size_y other)

pub info_of_frame : (f : Frame) (p : ℕ) (ks : List StreamPacket) (info : ImageInfo) → AreOfFrame f p ks → info_of (leader_in ks) (lines_in ks) ≡ Some info → IsInfoOf f info
info_of_frame f p ks info all e = go (leader_in ks) refl where
  info_here : Option LeaderInfo → Option ImageInfo
  info_here l = info_of l (lines_in ks)

  go : (l : Option LeaderInfo) → leader_in ks ≡ l → IsInfoOf f info
  go None none = let nothing : info_of (leader_in ks) (lines_in ks) ≡ None = ap info_here none in absurd cc
  go (Some i) there =
      let same : i ≡ leader_info f = leader_in-of_frame f p ks i all there in
      let is : info ≡ frame_info f (rows_of (leader_info f) (lines_in ks)) =
      some_same info (frame_info f (rows_of (leader_info f) (lines_in ks))) (sym e ∙ ap info_here (there ∙ ap Some same)) in
      rw is
      record { same = refl; rows = some_rows f (lines_in ks) (λ y tells. lines_of_frame f p ks y all tells) }

-- ---- lengths

-- the extent is the size of an image of so many lines
extent-rows : (i : LeaderInfo) (lines : Option ℕ) → TellsItsSize i → extent i lines ≡ info_size (image_info i (rows_of i lines))
extent-rows i None told = told.0
extent-rows i (Some y) told = go (cases_Bool (nat_le 1 y && nat_le y i.size_y)) where
  go : ((nat_le 1 y && nat_le y i.size_y) ≡ true) ⊎ ((nat_le 1 y && nat_le y i.size_y) ≡ false) → extent i (Some y) ≡ info_size (image_info i (rows_of i (Some y)))
  go (inl few) =
      cond-true (nat_le 1 y && nat_le y i.size_y) (image_size i.pixel i.size_x y i.padding_x i.padding_y) i.size few
      ∙ ap (λ r. image_size i.pixel i.size_x r i.padding_x i.padding_y) (sym (cond-true (nat_le 1 y && nat_le y i.size_y) y i.size_y few))
  go (inr other) =
      cond-false (nat_le 1 y && nat_le y i.size_y) (image_size i.pixel i.size_x y i.padding_x i.padding_y) i.size other
      ∙ told.0
      ∙ ap (λ r. image_size i.pixel i.size_x r i.padding_x i.padding_y) (sym (cond-false (nat_le 1 y && nat_le y i.size_y) y i.size_y other))

tells_length : (p b size : ℕ) (ks : List StreamPacket) (info : ImageInfo) → TellsSizeIfLeader (leader_in ks) → (record_of p b size ks).image ≡ Some info → TellsLength size (record_of p b size ks) info
tells_length p b size ks info told e = go (leader_in ks) refl told where
  info_here : Option LeaderInfo → Option ImageInfo
  info_here l = info_of l (lines_in ks)

  go : (l : Option LeaderInfo) → leader_in ks ≡ l → TellsSizeIfLeader l → TellsLength size (record_of p b size ks) info
  go None none tells = let nothing : info_of (leader_in ks) (lines_in ks) ≡ None = ap info_here none in absurd cc
  go (Some i) there tells =
      let is : info ≡ image_info i (rows_of i (lines_in ks)) = some_same info (image_info i (rows_of i (lines_in ks))) (sym e ∙ ap info_here there) in
      let len : extent_in ks ≡ Some (info_size info) =
      ap (λ (l : Option LeaderInfo). extent_of l (lines_in ks)) there
      ∙ ap Some (extent-rows i (lines_in ks) tells ∙ ap info_size (sym is)) in
      record { data_len = ap (image_len p size ks) len; larger = ap (is_larger p size ks) len }

pub records_tell_their_length : RecordsTellTheirLength
records_tell_their_length p b size xs info told e =
    tells_length p b size (kept p b xs) info (leader_tells (kept p b xs) (kept-all p b TellsSize xs told)) e

-- ---- leaders

with_leader : (l : Option LeaderInfo) (lines : Option ℕ) → is_some (info_of l lines) ≡ is_some l
with_leader None lines = refl
with_leader (Some i) lines = refl

pub leaders_tell_images : LeadersTellImages
leaders_tell_images p b size xs = with_leader (leader_in (kept p b xs)) (lines_in (kept p b xs))
