-- What pictures show of what buffers hold.
use Rattle.std.proofs.Common.{◌≡◌, ◌⊎◌, inl, inr, ℕ, ◌+◌, ◌-◌, ◌<◌, ◌≤◌, List, length, take, true, false, ap, sym, ◌∙◌, arith}
use Rattle.std.specs.Prelude.{Option, Some}
use Rattle.std.specs.List.{Contains}
use Rattle.std.proofs.lemmas.Bool.{cases_lt}
use Rattle.std.proofs.lemmas.List.{get_or-take, length-take}
use Rattle.std.proofs.Math.ListN.{get_or-eq_default}
use Rattle.gev_types.specs.declared.frame.Frame.{Frame}
use Rattle.gev_types.specs.declared.image_info.ImageInfo.{ImageInfo}
use Rattle.gev_types.specs.Filling.{Filling}
use Rattle.stream_packets.specs.declared.fields.Head.{Head}
use Rattle.stream_packets.specs.Packets.{StreamPacket, payload}
use Rattle.stream_packets.specs.FramePackets.{payload_start}
use Rattle.block_image.specs.Infos.{frame_info}
use Rattle.block_image.specs.Image.{covers}
use Rattle.block_image.specs.OneBlock.{HasBytesInPlace}
use Rattle.block_image.proofs.Covering.{covers_parts}
use Rattle.block_image.proofs.FrameKept.{some_same}
use Rattle.frame_pictures.specs.Pictures.{byte_at, drawn}
use Rattle.frame_pictures.specs.Laws.{HeldFramesAreShown, BytesInPlaceAreShown, shown_byte}
use Rattle.frame_pictures.proofs.PixelPlaces.{pictures_are_their_pixels}

-- ---- a whole image

pub held_frames_are_shown : HeldFramesAreShown
held_frames_are_shown frames b filling h = record {
  frame = h.frame;
  of_block = h.of_block;
  same =
      ap (λ (told : Option ImageInfo). drawn told filling.rec (take filling.rec.data_len filling.bytes)) h.image
      ∙ ap (drawn (Some (frame_info h.frame h.frame.rows)) filling.rec) h.pixels;
}

-- ---- any image

-- a byte of the image's front
in_front : (n : ℕ) (bytes : List ℕ) (j : ℕ) → j < n → byte_at (take n bytes) j ≡ byte_at bytes j
in_front n bytes j below = get_or-take n bytes j 0 below

behind : (n : ℕ) (bytes : List ℕ) (j : ℕ) → n ≤ j → byte_at (take n bytes) j ≡ 0
behind n bytes j past = get_or-eq_default (take n bytes) 0 (omega (arith, length-take n bytes))

module _ (frames : ℕ → Option Frame) (p b size : ℕ) (ks : List StreamPacket) (filling : Filling) (f : Frame)
    (placed : HasBytesInPlace frames p b size ks filling.bytes) (within : filling.rec.data_len ≤ size) (is : frames b ≡ Some f) where
  came_so : (h : Head) (d : List ℕ) (j : ℕ) → Contains ks (payload h d) → covers (payload_start p h.id) (length d) j ≡ true
      → j < filling.rec.data_len → shown_byte filling j ≡ byte_at f.pixels j
  came_so h d j contains covered below =
      let c = covers_parts (payload_start p h.id) (length d) j covered in
      let piece = placed.of_frame h d contains in
      let same : piece.frame ≡ f = some_same piece.frame f (sym piece.of_block ∙ is) in
      let i : ℕ = j - payload_start p h.id in
      let back : payload_start p h.id + i ≡ j = omega (arith, c.low) in
      let inside : i < length d = omega (arith, c.low, c.high) in
      in_front filling.rec.data_len filling.bytes j below
      ∙ ap (byte_at filling.bytes) (sym back)
      ∙ placed.in_place h d i contains inside (omega (arith, back, below, within))
      ∙ piece.bytes i inside
      ∙ ap (λ (g : Frame). byte_at g.pixels (payload_start p h.id + i)) same
      ∙ ap (byte_at f.pixels) back

  elsewhere_so : (j : ℕ) → (j < filling.rec.data_len) ⊎ (filling.rec.data_len ≤ j)
      → ((h : Head) (d : List ℕ) → Contains ks (payload h d) → covers (payload_start p h.id) (length d) j ≡ false)
      → shown_byte filling j ≡ 0
  elsewhere_so j (inl below) free =
      in_front filling.rec.data_len filling.bytes j below ∙ placed.elsewhere j (omega (arith, below, within)) free
  elsewhere_so j (inr past) free = behind filling.rec.data_len filling.bytes j past

pub bytes_in_place_are_shown : BytesInPlaceAreShown
bytes_in_place_are_shown frames p b size ks filling f placed within is = record {
  came = came_so frames p b size ks filling f placed within is;
  elsewhere = λ j free. elsewhere_so frames p b size ks filling f placed within is j (cases_lt j filling.rec.data_len) free;
  pixels = λ s info text told format shown. pictures_are_their_pixels s filling.rec info filling.bytes text told format shown;
}
