-- The two parts of a leader's body, which the writer writes one after the other.
use Rattle.std.specs.Prelude.{ℕ, ◌<◌, ◌^◌, List, [], ◌∷◌}
use Rattle.stream_packets.specs.declared.fields.LeaderInfo.{LeaderInfo}
use Rattle.gvsp_wire.specs.Wire.{image_payload}

-- what kind of image it is, from field information, which is 0, to the pixel format
abbrev pub kind_fields : LeaderInfo → List (ℕ × ℕ)
kind_fields i = (1, 0) ∷ (1, 0) ∷ (2, image_payload) ∷ (8, i.timestamp) ∷ (4, i.pixel) ∷ []

-- its size and place on the sensor
abbrev pub region_fields : LeaderInfo → List (ℕ × ℕ)
region_fields i =
    (4, i.size_x) ∷ (4, i.size_y) ∷ (4, i.offset_x) ∷ (4, i.offset_y) ∷ (2, i.padding_x) ∷ (2, i.padding_y) ∷ []

-- the same parts of `InfoFits`
pub record KindFits (i : LeaderInfo) : Type 0 where
  pub timestamp : i.timestamp < 2 ^ 64
  pub pixel : i.pixel < 2 ^ 32

pub record RegionFits (i : LeaderInfo) : Type 0 where
  pub size_x : i.size_x < 2 ^ 32
  pub size_y : i.size_y < 2 ^ 32
  pub offset_x : i.offset_x < 2 ^ 32
  pub offset_y : i.offset_y < 2 ^ 32
  pub padding_x : i.padding_x < 2 ^ 16
  pub padding_y : i.padding_y < 2 ^ 16
