-- What is known of an image by its leader and its trailer (GigE Vision 2.0, GVSP image leader and image trailer).
use Rattle.std.specs.Prelude.{◌≡◌, ◌⊎◌, ℕ, ◌&&◌, nat_le, Option, Some, None, if◌then◌else◌}
use Rattle.gev_types.specs.declared.frame.Frame.{Frame}
use Rattle.gev_types.specs.declared.image_info.ImageInfo.{ImageInfo}
use Rattle.stream_packets.specs.declared.fields.LeaderInfo.{LeaderInfo}

-- How many lines there are: those that the trailer tells, where there are some and no more than the leader
-- announces, else those that the leader announces.
abbrev pub rows_of : LeaderInfo → Option ℕ → ℕ
rows_of i None = i.size_y
rows_of i (Some y) = if nat_le 1 y && nat_le y i.size_y then y else i.size_y

-- what the leader says of an image with so many lines
abbrev pub image_info : LeaderInfo → ℕ → ImageInfo
image_info i rows = record {
  timestamp = i.timestamp;
  pixel = i.pixel;
  size_x = i.size_x;
  size_y = i.size_y;
  rows = rows;
  offset_x = i.offset_x;
  offset_y = i.offset_y;
  padding_x = i.padding_x;
  padding_y = i.padding_y;
}

-- what a kept leader and a kept trailer's lines tell; without a leader nothing is known
abbrev pub info_of : Option LeaderInfo → Option ℕ → Option ImageInfo
info_of None lines = None
info_of (Some i) lines = Some (image_info i (rows_of i lines))

-- what a frame's own fields are, with so many lines
abbrev pub frame_info : Frame → ℕ → ImageInfo
frame_info frame rows = record {
  timestamp = frame.timestamp;
  pixel = frame.pixel;
  size_x = frame.size_x;
  size_y = frame.size_y;
  rows = rows;
  offset_x = frame.offset_x;
  offset_y = frame.offset_y;
  padding_x = frame.padding_x;
  padding_y = frame.padding_y;
}

-- It is of this frame: each field is the frame's, and the lines are as many as the frame has, or as many as its
-- leader announces.
pub record IsInfoOf (frame : Frame) (info : ImageInfo) : Type 0 where
  pub same : info ≡ frame_info frame info.rows
  pub rows : (info.rows ≡ frame.rows) ⊎ (info.rows ≡ frame.size_y)
