-- How long an image is, by what its leader and its trailer say (GigE Vision 2.0, GVSP image trailer).
use Rattle.std.specs.Prelude.{◌≡◌, ⊤, ℕ, ◌&&◌, nat_le, Option, Some, None, if◌then◌else◌}
use Rattle.gev_types.specs.FrameSize.{image_size, IsImageSize}
use Rattle.stream_packets.specs.declared.fields.LeaderInfo.{LeaderInfo}

-- The size of an image of which the leader says this and which has y lines. As many lines as the leader
-- announces, or fewer, make their own size; with no line, or with more, what the leader says holds.
abbrev pub size_with : LeaderInfo → ℕ → ℕ
size_with i y = if nat_le 1 y && nat_le y i.size_y then image_size i.pixel i.size_x y i.padding_x i.padding_y else i.size

-- the extent: the size by the trailer's lines where a trailer was kept, else by the leader alone
abbrev pub extent : LeaderInfo → Option ℕ → ℕ
extent i None = i.size
extent i (Some y) = size_with i y

-- without a leader it isn't known
abbrev pub extent_of : Option LeaderInfo → Option ℕ → Option ℕ
extent_of None lines = None
extent_of (Some i) lines = Some (extent i lines)

-- A leader tells the size of an image of all its lines, as each parsed one does.
abbrev pub TellsItsSize : LeaderInfo → Type 0
TellsItsSize i = (i.size ≡ image_size i.pixel i.size_x i.size_y i.padding_x i.padding_y) × IsImageSize i.size

abbrev pub TellsSizeIfLeader : Option LeaderInfo → Type 0
TellsSizeIfLeader None = ⊤
TellsSizeIfLeader (Some i) = TellsItsSize i
