-- What is told of an image, worked out by hand: each field is that of the leader's bytes, and no two are equal.
use Rattle.std.specs.Prelude.{◌≡◌, List, [], ◌∷◌, Some, None}
use Rattle.gev_types.specs.declared.image_info.ImageInfo.{ImageInfo}
use Rattle.stream_packets.specs.Packets.{StreamPacket, leader, trailer}
use Rattle.gvsp_wire.specs.WorkedPackets.{leader_head, leader_said, small_frame}
use Rattle.block_image.specs.Infos.{info_of, frame_info}
use Rattle.block_image.specs.Image.{image}

-- the leader of block 3, and the trailer behind two payloads, which tells six lines
abbrev pub leader_and_trailer : List StreamPacket
leader_and_trailer =
    leader leader_head leader_said ∷ trailer (record { status = 0; flags = 0; block = 3; id = 3 }) 6 ∷ []

abbrev pub six_lines : ImageInfo
six_lines = record {
  timestamp = 3728034404484071850;
  pixel = 0x0108_0001;
  size_x = 218;
  size_y = 8;
  rows = 6;
  offset_x = 675100377;
  offset_y = 5;
  padding_x = 7;
  padding_y = 169;
}

abbrev pub of_small_frame : ImageInfo
of_small_frame = record {
  timestamp = 0x99aabbccddeeff01;
  pixel = 0x0108_0009;
  size_x = 2;
  size_y = 4;
  rows = 3;
  offset_x = 0x23456789;
  offset_y = 0xabcdef10;
  padding_x = 1;
  padding_y = 5;
}

pub record InfosAreWorked : Type 0 where
  pub recorded : (image 1452 3 1969 leader_and_trailer).rec.image ≡ Some six_lines
  pub announced : info_of (Some leader_said) None ≡ Some (record six_lines { rows = 8 })
  pub of_frame : frame_info small_frame 3 ≡ of_small_frame
