-- The replay script that is made of a seed: the packets of its test images behind a lossy network.
use Rattle.std.specs.Prelude.{ℕ, zero, suc, ◌+◌, ◌*◌, ◌≤◌, List, [], ◌∷◌, ◌++◌, length, map}
use Rattle.hex.specs.Hex.{encode_lower}
use Rattle.gev_types.specs.declared.frame.Shape.{Shape}
use Rattle.gev_frames.specs.Frames.{frame_of}
use Rattle.stream_packets.specs.Packets.{StreamPacket}
use Rattle.stream_packets.specs.FramePackets.{packets_of}
use Rattle.lossy_queue.specs.declared.datagram.Datagram.{Datagram}
use Rattle.lossy_queue.specs.declared.rates.Rates.{Rates}
use Rattle.gev_script.specs.Lines as line
use Rattle.gev_script.specs.Lines.{ScriptLine}
use Rattle.gev_script.specs.Spelling.{spelling, IsScriptLine}
use Rattle.gev_make.specs.declared.network.Network.{Network}
use Rattle.gev_make.specs.Network.{new_network, all_carried, emptied}

-- the images: 64 columns and 48 lines of Mono8
abbrev pub image_shape : Shape
image_shape = record { pixel = 0x01080001; size_x = 64; size_y = 48 }

-- the bytes of a buffer, which holds an image
abbrev pub buffer_size : ℕ
buffer_size = 3072

-- the bytes of a payload where a packet has 1500 with all its headers
abbrev pub payload_size : ℕ
payload_size = 1452

-- the packets of block b, in order of their ids
unfoldable pub block_packets : ℕ → ℕ → List StreamPacket
block_packets seed b = packets_of (frame_of seed b image_shape) payload_size

-- a window of 2 blocks, 200 ms for each, missing packets asked for after 20 ms and 3 times, and four
-- buffers that hold an image each
abbrev pub opening_lines : List ScriptLine
opening_lines =
    line.header (record { version = 1; p = payload_size; window = 2; timeout = 200; age = 20; rounds = 3 })
    ∷ line.announce buffer_size ∷ line.announce buffer_size ∷ line.announce buffer_size ∷ line.announce buffer_size
    ∷ line.flush 3 ∷ line.start ∷ []

-- what came out of the network, as datagrams that the receiver gets
abbrev pub datagram_line : Datagram → ScriptLine
datagram_line d = line.datagram (encode_lower d.bytes)

-- The datagram makes a line of a script, and is no longer than a whole payload packet.
pub record FitsLine (d : Datagram) : Type 0 where
  pub line : IsScriptLine (datagram_line d)
  pub few : length d.bytes ≤ payload_size + 20

-- What follows the datagrams of block b: the time has gone on, so that old blocks retire, a filled
-- buffer is taken, and queued again.
abbrev pub turn_lines : ℕ → List ScriptLine
turn_lines b = line.tick (250 * b) ∷ line.take ∷ line.flush 3 ∷ []

-- the lines of n blocks from block b on
unfoldable pub block_lines : Network → ℕ → ℕ → ℕ → List ScriptLine
block_lines network seed b zero = []
block_lines network seed b (suc n) =
    let after = all_carried network (block_packets seed b) in
    map datagram_line after.queue ++ turn_lines b ++ block_lines (emptied after) seed (b + 1) n

abbrev pub closing_lines : List ScriptLine
closing_lines = line.stop 0 ∷ line.end_of_script ∷ []

-- the lines of the script for this seed, so many blocks, and these rates
unfoldable pub make_lines : ℕ → ℕ → Rates → List ScriptLine
make_lines seed frames rates = opening_lines ++ block_lines (new_network seed rates) seed 1 frames ++ closing_lines

-- the text of lines, each with its line feed
abbrev pub text_of : List ScriptLine → List ℕ
text_of [] = []
text_of (l ∷ ls) = spelling l ++ 10 ∷ text_of ls

abbrev pub make_text : ℕ → ℕ → Rates → List ℕ
make_text seed frames rates = text_of (make_lines seed frames rates)
