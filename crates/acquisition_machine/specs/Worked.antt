-- Lists of inputs, written out with all that the machine makes of them.
use Rattle.std.specs.Prelude.{◌≡◌, ℕ, ◌*◌, true, false, Bool, List, [], ◌∷◌, map, replicate, Option, Some, None, is_some}
use Rattle.gev_types.specs.declared.block_account.BlockAccount.{BlockAccount}
use Rattle.gev_types.specs.declared.block_account.Cause.{Cause}
use Rattle.gev_types.specs.declared.block_account.Cause.TheVariants.{Complete, Old, Displaced, Stopped}
use Rattle.gev_types.specs.declared.block_account.Lost.{Lost}
use Rattle.gev_types.specs.declared.image_info.ImageInfo.{ImageInfo}
use Rattle.gev_types.specs.declared.reasons.Reasons.{Reasons}
use Rattle.gev_types.specs.Reasons.{no_reason}
use Rattle.stream_packets.specs.declared.fields.Head.{Head}
use Rattle.stream_packets.specs.declared.fields.LeaderInfo.{LeaderInfo}
use Rattle.stream_packets.specs.Packets.{leader, payload, trailer, notice}
use Rattle.gvsp_wire.specs.declared.wire_error.WireError.TheVariants.{Short, ZeroBlock}
use Rattle.gvsp_wire.specs.Plain.{plain}
use Rattle.acquisition_machine.specs.declared.config.AcqConfig.{AcqConfig}
use Rattle.acquisition_machine.specs.declared.counts.Counts.{Counts}
use Rattle.acquisition_machine.specs.declared.need.Need.{Need}
use Rattle.acquisition_machine.specs.declared.need.Need.TheVariants.{Buffer, Done, Ignored}
use Rattle.acquisition_machine.specs.declared.need.Why.TheVariants.{Foreign, Late, Repeat, Misfit, Starved}
use Rattle.acquisition_machine.specs.declared.retired.Retired.{Retired}
use Rattle.acquisition_machine.specs.Blocks.{fills}
use Rattle.acquisition_machine.specs.Machine.{Input, datagram, claimed, tick, stop, restart, request_bytes}
use Rattle.acquisition_machine.specs.Runs.{first_state, After, retired_from, requests_from, needs_from, no_counts}

pub record Row : Type 0 where
  pub config : AcqConfig
  pub inputs : List Input
  -- what the datagrams are answered, in order
  pub answers : List Need
  -- the buffers that come back, in order
  pub filled : List Retired
  -- the commands that are sent, in order
  pub commands : List (List ℕ)
  pub counts : Counts

-- The machine makes all that of the inputs.
pub record IsWorked (r : Row) : Type 0 where
  pub answers : needs_from r.config first_state r.inputs ≡ r.answers
  pub filled : fills r.config.p (retired_from r.config first_state r.inputs) ≡ r.filled
  pub commands : map request_bytes (requests_from r.config first_state r.inputs) ≡ r.commands
  pub counts : (After r.config r.inputs).counts ≡ r.counts

-- ---- spellings

-- this payload size, this window and these rounds; a second until a block is old, a tenth until it asks
abbrev pub config : ℕ → ℕ → ℕ → AcqConfig
config p window rounds = record { p = p; window = window; timeout = 1000; age = 100; rounds = rounds }

abbrev pub head_with : ℕ → ℕ → ℕ → Head
head_with status b k = record { status = status; flags = 0; block = b; id = k }

-- a leader of x by y pixels of one byte each
abbrev pub info : ℕ → ℕ → LeaderInfo
info x y = record {
  timestamp = 0;
  pixel = 0x0108_0001;
  size_x = x;
  size_y = y;
  offset_x = 0;
  offset_y = 0;
  padding_x = 0;
  padding_y = 0;
  size = x * y;
}

abbrev pub leads : ℕ → ℕ → ℕ → Input
leads b x y = datagram (plain (leader (head_with 0 b 0) (info x y)))

abbrev pub carries : ℕ → ℕ → List ℕ → Input
carries b k bytes = datagram (plain (payload (head_with 0 b k) bytes))

abbrev pub trails : ℕ → ℕ → ℕ → Input
trails b k y = datagram (plain (trailer (head_with 0 b k) y))

-- the camera's word that a packet is gone, with this status
abbrev pub denies : ℕ → ℕ → ℕ → Input
denies status b k = datagram (plain (notice (head_with status b k)))

-- a claim that finds the buffer of a place
abbrev pub finds : ℕ → ℕ → Input
finds place size = claimed (Some (record { place = place; size = size }))

abbrev pub finds_none : Input
finds_none = claimed None

abbrev pub abc : List ℕ
abc = 97 ∷ 98 ∷ 99 ∷ []

-- what that leader tells of the image, of as many lines
abbrev pub seen : ℕ → ℕ → Option ImageInfo
seen x y = Some record {
  timestamp = 0;
  pixel = 0x0108_0001;
  size_x = x;
  size_y = y;
  rows = y;
  offset_x = 0;
  offset_y = 0;
  padding_x = 0;
  padding_y = 0;
}

-- a block that lacks nothing, and one that lacks this one range of ids
abbrev pub nothing_lost : Lost
nothing_lost = record { ids = 0; ranges = 0; first = replicate 8 (0, 0) }

abbrev pub lost_range : ℕ → ℕ → ℕ → Lost
lost_range ids first last = record { ids = ids; ranges = 1; first = (first, last) ∷ replicate 7 (0, 0) }

abbrev pub retired_whole : BlockAccount
retired_whole = record { cause = Complete; lost = nothing_lost; why = no_reason }

abbrev pub retired_part : Cause → Lost → Reasons → BlockAccount
retired_part cause lost why = record { cause = cause; lost = lost; why = why }

abbrev pub comes_back : ℕ → List ℕ → ℕ → Bool → Bool → Option ImageInfo → ℕ → ℕ → BlockAccount → Retired
comes_back place bytes b whole larger image len placed account = record {
  place = place;
  buf = record {
    bytes = bytes;
    rec = record {
      block = b;
      complete = whole;
      larger = larger;
      has_leader = is_some image;
      data_len = len;
      filled = placed;
      image = image;
      account = Some account;
    };
  };
}

-- the three bytes of block b, whole, in the buffer of this place
abbrev pub whole_abc : ℕ → ℕ → Retired
whole_abc place b = comes_back place abc b true false (seen 3 1) 3 3 retired_whole

-- The command number n that asks for the packets from first to last of block 1.
abbrev pub asks_for : ℕ → ℕ → ℕ → List ℕ
asks_for n first last =
    0x42 ∷ 0x10 ∷ 0x00 ∷ 0x40 ∷ 0x00 ∷ 0x14 ∷ 0x00 ∷ n
    ∷ 0 ∷ 0 ∷ 0 ∷ 0 ∷ 0 ∷ 0 ∷ 0 ∷ first ∷ 0 ∷ 0 ∷ 0 ∷ last
    ∷ 0 ∷ 0 ∷ 0 ∷ 0 ∷ 0 ∷ 0 ∷ 0 ∷ 1 ∷ []

-- ---- one block

-- The datagrams of an image of 3 bytes, byte by byte.
abbrev pub abc_leader : List ℕ
abc_leader =
    0x00 ∷ 0x00 ∷ 0x00 ∷ 0x00 ∷ 0x81 ∷ 0x00 ∷ 0x00 ∷ 0x00
    ∷ 0x00 ∷ 0x00 ∷ 0x00 ∷ 0x00 ∷ 0x00 ∷ 0x00 ∷ 0x00 ∷ 0x01
    ∷ 0x00 ∷ 0x00 ∷ 0x00 ∷ 0x00 ∷ 0x00 ∷ 0x00 ∷ 0x00 ∷ 0x01
    ∷ 0x00 ∷ 0x00 ∷ 0x00 ∷ 0x00 ∷ 0x00 ∷ 0x00 ∷ 0x00 ∷ 0x00
    ∷ 0x01 ∷ 0x08 ∷ 0x00 ∷ 0x01 ∷ 0x00 ∷ 0x00 ∷ 0x00 ∷ 0x03
    ∷ 0x00 ∷ 0x00 ∷ 0x00 ∷ 0x01 ∷ 0x00 ∷ 0x00 ∷ 0x00 ∷ 0x00
    ∷ 0x00 ∷ 0x00 ∷ 0x00 ∷ 0x00 ∷ 0x00 ∷ 0x00 ∷ 0x00 ∷ 0x00
    ∷ []

abbrev pub abc_payload : List ℕ
abc_payload =
    0x00 ∷ 0x00 ∷ 0x00 ∷ 0x00 ∷ 0x83 ∷ 0x00 ∷ 0x00 ∷ 0x00
    ∷ 0x00 ∷ 0x00 ∷ 0x00 ∷ 0x00 ∷ 0x00 ∷ 0x00 ∷ 0x00 ∷ 0x01
    ∷ 0x00 ∷ 0x00 ∷ 0x00 ∷ 0x01 ∷ 0x61 ∷ 0x62 ∷ 0x63
    ∷ []

abbrev pub abc_trailer : List ℕ
abc_trailer =
    0x00 ∷ 0x00 ∷ 0x00 ∷ 0x00 ∷ 0x82 ∷ 0x00 ∷ 0x00 ∷ 0x00
    ∷ 0x00 ∷ 0x00 ∷ 0x00 ∷ 0x00 ∷ 0x00 ∷ 0x00 ∷ 0x00 ∷ 0x01
    ∷ 0x00 ∷ 0x00 ∷ 0x00 ∷ 0x02 ∷ 0x00 ∷ 0x00 ∷ 0x00 ∷ 0x01
    ∷ 0x00 ∷ 0x00 ∷ 0x00 ∷ 0x01
    ∷ []

abbrev pub in_order : Row
in_order = record {
  config = config 528 1 2;
  inputs = datagram abc_leader ∷ finds 0 3 ∷ datagram abc_leader ∷ datagram abc_payload ∷ datagram abc_trailer ∷ [];
  answers = Buffer 1 ∷ Done ∷ Done ∷ Done ∷ [];
  filled = whole_abc 0 1 ∷ [];
  commands = [];
  counts = no_counts;
}

abbrev pub last_first : Row
last_first = record {
  config = config 528 1 2;
  inputs = datagram abc_trailer ∷ finds 0 3 ∷ datagram abc_trailer ∷ datagram abc_payload ∷ datagram abc_leader ∷ [];
  answers = Buffer 1 ∷ Done ∷ Done ∷ Done ∷ [];
  filled = whole_abc 0 1 ∷ [];
  commands = [];
  counts = no_counts;
}

-- a second payload with the same id and other bytes
abbrev pub repeated : Row
repeated = record {
  config = config 528 1 2;
  inputs =
      datagram abc_leader ∷ finds 0 3 ∷ datagram abc_leader ∷ datagram abc_payload
      ∷ carries 1 1 (120 ∷ 120 ∷ 120 ∷ []) ∷ datagram abc_trailer ∷ [];
  answers = Buffer 1 ∷ Done ∷ Done ∷ Ignored Repeat ∷ Done ∷ [];
  filled = whole_abc 0 1 ∷ [];
  commands = [];
  counts = record no_counts { repeat = 1 };
}

abbrev pub one_byte : Row
one_byte = record {
  config = config 528 1 2;
  inputs = leads 1 1 1 ∷ finds 0 1 ∷ leads 1 1 1 ∷ carries 1 1 (97 ∷ []) ∷ trails 1 2 1 ∷ [];
  answers = Buffer 1 ∷ Done ∷ Done ∷ Done ∷ [];
  filled = comes_back 0 (97 ∷ []) 1 true false (seen 1 1) 1 1 retired_whole ∷ [];
  commands = [];
  counts = no_counts;
}

-- payloads of 4 bytes and a rest of 2
abbrev pub with_rest : Row
with_rest = record {
  config = config 4 2 2;
  inputs =
      leads 1 5 2 ∷ finds 0 12 ∷ leads 1 5 2 ∷ carries 1 1 (1 ∷ 2 ∷ 3 ∷ 4 ∷ []) ∷ carries 1 2 (5 ∷ 6 ∷ 7 ∷ 8 ∷ [])
      ∷ carries 1 3 (9 ∷ 10 ∷ []) ∷ trails 1 4 2 ∷ [];
  answers = Buffer 1 ∷ Done ∷ Done ∷ Done ∷ Done ∷ Done ∷ [];
  filled = comes_back 0 (1 ∷ 2 ∷ 3 ∷ 4 ∷ 5 ∷ 6 ∷ 7 ∷ 8 ∷ 9 ∷ 10 ∷ 0 ∷ 0 ∷ []) 1 true false (seen 5 2) 10 10 retired_whole ∷ [];
  commands = [];
  counts = no_counts;
}

-- an exact multiple of the payload size
abbrev pub without_rest : Row
without_rest = record {
  config = config 4 2 2;
  inputs =
      leads 1 4 2 ∷ finds 0 8 ∷ leads 1 4 2 ∷ carries 1 1 (1 ∷ 2 ∷ 3 ∷ 4 ∷ []) ∷ carries 1 2 (5 ∷ 6 ∷ 7 ∷ 8 ∷ [])
      ∷ trails 1 3 2 ∷ [];
  answers = Buffer 1 ∷ Done ∷ Done ∷ Done ∷ Done ∷ [];
  filled = comes_back 0 (1 ∷ 2 ∷ 3 ∷ 4 ∷ 5 ∷ 6 ∷ 7 ∷ 8 ∷ []) 1 true false (seen 4 2) 8 8 retired_whole ∷ [];
  commands = [];
  counts = no_counts;
}

-- ---- sizes of buffers

abbrev pub small_buffer : Row
small_buffer = record {
  config = config 528 1 2;
  inputs =
      datagram abc_leader ∷ finds 0 2 ∷ datagram abc_leader ∷ datagram abc_payload ∷ datagram abc_trailer ∷ tick 1000 ∷ [];
  answers = Buffer 1 ∷ Done ∷ Done ∷ Done ∷ [];
  filled = comes_back 0 (97 ∷ 98 ∷ []) 1 false true (seen 3 1) 2 2 (retired_part Old nothing_lost (record no_reason { small = true })) ∷ [];
  commands = [];
  counts = no_counts;
}

abbrev pub large_buffer : Row
large_buffer = record {
  config = config 528 1 2;
  inputs = datagram abc_leader ∷ finds 0 4 ∷ datagram abc_leader ∷ datagram abc_payload ∷ datagram abc_trailer ∷ [];
  answers = Buffer 1 ∷ Done ∷ Done ∷ Done ∷ [];
  filled = comes_back 0 (97 ∷ 98 ∷ 99 ∷ 0 ∷ []) 1 true false (seen 3 1) 3 3 retired_whole ∷ [];
  commands = [];
  counts = no_counts;
}

-- The first block finds no buffer; the second takes its place.
abbrev pub starves : Row
starves = record {
  config = config 528 1 2;
  inputs =
      leads 1 3 1 ∷ finds_none ∷ leads 1 3 1 ∷ carries 1 1 abc ∷ trails 1 2 1
      ∷ leads 2 3 1 ∷ finds 0 3 ∷ leads 2 3 1 ∷ carries 2 1 abc ∷ trails 2 2 1 ∷ [];
  answers =
      Buffer 1 ∷ Ignored Starved ∷ Ignored Starved ∷ Ignored Starved
      ∷ Buffer 2 ∷ Done ∷ Done ∷ Done ∷ [];
  filled = whole_abc 0 2 ∷ [];
  commands = [];
  counts = record no_counts { underrun = 1; starved = 3 };
}

-- ---- windows and bounds

-- without a leader the highest kept id is the last that may lack
abbrev pub payload_alone : Cause → BlockAccount
payload_alone cause = retired_part cause (lost_range 1 0 0) (record no_reason { no_leader = true; no_trailer = true })

-- Of two open blocks the lowest is displaced, and then it is late. A stop retires the others, lowest first.
abbrev pub displaces : Row
displaces = record {
  config = config 528 2 2;
  inputs =
      carries 5 1 abc ∷ finds 0 3 ∷ carries 5 1 abc ∷ carries 7 1 abc ∷ finds 1 3 ∷ carries 7 1 abc
      ∷ carries 6 1 abc ∷ finds 2 3 ∷ carries 6 1 abc ∷ carries 5 1 abc ∷ stop ∷ [];
  answers = Buffer 5 ∷ Done ∷ Buffer 7 ∷ Done ∷ Buffer 6 ∷ Done ∷ Ignored (Late (Some 6)) ∷ [];
  filled =
      comes_back 0 abc 5 false false None 3 3 (payload_alone Displaced) ∷ comes_back 2 abc 6 false false None 3 3 (payload_alone Stopped)
      ∷ comes_back 1 abc 7 false false None 3 3 (payload_alone Stopped) ∷ [];
  commands = [];
  counts = record no_counts { late = 1 };
}

abbrev pub top_block : ℕ
top_block = 18446744073709551615

-- After the last block id each is late, and no packet has the block id 0.
abbrev pub spends_ids : Row
spends_ids = record {
  config = config 528 1 2;
  inputs =
      leads top_block 3 1 ∷ finds 0 3 ∷ leads top_block 3 1 ∷ carries top_block 1 abc ∷ trails top_block 2 1
      ∷ leads top_block 3 1 ∷ leads 0 3 1 ∷ [];
  answers = Buffer top_block ∷ Done ∷ Done ∷ Done ∷ Ignored (Late None) ∷ Ignored (Foreign ZeroBlock) ∷ [];
  filled = whole_abc 0 top_block ∷ [];
  commands = [];
  counts = record no_counts { foreign = 1; late = 1 };
}

-- of a leader alone payload and trailer lack
abbrev pub leader_alone : Cause → BlockAccount
leader_alone cause = retired_part cause (lost_range 2 1 2) (record no_reason { no_trailer = true; no_payload = true })

-- After a start block ids begin again.
abbrev pub restarts : Row
restarts = record {
  config = config 528 1 2;
  inputs = leads 9 3 1 ∷ finds 0 3 ∷ leads 9 3 1 ∷ stop ∷ leads 9 3 1 ∷ restart ∷ leads 1 3 1 ∷ [];
  answers = Buffer 9 ∷ Done ∷ Ignored (Late (Some 10)) ∷ Buffer 1 ∷ [];
  filled = comes_back 0 (0 ∷ 0 ∷ 0 ∷ []) 9 false false (seen 3 1) 3 0 (leader_alone Stopped) ∷ [];
  commands = [];
  counts = record no_counts { late = 1 };
}

-- Datagrams that open no block: one byte, a payload that is too long, a status that says no good of the
-- packet, and a packet id that no frame has.
abbrev pub hostile : Row
hostile = record {
  config = config 528 1 2;
  inputs =
      datagram (0 ∷ []) ∷ carries 1 1 (replicate 529 97)
      ∷ datagram (plain (leader (head_with 0x8001 1 0) (info 3 1))) ∷ carries 1 131074 (97 ∷ []) ∷ [];
  answers = Ignored (Foreign (Short 1)) ∷ Ignored Misfit ∷ Ignored Misfit ∷ Ignored Misfit ∷ [];
  filled = [];
  commands = [];
  counts = record no_counts { foreign = 1; misfit = 3 };
}
