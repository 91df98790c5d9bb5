-- What a stream is received with, by the words and its first leader, and the numbers of the last line.
use Rattle.std.specs.Prelude.{ℕ, ◌==◌, ◌||◌, min, max, Bool, if◌then◌else◌, List, [], ◌∷◌, Option, Some, None}
use Rattle.gev_types.specs.Limits.{min_payload_size, max_received_payload_size, max_buffer_size}
use Rattle.acquisition_machine.specs.declared.config.AcqConfig.{AcqConfig}
use Rattle.acquisition_machine.specs.declared.counts.Counts.{Counts}
use Rattle.camera_control.specs.declared.register_write.RegisterWrite.{RegisterWrite}
use Rattle.camera_words.specs.declared.register_write.RegisterWrite.{RegisterWrite as Wish}
use Rattle.camera_words.specs.declared.register_write.Stage.{Stage}
use Rattle.camera_words.specs.declared.register_write.Stage.TheVariants as stages
use Rattle.camera_words.specs.declared.settings.Settings.{Settings}
use Rattle.first_leader.specs.declared.leading.FirstLeader.{FirstLeader}
use Rattle.frame_pictures.specs.declared.no_picture.NoPicture.{NoPicture}
use Rattle.frame_pictures.specs.declared.no_picture.NoPicture.TheVariants.{PixelFormat, NoPixels, PartBytes}
use Rattle.frame_pictures.specs.declared.samples.Samples.{Samples}
use Rattle.frame_pictures.specs.Formats.{samples_of, fills_bytes}
use Rattle.board_calls.specs.declared.mode.Mode.{Mode}
use Rattle.board_calls.specs.declared.mode.Mode.TheVariants.{OldestFirst, OldestFirstOverwrite, NewestOnly}
use Rattle.packet_requests.specs.declared.id_mode.IdMode.{IdMode}
use Rattle.packet_requests.specs.declared.id_mode.IdMode.TheVariants as ids
use Rattle.frame_writing.specs.declared.receive_counts.BlockIds.{BlockIds}
use Rattle.frame_writing.specs.declared.receive_counts.BlockIds.TheVariants as blocks
use Rattle.frame_writing.specs.declared.receive_counts.ReceiveCounts.{ReceiveCounts}
use Rattle.stream_packets.specs.declared.fields.LeaderInfo.{LeaderInfo}

-- ---- writes

abbrev pub stage_number : Stage → ℕ
stage_number stages.Set = 0
stage_number stages.Start = 1
stage_number stages.Stop = 2

abbrev pub is_at : Stage → Wish → Bool
is_at stage wish = stage_number wish.stage == stage_number stage

abbrev pub plain_write : Wish → RegisterWrite
plain_write wish = record { register = wish.register; value = wish.value }

-- the writes of this stage, in order
abbrev pub writes_at : Stage → List Wish → List RegisterWrite
writes_at stage [] = []
writes_at stage (wish ∷ wishes) = if is_at stage wish then plain_write wish ∷ writes_at stage wishes else writes_at stage wishes

-- ---- the receiver

-- the number in this range that is nearest
abbrev pub within : ℕ → ℕ → ℕ → ℕ
within low high n = min high (max low n)

-- What the first leader tells was seen in a look alone, of which nothing is promised: so each of its numbers is brought
-- into its range.
abbrev pub payload_size : FirstLeader → ℕ
payload_size leader = within min_payload_size max_received_payload_size leader.payload_size

abbrev pub frame_size : FirstLeader → ℕ
frame_size leader = within 1 max_buffer_size leader.info.size

-- How blocks are received: packets are asked for again where the camera can send them again.
abbrev pub config_of : Settings → FirstLeader → Bool → AcqConfig
config_of settings leader resends = record {
  p = payload_size leader;
  window = settings.window;
  timeout = settings.timeout;
  age = settings.age;
  rounds = if resends then settings.rounds else 0;
}

abbrev pub mode_of : ℕ → Mode
mode_of number = if number == 0 then OldestFirst else if number == 1 then OldestFirstOverwrite else NewestOnly

-- the bytes of each buffer
abbrev pub size_or : Option ℕ → ℕ → ℕ
size_or None size = size
size_or (Some bytes) size = bytes

abbrev pub buffer_size : Settings → FirstLeader → ℕ
buffer_size settings leader = size_or settings.bytes (frame_size leader)

-- ---- pictures

abbrev pub lacks_samples : Option Samples → LeaderInfo → Option NoPicture
lacks_samples None info = Some (PixelFormat info.pixel)
lacks_samples (Some samples) info =
    if (info.size_x == 0) || (info.size_y == 0) then Some NoPixels else if fills_bytes samples info.size_x then None else Some PartBytes

-- why images of this kind have no picture, if they have none
abbrev pub lacks_picture : LeaderInfo → Option NoPicture
lacks_picture info = lacks_samples (samples_of info.pixel) info

-- ---- the numbers of the last line

abbrev pub no_counts : ℕ → ReceiveCounts
no_counts frames = record {
  frames = frames;
  taken = 0;
  complete = 0;
  p = 0;
  bytes = 0;
  ids = blocks.Unknown;
  underrun = 0;
  requests = 0;
  foreign = 0;
  late = 0;
  repeat = 0;
  misfit = 0;
  starved = 0;
  notice = 0;
  strangers = 0;
}

abbrev pub ids_of : IdMode → BlockIds
ids_of ids.Standard = blocks.Standard
ids_of ids.Extended = blocks.Extended

-- behind the first leader
abbrev pub leader_counts : Settings → FirstLeader → ReceiveCounts
leader_counts settings leader = record (no_counts settings.frames) { p = payload_size leader; bytes = buffer_size settings leader; ids = ids_of leader.ids }

-- with what was handed out and what the receiver counted
abbrev pub with_counts : ReceiveCounts → ℕ → ℕ → Counts → ReceiveCounts
with_counts before taken complete counts = record before {
  taken = taken;
  complete = complete;
  underrun = counts.underrun;
  requests = counts.requests;
  foreign = counts.foreign;
  late = counts.late;
  repeat = counts.repeat;
  misfit = counts.misfit;
  starved = counts.starved;
  notice = counts.notice;
}
