-- The limits that the whole stack keeps. The constants of `src/limits.rt` are these numbers.
use Rattle.std.specs.Prelude.{◌≡◌, ℕ, ◌^◌}
use Rattle.gev_types.specs.declared.limits.TheConstants.{PLACES, MAX_BUFFER_SIZE, MIN_PAYLOAD_SIZE, MAX_PAYLOAD_SIZE, MAX_RECEIVED_PAYLOAD_SIZE, MAX_PACKET_ID}

-- how many places for buffers a stream has
abbrev pub place_count : ℕ
place_count = 15

-- the largest size of a buffer and of a frame: 64 MiB
abbrev pub max_buffer_size : ℕ
max_buffer_size = 2 ^ 26

-- the smallest and the largest payload of a stream packet with extended identifiers, in bytes: packet
-- sizes of 576 and 9000, less the headers of IP (20), UDP (8) and GVSP (20)
abbrev pub min_payload_size : ℕ
min_payload_size = 528

abbrev pub max_payload_size : ℕ
max_payload_size = 8952

-- The largest payload that a receiver takes. A header with standard identifiers has 8 bytes and not
-- 20, so that a packet size of 9000 leaves 12 bytes more.
abbrev pub max_received_payload_size : ℕ
max_received_payload_size = 8964

-- the highest packet id that fits a block
abbrev pub max_packet_id : ℕ
max_packet_id = 131073

-- Each constant of the code is its limit.
pub record AreTheLimits : Type 0 where
  pub places : PLACES ≡ place_count
  pub buffer_size : MAX_BUFFER_SIZE ≡ max_buffer_size
  pub least_payload : MIN_PAYLOAD_SIZE ≡ min_payload_size
  pub largest_payload : MAX_PAYLOAD_SIZE ≡ max_payload_size
  pub largest_received : MAX_RECEIVED_PAYLOAD_SIZE ≡ max_received_payload_size
  pub packet_id : MAX_PACKET_ID ≡ max_packet_id
