-- The numbers of bytes that a stream's packets and buffers may have.
use Rattle.std.specs.Prelude.{ℕ, ◌≤◌}
use Rattle.gev_types.specs.Limits.{min_payload_size, max_received_payload_size, max_buffer_size}

-- a payload size that a stream may have, with standard identifiers too
pub record IsPayloadSize (p : ℕ) : Type 0 where
  pub at_least : min_payload_size ≤ p
  pub at_most : p ≤ max_received_payload_size

-- a size that a buffer may have
pub record IsBufferSize (size : ℕ) : Type 0 where
  pub some : 1 ≤ size
  pub in_limits : size ≤ max_buffer_size
