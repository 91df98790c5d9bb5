-- What each image buffer keeps.
use Rattle.std.specs.Prelude.{ℕ, ◌≤◌, List, length}
use Rattle.gev_types.specs.Limits.{max_buffer_size}
use Rattle.gev_types.specs.declared.block_record.Record.{Record}

-- 1 byte to 64 MiB, and a record whose counts of bytes are at most the size
pub record IsBuf (bytes : List ℕ) (rec : Record) : Type 0 where
  pub some : 1 ≤ length bytes
  pub in_limits : length bytes ≤ max_buffer_size
  pub data_len : rec.data_len ≤ length bytes
  pub filled : rec.filled ≤ length bytes
