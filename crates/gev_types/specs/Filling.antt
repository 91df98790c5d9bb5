-- What a buffer holds: its bytes, and what is known of the block that they came from.
use Rattle.std.specs.Prelude.{ℕ, List, false, None}
use Rattle.gev_types.specs.declared.block_record.Record.{Record}

pub record Filling : Type 0 where
  pub bytes : List ℕ
  pub rec : Record

-- the record of a buffer that holds no block
abbrev pub empty_record : Record
empty_record = record { block = 0; complete = false; larger = false; has_leader = false; data_len = 0; filled = 0; image = None; account = None }
