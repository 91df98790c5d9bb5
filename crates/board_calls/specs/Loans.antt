-- What GenTL's buffer information (BUFFER_INFO_CMD) tells of a buffer that is a loan, from the record
-- of the block in it.
use Rattle.std.specs.Prelude.{ℕ, ◌==◌, Bool, cond, not, Result, Ok, Err}
use Rattle.gev_types.specs.declared.block_record.Record.{Record}
use Rattle.gentl_types.specs.declared.errors.GcError.{GcError}
use Rattle.gentl_types.specs.declared.errors.GcError.TheVariants.{NotAvailable}

-- the standard's numbers of these values
abbrev pub new_data : ℕ
new_data = 4

abbrev pub is_incomplete : ℕ
is_incomplete = 7

abbrev pub size_filled : ℕ
size_filled = 9

abbrev pub frame_id : ℕ
frame_id = 16

abbrev pub data_larger_than_buffer : ℕ
data_larger_than_buffer = 29

-- 1 for yes, 0 for no
abbrev pub flag : Bool → ℕ
flag holds = cond holds 1 0

-- NEW_DATA is 1 where the buffer holds a block, IS_INCOMPLETE where it isn't complete; SIZE_FILLED is in
-- bytes, FRAMEID is the block's id. There is no other value.
abbrev pub loan_value : Record → ℕ → Result ℕ GcError
loan_value rec which =
    cond (which == new_data) (Ok (flag (not (rec.block == 0))))
    (cond (which == is_incomplete) (Ok (flag (not rec.complete)))
    (cond (which == size_filled) (Ok rec.filled)
    (cond (which == frame_id) (Ok rec.block)
    (cond (which == data_larger_than_buffer) (Ok (flag rec.larger))
    (Err (NotAvailable which))))))
