-- The numbers of the errors in GenTL's list of error codes, all of them negative.
use Rattle.std.specs.Prelude.{ℕ, ℤ, pos, ◌-ℤ◌}
use Rattle.gentl_types.specs.declared.errors.GcError.{GcError}
use Rattle.gentl_types.specs.declared.errors.GcError.TheVariants.{ResourceInUse, InvalidHandle, InvalidParameter, Timeout, Abort, NotAvailable, InvalidIndex, ResourceExhausted, OutOfMemory, Busy}

-- how far an error's number is below 0
abbrev pub distance : GcError → ℕ
distance (ResourceInUse shown) = 1004
distance (InvalidHandle shown) = 1006
distance (InvalidParameter parameter) = 1009
distance (Timeout first last) = 1011
distance Abort = 1012
distance (NotAvailable which) = 1014
distance (InvalidIndex which) = 1017
distance ResourceExhausted = 1020
distance OutOfMemory = 1021
distance (Busy word) = 1022

abbrev pub code_of : GcError → ℤ
code_of error = pos 0 -ℤ pos (distance error)
