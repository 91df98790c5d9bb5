-- Which ends of a worker are faults.
use Rattle.std.specs.Prelude.{Bool, true, false, Option, Some, None}
use Rattle.gev_control.specs.declared.acq_end.AcqEnd.{AcqEnd}
use Rattle.gev_control.specs.declared.acq_end.AcqEnd.TheVariants as how

abbrev pub is_fault_end : AcqEnd → Bool
is_fault_end how.Stopped = false
is_fault_end how.Spent = false
is_fault_end how.Fault = true
is_fault_end (how.NoAnswer req) = false
is_fault_end (how.Refused status) = false

-- no end is no fault
abbrev pub ends_in_fault : Option AcqEnd → Bool
ends_in_fault None = false
ends_in_fault (Some end) = is_fault_end end
