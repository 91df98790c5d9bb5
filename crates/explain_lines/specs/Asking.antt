-- Requests that are written and told.
use Rattle.std.specs.Prelude.{ℕ, Bool, List, [], ◌∷◌, ◌++◌, if◌then◌else◌}
use Rattle.gvcp_wire.specs.declared.resend.Resend.{Resend}
use Rattle.gev_report.specs.ReplayLines.{request_line}
use Rattle.acquisition_machine.specs.Blocks.{Open}
use Rattle.acquisition_machine.specs.Machine.{open_at}
use Rattle.acq_core.specs.Receiver.{rounds_of}
use Rattle.script_trace.specs.Notes.{Note, asks}
use Rattle.script_trace.specs.Wide.{standard_form}

-- the command's bytes, in the standard form where that is asked for
abbrev pub form_of : Bool → List ℕ → List ℕ
form_of standard bytes = if standard then standard_form bytes else bytes

-- the lines of these requests
abbrev pub lines_by : Bool → List (List ℕ) → List ℕ
lines_by standard [] = []
lines_by standard (r ∷ rs) = request_line (form_of standard r) ++ lines_by standard rs

-- the notes of what is asked for, where these blocks are open
abbrev pub resend_notes : List Open → List Resend → List Note
resend_notes opens [] = []
resend_notes opens (r ∷ rs) = asks r.block (r.first, r.last) (rounds_of (open_at r.block opens)) ∷ resend_notes opens rs
