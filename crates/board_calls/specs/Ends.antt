-- What calls with a buffer answer, as the board machine's events say it.
use Rattle.std.specs.Prelude.{ℕ, Bool, true, false, Result, Ok, Err}
use Rattle.gev_types.specs.Filling.{Filling}
use Rattle.board_machine.specs.declared.events.TakeEnd.{TakeEnd}
use Rattle.board_machine.specs.declared.events.TakeEnd.TheVariants as take
use Rattle.board_calls.specs.declared.ends.FillEnd.{FillEnd}
use Rattle.board_calls.specs.declared.ends.FillEnd.TheVariants.{Filled, Closed}

-- whether the buffer was put into the output
abbrev pub is_filled : FillEnd → Bool
is_filled Filled = true
is_filled (Closed buf) = false

-- what holds of the buffer that comes back from a closed stream
abbrev pub IfClosed : FillEnd → (Filling → Type 0) → Type 0
IfClosed Filled P = Unit {0}
IfClosed (Closed buf) P = P buf

-- of a refused call that gives a buffer back, what it answers beside the buffer
abbrev pub beside_buf : {T W : Type 0} → Result T (Filling × W) → Result T W
beside_buf (Ok answer) = Ok answer
beside_buf (Err refusal) = Err refusal.1

-- what holds of the place that a take took
abbrev pub IfTaken : TakeEnd → (ℕ → Type 0) → Type 0
IfTaken (take.Taken place) P = P place
IfTaken take.Empty P = Unit {0}
IfTaken take.Closed P = Unit {0}
