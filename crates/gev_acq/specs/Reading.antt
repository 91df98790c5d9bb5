-- Which calls of a turn failed.
use Rattle.std.specs.Prelude.{◌≡◌, ◌⊎◌, ℕ, Bool, true, false, Option, Some, None, Result, Ok, Err}
use Rattle.gev_links.specs.declared.failed.Failed.{Failed}
use Rattle.gev_links.specs.Faults.{Rose}
use Rattle.gev_links.specs.Links.{Address}

-- the receive failed, or gave a datagram
abbrev pub is_lost : Result (Option (ℕ × Address)) Failed → Bool
is_lost (Ok came) = false
is_lost (Err error) = true

abbrev pub has_come : Result (Option (ℕ × Address)) Failed → Bool
has_come (Ok None) = false
has_come (Ok (Some datagram)) = true
has_come (Err error) = false

-- Where there was a fault one of the two counts rose, the stream's or the control link's, and else none did.
abbrev pub FaultsOf : Bool → ℕ → ℕ → ℕ → ℕ → Type 0
FaultsOf true stream stream_after control control_after =
    (Rose stream stream_after × (control_after ≡ control)) ⊎ ((stream_after ≡ stream) × Rose control control_after)
FaultsOf false stream stream_after control control_after = (stream_after ≡ stream) × (control_after ≡ control)
