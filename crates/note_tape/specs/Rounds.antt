-- What requests tell, each by the round that its block has done.
use Rattle.std.specs.Prelude.{◌≡◌, ℕ, List, [], ◌∷◌}
use Rattle.acquisition_machine.specs.declared.config.AcqConfig.{AcqConfig}
use Rattle.acquisition_machine.specs.Blocks.{Open}
use Rattle.acquisition_machine.specs.Machine.{State, Request, open_at, settled, unasked, tick, step}
use Rattle.acquisition_machine.specs.Sound.{RiseFrom}
use Rattle.acq_core.specs.Receiver.{rounds_of}
use Rattle.script_trace.specs.Notes.{Note, asks}
use Rattle.script_trace.specs.Inputs.{round_notes}

-- the notes of these requests, where these blocks are open
abbrev pub asked_notes : List Open → List Request → List Note
asked_notes opens [] = []
asked_notes opens (r ∷ rs) =
    asks r.resend.block (r.resend.first, r.resend.last) (rounds_of (open_at r.resend.block opens)) ∷ asked_notes opens rs

-- The requests of a moment, each with the round of its block after it, are what the moment tells.
abbrev pub RoundsAreTold : Type 0
RoundsAreTold =
    (c : AcqConfig) (s : State) (moment : ℕ) → RiseFrom s.floor s.opens
    → asked_notes (step c s (tick moment)).after.opens (step c s (tick moment)).requests
    ≡ round_notes c (step c s (tick moment)).after.now (settled c (record (unasked s) { now = (step c s (tick moment)).after.now })).opens
