-- What a recorded run keeps of each turn of its receiver, and the inputs that such turns tell.
use Rattle.std.specs.Prelude.{◌≡◌, ℕ, List, [], ◌∷◌, ◌++◌, Bool, true, false, Option, Some, None}
use Rattle.acquisition_machine.specs.declared.config.AcqConfig.{AcqConfig}
use Rattle.acquisition_machine.specs.Blocks.{Given}
use Rattle.acquisition_machine.specs.Machine.{Input, datagram, claimed, tick, stop, State, step}
use Rattle.acquisition_machine.specs.Runs.{after_from}
use Rattle.acquisition_machine.specs.TurnLaws.{asked_by}
use Rattle.acquisition_machine.specs.declared.mark.Mark.{Mark}

-- the size in bytes of each buffer of a recorded run
abbrev pub buffer_size : ℕ
buffer_size = 307200

-- a turn: the bytes of the datagram, if one came, and the mark
pub record Noted : Type 0 where
  pub received : Option (List ℕ)
  pub mark : Mark

-- What a claim came to: a buffer at some place where the mark says so, else none.
abbrev pub IsOutcome : Bool → Option Given → Type 0
IsOutcome false given = given ≡ None
IsOutcome true given = (place : ℕ) × (given ≡ Some (record { place = place; size = buffer_size }))

-- The inputs that a datagram tells: itself, and where it asks for a buffer the outcome of the claim and the
-- datagram again.
abbrev pub IsTold : List ℕ → Bool → Option ℕ → List Input → Type 0
IsTold bytes claim None told = told ≡ datagram bytes ∷ []
IsTold bytes claim (Some b) told =
    (given : Option Given) × IsOutcome claim given × (told ≡ datagram bytes ∷ claimed given ∷ datagram bytes ∷ [])

abbrev pub IsHeard : AcqConfig → State → Option (List ℕ) → Bool → List Input → Type 0
IsHeard c s None claim heard = heard ≡ []
IsHeard c s (Some bytes) claim heard = IsTold bytes claim (asked_by (step c s (datagram bytes)).need) heard

-- These are the inputs of a run of these turns from this state: per turn what the datagram tells, if one
-- came, and the moment; and a stop at the end.
abbrev pub IsRun : AcqConfig → State → List Noted → List Input → Type 0
IsRun c s [] q = q ≡ stop ∷ []
IsRun c s (t ∷ ts) q =
    (heard : List Input) × (rest : List Input) × IsHeard c s t.received t.mark.claimed heard
    × (q ≡ (heard ++ tick t.mark.moment ∷ []) ++ rest) × IsRun c (after_from c s (heard ++ tick t.mark.moment ∷ [])) ts rest

-- a datagram without a byte is none
abbrev pub with_byte : Option (List ℕ) → Option (List ℕ)
with_byte None = None
with_byte (Some []) = None
with_byte (Some (b ∷ bytes)) = Some (b ∷ bytes)

-- the turn without a datagram that has no byte
abbrev pub with_bytes : Noted → Noted
with_bytes t = record t { received = with_byte t.received }
