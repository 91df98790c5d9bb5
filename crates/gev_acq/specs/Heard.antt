-- A datagram that is given to a receiver: the inputs that come of it, and what a turn's entry says of it.
use Rattle.std.specs.Prelude.{◌≡◌, ℕ, List, [], ◌∷◌, ◌++◌, Bool, true, false, Option, Some, None, is_some, option_map}
use Rattle.acquisition_machine.specs.declared.config.AcqConfig.{AcqConfig}
use Rattle.acquisition_machine.specs.declared.need.Need.{Need}
use Rattle.acquisition_machine.specs.declared.need.Need.TheVariants.{Buffer, Done, Ignored}
use Rattle.acquisition_machine.specs.Blocks.{Given}
use Rattle.acquisition_machine.specs.Machine.{Input, datagram, claimed}
use Rattle.acquisition_machine.specs.Runs.{turn}
use Rattle.acquisition_machine.specs.TurnLaws.{asked_by}
use Rattle.gev_acq.specs.declared.heard.Heard.{Heard}

-- The inputs of a datagram: where a claim was made, its outcome and the datagram once more.
abbrev pub inputs_heard : List ℕ → Option (Option Given) → List Input
inputs_heard bytes None = datagram bytes ∷ []
inputs_heard bytes (Some given) = datagram bytes ∷ claimed given ∷ datagram bytes ∷ []

abbrev pub or_zero : Option ℕ → ℕ
or_zero None = 0
or_zero (Some n) = n

-- what the datagram was answered at last
abbrev pub last_need : AcqConfig → List Input → List ℕ → Option (Option Given) → Option Need
last_need c q bytes None = (turn c q (datagram bytes)).need
last_need c q bytes (Some given) = (turn c (q ++ datagram bytes ∷ claimed given ∷ []) (datagram bytes)).need

-- whether the packet was kept
abbrev pub kept_by : Option Need → Bool
kept_by None = false
kept_by (Some (Buffer b)) = false
kept_by (Some Done) = true
kept_by (Some (Ignored why)) = false

abbrev pub claimed_place : Option (Option Given) → Option ℕ
claimed_place None = None
claimed_place (Some given) = option_map (λ (g : Given). g.place) given

-- A claim was made exactly where the machine asked for a buffer, and the rest is as it answered.
pub record IsHeard (c : AcqConfig) (q : List Input) (bytes : List ℕ) (given : Option (Option Given)) (r : Heard) : Type 0 where
  pub asked : is_some given ≡ is_some (asked_by (turn c q (datagram bytes)).need)
  pub opened : r.opened ≡ or_zero (asked_by (turn c q (datagram bytes)).need)
  pub kept : r.kept ≡ kept_by (last_need c q bytes given)
  pub claim : r.claim ≡ claimed_place given
