-- Which marks are those of a run.
use Rattle.std.specs.Prelude.{◌≡◌, ⊤, ℕ, ◌<◌, ◌≤◌, ◌^◌, false, List, [], ◌∷◌, ◌++◌, length, Option, Some, None}
use Rattle.std.specs.List.{AllByRecursion}
use Rattle.acquisition_machine.specs.Machine.{Input, State, datagram, tick, stop, step}
use Rattle.acquisition_machine.specs.Runs.{after_from}
use Rattle.acquisition_machine.specs.TurnLaws.{asked_by}
use Rattle.acquisition_machine.specs.Turns.{Noted, IsHeard}
use Rattle.gev_record.specs.Script.{live_config, after_turn}

abbrev pub block_or_zero : Option ℕ → ℕ
block_or_zero None = 0
block_or_zero (Some b) = b

-- the block that is opened as this comes, with a buffer or without, else 0
abbrev pub opened_in : State → Option (List ℕ) → ℕ
opened_in s None = 0
opened_in s (Some bytes) = block_or_zero (asked_by (step live_config s (datagram bytes)).need)

-- The mark names the block that its turn opened in this state, and its claim got a buffer only where one was
-- opened.
abbrev pub MarkTells : State → Noted → Type 0
MarkTells s t = (t.mark.opened ≡ opened_in s t.received) × (t.mark.opened ≡ 0 → t.mark.claimed ≡ false)

-- so does each, where the inputs are those of the script
abbrev pub MarksTell : State → List Noted → Type 0
MarksTell s [] = ⊤
MarksTell s (t ∷ ts) = MarkTells s t × MarksTell (after_turn s t) ts

-- These are the inputs of a run of these turns from this state, and each mark tells what happened in its turn.
abbrev pub IsMarkedRun : State → List Noted → List Input → Type 0
IsMarkedRun s [] q = q ≡ stop ∷ []
IsMarkedRun s (t ∷ ts) q =
    (heard : List Input) × (rest : List Input) × IsHeard live_config s t.received t.mark.claimed heard
    × (q ≡ (heard ++ tick t.mark.moment ∷ []) ++ rest) × MarkTells s t
    × IsMarkedRun (after_from live_config s (heard ++ tick t.mark.moment ∷ [])) ts rest

-- a datagram of at most 1,600 bytes, as a recorder takes it
abbrev pub IsReceived : Option (List ℕ) → Type 0
IsReceived None = ⊤
IsReceived (Some bytes) = AllByRecursion (λ b. b < 256) bytes × (length bytes ≤ 1600)

-- the turn's numbers are in range
pub record HasWidths (t : Noted) : Type 0 where
  pub moment : t.mark.moment < 2 ^ 64
  pub received : IsReceived t.received
