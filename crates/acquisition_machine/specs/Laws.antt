-- Laws of the window: the order of the open blocks, the bound, and the order in which blocks retire.
use Rattle.std.specs.Prelude.{◌≡◌, ⊤, ℕ, ◌+◌, ◌≤◌, List, [], ◌∷◌, ◌++◌}
use Rattle.acquisition_machine.specs.declared.config.AcqConfig.{AcqConfig}
use Rattle.acquisition_machine.specs.Blocks.{Retirement}
use Rattle.acquisition_machine.specs.Machine.{Input, datagram, claimed, tick, stop, restart, State, bound, floor_after, step}
use Rattle.acquisition_machine.specs.Runs.{After, after_from, retired_from, requests_from, packets_in}
use Rattle.acquisition_machine.specs.Sound.{IsSound}

-- Runs of a list that grows at its end.
pub record RunsAreJoined : Type 0 where
  pub after : (c : AcqConfig) (s : State) (q r : List Input) → after_from c s (q ++ r) ≡ after_from c (after_from c s q) r
  pub retired : (c : AcqConfig) (s : State) (q r : List Input) → retired_from c s (q ++ r) ≡ retired_from c s q ++ retired_from c (after_from c s q) r
  pub requests : (c : AcqConfig) (s : State) (q r : List Input) → requests_from c s (q ++ r) ≡ requests_from c s q ++ requests_from c (after_from c s q) r
  pub packets : (q r : List Input) → packets_in (q ++ r) ≡ packets_in q ++ packets_in r

-- After any inputs the open blocks are in order, none below the floor, and at most as many as the window has.
abbrev pub BlocksAreInOrder : Type 0
BlocksAreInOrder = (c : AcqConfig) (q : List Input) → 1 ≤ c.window → IsSound c (After c q)

-- each input keeps that
abbrev pub StepsKeepOrder : Type 0
StepsKeepOrder = (c : AcqConfig) (s : State) (i : Input) → 1 ≤ c.window → IsSound c s → IsSound c (step c s i).after

-- these inputs belong to one acquisition
abbrev pub HasNoRestart : List Input → Type 0
HasNoRestart [] = ⊤
HasNoRestart (datagram bytes ∷ q) = HasNoRestart q
HasNoRestart (claimed given ∷ q) = HasNoRestart q
HasNoRestart (tick moment ∷ q) = HasNoRestart q
HasNoRestart (stop ∷ q) = HasNoRestart q
HasNoRestart (restart ∷ q) = ⊥

-- within an acquisition the bound never falls
abbrev pub BoundNeverFalls : Type 0
BoundNeverFalls =
    (c : AcqConfig) (q rest : List Input) → 1 ≤ c.window → HasNoRestart rest
    → bound c (After c q) ≤ bound c (After c (q ++ rest))

-- the ids of these blocks rise, from this one on: none comes twice
abbrev pub RetireFrom : ℕ → List Retirement → Type 0
RetireFrom low [] = ⊤
RetireFrom low (r ∷ rs) = (low ≤ r.was.block) × RetireFrom (r.was.block + 1) rs

-- Within an acquisition blocks retire in the order of their ids, from the floor on, and the floor follows them.
pub record RetiresInOrder (c : AcqConfig) (q rest : List Input) : Type 0 where
  pub rising : RetireFrom (After c q).floor (retired_from c (After c q) rest)
  pub floor : (After c (q ++ rest)).floor ≡ floor_after (After c q).floor (retired_from c (After c q) rest)

abbrev pub BlocksRetireInOrder : Type 0
BlocksRetireInOrder = (c : AcqConfig) (q rest : List Input) → 1 ≤ c.window → HasNoRestart rest → RetiresInOrder c q rest
