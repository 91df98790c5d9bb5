-- Laws of fills and retired blocks, which `src/laws.rt` proves.
use Rattle.std.specs.Prelude.{◌≡◌, ⊤, ℕ, ◌≤◌, List, [], ◌∷◌, map}
use Rattle.std.specs.List.{AllByRecursion}
use Rattle.board_machine.specs.declared.events.Event.{Event}
use Rattle.board_machine.specs.Adding.{entries_of}
use Rattle.acquisition_machine.specs.declared.config.AcqConfig.{AcqConfig}
use Rattle.acquisition_machine.specs.declared.retired.Retired.{Retired}
use Rattle.acquisition_machine.specs.Machine.{Input, State, step, datagram, claimed, tick, stop, restart}
use Rattle.acquisition_machine.specs.Runs.{first_state}
use Rattle.block_fills.specs.Fills.{tried, item_of, retired_items, IsRetired, FillsRetired}

-- where these inputs come on this state, no block is open at a restart
abbrev pub StartsClean : AcqConfig → State → List Input → Type 0
StartsClean c s [] = ⊤
StartsClean c s (datagram bytes ∷ q) = StartsClean c (step c s (datagram bytes)).after q
StartsClean c s (claimed given ∷ q) = StartsClean c (step c s (claimed given)).after q
StartsClean c s (tick moment ∷ q) = StartsClean c (step c s (tick moment)).after q
StartsClean c s (stop ∷ q) = StartsClean c (step c s stop).after q
StartsClean c s (restart ∷ q) = (s.opens ≡ []) × StartsClean c (step c s restart).after q

-- The blocks that retire with a buffer as inputs come, of which none begins an acquisition while a block is
-- open, are each their block's frame, or have each received byte in place and tell no other frame's image.
abbrev pub BlocksAreRetired : Type 0
BlocksAreRetired =
    (c : AcqConfig) (inputs : List Input) → 1 ≤ c.window → StartsClean c first_state inputs → AllByRecursion (IsRetired c inputs) (retired_items c inputs)

-- What the events of the fills of retired blocks try to put into the output are just these blocks, in order.
abbrev pub FillsAreRetired : Type 0
FillsAreRetired = (k : ℕ) (xs : List Retired) (events : List Event) → FillsRetired xs events → tried (entries_of k events) ≡ map item_of xs
