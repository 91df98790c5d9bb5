-- The entries that a worker adds to the board's history when it serves inputs of the acquisition machine, in each
-- buffer handling mode.
use Rattle.std.specs.Prelude.{◌≡◌, Bool, List, [], ◌∷◌, ◌++◌, Some, None}
use Rattle.board_machine.specs.declared.events.Event.{Event}
use Rattle.acquisition_machine.specs.declared.config.AcqConfig.{AcqConfig}
use Rattle.acquisition_machine.specs.Blocks.{fills}
use Rattle.acquisition_machine.specs.Machine.{Input, datagram, claimed, tick, stop, restart, State, step}
use Rattle.board_calls.specs.declared.mode.Mode.{Mode}
use Rattle.board_calls.specs.Modes.{ClaimsFor}
use Rattle.gev_acq.specs.Filling.{FillsRetiredFor}

-- These events are the claim of which an input tells: it got the place that is told of, whether that was in the
-- pool or dropped for it. Another input tells of none.
abbrev pub ClaimsOf : Mode → Input → List Event → Type 0
ClaimsOf mode (datagram bytes) es = es ≡ []
ClaimsOf mode (claimed None) es = ClaimsFor mode None es
ClaimsOf mode (claimed (Some g)) es = (dropped : Bool) × ClaimsFor mode (Some (g.place, dropped)) es
ClaimsOf mode (tick moment) es = es ≡ []
ClaimsOf mode stop es = es ≡ []
ClaimsOf mode restart es = es ≡ []

-- From this state the inputs are served by these events: each claim is made, and what retires is filled.
abbrev pub Serves : Mode → AcqConfig → State → List Input → List Event → Type 0
Serves mode c s [] es = es ≡ []
Serves mode c s (i ∷ is) es =
    (claiming filling rest : List Event) × ClaimsOf mode i claiming × FillsRetiredFor mode (fills c.p (step c s i).retired) filling
    × Serves mode c (step c s i).after is rest
    × (es ≡ claiming ++ (filling ++ rest))
