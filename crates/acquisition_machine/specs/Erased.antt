-- States, inputs and turns of the acquisition machine with one thing left out: the places of buffers, or the
-- counts.
use Rattle.std.specs.Prelude.{◌≡◌, List, map, Option, Some, None}
use Rattle.gev_types.specs.Filling.{Filling}
use Rattle.acquisition_machine.specs.declared.retired.Retired.{Retired}
use Rattle.acquisition_machine.specs.Blocks.{Given, Open, Retirement}
use Rattle.acquisition_machine.specs.Machine.{Input, datagram, claimed, tick, stop, restart, State, Turn}
use Rattle.acquisition_machine.specs.Runs.{no_counts}

-- ---- without places: each buffer is at place 0

abbrev pub bare_given : Option Given → Option Given
bare_given None = None
bare_given (Some g) = Some (record { place = 0; size = g.size })

abbrev pub bare : Open → Open
bare o = record o { given = bare_given o.given }

abbrev pub bare_state : State → State
bare_state s = record s { opens = map bare s.opens }

abbrev pub bare_input : Input → Input
bare_input (datagram bytes) = datagram bytes
bare_input (claimed given) = claimed (bare_given given)
bare_input (tick moment) = tick moment
bare_input stop = stop
bare_input restart = restart

abbrev pub bare_retirement : Retirement → Retirement
bare_retirement r = record { was = bare r.was; cause = r.cause }

abbrev pub bare_turn : Turn → Turn
bare_turn t = record t { after = bare_state t.after; retired = map bare_retirement t.retired }

-- ---- without counts

abbrev pub uncounted : State → State
uncounted s = record s { counts = no_counts }

abbrev pub uncounted_turn : Turn → Turn
uncounted_turn t = record t { after = uncounted t.after }

-- ---- what stays

-- two states that are the same, places and counts aside
abbrev pub AreAlike : State → State → Type 0
AreAlike s r = uncounted (bare_state s) ≡ uncounted (bare_state r)

-- what came back, the places aside
abbrev pub images : List Retired → List Filling
images xs = map (λ x. x.buf) xs
