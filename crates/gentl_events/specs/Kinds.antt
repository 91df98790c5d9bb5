-- Which acts are whose, where one thread fills buffers, another one takes them, and a host splits both off.
use Rattle.std.specs.Prelude.{Bool, true, false}
use Rattle.board_machine.specs.declared.events.Event.{Event}
use Rattle.board_machine.specs.declared.events.Event.TheVariants.{Lay, Claim, Fill, Take, Unpost, Split, Join}

-- the host's: a split, or a join
abbrev pub is_hosts : Event → Bool
is_hosts (Split number) = true
is_hosts (Join number) = true
is_hosts _ = false

-- a claim, or a fill
abbrev pub is_fill : Event → Bool
is_fill (Claim place) = true
is_fill (Fill place filling filled) = true
is_fill _ = false

-- a take
abbrev pub is_take : Event → Bool
is_take (Take end) = true
is_take _ = false

-- The filler's: a claim, a fill, or the lay of a buffer whose fill was refused.
abbrev pub is_fillers : Event → Bool
is_fillers (Claim place) = true
is_fillers (Fill place filling filled) = true
is_fillers (Lay place) = true
is_fillers _ = false

-- The taker's: a take, the unpost where there was no buffer, or the lay of a taken buffer.
abbrev pub is_takers : Event → Bool
is_takers (Take end) = true
is_takers (Unpost stood) = true
is_takers (Lay place) = true
is_takers _ = false
