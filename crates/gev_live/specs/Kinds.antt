-- The kinds of acts of a live run after its beginning.
use Rattle.std.specs.Prelude.{Bool, true, false}
use Rattle.board_machine.specs.declared.events.Event.{Event}
use Rattle.board_machine.specs.declared.events.Event.TheVariants.{LookOut, LookRun, Grab, Lay, Pool, Claim, Fill, Take, Unpost, Stop, Split, Join}

-- all acts that there are
abbrev pub is_live : Event → Bool
is_live (Claim place) = true
is_live (Fill place filling filled) = true
is_live (Take end) = true
is_live (Lay place) = true
is_live (Grab place generation answer) = true
is_live (Pool place) = true
is_live (Unpost stood) = true
is_live (LookOut output closed) = true
is_live (LookRun run) = true
is_live (Split number) = true
is_live (Join number) = true
is_live (Stop kill answer) = true
is_live _ = false

-- a buffer is claimed or filled
abbrev pub is_filling : Event → Bool
is_filling (Claim place) = true
is_filling (Fill place filling filled) = true
is_filling _ = false

-- a buffer is taken or pooled
abbrev pub is_taking : Event → Bool
is_taking (Take end) = true
is_taking (Pool place) = true
is_taking _ = false

-- a buffer is laid or grabbed, or the kill mark is cleared
abbrev pub is_handing : Event → Bool
is_handing (Lay place) = true
is_handing (Grab place generation answer) = true
is_handing (Unpost stood) = true
is_handing _ = false
