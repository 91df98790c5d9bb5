-- What kinds of acts the application's turns have, and its worker does.
use Rattle.std.specs.Prelude.{Bool, true, false, List}
use Rattle.board_machine.specs.declared.events.Event.{Event}
use Rattle.board_machine.specs.declared.events.Event.TheVariants.{LookOut, LookRun, Grab, Lay, Pool, Take, Unpost, Stop}
use Rattle.buffer_words.specs.Workers.{AreEvents}
use Rattle.gev_apply.specs.Looks.{Looked, LookEach}

-- A look at the run word, a take or the unpost where there was no buffer; the lay of a buffer, and for its
-- queueing a look at the output, a grab and a pooling.
abbrev pub is_turns : Event → Bool
is_turns (LookRun run) = true
is_turns (Take end) = true
is_turns (Unpost stood) = true
is_turns (Lay place) = true
is_turns (LookOut output closed) = true
is_turns (Grab place generation answer) = true
is_turns (Pool place) = true
is_turns _ = false

-- The application's worker does what its turns do, and stops the run when it has enough.
abbrev pub is_applications : Event → Bool
is_applications (Stop kill answer) = true
is_applications event = is_turns event

-- The events of turns are of these kinds.
abbrev pub TurnsAreOfTheirKind : Type 0
TurnsAreOfTheirKind = (made : List Looked) (es : List Event) → LookEach made es → AreEvents is_turns es
