-- One history, written out: every kind of act, and most of the refusals.
use Rattle.std.specs.Prelude.{true, false, List, [], ◌∷◌, ◌++◌, Some, None, Ok, Err}
use Rattle.gentl_types.specs.declared.word.Word.{Word}
use Rattle.gentl_types.specs.declared.word.State.{State}
use Rattle.gentl_types.specs.declared.word.State.TheVariants.{Vacant, Held, Away}
use Rattle.gev_types.specs.Filling.{Filling, empty_record}
use Rattle.board_machine.specs.declared.events.Entry.{Entry}
use Rattle.board_machine.specs.declared.events.Event.TheVariants.{Look, LookPool, LookOut, LookRun, Enrol, Grab, Lay, Vacate, Pool, Claim, SweepPool, Fill, Take, SweepOut, Close, Post, Unpost, Start, Stop, Split, Join}
use Rattle.board_machine.specs.declared.events.TakeEnd.TheVariants.{Taken, Empty, Closed}
use Rattle.board_machine.specs.Machine.{entry}

abbrev pub done : Unit {0}
done = tt

-- the word of a buffer of 3 bytes, the first at its place
abbrev pub word_in : State → Word
word_in state = record { state = state; size = 3; generation = 1 }

abbrev pub abc : Filling
abc = record { bytes = 97 ∷ 98 ∷ 99 ∷ []; rec = empty_record }

-- Actor 0 announces two buffers of 3 bytes; actors 1 and 2 come.
abbrev pub worked_announce : List Entry
worked_announce =
    entry 0 (LookOut [] false)
    ∷ entry 0 (Enrol 0 3 (Ok 1))
    ∷ entry 0 (Lay 0)
    ∷ entry 0 (Enrol 0 3 (Err (word_in Held)))
    ∷ entry 0 (Enrol 1 3 (Ok 1))
    ∷ entry 0 (Lay 1)
    ∷ entry 0 (Split 1)
    ∷ entry 0 (Split 2)
    ∷ []

-- A buffer goes through the pool and the output.
abbrev pub worked_round : List Entry
worked_round =
    entry 1 (Grab 0 1 (Ok done))
    ∷ entry 2 (Grab 0 1 (Err (word_in Away)))
    ∷ entry 1 (Pool 0)
    ∷ entry 0 (LookPool (0 ∷ []))
    ∷ entry 0 (Start (Ok done))
    ∷ entry 0 (Start (Err 1))
    ∷ entry 2 (Claim (Some 0))
    ∷ entry 2 (Claim None)
    ∷ entry 2 (Fill 0 abc true)
    ∷ entry 0 (LookOut (0 ∷ []) false)
    ∷ entry 0 (Take (Taken 0))
    ∷ entry 0 (Take Empty)
    ∷ entry 0 (Lay 0)
    ∷ entry 0 Post
    ∷ entry 0 (Unpost true)
    ∷ entry 0 (Unpost false)
    ∷ []

-- The stream is closed between a claim and its fill, what waits is swept, and a buffer is taken back.
abbrev pub worked_close : List Entry
worked_close =
    entry 0 (Grab 1 1 (Ok done))
    ∷ entry 0 (Pool 1)
    ∷ entry 0 (Grab 0 1 (Ok done))
    ∷ entry 0 (Pool 0)
    ∷ entry 2 (Claim (Some 0))
    ∷ entry 2 (Claim (Some 1))
    ∷ entry 2 (Fill 1 abc true)
    ∷ entry 0 Close
    ∷ entry 0 (LookOut (1 ∷ []) true)
    ∷ entry 0 (SweepOut (1 ∷ []))
    ∷ entry 0 (Pool 1)
    ∷ entry 0 (SweepPool (1 ∷ []))
    ∷ entry 0 (Lay 1)
    ∷ entry 2 (Fill 0 abc false)
    ∷ entry 2 (Lay 0)
    ∷ entry 0 (Take Closed)
    ∷ entry 0 (Grab 0 1 (Ok done))
    ∷ entry 0 (Vacate 0)
    ∷ entry 1 (Grab 0 1 (Err (word_in Vacant)))
    ∷ entry 0 (Look 0 (word_in Vacant))
    ∷ entry 0 (Enrol 0 3 (Ok 2))
    ∷ entry 0 (Stop true (Ok done))
    ∷ entry 0 (Stop true (Err 2))
    ∷ entry 0 (LookRun 2)
    ∷ entry 0 (Join 2)
    ∷ entry 0 (Split 3)
    ∷ []

abbrev pub worked : List Entry
worked = worked_announce ++ worked_round ++ worked_close
