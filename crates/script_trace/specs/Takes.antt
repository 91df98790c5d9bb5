-- What the counts of takes count.
use Rattle.std.specs.Prelude.{◌≡◌, ℕ, Bool, List}
use Rattle.board_machine.specs.declared.events.Entry.{Entry}
use Rattle.board_machine.specs.Machine.{places}
use Rattle.board_machine.specs.Histories.{Run}
use Rattle.board_machine.specs.Handout.{items_handed_to}
use Rattle.script_trace.specs.Modes.{taken_by}

-- The places that takes of some actors took are those of the buffers that these takes removed from the output: so
-- what is counted as handed out was handed out, and what is counted as dropped was dropped.
abbrev pub TakesAreCounted : Type 0
TakesAreCounted = (who : ℕ → Bool) (h : List Entry) → Run h → places (items_handed_to who h) ≡ taken_by who h
