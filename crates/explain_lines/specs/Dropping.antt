-- What entries of a history drop from the output.
use Rattle.std.specs.Prelude.{◌≡◌, List, [], ◌++◌, false}
use Rattle.board_machine.specs.declared.events.Entry.{Entry}
use Rattle.board_machine.specs.Machine.{Item}
use Rattle.script_trace.specs.Drops.{drops_from}

-- Behind this history these entries drop these lists, one for each fill and claim, whatever comes after them.
abbrev pub DropsAs : List Entry → List Entry → List (List Item) → Type 0
DropsAs h es gone = (more : List Entry) → drops_from h false [] (es ++ more) ≡ gone ++ drops_from (h ++ es) false [] more
