-- The marks of a live run: by the turns of its reader, and by the journal that the reader kept.
use Rattle.std.specs.Prelude.{List, [], ◌∷◌, ◌++◌, Bool, false, Option, Some, None, is_some}
use Rattle.acquisition_machine.specs.Blocks.{Given}
use Rattle.acquisition_machine.specs.Machine.{Input}
use Rattle.acquisition_machine.specs.Runs.{After}
use Rattle.acquisition_machine.specs.declared.mark.Mark.{Mark}
use Rattle.gev_record.specs.Script.{live_config}
use Rattle.gev_record.specs.Marks.{opened_in}
use Rattle.gev_acq.specs.declared.turn.Turn.{Turn}
use Rattle.gev_acq.specs.Turns.{Turned, bytes_in, inputs_of}

-- the turn's claim got a buffer; where none was made it didn't
abbrev pub has_got : Option (Option Given) → Bool
has_got None = false
has_got (Some given) = is_some given

-- the mark of a turn before which the receiver took these inputs: its moment, the block that it opened, else 0, and
-- whether its claim got a buffer
abbrev pub mark_in : List Input → Turned → Mark
mark_in q t = record { moment = t.moment; opened = opened_in (After live_config q) (bytes_in t.answer); claimed = has_got t.given }

-- the marks of these turns, one each
abbrev pub marks_in : List Input → List Turned → List Mark
marks_in q [] = []
marks_in q (t ∷ ts) = mark_in q t ∷ marks_in (q ++ inputs_of t) ts

-- the mark that an entry of the journal tells
abbrev pub mark_of : Turn → Mark
mark_of e = record { moment = e.moment; opened = e.opened; claimed = is_some e.claim }
