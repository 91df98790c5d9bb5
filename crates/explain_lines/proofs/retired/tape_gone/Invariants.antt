use Rattle.std.proofs.Common.{◌≡◌, map, drop, List}
use Rattle.board_machine.specs.Machine.{Board, Item}
use Rattle.board_model.specs.Gone.{gone_of}
use Rattle.explain_lines.specs.Marks.{KeepsMarks}
use Rattle.explain_lines.proofs.Tapes.{GoneOn}
use Rattle.explain_lines.proofs.retired.tape_gone.Given as goal

abbrev pub invariant-loop-one : goal.invariant-loop-one
invariant-loop-one l = (before : Board) → KeepsMarks before l.board.board → (xs : List Item) → l.gone ≡ map gone_of xs
    → GoneOn (drop l.one-index l.gone) l.initial.tape.items l.tape.items before xs
