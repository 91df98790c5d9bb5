-- Which board it is.
use Rattle.atomic_table.specs.Seated.{TableId}
use Rattle.buffer_words.specs.declared.words.Board.{Board}

-- what no other board shares with it
abbrev pub board_id : Board → TableId
board_id board = board.table.shared.table_id
