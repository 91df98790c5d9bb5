-- How a part of a note's line is printed.
use Rattle.std.specs.Prelude.{ℕ, List, [], ◌∷◌, ◌++◌, codes}
use Rattle.std.specs.List.{concat}
use Rattle.std.specs.Fmt.{decimal}
use Rattle.hex.specs.Hex.{encode_lower}
use Rattle.gev_report.specs.AccountTexts.{span_text, cause_word, why_text, lost_text}
use Rattle.script_trace.specs.Texts.{hex_text, id_text, id_or_none, number_or_none, flag_text}
use Rattle.note_report.specs.declared.piece.Basic.{Basic}
use Rattle.note_report.specs.declared.piece.Basic.TheVariants.{Text as Words, Number as Plain, Hex}
use Rattle.note_report.specs.declared.piece.Piece.{Piece}
use Rattle.note_report.specs.declared.piece.Piece.TheVariants as piece

abbrev pub basic_text : Basic → List ℕ
basic_text (Words text) = text.now
basic_text (Plain number) = decimal number
basic_text (Hex bytes) = encode_lower bytes.now

-- a word, and a packet's block and id
abbrev pub packet_text : List ℕ → ℕ → ℕ → List ℕ
packet_text word block id = concat (word ∷ codes " block=" ∷ decimal block ∷ codes " id=" ∷ decimal id ∷ [])

abbrev pub status_text : ℕ → List ℕ
status_text status = codes " status=" ++ hex_text 2 status

-- what stands before a note's words
abbrev pub front_text : ℕ → ℕ → List ℕ
front_text line moment = concat (codes "# " ∷ decimal line ∷ codes " " ∷ decimal moment ∷ codes " " ∷ [])

abbrev pub piece_text : Piece → List ℕ
piece_text (piece.Text text) = text.now
piece_text (piece.Number number) = decimal number
piece_text (piece.NumberOrNone number) = number_or_none number
piece_text (piece.Flag flag) = flag_text flag
piece_text (piece.Packet word block id) = packet_text word.now block id
piece_text (piece.Status status) = status_text status
piece_text (piece.Short number) = hex_text 2 number
piece_text (piece.Long number) = hex_text 4 number
piece_text (piece.Span low high) = span_text (low, high)
piece_text (piece.Id id) = id_text id
piece_text (piece.IdOrNone id) = id_or_none id
piece_text (piece.Cause cause) = cause_word cause
piece_text (piece.Why why) = why_text why
piece_text (piece.Ids lost) = lost_text lost.now
