-- How a part of a line is printed.
use Rattle.std.specs.Prelude.{ℕ, List}
use Rattle.std.specs.Fmt.{decimal}
use Rattle.byteorder.specs.Endian.{big_bytes}
use Rattle.hex.specs.Hex.{encode_lower}
use Rattle.gev_report.specs.AccountTexts.{cause_word, why_text, lost_text}
use Rattle.gev_report.specs.Pieces.{flag_text}
use Rattle.frame_writing.specs.declared.piece.Piece.{Piece}
use Rattle.frame_writing.specs.declared.piece.Piece.TheVariants.{Text, Number, Flag, Hex, Code, Cause, Why, Ids}

abbrev pub piece_text : Piece → List ℕ
piece_text (Text text) = text.now
piece_text (Number number) = decimal number
piece_text (Flag flag) = flag_text flag
piece_text (Hex bytes) = encode_lower bytes.now
piece_text (Code code) = encode_lower (big_bytes 4 code)
piece_text (Cause cause) = cause_word cause
piece_text (Why why) = why_text why
piece_text (Ids lost) = lost_text lost.now
