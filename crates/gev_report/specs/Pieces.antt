-- How a part of a line is printed.
use Rattle.std.specs.Prelude.{ℕ, Bool, List, codes, if◌then◌else◌}
use Rattle.std.specs.Fmt.{decimal, signed_decimal}
use Rattle.hex.specs.Hex.{encode_lower}
use Rattle.gev_report.specs.declared.piece.Piece.{Piece}
use Rattle.gev_report.specs.declared.piece.Piece.TheVariants.{Text, Number, Code, Flag, Hex}

abbrev pub flag_text : Bool → List ℕ
flag_text flag = if flag then codes "1" else codes "0"

abbrev pub piece_text : Piece → List ℕ
piece_text (Text text) = text.now
piece_text (Number number) = decimal number
piece_text (Code code) = signed_decimal code
piece_text (Flag flag) = flag_text flag
piece_text (Hex bytes) = encode_lower bytes.now
