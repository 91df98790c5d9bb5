-- How a part of a line is printed.
use Rattle.std.specs.Prelude.{ℕ, List}
use Rattle.std.specs.Fmt.{decimal}
use Rattle.camera_search.specs.declared.piece.Piece.{Piece}
use Rattle.camera_search.specs.declared.piece.Piece.TheVariants.{Text, Number, Address, Mac, Shown}
use Rattle.camera_search.specs.CameraLine.{address_text, mac_text, shown_text}

abbrev pub piece_text : Piece → List ℕ
piece_text (Text text) = text.now
piece_text (Number number) = decimal number
piece_text (Address address) = address_text address
piece_text (Mac bytes) = mac_text bytes.now
piece_text (Shown bytes) = shown_text bytes.now
