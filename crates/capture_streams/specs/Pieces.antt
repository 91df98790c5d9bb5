-- How a part of a line is printed.
use Rattle.std.specs.Prelude.{ℕ, List}
use Rattle.std.specs.Fmt.{decimal}
use Rattle.capture_streams.specs.declared.piece.Piece.{Piece}
use Rattle.capture_streams.specs.declared.piece.Piece.TheVariants.{Text, Number, Pair, Ids, Pixel}
use Rattle.capture_streams.specs.Texts.{ids_text, pixel_text, peer_text}

abbrev pub piece_text : Piece → List ℕ
piece_text (Text text) = text.now
piece_text (Number number) = decimal number
piece_text (Pair peer) = peer_text peer
piece_text (Ids extended standard) = ids_text extended standard
piece_text (Pixel pixel) = pixel_text pixel
