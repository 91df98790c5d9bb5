-- The text that lists the streams of a capture.
use Rattle.std.specs.Prelude.{◌≡◌, ℕ, ◌-◌, ◌/◌, ◌%◌, ◌^◌, min, List, [], ◌∷◌, ◌++◌, length, codes, Bool, true, if◌then◌else◌}
use Rattle.std.specs.List.{concat, flat_map}
use Rattle.std.specs.Fmt.{decimal}
use Rattle.byteorder.specs.Endian.{big_bytes}
use Rattle.hex.specs.Hex.{encode_lower}
use Rattle.gev_types.specs.declared.peer.Peer.{Peer}
use Rattle.gev_capture.specs.Sightings.{Sighting}
use Rattle.capture_runs.specs.Texts.{Texts, whole, broken}
use Rattle.capture_streams.specs.declared.counts.Counts.{Counts}
use Rattle.capture_streams.specs.declared.stream.Stream.{Stream}
use Rattle.capture_streams.specs.Streams.{TableState, empty_table, counted}

-- which headers its leaders had
abbrev pub ids_text : Bool → Bool → List ℕ
ids_text extended standard = if extended then (if standard then codes "both" else codes "extended") else codes "standard"

-- the eight hex digits of a pixel format
abbrev pub pixel_text : ℕ → List ℕ
pixel_text pixel = encode_lower (big_bytes 4 pixel)

-- `<a>:<port>`: an address has four numbers from 0 to 255
abbrev pub peer_text : Peer → List ℕ
peer_text p = concat (
    decimal (p.address / 2 ^ 24)
    ∷ codes "." ∷ decimal (p.address / 2 ^ 16 % 256)
    ∷ codes "." ∷ decimal (p.address / 2 ^ 8 % 256)
    ∷ codes "." ∷ decimal (p.address % 256)
    ∷ codes ":" ∷ decimal p.port ∷ [])

-- the line of a stream, with its line feed, where so many milliseconds lie between its first and its last datagram
abbrev pub stream_text : Stream → ℕ → List ℕ
stream_text s ms = concat (
    codes "stream " ∷ peer_text s.sender
    ∷ codes " " ∷ peer_text s.receiver
    ∷ codes " ids=" ∷ ids_text s.extended s.standard
    ∷ codes " datagrams=" ∷ decimal s.datagrams
    ∷ codes " payload=" ∷ decimal s.payload
    ∷ codes " resent=" ∷ decimal s.resent
    ∷ codes " leaders=" ∷ decimal s.leaders
    ∷ codes " width=" ∷ decimal s.width
    ∷ codes " height=" ∷ decimal s.height
    ∷ codes " pixel=0x" ∷ pixel_text s.pixel
    ∷ codes " bytes=" ∷ decimal s.bytes
    ∷ codes " first=" ∷ decimal s.first
    ∷ codes " last=" ∷ decimal s.last
    ∷ codes " ms=" ∷ decimal ms
    ∷ codes "\n" ∷ [])

abbrev pub stream_line : Stream → List ℕ
stream_line s = stream_text s (s.ended - s.begun)

-- how many packets were dropped, at most 2 ^ 64 - 1
abbrev pub told_dropped : Counts → ℕ
told_dropped counts = min 18446744073709551615 counts.dropped

-- the last line, with its line feed, for so many streams and dropped packets
abbrev pub last_text : Counts → ℕ → ℕ → List ℕ
last_text counts streams dropped = concat (
    codes "end packets=" ∷ decimal counts.packets
    ∷ codes " datagrams=" ∷ decimal counts.datagrams
    ∷ codes " fragments=" ∷ decimal counts.fragments
    ∷ codes " cut=" ∷ decimal counts.cut
    ∷ codes " other=" ∷ decimal counts.other
    ∷ codes " unlisted=" ∷ decimal counts.unlisted
    ∷ codes " streams=" ∷ decimal streams
    ∷ codes " dropped=" ∷ decimal dropped
    ∷ codes " begin=" ∷ decimal counts.begin
    ∷ codes "\n" ∷ [])

abbrev pub end_text : Counts → ℕ → List ℕ
end_text counts streams = last_text counts streams (told_dropped counts)

abbrev pub end_line : TableState → List ℕ
end_line t = end_text t.counts (length t.streams)

abbrev pub stream_lines : List Stream → List ℕ
stream_lines streams = flat_map stream_line streams

-- Of a packet nothing is written; behind the last come the lines of the streams, and then the last line.
abbrev pub table_texts : Texts TableState
table_texts = record {
  says = λ t x. [];
  after = λ t x. counted x t;
  finish = λ t. stream_lines t.streams;
  close = end_line;
  some = λ t. true;
}

-- the text always tells something: there is a last line
abbrev pub always : List Sighting → Bool
always xs = true

-- the table of a capture's packets
abbrev pub table_from : TableState → List Sighting → TableState
table_from t [] = t
table_from t (x ∷ xs) = table_from (counted x t) xs

abbrev pub table_of : List Sighting → TableState
table_of xs = table_from empty_table xs

-- the lines of the streams
abbrev pub listed_text : List Sighting → List ℕ
listed_text xs = stream_lines (table_of xs).streams

-- the text of a capture with these packets
abbrev pub streams_text : List Sighting → List ℕ
streams_text xs = stream_lines (table_of xs).streams ++ end_line (table_of xs)
