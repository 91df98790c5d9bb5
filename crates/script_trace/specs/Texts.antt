-- The lines of notes.
use Rattle.std.specs.Prelude.{ℕ, nat_lt, List, [], ◌∷◌, ◌++◌, length, map, take, codes, Bool, Option, Some, None, if◌then◌else◌}
use Rattle.std.specs.List.{concat}
use Rattle.std.specs.Fmt.{decimal}
use Rattle.hex.specs.Hex.{encode_lower}
use Rattle.wire_fields.specs.Fields.{spelled}
use Rattle.gentl_types.specs.declared.buffer_id.BufferId.{BufferId}
use Rattle.stream_packets.specs.declared.fields.Head.{Head}
use Rattle.stream_packets.specs.declared.fields.LeaderInfo.{LeaderInfo}
use Rattle.stream_packets.specs.Packets.{StreamPacket, leader, payload, trailer, notice, head_of}
use Rattle.gvsp_wire.specs.declared.wire_error.WireError.{WireError}
use Rattle.gvsp_wire.specs.declared.wire_error.WireError.TheVariants.{Short, Standard, Format, ZeroBlock, BadId, PayloadType, FrameSize}
use Rattle.gvsp_std.specs.declared.std_error.StdError.{StdError}
use Rattle.gvsp_std.specs.declared.std_error.StdError.TheVariants.{Short as TooShort, Extended, Zero, Before}
use Rattle.acquisition_machine.specs.declared.need.Why.{Why}
use Rattle.acquisition_machine.specs.declared.need.Why.TheVariants.{Foreign, Late, Repeat, Misfit, Starved, Notice}
use Rattle.acquisition_machine.specs.Blocks.{Cause, complete, old, displaced, stopped}
use Rattle.gev_report.specs.AccountTexts.{listed, span_text, why_text}
use Rattle.missing_ranges.specs.Lost.{ids_in}
use Rattle.script_trace.specs.Notes.{Outcome, Note, idle, ignored, unwidened, leads, opens, asks, first, absent, drops, done, unbuffered}

-- ---- parts

-- a number of so many bytes, in hex
abbrev pub hex_text : ℕ → ℕ → List ℕ
hex_text width n = codes "0x" ++ encode_lower (spelled ((width, n) ∷ []))

abbrev pub id_text : BufferId → List ℕ
id_text id = concat (decimal id.place ∷ codes "." ∷ decimal id.generation ∷ [])

abbrev pub id_or_none : Option BufferId → List ℕ
id_or_none None = codes "none"
id_or_none (Some id) = id_text id

abbrev pub number_or_none : Option ℕ → List ℕ
number_or_none None = codes "none"
number_or_none (Some n) = decimal n

abbrev pub flag_text : Bool → List ℕ
flag_text flag = if flag then codes "1" else codes "0"

-- there are more than the first eight
abbrev pub more_text : List (ℕ × ℕ) → List (List ℕ)
more_text rs = if nat_lt 8 (length rs) then codes ".." ∷ [] else []

abbrev pub ids_text : List (ℕ × ℕ) → List ℕ
ids_text rs = listed (map span_text (take 8 rs) ++ more_text rs)

abbrev pub cause_text : Cause → List ℕ
cause_text complete = codes "complete"
cause_text old = codes "old"
cause_text displaced = codes "displaced"
cause_text stopped = codes "stopped"

-- ---- words

abbrev pub foreign_words : WireError → List ℕ
foreign_words (Short n) = concat (codes "foreign short=" ∷ decimal n ∷ [])
foreign_words Standard = codes "foreign standard"
foreign_words (Format n) = concat (codes "foreign format=" ∷ decimal n ∷ [])
foreign_words ZeroBlock = codes "foreign zero-block"
foreign_words (BadId id) = concat (codes "foreign bad-id=" ∷ decimal id ∷ [])
foreign_words (PayloadType t) = concat (codes "foreign payload-type=" ∷ hex_text 2 t ∷ [])
foreign_words FrameSize = codes "foreign frame-size"

-- Too short, or with extended identifiers, no datagram is asked to be widened.
abbrev pub unwidened_words : StdError → List ℕ
unwidened_words (TooShort n) = concat (codes "foreign short=" ∷ decimal n ∷ [])
unwidened_words Extended = codes "foreign standard"
unwidened_words Zero = codes "foreign zero-block"
unwidened_words (Before b) = concat (codes "foreign before=" ∷ decimal b ∷ [])

abbrev pub packet_words : List ℕ → Head → List ℕ
packet_words word h = concat (word ∷ codes " block=" ∷ decimal h.block ∷ codes " id=" ∷ decimal h.id ∷ [])

abbrev pub status_words : Head → List ℕ
status_words h = codes " status=" ++ hex_text 2 h.status

-- how many bytes a payload carries
abbrev pub payload_length : StreamPacket → ℕ
payload_length (leader h i) = 0
payload_length (payload h d) = length d
payload_length (trailer h y) = 0
payload_length (notice h) = 0

abbrev pub ignored_packet : Why → StreamPacket → List ℕ
ignored_packet (Foreign e) x = foreign_words e
ignored_packet (Late bound) x = concat (packet_words (codes "late") (head_of x) ∷ codes " bound=" ∷ number_or_none bound ∷ [])
ignored_packet Repeat x = packet_words (codes "repeat") (head_of x)
ignored_packet Misfit x = concat (packet_words (codes "misfit") (head_of x) ∷ status_words (head_of x) ∷ codes " bytes=" ∷ decimal (payload_length x) ∷ [])
ignored_packet Starved x = packet_words (codes "starved") (head_of x)
ignored_packet Notice x = concat (packet_words (codes "notice") (head_of x) ∷ status_words (head_of x) ∷ [])

-- what is no packet is foreign
abbrev pub ignored_nothing : Why → List ℕ
ignored_nothing (Foreign e) = foreign_words e
ignored_nothing (Late bound) = codes "late"
ignored_nothing Repeat = codes "repeat"
ignored_nothing Misfit = codes "misfit"
ignored_nothing Starved = codes "starved"
ignored_nothing Notice = codes "notice"

abbrev pub ignored_words : Why → Option StreamPacket → List ℕ
ignored_words why None = ignored_nothing why
ignored_words why (Some x) = ignored_packet why x

abbrev pub leader_words : ℕ → LeaderInfo → List ℕ
leader_words b i = concat (
    codes "leader block=" ∷ decimal b ∷ codes " width=" ∷ decimal i.size_x ∷ codes " height=" ∷ decimal i.size_y
    ∷ codes " pixel=" ∷ hex_text 4 i.pixel ∷ codes " bytes=" ∷ decimal i.size ∷ codes " time=" ∷ decimal i.timestamp ∷ [])

abbrev pub done_words : Outcome → List ℕ
done_words o = concat (
    codes "done block=" ∷ decimal o.block ∷ codes " buffer=" ∷ id_text o.buffer ∷ codes " cause=" ∷ cause_text o.cause
    ∷ codes " complete=" ∷ flag_text o.complete ∷ codes " kept=" ∷ decimal o.kept ∷ codes " missing=" ∷ decimal (ids_in o.lost)
    ∷ codes " why=" ∷ why_text o.why ∷ codes " ids=" ∷ ids_text o.lost ∷ codes " out=" ∷ flag_text o.out ∷ [])

abbrev pub words_of : Note → List ℕ
words_of (idle bytes) = concat (codes "idle bytes=" ∷ decimal bytes ∷ [])
words_of (ignored why x) = ignored_words why x
words_of (unwidened e) = unwidened_words e
words_of (leads b i) = leader_words b i
words_of (opens b buffer) = concat (codes "open block=" ∷ decimal b ∷ codes " buffer=" ∷ id_or_none buffer ∷ [])
words_of (asks b r round) = concat (codes "ask block=" ∷ decimal b ∷ codes " ids=" ∷ span_text r ∷ codes " round=" ∷ decimal round ∷ [])
words_of (first b) = concat (codes "first block=" ∷ decimal b ∷ [])
words_of (absent r) = concat (codes "absent blocks=" ∷ span_text r ∷ [])
words_of (drops b buffer) = concat (codes "drop block=" ∷ decimal b ∷ codes " buffer=" ∷ id_text buffer ∷ [])
words_of (done o) = done_words o
words_of (unbuffered b cause) = concat (codes "done block=" ∷ decimal b ∷ codes " buffer=none cause=" ∷ cause_text cause ∷ [])

-- ---- lines

-- the line with these words, of the script's line with this number, at this moment
abbrev pub words_line : ℕ → ℕ → List ℕ → List ℕ
words_line n moment words = concat (codes "# " ∷ decimal n ∷ codes " " ∷ decimal moment ∷ codes " " ∷ words ∷ codes "\n" ∷ [])

abbrev pub note_line : ℕ → ℕ → Note → List ℕ
note_line n moment x = words_line n moment (words_of x)

abbrev pub notes_text : ℕ → ℕ → List Note → List ℕ
notes_text n moment [] = []
notes_text n moment (x ∷ xs) = note_line n moment x ++ notes_text n moment xs
