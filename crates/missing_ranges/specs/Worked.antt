-- Missing ranges worked out by hand: an image of 2,112 bytes takes four payloads of 528 bytes.
use Rattle.std.specs.Prelude.{◌≡◌, ℕ, List, [], ◌∷◌, ◌++◌}
use Rattle.stream_packets.specs.declared.fields.Head.{Head}
use Rattle.stream_packets.specs.Packets.{StreamPacket, leader, payload, trailer, notice}
use Rattle.missing_ranges.specs.Missing.{missing}

-- the header of a packet of block 7
abbrev pub head_with : ℕ → ℕ → Head
head_with status id = record { status = status; flags = 0; block = 7; id = id }

abbrev pub sent_leader : StreamPacket
sent_leader =
    leader (head_with 0 0)
    record { timestamp = 0; pixel = 0x01080001; size_x = 528; size_y = 4; offset_x = 0; offset_y = 0; padding_x = 0; padding_y = 0; size = 2112 }

abbrev pub sent_payload : ℕ → StreamPacket
sent_payload k = payload (head_with 0 k) (97 ∷ 98 ∷ 99 ∷ [])

abbrev pub sent_trailer : StreamPacket
sent_trailer = trailer (head_with 0 5) 4

-- the trailer of the same image of which only two lines came: two payloads, and it has the id 3
abbrev pub short_trailer : StreamPacket
short_trailer = trailer (head_with 0 3) 2

abbrev pub sent_notice : ℕ → ℕ → StreamPacket
sent_notice status k = notice (head_with status k)

-- the leader, payload 2 and the trailer
abbrev pub three : List StreamPacket
three = sent_leader ∷ sent_payload 2 ∷ sent_trailer ∷ []

pub record MissingIsWorked : Type 0 where
  -- with nothing kept, nothing is known to be missing
  pub nothing : missing 528 7 [] ≡ []
  pub only_a_notice : missing 528 7 (sent_notice 0x800C 3 ∷ []) ≡ []
  -- before the leader, ids up to the highest one
  pub first_payload : missing 528 7 (sent_payload 1 ∷ []) ≡ (0, 0) ∷ []
  pub third_payload : missing 528 7 (sent_payload 3 ∷ sent_payload 1 ∷ []) ≡ (0, 0) ∷ (2, 2) ∷ []
  -- with it, ids up to the trailer's
  pub all_but_one : missing 528 7 (sent_payload 1 ∷ sent_leader ∷ []) ≡ (2, 5) ∷ []
  pub between : missing 528 7 three ≡ (1, 1) ∷ (3, 4) ∷ []
  pub none : missing 528 7 (three ++ sent_payload 1 ∷ sent_payload 3 ∷ sent_payload 4 ∷ []) ≡ []
  -- what is gone isn't asked for, and what isn't there yet is
  pub gone : missing 528 7 (three ++ sent_notice 0x800C 3 ∷ []) ≡ (1, 1) ∷ (4, 4) ∷ []
  pub not_yet : missing 528 7 (three ++ sent_notice 0x8010 3 ∷ []) ≡ (1, 1) ∷ (3, 4) ∷ []
  -- a trailer with fewer lines ends the ids sooner, whenever it comes
  pub short : missing 528 7 (sent_leader ∷ short_trailer ∷ []) ≡ (1, 2) ∷ []
  pub short_first : missing 528 7 (short_trailer ∷ sent_payload 1 ∷ sent_leader ∷ []) ≡ (2, 2) ∷ []
  pub none_short : missing 528 7 (sent_leader ∷ sent_payload 1 ∷ sent_payload 2 ∷ short_trailer ∷ []) ≡ []
  -- without a leader its lines say nothing
  pub short_alone : missing 528 7 (short_trailer ∷ []) ≡ (0, 2) ∷ []
  -- what was kept behind it isn't asked about
  pub behind : missing 528 7 (sent_leader ∷ sent_payload 4 ∷ short_trailer ∷ []) ≡ (1, 2) ∷ []
  -- no line, or more than the leader announces, count as the leader's
  pub no_line : missing 528 7 (sent_leader ∷ trailer (head_with 0 5) 0 ∷ []) ≡ (1, 4) ∷ []
  pub more_lines : missing 528 7 (sent_leader ∷ trailer (head_with 0 5) 9 ∷ []) ≡ (1, 4) ∷ []
