-- Reasons and lost ranges worked out by hand: an image of 2,112 bytes takes four payloads of 528 bytes.
use Rattle.std.specs.Prelude.{◌≡◌, ℕ, List, [], ◌∷◌, true}
use Rattle.stream_packets.specs.declared.fields.Head.{Head}
use Rattle.stream_packets.specs.Packets.{StreamPacket, leader, payload, trailer}
use Rattle.gev_types.specs.Reasons.{no_reason}
use Rattle.missing_ranges.specs.Reasons.{reasons}
use Rattle.missing_ranges.specs.Lost.{lost}

-- the header of a packet of block 7
abbrev pub head_with : ℕ → Head
head_with id = record { status = 0; flags = 0; block = 7; id = id }

-- an image of three bytes, in one payload
abbrev pub sent_leader : StreamPacket
sent_leader =
    leader (head_with 0)
    record { timestamp = 0; pixel = 0x01080001; size_x = 3; size_y = 1; offset_x = 0; offset_y = 0; padding_x = 0; padding_y = 0; size = 3 }

abbrev pub sent_payload : List ℕ → StreamPacket
sent_payload bytes = payload (head_with 1) bytes

abbrev pub sent_trailer : ℕ → StreamPacket
sent_trailer id = trailer (head_with id) 1

abbrev pub three_bytes : StreamPacket
three_bytes = sent_payload (97 ∷ 98 ∷ 99 ∷ [])

abbrev pub all_three : List StreamPacket
all_three = sent_leader ∷ three_bytes ∷ sent_trailer 2 ∷ []

pub record ReasonsAreWorked : Type 0 where
  pub whole : reasons 528 3 all_three ≡ no_reason
  pub whole_lost : lost 528 all_three ≡ []
  -- a buffer that is too small
  pub small : reasons 528 2 all_three ≡ record no_reason { small = true }
  -- the payload is missing
  pub payload_gone : reasons 528 3 (sent_leader ∷ sent_trailer 2 ∷ []) ≡ record no_reason { no_payload = true }
  pub payload_lost : lost 528 (sent_leader ∷ sent_trailer 2 ∷ []) ≡ (1, 1) ∷ []
  -- it has fewer bytes than its place
  pub too_short : reasons 528 3 (sent_leader ∷ sent_payload (97 ∷ 98 ∷ []) ∷ sent_trailer 2 ∷ []) ≡ record no_reason { short = true }
  pub short_lost : lost 528 (sent_leader ∷ sent_payload (97 ∷ 98 ∷ []) ∷ sent_trailer 2 ∷ []) ≡ []
  -- the trailer is missing
  pub trailer_gone : reasons 528 3 (three_bytes ∷ sent_leader ∷ []) ≡ record no_reason { no_trailer = true }
  pub trailer_lost : lost 528 (three_bytes ∷ sent_leader ∷ []) ≡ (2, 2) ∷ []
  -- a trailer in the payload's place
  pub trailer_early : reasons 528 3 (sent_leader ∷ sent_trailer 1 ∷ []) ≡ record no_reason { no_trailer = true; no_payload = true }
  pub early_lost : lost 528 (sent_leader ∷ sent_trailer 1 ∷ []) ≡ (2, 2) ∷ []
  -- the leader is missing: what else is missing is known up to the highest id
  pub leader_gone : reasons 528 3 (three_bytes ∷ sent_trailer 2 ∷ []) ≡ record no_reason { no_leader = true }
  pub leader_lost : lost 528 (three_bytes ∷ sent_trailer 2 ∷ []) ≡ (0, 0) ∷ []
  -- nothing was kept
  pub nothing : reasons 528 3 [] ≡ record no_reason { no_leader = true; no_trailer = true }
  pub nothing_lost : lost 528 [] ≡ []
