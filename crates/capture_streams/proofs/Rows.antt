-- The rows compute.
use Rattle.std.proofs.Common.{ℕ, List, [], ◌∷◌, refl, drop}
use Rattle.std.specs.Prelude.{Some, None}
use Rattle.std.specs.Fmt.{digits}
use Rattle.hex.specs.Hex.{encode_with}
use Rattle.wire_fields.specs.Fields.{number_at}
use Rattle.gvsp_wire.specs.Reading.{sized_info, header_of, leader_of, trailer_of, payload_of, reading}
use Rattle.gvsp_std.specs.Widening.{wide_header}
use Rattle.gev_capture.specs.declared.order.Order.{Order}
use Rattle.gev_capture.specs.declared.order.Order.TheVariants.{Big, Little}
use Rattle.gev_capture.specs.declared.form.SectionInterface.{SectionInterface}
use Rattle.gev_capture.specs.Numbers.{number}
use Rattle.gev_capture.specs.Files.{Packet, captured, dropped, Format, classic, section, packet_at}
use Rattle.gev_capture.specs.Captures.{Read, packets_in, HasCaptured}
use Rattle.capture_streams.specs.Rows.{IsListed, packet_sent_again, lines_of_packet_sent_again, packets_dropped, lines_of_packets_dropped, CapturesAreListed}

-- ---- a packet that is sent again

abbrev raw : Format
raw = classic Little 1000000 101

abbrev raw_records : List Read
raw_records =
    record { size = 24; format = raw; packet = None }
    ∷ record { size = 88; format = raw; packet = Some (packet_at 0 101 16 72 (drop 24 packet_sent_again)) }
    ∷ record { size = 55; format = raw; packet = Some (packet_at 0 101 16 39 (drop 112 packet_sent_again)) }
    ∷ record { size = 60; format = raw; packet = Some (packet_at 0 101 16 44 (drop 167 packet_sent_again)) } ∷ []

sent_again_captured : HasCaptured packet_sent_again (packets_in raw_records) None
unfolding number
sent_again_captured = record { records = raw_records; are = (refl, (refl, (refl, (refl, (refl, refl))))); packets_are = refl }

sent_again_listed : IsListed packet_sent_again lines_of_packet_sent_again
unfolding reading header_of number_at leader_of trailer_of payload_of sized_info wide_header encode_with digits
sent_again_listed = record { packets = packets_in raw_records; captured = sent_again_captured; text_is = refl }

-- ---- what was dropped

abbrev face : ℕ → SectionInterface
face n = record { link = 101; most = 0; parts = 1000000; dropped = n }

abbrev little : List SectionInterface → ℕ → Format
little faces time = section Little faces time

abbrev ng_records : List Read
ng_records =
    record { size = 28; format = little [] 0; packet = None }
    ∷ record { size = 20; format = little (face 0 ∷ []) 0; packet = None }
    ∷ record { size = 20; format = little (face 0 ∷ face 0 ∷ []) 0; packet = None }
    ∷ record { size = 36; format = little (face 3 ∷ face 0 ∷ []) 0; packet = Some (dropped 0 3) }
    ∷ record { size = 32; format = little (face 3 ∷ face 0 ∷ []) 1700000000123456000; packet = Some (captured (record { time = 1700000000123456000; link = 101; bytes = [] })) }
    ∷ record { size = 36; format = little (face 3 ∷ face 7 ∷ []) 1700000000123456000; packet = Some (dropped 0 7) }
    ∷ record { size = 36; format = little (face 5 ∷ face 7 ∷ []) 1700000000123456000; packet = Some (dropped 3 5) }
    ∷ record { size = 28; format = section Big [] 1700000000123456000; packet = None }
    ∷ record { size = 20; format = section Big (face 0 ∷ []) 1700000000123456000; packet = None }
    ∷ record { size = 36; format = section Big (face 2 ∷ []) 1700000000123456000; packet = Some (dropped 0 2) } ∷ []

dropped_captured : HasCaptured packets_dropped (packets_in ng_records) None
unfolding number
dropped_captured = record {
  records = ng_records;
  are = (refl, (refl, (refl, (refl, (refl, (refl, (refl, (refl, (refl, (refl, (refl, refl)))))))))));
  packets_are = refl;
}

dropped_listed : IsListed packets_dropped lines_of_packets_dropped
unfolding number_at digits
dropped_listed = record { packets = packets_in ng_records; captured = dropped_captured; text_is = refl }

pub captures_are_listed : CapturesAreListed
captures_are_listed = record { sent_again = sent_again_listed; dropped = dropped_listed }
