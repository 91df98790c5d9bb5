-- What is written part by part is the plain spelling.
use Rattle.std.proofs.Common.{◌≡◌, ℕ, ◌+◌, ◌-◌, ◌^◌, ◌≤◌, List, ◌++◌, length, take, drop, ap, ◌∙◌, append_assoc, arith}
use Rattle.std.proofs.lemmas.List.{length-append}
use Rattle.stream_packets.specs.declared.fields.Head.{Head}
use Rattle.stream_packets.specs.declared.fields.LeaderInfo.{LeaderInfo}
use Rattle.wire_fields.specs.Fields.{spelled}
use Rattle.wire_fields.proofs.Spellings.{length-spelled}
use Rattle.wire_fields.proofs.Placed.{put_after}
use Rattle.gvsp_wire.specs.Wire.{header_fields}
use Rattle.stream_packets.specs.Packets.{leader}
use Rattle.gvsp_wire.specs.Plain.{plain_header, plain, InfoFits}
use Rattle.gvsp_wire.specs.Writing.{kind_fields, region_fields, KindFits, RegionFits}

pub length-plain_header : (h : Head) (format : ℕ) → length (plain_header h format) ≡ 20
length-plain_header h format = length-spelled (header_fields h (2 ^ 7 + format) 0)

pub length-kind : (i : LeaderInfo) → length (spelled (kind_fields i)) ≡ 16
length-kind i = length-spelled (kind_fields i)

pub info_fits : (i : LeaderInfo) → KindFits i → RegionFits i → InfoFits i
info_fits i kind region = record {
  timestamp = kind.timestamp;
  pixel = kind.pixel;
  size_x = region.size_x;
  size_y = region.size_y;
  offset_x = region.offset_x;
  offset_y = region.offset_y;
  padding_x = region.padding_x;
  padding_y = region.padding_y;
}

-- the slice once these bytes were written from place k on
abbrev put : ℕ → List ℕ → List ℕ → List ℕ
put k out part = take k out ++ (part ++ drop (length out - k) (drop k out))

-- A leader is its header, then its kind, then its region.
pub leader_parts : (old : List ℕ) (h : Head) (i : LeaderInfo) (headed kind region : List ℕ) → 56 ≤ length old
    → headed ≡ plain_header h 1 ++ drop 20 old
    → kind ≡ spelled (kind_fields i) ++ drop 16 (take (length headed - 20) (drop 20 headed))
    → region ≡ spelled (region_fields i) ++ drop 20 (take (length (put 20 headed kind) - 36) (drop 36 (put 20 headed kind)))
    → put 36 (put 20 headed kind) region ≡ plain (leader h i) ++ drop 56 old
leader_parts old h i headed kind region room is_headed is_kind is_region =
    let first = put_after old (plain_header h 1) (spelled (kind_fields i)) headed kind 20 16 (length-plain_header h 1) (omega arith) is_headed is_kind in
    let front : length (plain_header h 1 ++ spelled (kind_fields i)) ≡ 36 = omega (arith, length-append (plain_header h 1) (spelled (kind_fields i)), length-plain_header h 1, length-kind i) in
    let whole = put_after old (plain_header h 1 ++ spelled (kind_fields i)) (spelled (region_fields i)) (put 20 headed kind) region 36 20 front (omega arith) first is_region in
    whole ∙ ap (λ (l : List ℕ). l ++ drop 56 old) (append_assoc (plain_header h 1) (spelled (kind_fields i)) (spelled (region_fields i)))
