-- What the heads of pictures tell.
use Rattle.std.proofs.Common.{◌≡◌, ◌↔◌, ◌⊎◌, inl, inr, ℕ, zero, suc, ◌+◌, ◌-◌, ◌<◌, ◌≤◌, List, [], ◌∷◌, ◌++◌, take, true, false, Bool, Option, Some, None, refl, ap, sym, ◌∙◌, append-nil, arith}
use Rattle.std.specs.Prelude.{◌==◌, ◌||◌, ◌&&◌, nat_le, codes, Ok, Err, if◌then◌else◌}
use Rattle.std.specs.List.{concat}
use Rattle.std.specs.Fmt.{decimal, digits}
use Rattle.std.proofs.lemmas.List.Folds.{concat-append}
use Rattle.std.proofs.lemmas.Bool.{cases_eq, cases_lt, cases_Bool, and_parts, or_cases, or_left, or_right, false≢true}
use Rattle.gev_types.specs.declared.block_account.Cause.{Cause}
use Rattle.gev_types.specs.declared.block_record.Record.{Record}
use Rattle.gev_types.specs.declared.image_info.ImageInfo.{ImageInfo}
use Rattle.stream_packets.specs.Packets.{StreamPacket, leader, payload, trailer, notice}
use Rattle.stream_packets.specs.FramePackets.{payload_count}
use Rattle.block_image.specs.Extent.{extent_of}
use Rattle.block_image.specs.Kept.{has_id, kept}
use Rattle.block_image.specs.KeptFacts.{AreLeadersFirst}
use Rattle.block_image.specs.Image.{is_complete, has_image, has_trailer_at, has_payload, has_payloads, lines_in, extent_in}
use Rattle.block_image.proofs.Completeness.{has_payload-none}
use Rattle.block_image.proofs.KeptLemmas.{leader_in-none}
use Rattle.block_image.proofs.OneBlockLemmas.{records_tell_their_frame}
use Rattle.missing_ranges.specs.Accounts.{retired_record}
use Rattle.missing_ranges.specs.Lost.{lost, lost_to, ids_in}
use Rattle.missing_ranges.specs.Missing.{top_of, top_with}
use Rattle.missing_ranges.specs.Ranges.{holes}
use Rattle.missing_ranges.proofs.FirstLemmas.{holes_begin_with_first}
use Rattle.missing_ranges.proofs.LostLemmas.{ids_counted}
use Rattle.frame_pictures.specs.declared.no_picture.NoPicture.TheVariants.{NoPixels, PartBytes}
use Rattle.frame_pictures.specs.declared.samples.Samples.{Samples}
use Rattle.frame_pictures.specs.Formats.{samples_of, fills_bytes}
use Rattle.frame_pictures.specs.Pictures.{magic, greatest_in, flag_digit, missing_in, comment_text, head_text, rows_text, drawing, drawn_as, drawn}
use Rattle.frame_pictures.specs.Heads.{comment_line, BeginsWithHead, HeadsTellTheirRecord, count_lost, TellsItsBlock, RetiredHeadsTellTheirBlock}

-- ---- the lines

-- 1 for what holds
abbrev one_where : Bool → ℕ
one_where b = if b then 1 else 0

digit_is : (b : Bool) → flag_digit b ≡ decimal (one_where b)
unfolding digits
digit_is true = refl
digit_is false = refl

one_is : (b : Bool) → (one_where b ≡ 1) ↔ (b ≡ true)
one_is true = (λ e. refl, λ e. refl)
one_is false = (λ e. absurd (omega (arith, e)), λ e. absurd (false≢true e))

none_is : (b : Bool) → (one_where b ≡ 0) ↔ (b ≡ false)
none_is true = (λ e. absurd (omega (arith, e)), λ e. absurd (false≢true (sym e)))
none_is false = (λ e. refl, λ e. refl)

comment_is : (rec : Record) (info : ImageInfo) → comment_text rec info ≡ comment_line rec.block (one_where rec.complete) rec.filled (missing_in rec.account) info.timestamp
comment_is rec info =
    ap
    (λ (t : List ℕ).
    concat (
    codes "# block=" ∷ decimal rec.block ∷ codes " complete=" ∷ t ∷ codes " filled=" ∷ decimal rec.filled
    ∷ codes " missing=" ∷ decimal (missing_in rec.account) ∷ codes " time=" ∷ decimal info.timestamp ∷ codes "\n" ∷ []))
    (digit_is rec.complete)

-- the pieces of a head with such a comment
abbrev pieces : Samples → ImageInfo → List ℕ → List (List ℕ)
pieces s info comment =
    magic s ∷ codes "\n" ∷ comment ∷ decimal info.size_x ∷ codes " " ∷ decimal info.rows ∷ codes "\n"
    ∷ decimal (greatest_in s) ∷ codes "\n" ∷ []

drawing_is : (s : Samples) (rec : Record) (info : ImageInfo) (rows : List ℕ)
    → head_text s rec info ++ rows
    ≡ concat (pieces s info (comment_line rec.block (one_where rec.complete) rec.filled (missing_in rec.account) info.timestamp) ++ rows ∷ [])
drawing_is s rec info rows =
    ap (λ (t : List ℕ). concat (pieces s info t) ++ rows) (comment_is rec info)
    ∙ ap (λ (t : List ℕ). concat (pieces s info (comment_line rec.block (one_where rec.complete) rec.filled (missing_in rec.account) info.timestamp)) ++ t) (sym (append-nil rows))
    ∙ sym (concat-append (pieces s info (comment_line rec.block (one_where rec.complete) rec.filled (missing_in rec.account) info.timestamp)) (rows ∷ []))

drawn_is : (s : Samples) (rec : Record) (info : ImageInfo) (image text : List ℕ) → drawn_as (Some s) rec info image ≡ Ok text → drawing s rec info image ≡ text
drawn_is s rec info image text e = go (info.size_x == 0 || info.rows == 0) (fills_bytes s info.size_x) e where
  go : (b c : Bool) → (if b then Err NoPixels else if c then Ok (drawing s rec info image) else Err PartBytes) ≡ Ok text → drawing s rec info image ≡ text
  go true c h = cc
  go false true h = cc
  go false false h = cc

begins_so : (rec : Record) (info : ImageInfo) (s : Samples) (bytes text : List ℕ) → rec.image ≡ Some info → samples_of info.pixel ≡ Some s
    → drawn_as (Some s) rec info bytes ≡ Ok text → BeginsWithHead rec text
begins_so rec info s bytes text told format e = record {
  image = info;
  of_record = told;
  samples = s;
  of_format = format;
  complete = one_where rec.complete;
  whole = one_is rec.complete;
  part = none_is rec.complete;
  pixels = rows_text s info bytes info.rows;
  is = sym (drawn_is s rec info bytes text e) ∙ drawing_is s rec info (rows_text s info bytes info.rows);
}

pub heads_tell_their_record : HeadsTellTheirRecord
heads_tell_their_record rec bytes text e = go rec.image refl e where
  front : List ℕ
  front = take rec.data_len bytes

  of_format : (info : ImageInfo) (o : Option Samples) → rec.image ≡ Some info → samples_of info.pixel ≡ o → drawn_as o rec info front ≡ Ok text → BeginsWithHead rec text
  of_format info None told format d = cc
  of_format info (Some s) told format d = begins_so rec info s front text told format d

  go : (o : Option ImageInfo) → rec.image ≡ o → drawn o rec front ≡ Ok text → BeginsWithHead rec text
  go None told d = cc
  go (Some info) told d = of_format info (samples_of info.pixel) told refl d

-- ---- a whole image lacks nothing

trailer_has_id : (m : ℕ) (ks : List StreamPacket) → has_trailer_at m ks ≡ true → has_id m ks ≡ true
trailer_has_id m [] there = absurd (false≢true there)
trailer_has_id m (leader h i ∷ xs) there = or_right (h.id == m) (has_id m xs) (trailer_has_id m xs there)
trailer_has_id m (payload h d ∷ xs) there = or_right (h.id == m) (has_id m xs) (trailer_has_id m xs there)
trailer_has_id m (trailer h y ∷ xs) there = go (or_cases (h.id == m) (has_trailer_at m xs) there) (λ rest. trailer_has_id m xs rest) where
  go : ((h.id == m) ≡ true) ⊎ (has_trailer_at m xs ≡ true) → (has_trailer_at m xs ≡ true → has_id m xs ≡ true) → ((h.id == m) || has_id m xs) ≡ true
  go (inl here) later = or_left (h.id == m) (has_id m xs) here
  go (inr rest) later = or_right (h.id == m) (has_id m xs) (later rest)
trailer_has_id m (notice h ∷ xs) there = or_right (h.id == m) (has_id m xs) (trailer_has_id m xs there)

payload_has_id : (p len k : ℕ) (ks : List StreamPacket) → has_payload p len k ks ≡ true → has_id k ks ≡ true
payload_has_id p len k ks there = elim (cases_Bool (has_id k ks)) [
  | inl has ↦ has
  | inr none ↦ absurd (false≢true (sym (has_payload-none p len k ks none) ∙ there))
]

each_payload : (p len n k : ℕ) (ks : List StreamPacket) → has_payloads p len n ks ≡ true → 1 ≤ k → k ≤ n → has_id k ks ≡ true
each_payload p len zero k ks all one top = absurd (omega (arith, one, top))
each_payload p len (suc n) k ks all one top = go (cases_eq k (suc n)) (λ within. each_payload p len n k ks both.0 one within) where
  both : (has_payloads p len n ks ≡ true) × (has_payload p len (suc n) ks ≡ true)
  both = and_parts (has_payloads p len n ks) (has_payload p len (suc n) ks) all

  go : (k ≡ suc n) ⊎ (k ≡ suc n → ⊥) → (k ≤ n → has_id k ks ≡ true) → has_id k ks ≡ true
  go (inl last) before = ap (λ i. has_id i ks) last ∙ payload_has_id p len (suc n) ks both.1
  go (inr other) before = elim (cases_lt n k) [
    | inl more ↦ absurd (other (omega (arith, more, top)))
    | inr within ↦ before within
  ]

each_id : (p size len : ℕ) (ks : List StreamPacket) → has_id 0 ks ≡ true → has_image p size len ks ≡ true → (k : ℕ) → k < payload_count p len + 2 → has_id k ks ≡ true
each_id p size len ks leads whole k top = go (cases_eq k 0) (cases_eq k (payload_count p len + 1)) where
  both : ((nat_le len size && has_trailer_at (payload_count p len + 1) ks) ≡ true) × (has_payloads p len (payload_count p len) ks ≡ true)
  both = and_parts (nat_le len size && has_trailer_at (payload_count p len + 1) ks) (has_payloads p len (payload_count p len) ks) whole

  above : (k ≡ 0 → ⊥) → 1 ≤ k
  above later = elim (cases_lt 0 k) [ inl more ↦ more | inr none_left ↦ absurd (later (omega arith)) ]

  below : (k ≡ payload_count p len + 1 → ⊥) → k ≤ payload_count p len
  below before = elim (cases_lt (payload_count p len) k) [ inl more ↦ absurd (before (omega arith)) | inr within ↦ within ]

  go : (k ≡ 0) ⊎ (k ≡ 0 → ⊥) → (k ≡ payload_count p len + 1) ⊎ (k ≡ payload_count p len + 1 → ⊥) → has_id k ks ≡ true
  go (inl first) rest = ap (λ i. has_id i ks) first ∙ leads
  go (inr later) (inl last) =
      ap (λ i. has_id i ks) last
      ∙ trailer_has_id (payload_count p len + 1) ks (and_parts (nat_le len size) (has_trailer_at (payload_count p len + 1) ks) both.0).1
  go (inr later) (inr before) = each_payload p len (payload_count p len) k ks both.1 (above later) (below before)

none_with : (p size : ℕ) (ks : List StreamPacket) (o : Option ℕ) → has_id 0 ks ≡ true → is_complete p size ks o ≡ true → lost_to ks (top_with p ks o) ≡ []
none_with p size ks None leads whole = absurd (false≢true whole)
none_with p size ks (Some len) leads whole =
    let all : (payload_count p len + 1 + 1) - 0 ≡ payload_count p len + 1 + 1 = omega arith in
    ap (λ (n : ℕ). holes (λ k. has_id k ks) 0 n) (sym all)
    ∙ holes_begin_with_first (λ k. has_id k ks) 0 (payload_count p len + 1 + 1) None (λ k low high. each_id p size len ks leads whole k (omega arith))

-- an image of known length has a leader, which has the id 0
has_leader_id : (p size : ℕ) (ks : List StreamPacket) → AreLeadersFirst ks → is_complete p size ks (extent_in ks) ≡ true → has_id 0 ks ≡ true
has_leader_id p size ks first whole = elim (cases_Bool (has_id 0 ks)) [
  | inl has ↦ has
  | inr none ↦
      absurd
      (false≢true (sym (ap (λ (o : Option _). is_complete p size ks (extent_of o (lines_in ks))) (leader_in-none ks first none)) ∙ whole))
]

-- ---- blocks that retired

counted_to : (ks : List StreamPacket) (o : Option ℕ) → ids_in (lost_to ks o) ≡ count_lost ks o
counted_to ks None = refl
counted_to ks (Some top) = ids_counted (λ k. has_id k ks) 0 (top + 1)

retired_so : (cause : Cause) (p b size : ℕ) (came : List StreamPacket) (text : List ℕ)
    → BeginsWithHead (retired_record cause p b size (kept p b came)) text → TellsItsBlock p b size came text
retired_so cause p b size came text h =
    let ks : List StreamPacket = kept p b came in
    record {
      image = h.image;
      of_leader = h.of_record;
      samples = h.samples;
      of_format = h.of_format;
      complete = h.complete;
      missing = ids_in (lost p ks);
      whole = h.whole;
      part = h.part;
      counted = counted_to ks (top_of p ks);
      none = λ first is_one.
          ap ids_in (none_with p size ks (extent_in ks) (has_leader_id p size ks first (h.whole.0 is_one)) (h.whole.0 is_one));
      time = λ frames frame sent of_block.
          ap (λ (i : ImageInfo). i.timestamp) (records_tell_their_frame frames p b size came frame h.image sent of_block h.of_record).same;
      pixels = h.pixels;
      is = h.is;
    }

pub retired_heads_tell_their_block : RetiredHeadsTellTheirBlock
retired_heads_tell_their_block cause p b size came text e =
    let ks : List StreamPacket = kept p b came in
    retired_so cause p b size came text (heads_tell_their_record (retired_record cause p b size ks) _ text e)
