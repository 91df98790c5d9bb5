-- What the head of a picture tells, of whatever record, and of the packets of a block that retired.
use Rattle.std.specs.Prelude.{◌≡◌, ◌↔◌, ℕ, ◌+◌, List, [], ◌∷◌, codes, true, false, Option, Some, None, Ok}
use Rattle.std.specs.List.{concat}
use Rattle.std.specs.Fmt.{decimal}
use Rattle.gev_types.specs.declared.block_account.Cause.{Cause}
use Rattle.gev_types.specs.declared.block_record.Record.{Record}
use Rattle.gev_types.specs.declared.frame.Frame.{Frame}
use Rattle.gev_types.specs.declared.image_info.ImageInfo.{ImageInfo}
use Rattle.stream_packets.specs.Packets.{StreamPacket}
use Rattle.block_image.specs.Infos.{info_of}
use Rattle.block_image.specs.Kept.{has_id, kept}
use Rattle.block_image.specs.KeptFacts.{AreLeadersFirst}
use Rattle.block_image.specs.Image.{extent_in, is_complete, leader_in, lines_in, placed_count}
use Rattle.block_image.specs.OneBlock.{AreSent}
use Rattle.missing_ranges.specs.Accounts.{retired_image}
use Rattle.missing_ranges.specs.Lost.{count_false}
use Rattle.missing_ranges.specs.Missing.{top_of}
use Rattle.frame_pictures.specs.declared.samples.Samples.{Samples}
use Rattle.frame_pictures.specs.Formats.{samples_of}
use Rattle.frame_pictures.specs.Pictures.{magic, greatest_in, missing_in, picture, picture_of}

-- ---- the lines of a head

-- The line of comment with these numbers, by their names.
abbrev pub comment_line : ℕ → ℕ → ℕ → ℕ → ℕ → List ℕ
comment_line block complete filled missing time = concat (
    codes "# block=" ∷ decimal block ∷ codes " complete=" ∷ decimal complete ∷ codes " filled=" ∷ decimal filled
    ∷ codes " missing=" ∷ decimal missing ∷ codes " time=" ∷ decimal time ∷ codes "\n" ∷ [])

-- The text begins with the line that says whether its pixels are grey or of colour, then this comment, then the lines of a
-- PNM file for pixels of this format and for an image of this size. The numbers of the comment are those of the record,
-- and its `complete` is 1 exactly where the record is complete.
pub record BeginsWithHead (rec : Record) (text : List ℕ) : Type 0 where
  pub image : ImageInfo
  pub of_record : rec.image ≡ Some image
  pub samples : Samples
  pub of_format : samples_of image.pixel ≡ Some samples
  pub complete : ℕ
  pub whole : (complete ≡ 1) ↔ (rec.complete ≡ true)
  pub part : (complete ≡ 0) ↔ (rec.complete ≡ false)
  pub pixels : List ℕ
  pub is :
      text
      ≡ concat (
      magic samples ∷ codes "\n"
      ∷ comment_line rec.block complete rec.filled (missing_in rec.account) image.timestamp
      ∷ decimal image.size_x ∷ codes " " ∷ decimal image.rows ∷ codes "\n"
      ∷ decimal (greatest_in samples) ∷ codes "\n"
      ∷ pixels ∷ [])

-- so each picture begins, of whatever record and bytes
abbrev pub HeadsTellTheirRecord : Type 0
HeadsTellTheirRecord = (rec : Record) (bytes text : List ℕ) → picture rec bytes ≡ Ok text → BeginsWithHead rec text

-- ---- blocks that retired

-- of how many ids, up to the last one of the block, no packet was kept
abbrev pub count_lost : List StreamPacket → Option ℕ → ℕ
count_lost ks None = 0
count_lost ks (Some top) = count_false (λ k. has_id k ks) 0 (top + 1)

-- The text begins with the head of block b, of which these packets came: its `missing` is the number of ids up to the last
-- one of which no packet was kept, and 0 where the image is whole; its `filled` is how many bytes of the buffer they
-- placed; and its `time` is the timestamp of the block's frame, under each map of frames from which they were sent.
pub record TellsItsBlock (p b size : ℕ) (came : List StreamPacket) (text : List ℕ) : Type 0 where
  pub image : ImageInfo
  pub of_leader : info_of (leader_in (kept p b came)) (lines_in (kept p b came)) ≡ Some image
  pub samples : Samples
  pub of_format : samples_of image.pixel ≡ Some samples
  pub complete : ℕ
  pub missing : ℕ
  pub whole : (complete ≡ 1) ↔ (is_complete p size (kept p b came) (extent_in (kept p b came)) ≡ true)
  pub part : (complete ≡ 0) ↔ (is_complete p size (kept p b came) (extent_in (kept p b came)) ≡ false)
  pub counted : missing ≡ count_lost (kept p b came) (top_of p (kept p b came))
  pub none : AreLeadersFirst (kept p b came) → complete ≡ 1 → missing ≡ 0
  pub time : (frames : ℕ → Option Frame) (frame : Frame) → AreSent frames p came → frames b ≡ Some frame → image.timestamp ≡ frame.timestamp
  pub pixels : List ℕ
  pub is :
      text
      ≡ concat (
      magic samples ∷ codes "\n"
      ∷ comment_line b complete (placed_count p (kept p b came) size) missing image.timestamp
      ∷ decimal image.size_x ∷ codes " " ∷ decimal image.rows ∷ codes "\n"
      ∷ decimal (greatest_in samples) ∷ codes "\n"
      ∷ pixels ∷ [])

-- so it is of each block that retired with a buffer and has a picture, whyever it retired
abbrev pub RetiredHeadsTellTheirBlock : Type 0
RetiredHeadsTellTheirBlock =
    (cause : Cause) (p b size : ℕ) (came : List StreamPacket) (text : List ℕ)
    → picture_of (retired_image cause p b size came) ≡ Ok text → TellsItsBlock p b size came text
