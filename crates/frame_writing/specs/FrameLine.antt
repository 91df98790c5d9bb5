-- The line of a frame that was received, with its line feed: a buffer that was taken, what its record tells of the image,
-- and what became of its block.
use Rattle.std.specs.Prelude.{ℕ, List, [], ◌∷◌, ◌++◌, codes, Option, Some, None}
use Rattle.std.specs.List.{concat}
use Rattle.std.specs.Fmt.{decimal}
use Rattle.byteorder.specs.Endian.{big_bytes}
use Rattle.hex.specs.Hex.{encode_lower}
use Rattle.gentl_types.specs.declared.buffer_id.BufferId.{BufferId}
use Rattle.gev_types.specs.declared.block_account.BlockAccount.{BlockAccount}
use Rattle.gev_types.specs.declared.image_info.ImageInfo.{ImageInfo}
use Rattle.gev_types.specs.Filling.{Filling}
use Rattle.gev_report.specs.AccountTexts.{cause_word, why_text, lost_text}
use Rattle.gev_report.specs.Pieces.{flag_text}
use Rattle.gev_report.specs.ReplayLines.{digest_text}
use Rattle.camera_words.specs.declared.settings.LineDigest.{LineDigest}
use Rattle.camera_words.specs.declared.settings.LineDigest.TheVariants.{Sha256, Omitted}

-- what is told where no leader was kept
abbrev pub no_image : ImageInfo
no_image = record { timestamp = 0; pixel = 0; size_x = 0; size_y = 0; rows = 0; offset_x = 0; offset_y = 0; padding_x = 0; padding_y = 0 }

abbrev pub told_image : Option ImageInfo → ImageInfo
told_image None = no_image
told_image (Some info) = info

-- the digest of the image, or `-`
abbrev pub digest_word : LineDigest → Filling → List ℕ
digest_word Sha256 buf = digest_text buf
digest_word Omitted buf = codes "-"

-- the buffer's id, its record, the digest of its image, and of the image the pixels of a line, the lines, the pixel
-- format's code in hex, and the camera's time
abbrev pub image_fields : BufferId → Filling → ImageInfo → List ℕ → List ℕ
image_fields id buf info digest = concat (
    codes "take " ∷ decimal id.place ∷ codes "." ∷ decimal id.generation
    ∷ codes " block=" ∷ decimal buf.rec.block
    ∷ codes " complete=" ∷ flag_text buf.rec.complete
    ∷ codes " larger=" ∷ flag_text buf.rec.larger
    ∷ codes " leader=" ∷ flag_text buf.rec.has_leader
    ∷ codes " len=" ∷ decimal buf.rec.data_len
    ∷ codes " filled=" ∷ decimal buf.rec.filled
    ∷ codes " sha256=" ∷ digest
    ∷ codes " width=" ∷ decimal info.size_x
    ∷ codes " height=" ∷ decimal info.rows
    ∷ codes " pixel=0x" ∷ encode_lower (big_bytes 4 info.pixel)
    ∷ codes " time=" ∷ decimal info.timestamp ∷ [])

-- why the block retired, how many of its packets are missing, why its image isn't whole, and which packets are missing;
-- of a buffer that holds no block, none of these
abbrev pub account_fields : Option BlockAccount → List ℕ
account_fields None = codes " cause=- missing=0 why=- ids=-\n"
account_fields (Some account) = concat (
    codes " cause=" ∷ cause_word account.cause
    ∷ codes " missing=" ∷ decimal account.lost.ids
    ∷ codes " why=" ∷ why_text account.why
    ∷ codes " ids=" ∷ lost_text account.lost ∷ codes "\n" ∷ [])

abbrev pub frame_line : LineDigest → BufferId → Filling → List ℕ
frame_line digest id buf = image_fields id buf (told_image buf.rec.image) (digest_word digest buf) ++ account_fields buf.rec.account
