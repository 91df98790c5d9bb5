-- Pictures worked out by hand.
use Rattle.std.specs.Prelude.{◌≡◌, ℕ, true, false, List, [], ◌∷◌, ◌++◌, codes, Option, Some, None, Ok, Err}
use Rattle.gev_types.specs.declared.block_account.BlockAccount.{BlockAccount}
use Rattle.gev_types.specs.declared.block_account.Cause.TheVariants.{Stopped}
use Rattle.gev_types.specs.declared.block_record.Record.{Record}
use Rattle.gev_types.specs.declared.image_info.ImageInfo.{ImageInfo}
use Rattle.stream_packets.specs.declared.fields.LeaderInfo.{LeaderInfo}
use Rattle.block_image.specs.Infos.{info_of}
use Rattle.frame_pictures.specs.declared.no_picture.NoPicture.TheVariants.{NoLeader, PixelFormat, NoPixels, PartBytes}
use Rattle.frame_pictures.specs.Pictures.{picture}

-- an image of so many columns and rows, and with so many bytes behind each row, all of whose announced lines are there
abbrev pub info_with : ℕ → ℕ → ℕ → ℕ → Option ImageInfo
info_with pixel width padding rows = Some (record {
  timestamp = 0;
  pixel = pixel;
  size_x = width;
  size_y = rows;
  offset_x = 0;
  offset_y = 0;
  padding_x = padding;
  padding_y = 0;
  rows = rows;
})

-- the record of block 1, whose image is whole in its buffer, with so many bytes
abbrev pub whole : Option ImageInfo → ℕ → Record
whole told len = record {
  block = 1;
  complete = true;
  larger = false;
  has_leader = true;
  data_len = len;
  filled = len;
  image = told;
  account = None;
}

-- the account of a block that retired as its stream was stopped, of which two packets are missing, from id 1 on
abbrev pub two_missing : BlockAccount
two_missing = record {
  cause = Stopped;
  lost = record {
    ids = 2;
    ranges = 1;
    first = (1, 2) ∷ (0, 0) ∷ (0, 0) ∷ (0, 0) ∷ (0, 0) ∷ (0, 0) ∷ (0, 0) ∷ (0, 0) ∷ [];
  };
  why = record { no_leader = false; small = false; no_trailer = true; no_payload = true; short = false };
}

-- the record of block 70,000, of whose image of six bytes the last two came
abbrev pub part : Option ImageInfo → Record
part told = record {
  block = 70000;
  complete = false;
  larger = false;
  has_leader = true;
  data_len = 6;
  filled = 2;
  image = told;
  account = Some two_missing;
}

-- an image of one row of six columns of Mono8, at the camera's time 5
abbrev pub at_five : ImageInfo
at_five = record {
  timestamp = 5;
  pixel = 0x01080001;
  size_x = 6;
  size_y = 1;
  offset_x = 0;
  offset_y = 0;
  padding_x = 0;
  padding_y = 0;
  rows = 1;
}

-- a leader of 2 by 2 pixels of Mono12, with a byte behind each row
abbrev pub twelve_bits : LeaderInfo
twelve_bits = record {
  timestamp = 0;
  pixel = 0x01100005;
  size_x = 2;
  size_y = 2;
  offset_x = 0;
  offset_y = 0;
  padding_x = 1;
  padding_y = 0;
  size = 10;
}

-- its image, of which the values are 0x0fff, 0x1001, 0x1234 and 0
abbrev pub four_values : List ℕ
four_values = 0xff ∷ 0x0f ∷ 0x01 ∷ 0x10 ∷ 0x00 ∷ 0x34 ∷ 0x12 ∷ 0x00 ∷ 0x00 ∷ 0x00 ∷ []

-- bytes from 1 to 9
abbrev pub nine : List ℕ
nine = 1 ∷ 2 ∷ 3 ∷ 4 ∷ 5 ∷ 6 ∷ 7 ∷ 8 ∷ 9 ∷ []

-- three bytes of two values that share one of them
abbrev pub three : List ℕ
three = 0xab ∷ 0xcd ∷ 0xef ∷ []

-- five bytes of four values of ten bits
abbrev pub five : List ℕ
five = 0x12 ∷ 0x34 ∷ 0x56 ∷ 0x78 ∷ 0x9a ∷ []

pub record PicturesAreWorked : Type 0 where
  -- three pixels of Mono8 in one row
  pub grey : picture (whole (info_with 0x01080001 3 0 1) 3) (97 ∷ 98 ∷ 99 ∷ []) ≡ Ok (codes "P5\n# block=1 complete=1 filled=3 missing=0 time=0\n3 1\n255\nabc")
  -- not all of it came, and the head says how much is missing
  pub incomplete :
      picture (part (Some at_five)) (0 ∷ 0 ∷ 0 ∷ 0 ∷ 97 ∷ 98 ∷ [])
      ≡ Ok (codes "P5\n# block=70000 complete=0 filled=2 missing=2 time=5\n6 1\n255\n" ++ 0 ∷ 0 ∷ 0 ∷ 0 ∷ 97 ∷ 98 ∷ [])
  -- two of its values are above the greatest
  pub twelve :
      picture (whole (info_of (Some twelve_bits) None) 10) four_values
      ≡ Ok (codes "P5\n# block=1 complete=1 filled=10 missing=0 time=0\n2 2\n4095\n" ++ 0x0f ∷ 0xff ∷ 0x0f ∷ 0xff ∷ 0x0f ∷ 0xff ∷ 0x00 ∷ 0x00 ∷ [])
  -- the trailer tells one row
  pub short :
      picture (whole (info_of (Some twelve_bits) (Some 1)) 5) four_values
      ≡ Ok (codes "P5\n# block=1 complete=1 filled=5 missing=0 time=0\n2 1\n4095\n" ++ 0x0f ∷ 0xff ∷ 0x0f ∷ 0xff ∷ [])
  -- no row, and more rows than the leader announces, count as the leader's
  pub no_line : info_of (Some twelve_bits) (Some 0) ≡ info_with 0x01100005 2 1 2
  pub too_many : info_of (Some twelve_bits) (Some 3) ≡ info_with 0x01100005 2 1 2
  -- what lies behind the image is black, and half a value too
  pub cut : picture (whole (info_with 0x01100007 1 1 3) 4) nine ≡ Ok (codes "P5\n# block=1 complete=1 filled=4 missing=0 time=0\n1 3\n65535\n" ++ 2 ∷ 1 ∷ 0 ∷ 4 ∷ 0 ∷ 0 ∷ [])
  -- the padding of two rows is left out
  pub padded : picture (whole (info_with 0x01080001 2 1 2) 6) nine ≡ Ok (codes "P5\n# block=1 complete=1 filled=6 missing=0 time=0\n2 2\n255\n" ++ 1 ∷ 2 ∷ 4 ∷ 5 ∷ [])
  -- the two orders of colours
  pub red_first : picture (whole (info_with 0x02180014 1 0 2) 6) nine ≡ Ok (codes "P6\n# block=1 complete=1 filled=6 missing=0 time=0\n1 2\n255\n" ++ 1 ∷ 2 ∷ 3 ∷ 4 ∷ 5 ∷ 6 ∷ [])
  pub blue_first : picture (whole (info_with 0x02180015 1 0 2) 5) nine ≡ Ok (codes "P6\n# block=1 complete=1 filled=5 missing=0 time=0\n1 2\n255\n" ++ 3 ∷ 2 ∷ 1 ∷ 0 ∷ 5 ∷ 4 ∷ [])
  -- values of 10 bits of a Bayer pattern, and of Mono14
  pub ten : picture (whole (info_with 0x0110000f 1 0 1) 2) (0 ∷ 4 ∷ []) ≡ Ok (codes "P5\n# block=1 complete=1 filled=2 missing=0 time=0\n1 1\n1023\n" ++ 3 ∷ 255 ∷ [])
  pub fourteen : picture (whole (info_with 0x01100025 1 0 1) 2) (255 ∷ 255 ∷ []) ≡ Ok (codes "P5\n# block=1 complete=1 filled=2 missing=0 time=0\n1 1\n16383\n" ++ 63 ∷ 255 ∷ [])
  -- bytes that aren't drawn: alpha, and the colour differences
  pub alpha_last : picture (whole (info_with 0x02200016 2 0 1) 8) nine ≡ Ok (codes "P6\n# block=1 complete=1 filled=8 missing=0 time=0\n2 1\n255\n" ++ 1 ∷ 2 ∷ 3 ∷ 5 ∷ 6 ∷ 7 ∷ [])
  pub blue_and_alpha : picture (whole (info_with 0x02200017 2 0 1) 8) nine ≡ Ok (codes "P6\n# block=1 complete=1 filled=8 missing=0 time=0\n2 1\n255\n" ++ 3 ∷ 2 ∷ 1 ∷ 7 ∷ 6 ∷ 5 ∷ [])
  pub brightness_first : picture (whole (info_with 0x0210003b 2 1 2) 9) nine ≡ Ok (codes "P5\n# block=1 complete=1 filled=9 missing=0 time=0\n2 2\n255\n" ++ 1 ∷ 3 ∷ 6 ∷ 8 ∷ [])
  pub brightness_second : picture (whole (info_with 0x0210001f 2 1 2) 9) nine ≡ Ok (codes "P5\n# block=1 complete=1 filled=9 missing=0 time=0\n2 2\n255\n" ++ 2 ∷ 4 ∷ 7 ∷ 9 ∷ [])
  -- two values in three bytes: 0xab and the low half of 0xcd, then 0xef and the other; of ten bits only two of each half
  pub twelve_shared : picture (whole (info_with 0x010c0006 2 0 1) 3) three ≡ Ok (codes "P5\n# block=1 complete=1 filled=3 missing=0 time=0\n2 1\n4095\n" ++ 0x0a ∷ 0xbd ∷ 0x0e ∷ 0xfc ∷ [])
  pub ten_shared : picture (whole (info_with 0x010c0029 2 0 1) 3) three ≡ Ok (codes "P5\n# block=1 complete=1 filled=3 missing=0 time=0\n2 1\n1023\n" ++ 0x02 ∷ 0xad ∷ 0x03 ∷ 0xbc ∷ [])
  -- the bits of the values one behind the other, of which none came behind the second byte
  pub twelve_running : picture (whole (info_with 0x010c0047 2 0 1) 3) three ≡ Ok (codes "P5\n# block=1 complete=1 filled=3 missing=0 time=0\n2 1\n4095\n" ++ 0x0d ∷ 0xab ∷ 0x0e ∷ 0xfc ∷ [])
  pub ten_running :
      picture (whole (info_with 0x010a0058 4 0 1) 5) five
      ≡ Ok (codes "P5\n# block=1 complete=1 filled=5 missing=0 time=0\n4 1\n1023\n" ++ 0x00 ∷ 0x12 ∷ 0x01 ∷ 0x8d ∷ 0x03 ∷ 0x85 ∷ 0x02 ∷ 0x69 ∷ [])
  pub ten_cut :
      picture (whole (info_with 0x010a0046 4 0 1) 2) five
      ≡ Ok (codes "P5\n# block=1 complete=1 filled=2 missing=0 time=0\n4 1\n1023\n" ++ 0x00 ∷ 0x12 ∷ 0x00 ∷ 0x0d ∷ 0x00 ∷ 0x00 ∷ 0x00 ∷ 0x00 ∷ [])
  -- why there is none: a format that isn't drawn goes before a picture without pixels
  pub without_leader : picture (whole None 3) nine ≡ Err NoLeader
  pub not_drawn : picture (whole (info_with 0x020c001e 0 0 1) 3) nine ≡ Err (PixelFormat 0x020c001e)
  pub no_column : picture (whole (info_with 0x01080001 0 5 1) 5) nine ≡ Err NoPixels
  pub no_row : picture (whole (info_with 0x02180014 3 0 0) 4) nine ≡ Err NoPixels
  -- and a picture without pixels before rows that end within a byte
  pub part_bytes : picture (whole (info_with 0x010c0006 3 0 1) 5) nine ≡ Err PartBytes
  pub quarters : picture (whole (info_with 0x010a0046 2 0 1) 3) nine ≡ Err PartBytes
  pub no_part : picture (whole (info_with 0x010a0046 1 0 0) 3) nine ≡ Err NoPixels
