-- The pixel formats that are drawn, each by its name and its code in the Pixel Format Naming Convention, with how its
-- pixels lie in a buffer.
use Rattle.std.specs.Prelude.{◌≡◌, Some}
use Rattle.frame_pictures.specs.declared.samples.Samples.TheVariants.{Grey8, Grey16, Rgb, Bgr, Rgba, Bgra, Yuyv, Uyvy, Packed10, Packed12, Lsb10, Lsb12}
use Rattle.frame_pictures.specs.Formats.{samples_of}

pub record FormatsAreWorked : Type 0 where
  -- grey and the patterns of a Bayer filter, with whole bytes for a pixel
  pub mono8 : samples_of 0x01080001 ≡ Some Grey8
  pub bayer_rg8 : samples_of 0x01080009 ≡ Some Grey8
  pub mono10 : samples_of 0x01100003 ≡ Some (Grey16 1023)
  pub bayer_gr10 : samples_of 0x0110000C ≡ Some (Grey16 1023)
  pub bayer_rg10 : samples_of 0x0110000D ≡ Some (Grey16 1023)
  pub bayer_gb10 : samples_of 0x0110000E ≡ Some (Grey16 1023)
  pub bayer_bg10 : samples_of 0x0110000F ≡ Some (Grey16 1023)
  pub mono12 : samples_of 0x01100005 ≡ Some (Grey16 4095)
  pub bayer_gr12 : samples_of 0x01100010 ≡ Some (Grey16 4095)
  pub bayer_rg12 : samples_of 0x01100011 ≡ Some (Grey16 4095)
  pub bayer_gb12 : samples_of 0x01100012 ≡ Some (Grey16 4095)
  pub bayer_bg12 : samples_of 0x01100013 ≡ Some (Grey16 4095)
  pub mono14 : samples_of 0x01100025 ≡ Some (Grey16 16383)
  pub mono16 : samples_of 0x01100007 ≡ Some (Grey16 65535)
  -- colours
  pub rgb8 : samples_of 0x02180014 ≡ Some Rgb
  pub bgr8 : samples_of 0x02180015 ≡ Some Bgr
  pub rgba8 : samples_of 0x02200016 ≡ Some Rgba
  pub bgra8 : samples_of 0x02200017 ≡ Some Bgra
  pub yuv422_8 : samples_of 0x02100032 ≡ Some Yuyv
  pub ycbcr422_8 : samples_of 0x0210003B ≡ Some Yuyv
  pub yuv422_8_uyvy : samples_of 0x0210001F ≡ Some Uyvy
  -- two pixels in three bytes
  pub mono10_packed : samples_of 0x010C0004 ≡ Some Packed10
  pub bayer_gr10_packed : samples_of 0x010C0026 ≡ Some Packed10
  pub bayer_rg10_packed : samples_of 0x010C0027 ≡ Some Packed10
  pub bayer_gb10_packed : samples_of 0x010C0028 ≡ Some Packed10
  pub bayer_bg10_packed : samples_of 0x010C0029 ≡ Some Packed10
  pub mono12_packed : samples_of 0x010C0006 ≡ Some Packed12
  pub bayer_gr12_packed : samples_of 0x010C002A ≡ Some Packed12
  pub bayer_rg12_packed : samples_of 0x010C002B ≡ Some Packed12
  pub bayer_gb12_packed : samples_of 0x010C002C ≡ Some Packed12
  pub bayer_bg12_packed : samples_of 0x010C002D ≡ Some Packed12
  -- pixels one behind the other, from the least significant bit on
  pub mono10p : samples_of 0x010A0046 ≡ Some Lsb10
  pub bayer_bg10p : samples_of 0x010A0052 ≡ Some Lsb10
  pub bayer_gb10p : samples_of 0x010A0054 ≡ Some Lsb10
  pub bayer_gr10p : samples_of 0x010A0056 ≡ Some Lsb10
  pub bayer_rg10p : samples_of 0x010A0058 ≡ Some Lsb10
  pub mono12p : samples_of 0x010C0047 ≡ Some Lsb12
  pub bayer_bg12p : samples_of 0x010C0053 ≡ Some Lsb12
  pub bayer_gb12p : samples_of 0x010C0055 ≡ Some Lsb12
  pub bayer_gr12p : samples_of 0x010C0057 ≡ Some Lsb12
  pub bayer_rg12p : samples_of 0x010C0059 ≡ Some Lsb12
