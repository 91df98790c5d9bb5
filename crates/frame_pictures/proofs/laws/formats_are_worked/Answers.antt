use Rattle.std.proofs.Common.{refl}
use Rattle.frame_pictures.proofs.laws.formats_are_worked.Goals as goal

pub returns : goal.returns
returns c = record {
  mono8 = refl;
  bayer_rg8 = refl;
  mono10 = refl;
  bayer_gr10 = refl;
  bayer_rg10 = refl;
  bayer_gb10 = refl;
  bayer_bg10 = refl;
  mono12 = refl;
  bayer_gr12 = refl;
  bayer_rg12 = refl;
  bayer_gb12 = refl;
  bayer_bg12 = refl;
  mono14 = refl;
  mono16 = refl;
  rgb8 = refl;
  bgr8 = refl;
  rgba8 = refl;
  bgra8 = refl;
  yuv422_8 = refl;
  ycbcr422_8 = refl;
  yuv422_8_uyvy = refl;
  mono10_packed = refl;
  bayer_gr10_packed = refl;
  bayer_rg10_packed = refl;
  bayer_gb10_packed = refl;
  bayer_bg10_packed = refl;
  mono12_packed = refl;
  bayer_gr12_packed = refl;
  bayer_rg12_packed = refl;
  bayer_gb12_packed = refl;
  bayer_bg12_packed = refl;
  mono10p = refl;
  bayer_bg10p = refl;
  bayer_gb10p = refl;
  bayer_gr10p = refl;
  bayer_rg10p = refl;
  mono12p = refl;
  bayer_bg12p = refl;
  bayer_gb12p = refl;
  bayer_gr12p = refl;
  bayer_rg12p = refl;
}
