use Rattle.std.proofs.Common.{◌≡◌, refl, sym, ◌∙◌, ap, subst, Some}
use Rattle.gev_types.specs.FrameSize.{IsImageSize, image_size}
use Rattle.gvsp_wire.specs.Reading.{info_at}
use Rattle.gvsp_wire.proofs.Steps.{info_fits, info_outside, info_is}
use Rattle.gvsp_wire.proofs.reading.leader_info.Goals as goal

pub returns-in_err-size : goal.returns-in_err-size
returns-in_err-size c =
    let size-is : image_size c.u32_at-pixel.result c.u32_at-size_x.result c.u32_at-size_y.result c.u16_at-padding_x.result c.u16_at-padding_y.result ≡ (info_at c.args.bytes.now).size = rw (c.u32_at-pixel.ensures, c.u32_at-size_x.ensures, c.u32_at-size_y.ensures, c.u16_at-padding_x.ensures, c.u16_at-padding_y.ensures) refl in
    c.from_residual.ensures ∙ sym (info_outside c.args.bytes.now (λ h. c.in_err-size.ensures (subst IsImageSize (sym size-is) h)))

pub returns : goal.returns
returns c =
    let size-is : image_size c.u32_at-pixel.result c.u32_at-size_x.result c.u32_at-size_y.result c.u16_at-padding_x.result c.u16_at-padding_y.result ≡ (info_at c.args.bytes.now).size = rw (c.u32_at-pixel.ensures, c.u32_at-size_x.ensures, c.u32_at-size_y.ensures, c.u16_at-padding_x.ensures, c.u16_at-padding_y.ensures) refl in
    let found = info_fits c.args.bytes.now (subst IsImageSize size-is c.in_ok-size.ensures.0) in
    ap Some (info_is c.args.bytes.now _ c.u64_at.ensures c.u32_at-pixel.ensures c.u32_at-size_x.ensures c.u32_at-size_y.ensures c.u32_at.ensures c.u32_at-2.ensures c.u16_at-padding_x.ensures c.u16_at-padding_y.ensures c.in_ok-size.ensures.1) ∙ sym found
