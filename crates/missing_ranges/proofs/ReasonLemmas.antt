-- A reason holds exactly where the image isn't whole.
use Rattle.std.proofs.Common.{◌≡◌, ◌↔◌, ℕ, ◌+◌, ◌≤◌, List, Bool, true, false, Option, Some, None, refl, sym, ◌∙◌, ap, arith}
use Rattle.std.specs.Prelude.{◌&&◌, ◌||◌, not, nat_lt}
use Rattle.std.proofs.lemmas.Bool.{true≢false}
use Rattle.stream_packets.specs.Packets.{StreamPacket}
use Rattle.stream_packets.specs.FramePackets.{payload_count}
use Rattle.block_image.specs.Kept.{kept}
use Rattle.block_image.specs.KeptFacts.{IsKept}
use Rattle.block_image.specs.Image.{is_complete, has_payloads, has_trailer_at, extent_in}
use Rattle.block_image.proofs.IsKept.{IsKept-kept}
use Rattle.gev_types.specs.declared.reasons.Reasons.{Reasons}
use Rattle.gev_types.specs.Reasons.{no_reason, has_reason}
use Rattle.missing_ranges.specs.Reasons.{has_payloads_to, has_short_to, reasons_of, reasons}
use Rattle.missing_ranges.specs.ReasonLaws.{ReasonsAreReasons, ShortOnesSpoil}
use Rattle.missing_ranges.proofs.Payloads.{rest_is, payloads_are}

-- five tests of which none holds
pub none_of : (r : Reasons) → has_reason r ≡ false → r ≡ no_reason
none_of r none = ap5 r.no_leader r.small r.no_trailer r.no_payload r.short (five r.no_leader r.small r.no_trailer r.no_payload r.short none) where
  five : (a b c d e : Bool) → (a || b || c || d || e) ≡ false → (a ≡ false) × (b ≡ false) × (c ≡ false) × (d ≡ false) × (e ≡ false)
  five true b c d e h = absurd (true≢false h)
  five false true c d e h = absurd (true≢false h)
  five false false true d e h = absurd (true≢false h)
  five false false false true e h = absurd (true≢false h)
  five false false false false e h = (refl, refl, refl, refl, h)

  ap5 : (a b c d e : Bool) → (a ≡ false) × (b ≡ false) × (c ≡ false) × (d ≡ false) × (e ≡ false)
      → record { no_leader = a; small = b; no_trailer = c; no_payload = d; short = e } ≡ no_reason
  ap5 a b c d e h = cc

whole_is : (small trails payloads short : Bool) → (not small && trails && (payloads && not short)) ≡ not (false || small || not trails || not payloads || short)
whole_is true t p s = refl
whole_is false false p s = refl
whole_is false true false s = refl
whole_is false true true true = refl
whole_is false true true false = refl

pub complete_is : (p b size : ℕ) (ks : List StreamPacket) (o : Option ℕ) → 1 ≤ p → IsKept p b ks → is_complete p size ks o ≡ not (has_reason (reasons_of p size ks o))
complete_is p b size ks None some are = refl
complete_is p b size ks (Some len) some are =
    let n : ℕ = payload_count p len in
    ap (λ v. v && has_trailer_at (n + 1) ks && has_payloads p len n ks) (rest_is size len)
    ∙ ap (λ v. not (nat_lt size len) && has_trailer_at (n + 1) ks && v) (payloads_are p b len n ks some (omega arith) are)
    ∙ whole_is (nat_lt size len) (has_trailer_at (n + 1) ks) (has_payloads_to n ks) (has_short_to p len n ks)

without : (complete : Bool) (r : Reasons) → complete ≡ not (has_reason r) → (complete ≡ true) ↔ (r ≡ no_reason)
without complete r e = (λ whole. none_of r (back (has_reason r) (sym e ∙ whole)), λ none. e ∙ ap (λ (k : Reasons). not (has_reason k)) none) where
  back : (v : Bool) → not v ≡ true → v ≡ false
  back true e = sym e
  back false e = refl

with : (complete : Bool) (r : Reasons) → complete ≡ not (has_reason r) → (complete ≡ false) ↔ (has_reason r ≡ true)
with complete r e = (λ part. back (has_reason r) (sym e ∙ part), λ some. e ∙ ap not some) where
  back : (v : Bool) → not v ≡ false → v ≡ true
  back true e = refl
  back false e = sym e

pub reasons_are_reasons : ReasonsAreReasons
reasons_are_reasons = record {
  none = λ p b size heard some.
      let ks : List StreamPacket = kept p b heard in
      without (is_complete p size ks (extent_in ks)) (reasons p size ks) (complete_is p b size ks (extent_in ks) some (IsKept-kept p b heard));
  some = λ p b size heard some.
      let ks : List StreamPacket = kept p b heard in
      with (is_complete p size ks (extent_in ks)) (reasons p size ks) (complete_is p b size ks (extent_in ks) some (IsKept-kept p b heard));
}

pub short_ones_spoil : ShortOnesSpoil
short_ones_spoil p b len heard some = payloads_are p b len (payload_count p len) (kept p b heard) some (omega arith) (IsKept-kept p b heard)
