-- The missing ranges are the holes of what is settled.
use Rattle.std.proofs.Common.{◌≡◌, ℕ, ◌+◌, List, Option, sym, ap, subst, arith}
use Rattle.stream_packets.specs.Packets.{StreamPacket}
use Rattle.missing_ranges.specs.Ranges.{holes}
use Rattle.missing_ranges.specs.RangeLaws.{AreHoles}
use Rattle.missing_ranges.proofs.HoleLemmas.{holes_are_maximal}
use Rattle.missing_ranges.specs.Missing.{is_settled, top_of, missing_to}
use Rattle.missing_ranges.specs.Laws.{MissingIsMaximal}

holes_to : (p b top : ℕ) (heard : List StreamPacket) → AreHoles (is_settled p b heard) 0 (top + 1) (holes (is_settled p b heard) 0 (top + 1))
holes_to p b top heard =
    let same : 0 + (top + 1) ≡ top + 1 = omega arith in
    subst (λ (to : ℕ). AreHoles (is_settled p b heard) 0 to (holes (is_settled p b heard) 0 (top + 1))) same (holes_are_maximal (is_settled p b heard) 0 (top + 1))

pub missing_is_maximal : MissingIsMaximal
missing_is_maximal = record {
  up_to_the_top = λ p b top heard known.
      subst (λ (o : Option ℕ). AreHoles (is_settled p b heard) 0 (top + 1) (missing_to p b heard o)) (sym known) (holes_to p b top heard);
  with_nothing = λ p b heard none. ap (λ (ks : List StreamPacket). missing_to p b heard (top_of p ks)) none;
}
