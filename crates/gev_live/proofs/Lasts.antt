-- What holds of a list of lanes and of one lane more.
use Rattle.std.proofs.Common.{◌≡◌, List, [], ◌∷◌, ◌++◌, refl, sym, ap, subst}
use Rattle.gev_lanes.specs.declared.parts.LaneQueues.{LaneQueues}
use Rattle.gev_lanes.specs.declared.parts.ReaderLane.{ReaderLane}
use Rattle.gev_lanes.specs.Sides.{LaneEnd, IsLaneAt, AreLanesOf, AreNew}
use Rattle.gev_live.specs.LanesMade.{NewPart, IsNewPart, AreNewParts, ends_of}

pub lanes_last : (qs : List LaneQueues) (es : List LaneEnd) (e : LaneEnd) → AreLanesOf qs (es ++ e ∷ []) → AreLanesOf qs es × IsLaneAt qs e
lanes_last qs [] e are = (tt, are.0)
lanes_last qs (x ∷ es) e are = let rest = lanes_last qs es e are.1 in ((are.0, rest.0), rest.1)

pub parts_last : (qs : List LaneQueues) (ps : List NewPart) (p : NewPart) → AreNewParts qs ps → IsNewPart qs p → AreNewParts qs (ps ++ p ∷ [])
parts_last qs [] p new last = (last, tt)
parts_last qs (x ∷ ps) p new last = (new.0, parts_last qs ps p new.1 last)

pub ends_last : (ps : List NewPart) (p : NewPart) → ends_of (ps ++ p ∷ []) ≡ ends_of ps ++ p.0 ∷ []
ends_last [] p = refl
ends_last (x ∷ ps) p = ap (λ l. x.0 ∷ l) (ends_last ps p)

-- new lanes of these parts
pub new_parts : (qs : List LaneQueues) (ss : List ReaderLane) (es : List LaneEnd) (ps : List NewPart) → AreNew 0 qs ss es → ends_of ps ≡ es → AreNew 0 qs ss (ends_of ps)
new_parts qs ss es ps new same = subst (λ l. AreNew 0 qs ss l) (sym same) new
