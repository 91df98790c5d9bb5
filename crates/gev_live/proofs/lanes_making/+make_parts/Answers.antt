use Rattle.std.proofs.Common.{rules, [], ◌∷◌, ◌++◌, sym, ap, subst, ◌∙◌}
use Rattle.gev_lanes.specs.Sides.{AreLanesOf}
use Rattle.gev_live.specs.LanesMade.{NewPart, AreNewParts, ends_of}
use Rattle.gev_live.proofs.Lasts.{lanes_last, parts_last, ends_last}
use Rattle.gev_live.proofs.lanes_making.+make_parts.Goals as goal

pub make_parts-requires : goal.make_parts-requires
make_parts-requires t c = (
  search rules,
  (lanes_last c.args.lanes.now c.pop.new.self.items c.in-Some.last (subst (AreLanesOf c.args.lanes.now) c.in-Some.ensures.items c.requires.lanes)).0,
)

pub returns-in_ok-push-in-Some-clause-new : goal.returns-in_ok-push-in-Some-clause-new
returns-in_ok-push-in-Some-clause-new t c =
    let p : NewPart = (c.in-Some.last, c.in_ok-acq-in-Some.acq) in
    subst (AreNewParts c.args.lanes.now) (sym c.in_ok-push-in-Some.ensures.items)
    (parts_last c.args.lanes.now c.in_ok-parts-in-Some.parts.items p c.in_ok-parts-in-Some.ensures.new
    (record {
      lane = (lanes_last c.args.lanes.now c.pop.new.self.items c.in-Some.last (subst (AreLanesOf c.args.lanes.now) c.in-Some.ensures.items c.requires.lanes)).1;
      receiver = c.in_ok-acq-in-Some.ensures;
    }))

pub returns-in_ok-push-in-Some-clause-ends : goal.returns-in_ok-push-in-Some-clause-ends
returns-in_ok-push-in-Some-clause-ends t c =
    let p : NewPart = (c.in-Some.last, c.in_ok-acq-in-Some.acq) in
    ap ends_of c.in_ok-push-in-Some.ensures.items
    ∙ (ends_last c.in_ok-parts-in-Some.parts.items p
    ∙ (ap (λ l. l ++ c.in-Some.last ∷ []) c.in_ok-parts-in-Some.ensures.ends ∙ sym c.in-Some.ensures.items))
