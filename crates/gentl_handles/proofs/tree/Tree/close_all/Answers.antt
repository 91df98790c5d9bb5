use Rattle.std.proofs.Common.{sym, subst}
use Rattle.gentl_handles.specs.Calls.{AreOrdered}
use Rattle.gentl_handles.specs.Storing.{opened_by}
use Rattle.gentl_handles.proofs.Ordered.{ordered_sorted}
use Rattle.gentl_handles.proofs.tree.Tree.close_all.Goals as goal

pub invariant_of-self : goal.invariant_of-self
invariant_of-self c = record {
  stored = c.close_below.ensures.stored;
  ordered =
      subst (λ l. AreOrdered 0 l c.self.inside.openings) (sym c.close_below.ensures.kept)
      (ordered_sorted c.args.handle.serial (opened_by c.self.inside.entries c.self.inside.order.items) c.self.inside.openings c.self.invariant.ordered);
}
