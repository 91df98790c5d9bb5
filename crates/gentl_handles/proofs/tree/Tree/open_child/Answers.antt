use Rattle.std.proofs.Common.{◌≡◌, ◌∙◌, Ok, ap, sym, subst, arith}
use Rattle.std.specs.Prelude.{option_map}
use Rattle.std.proofs.lemmas.List.{length-map}
use Rattle.gentl_handles.specs.declared.handle.Handle.{Handle}
use Rattle.gentl_handles.specs.Handles.{Handles}
use Rattle.gentl_handles.specs.Opening.{opening, with_opened}
use Rattle.gentl_handles.specs.Calls.{AreOrdered}
use Rattle.gentl_handles.specs.Storing.{opened_at, opened_by, AreStored}
use Rattle.gentl_handles.proofs.Stored.{opened_more, stored_more}
use Rattle.gentl_handles.proofs.Ordered.{next_behind, ordered_more}
use Rattle.gentl_handles.proofs.tree.Tree.open_child.Goals as goal

pub invariant_of-self : goal.invariant_of-self
invariant_of-self c =
    let s = c.self.inside.entries in
    let order = c.self.inside.order.items in
    let new = c.insert_reserved-key.new.self in
    let key = c.insert_reserved-key.result in
    let o = c.in_ok-opened.opened in
    let hs : Handles = record { handles = opened_by s order; openings = c.self.inside.openings } in
    let parent = option_map (λ (handle : Handle). handle.serial) c.args.parent in
    let opens : opening hs parent c.args.index ≡ Ok o =
    ap (λ l. opening (record { handles = opened_by s l; openings = c.self.inside.openings }) parent c.args.index) (sym c.as_slice-order.ensures.value)
    ∙ sym c.opening.ensures ∙ c.in_ok-opened.was in
    let next = next_behind hs parent c.args.index o c.self.invariant.ordered opens in
    record {
      stored =
          subst (AreStored new) (sym c.push.ensures.items)
          (stored_more s new key order o c.self.invariant.stored c.insert_reserved-key.ensures.was_vacant c.insert_reserved-key.ensures.updates
          c.insert_reserved-key.ensures.len c.insert_reserved-key.ensures.capacity (λ e. next.few (length-map order (λ k. opened_at s k) ∙ e)));
      ordered =
          subst (λ l. AreOrdered 0 l o.serial)
          (sym (ap (λ l. opened_by new l) c.push.ensures.items
          ∙ opened_more s new key order o c.self.invariant.stored.keys c.insert_reserved-key.ensures.was_vacant c.insert_reserved-key.ensures.updates))
          (ordered_more 0 (opened_by s order) c.self.inside.openings o c.self.invariant.ordered (omega (arith, next.serial)) next.behind);
    }

pub returns-clause-after : goal.returns-clause-after
returns-clause-after c =
    let s = c.self.inside.entries in
    let order = c.self.inside.order.items in
    let new = c.insert_reserved-key.new.self in
    let key = c.insert_reserved-key.result in
    let o = c.in_ok-opened.opened in
    let hs : Handles = record { handles = opened_by s order; openings = c.self.inside.openings } in
    let parent = option_map (λ (handle : Handle). handle.serial) c.args.parent in
    let opens : opening hs parent c.args.index ≡ Ok o =
    ap (λ l. opening (record { handles = opened_by s l; openings = c.self.inside.openings }) parent c.args.index) (sym c.as_slice-order.ensures.value)
    ∙ sym c.opening.ensures ∙ c.in_ok-opened.was in
    ap (λ l. record { handles = l; openings = o.serial })
    (ap (λ l. opened_by new l) c.push.ensures.items
    ∙ opened_more s new key order o c.self.invariant.stored.keys c.insert_reserved-key.ensures.was_vacant c.insert_reserved-key.ensures.updates)
    ∙ ap (λ r. with_opened hs r) (sym opens)
    ∙ ap (λ h. with_opened h (opening h parent c.args.index)) c.self.view_is
