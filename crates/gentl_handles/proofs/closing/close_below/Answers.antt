use Rattle.std.proofs.Common.{◌∙◌, length, get_or, [], ap, sym, arith}
use Rattle.std.proofs.lemmas.List.{length-map}
use Rattle.gentl_handles.specs.Closing.{falls, sort_out}
use Rattle.gentl_handles.specs.Storing.{opened_at, opened_by, serials_of}
use Rattle.gentl_handles.proofs.Sortings.{sorts_closed, sorts_kept, serials_more}
use Rattle.gentl_handles.proofs.Stored.{opened_in}
use Rattle.gentl_handles.proofs.closing.close_below.Goals as goal

pub loop-place-init : goal.loop-place-init
loop-place-init c = record {
  stored = c.requires;
  sorted = ap (λ l. sort_out c.args.serial (record { closed = serials_of l; kept = [] }) (opened_by c.args.entries.now c.args.order.now.items)) c.new-closed.ensures;
  few = omega (arith, c.requires.few, ap length c.new-closed.ensures);
  within = omega arith;
}

pub loop-place-preserved-then-falls : goal.loop-place-preserved-then-falls
loop-place-preserved-then-falls c =
    record {
      stored = c.take_out.ensures.stored;
      sorted =
          sorts_closed c.args.serial (serials_of c.loop-place.closed.items) (serials_of c.push.new.self.items)
          (opened_by c.loop-place.entries c.loop-place.order.items) (opened_by c.take_out.new.entries c.take_out.new.order.items)
          c.loop-place.place c.opened_at-opened.result _
          (omega (arith, c.loop-place-test.true, c.len.ensures.value, length-map c.loop-place.order.items (λ key. opened_at c.loop-place.entries key)))
          (opened_in c.loop-place.entries c.loop-place.order.items c.loop-place.place c.opened_at-opened.result (omega (arith, c.loop-place-test.true, c.len.ensures.value))
          (c.opened_at-opened.ensures ∙ ap (λ l. opened_at c.loop-place.entries (get_or l c.loop-place.place 0)) c.as_slice.ensures.value))
          (ap (λ l. falls c.args.serial (serials_of l) c.opened_at-opened.result) (sym c.as_slice-in-loop-place.ensures.value) ∙ sym c.falls.ensures ∙ c.if-falls.true)
          (ap serials_of c.push.ensures.items ∙ serials_more c.loop-place.closed.items _)
          c.take_out.ensures.order
          c.loop-place.invariant.sorted;
      few = omega (arith, c.loop-place.invariant.few, c.push.ensures.len, c.take_out.ensures.len);
      within = omega (arith, c.loop-place-test.true, c.len.ensures.value, c.take_out.ensures.len);
    }

pub loop-place-preserved : goal.loop-place-preserved
loop-place-preserved c = record {
  stored = c.loop-place.invariant.stored;
  sorted =
      sorts_kept c.args.serial (serials_of c.loop-place.closed.items) (opened_by c.loop-place.entries c.loop-place.order.items)
      c.loop-place.place c.opened_at-opened.result _
      (omega (arith, c.loop-place-test.true, c.len.ensures.value, length-map c.loop-place.order.items (λ key. opened_at c.loop-place.entries key)))
      (opened_in c.loop-place.entries c.loop-place.order.items c.loop-place.place c.opened_at-opened.result (omega (arith, c.loop-place-test.true, c.len.ensures.value))
      (c.opened_at-opened.ensures ∙ ap (λ l. opened_at c.loop-place.entries (get_or l c.loop-place.place 0)) c.as_slice.ensures.value))
      (ap (λ l. falls c.args.serial (serials_of l) c.opened_at-opened.result) (sym c.as_slice-in-loop-place.ensures.value) ∙ sym c.falls.ensures ∙ c.if-falls.false)
      c.loop-place.invariant.sorted;
  few = c.loop-place.invariant.few;
  within = omega (arith, c.loop-place-test.true, c.len.ensures.value);
}
