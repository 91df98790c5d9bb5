use Rattle.std.proofs.Common.{◌≡◌, ◌+◌, ◌-◌, ◌≤◌, take, drop, length}
use Rattle.gentl_handles.specs.Closing.{sort_out, sorted_by}
use Rattle.gentl_handles.specs.Storing.{opened_by, serials_of, AreStored}
use Rattle.gentl_handles.proofs.closing.close_below.Given as goal

abbrev pub invariant-loop-place : goal.invariant-loop-place
invariant-loop-place l = record {
  stored : AreStored l.entries l.order.items;
  sorted :
      sort_out l.serial (record { closed = serials_of l.closed.items; kept = take l.place (opened_by l.entries l.order.items) })
      (drop l.place (opened_by l.entries l.order.items))
      ≡ sorted_by l.serial (opened_by l.fn.entries l.fn.order.items);
  few : length l.closed.items + length l.order.items ≤ 64;
  within : l.place ≤ length l.order.items;
}

abbrev pub decreases-loop-place : goal.decreases-loop-place
decreases-loop-place l = length l.order.items - l.place
