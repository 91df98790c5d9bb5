use Rattle.std.proofs.Common.{◌≡◌, ℕ, ◌+◌, ◌*◌, ◌≤◌, List, [], Fits, w64, refl, arith, rules}
use Rattle.std.specs.List.{AllByRecursion}
use Rattle.std.specs.Vec.{vec_len, vec_capacity}
use Rattle.acquisition_machine.specs.declared.counts.Counts.{Counts}
use Rattle.acquisition_machine.specs.Runs.{no_counts}
use Rattle.acq_core.specs.declared.slot.Slot.{Slot}
use Rattle.acq_core.specs.declared.window.Window.{Window}
use Rattle.acq_core.specs.Standing.{IsConfig, IsWide, SlotsStand, HasRoom, capped}
use Rattle.acq_core.proofs.making.first_window.Goals as goal

few_more : (n window : ℕ) → n ≡ window → window ≤ 4 → Fits w64 (n + 1)
few_more n window is few = omega arith

few_times : (n window : ℕ) → n ≡ window → window ≤ 4 → Fits w64 (8 * n)
few_times n window is few = omega arith

none_stand : (p : ℕ) (xs : List Slot) → xs ≡ [] → SlotsStand p xs []
none_stand p xs none = rw none tt

none_counted : (n : Counts) → (n.underrun ≡ 0) × ((n.requests ≡ 0) × ((n.foreign ≡ 0) × ((n.late ≡ 0) × ((n.repeat ≡ 0) × ((n.misfit ≡ 0) × ((n.starved ≡ 0) × (n.notice ≡ 0))))))) → n ≡ capped no_counts
none_counted n none = search rules

room_at_first : (m : Window) (n : ℕ) → IsConfig m.config → n ≡ m.config.window → n ≤ vec_capacity m.slots → vec_len m.slots ≡ 0
    → vec_len m.spare ≡ m.config.window → AllByRecursion IsWide m.spare.items → m.config.window ≤ vec_capacity m.spare
    → vec_len m.fills ≡ 0 → n + 1 ≤ vec_capacity m.fills → vec_len m.ends ≡ 0 → n ≤ vec_capacity m.ends → 8 * n ≤ vec_capacity m.requests → HasRoom m
room_at_first m n config is slots no_slot pairs wide spare no_fill fills no_end ends requests = record {
  config = config;
  slots = omega arith;
  spare = spare;
  fills = omega arith;
  fills_all = omega arith;
  ends = omega arith;
  ends_all = omega arith;
  pairs = omega arith;
  wide = wide;
  requests = omega arith;
}

pub overflow_add-window : goal.overflow_add-window
overflow_add-window c = few_more c.from-window.result c.args.config.window c.from-window.ensures c.requires.window_few

pub overflow_mul-window : goal.overflow_mul-window
overflow_mul-window c = few_times c.from-window.result c.args.config.window c.from-window.ensures c.requires.window_few

pub returns-clause-acts : goal.returns-clause-acts
returns-clause-acts c = record {
  moment = refl;
  floor = refl;
  slots = none_stand c.args.config.p c.in_ok-with_capacity.field-0.items c.in_ok-with_capacity.ensures.items;
  asked = refl;
  counts = none_counted c.default.result c.default.ensures;
  number = refl;
}

pub returns-clause-room : goal.returns-clause-room
returns-clause-room c =
    room_at_first _ c.from-window.result c.requires c.from-window.ensures c.in_ok-with_capacity.ensures.capacity c.in_ok-with_capacity.ensures.len
    c.in_ok-pairs.ensures.count c.in_ok-pairs.ensures.wide c.in_ok-pairs.ensures.room c.in_ok-with_capacity-2.ensures.len c.in_ok-with_capacity-2.ensures.capacity
    c.in_ok-with_capacity-3.ensures.len c.in_ok-with_capacity-3.ensures.capacity c.in_ok-with_capacity-4.ensures.capacity

pub returns-clause-fills : goal.returns-clause-fills
returns-clause-fills c = c.in_ok-with_capacity-2.ensures.items

pub returns-clause-ends : goal.returns-clause-ends
returns-clause-ends c = c.in_ok-with_capacity-3.ensures.items

pub returns-clause-requests : goal.returns-clause-requests
returns-clause-requests c = c.in_ok-with_capacity-4.ensures.items
