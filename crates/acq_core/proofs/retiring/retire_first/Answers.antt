use Rattle.std.proofs.Common.{◌≡◌, ℕ, ◌+◌, ◌^◌, ◌<◌, List, [], ◌∷◌, ◌++◌, length, get_or, sym, ap, subst, ◌∙◌, arith}
use Rattle.std.specs.Prelude.{remove, Option, Some, None, SomeIff}
use Rattle.acquisition_machine.specs.Blocks.{Open, given_back}
use Rattle.acq_core.specs.declared.slot.Slot.{Slot}
use Rattle.acq_core.specs.declared.window.Window.{Window}
use Rattle.acq_core.specs.Standing.{HoldsFor, IsHeld, SlotStands, SlotsStand, floor_of}
use Rattle.acq_core.proofs.Settling.{no_left}
use Rattle.acq_core.proofs.retiring.retire_first.Goals as goal

is_first : (p : ℕ) (xs : List Slot) (x : Slot) (o : Open) (os : List Open) → SlotsStand p xs (o ∷ os) → x ≡ get_or xs 0 x → SlotStands p x o
is_first p [] x o os s is = absurd s
is_first p (y ∷ ys) x o os s is = subst (λ z. SlotStands p z o) (sym is) s.0

are_rest : (p : ℕ) (xs rest : List Slot) (o : Open) (os : List Open) → SlotsStand p xs (o ∷ os) → rest ≡ remove xs 0 → SlotsStand p rest os
are_rest p [] rest o os s is = absurd s
are_rest p (y ∷ ys) rest o os s is = subst (λ l. SlotsStand p l os) (sym is) s.1

is_held : (p q : ℕ) (xs : List Slot) (x : Slot) (os : List Open) → SlotsStand p xs os → 0 < length xs → x ≡ get_or xs 0 x → q ≡ p → IsHeld q x.hold
is_held p q xs x [] s some is same = absurd (no_left p xs s some)
is_held p q xs x (o ∷ os) s some is same =
    let t : SlotStands p x o = is_first p xs x o os s is in
    record { block = o; holds = subst (λ k. HoldsFor k o.block x.hold o.given o.heard) (sym same) t.hold }

floor_next : (f : Option ℕ) (b : ℕ) → SomeIff f (b + 1 < 2 ^ 64) (b + 1) → b < 2 ^ 64 → floor_of f ≡ b + 1
floor_next None b is fits = omega (arith, is)
floor_next (Some n) b is fits = is.1

pub release-requires-clause-stands : goal.release-requires-clause-stands
release-requires-clause-stands c =
    let count = c.args.window.now.slots.ok.0 in
    let some = c.requires.some in
    is_held c.args.window.now.config.p c.list_end.new.window.config.p c.args.window.now.slots.items c.remove-slot.result c.requires.slots.0 c.requires.slots.1
    (omega (arith, count, some)) c.remove-slot.ensures.value (ap (λ (k : Window). k.config.p) c.list_end.ensures.rest)

pub returns-clause-retires : goal.returns-clause-retires
returns-clause-retires c o os s =
    let p : ℕ = c.args.window.now.config.p in
    let t : SlotStands p c.remove-slot.result o = is_first p c.args.window.now.slots.items c.remove-slot.result o os s c.remove-slot.ensures.value in
    let hold = subst (λ k. HoldsFor k o.block c.remove-slot.result.hold o.given o.heard) (sym (ap (λ (k : Window). k.config.p) c.list_end.ensures.rest)) t.hold in
    record {
      slots = are_rest p c.args.window.now.slots.items c.list_end.new.window.slots.items o os s (ap (λ (k : Window). k.slots.items) c.list_end.ensures.rest ∙ c.remove-slot.ensures.items);
      fills = c.release.ensures.fills o hold ∙ ap (λ (k : Window). k.fills.items ++ given_back k.config.p c.args.cause o o.given) c.list_end.ensures.rest;
      ends = c.list_end.ensures.ends p o t;
      floor = floor_next c.checked_add-window.result c.remove-slot.result.block c.checked_add-window.ensures (omega arith) ∙ ap (λ k. k + 1) t.block;
    }

pub returns-clause-changes : goal.returns-clause-changes
returns-clause-changes c =
    ap (λ (k : Window). record k { floor = c.checked_add-window.result; slots = c.list_end.new.window.slots; spare = c.release.new.spare; fills = c.release.new.fills; ends = c.list_end.new.window.ends }) c.list_end.ensures.rest
