-- What waits, its first and the rest.
use Rattle.std.proofs.Common.{◌≡◌, ℕ, ◌<◌, List, [], ◌∷◌, length, get_or, map, refl, sym, ap, subst, ◌∙◌, arith}
use Rattle.std.specs.Prelude.{◌==◌, position, remove, Option, Some, None, IfSome}
use Rattle.gvcp_wire.specs.declared.resend.Resend.{Resend}
use Rattle.acquisition_machine.specs.Machine.{Input, State, open_at}
use Rattle.acquisition_machine.specs.Runs.{After}
use Rattle.acquisition_machine.specs.Sound.{IsSound}
use Rattle.acquisition_machine.proofs.Window.{blocks_are_in_order}
use Rattle.acq_core.specs.declared.asked.Asked.{Asked}
use Rattle.acq_core.specs.declared.slot.Slot.{Slot}
use Rattle.acq_core.specs.declared.window.Window.{Window}
use Rattle.acq_core.specs.Standing.{SlotStands, Acts}
use Rattle.acq_core.specs.Receiver.{config_of, rounds_of, Stands, IsReceiver}
use Rattle.acq_core.proofs.Places.{at_found, found_none}

-- what the requests of a list ask for
abbrev pub resends : List Asked → List Resend
resends xs = map (λ (a : Asked). a.resend) xs

pub resend_taken : (xs : List Asked) → 0 < length xs → (r : Resend) × (resends xs ≡ r ∷ resends (remove xs 0))
resend_taken [] some = absurd (omega arith)
resend_taken (a ∷ xs) some = (a.resend, refl)

pub resend_first : (xs : List Asked) (a : Asked) → 0 < length xs → a ≡ get_or xs 0 a → (rest : List Resend) × (resends xs ≡ a.resend ∷ rest)
resend_first [] a some e = absurd (omega arith)
resend_first (b ∷ bs) a some e = (resends bs, ap (λ (k : Asked). k.resend ∷ resends bs) (sym e))

pub round_some : (m : Window) (s : State) (b at : ℕ) (x : Slot) → Acts m s → IsSound m.config s → position (λ y. y.block == b) m.slots.items ≡ Some at → x ≡ get_or m.slots.items at x → x.rounds ≡ rounds_of (open_at b s.opens)
round_some m s b at x acts sound is e =
    let a = at_found m.config.p b s.floor at m.slots.items s.opens acts.slots sound.rise is in
    let stands : SlotStands m.config.p x a.block = subst (λ (y : Slot). SlotStands m.config.p y a.block) (sym e) (a.slot x) in
    stands.rounds ∙ sym (ap rounds_of a.is)

pub round_none : (m : Window) (s : State) (b : ℕ) → Acts m s → position (λ y. y.block == b) m.slots.items ≡ None → 0 ≡ rounds_of (open_at b s.opens)
round_none m s b acts is = sym (ap rounds_of (found_none m.config.p b m.slots.items s.opens acts.slots is))

pub round_stands : (m : Window) (r : Option (Resend × ℕ)) → IsReceiver m → ((s : State) → Acts m s → IsSound m.config s → IfSome r (λ k. k.1 ≡ rounds_of (open_at k.0.block s.opens)))
    → (q : List Input) → Stands m q → IfSome r (λ k. k.1 ≡ rounds_of (open_at k.0.block (After (config_of m) q).opens))
round_stands m r is f q s = f (After m.config q) s (blocks_are_in_order m.config q is.room.config.window_some)
