-- Bitmaps that have all packet ids.
use Rattle.std.proofs.Common.{◌≡◌, ℕ, List, [], ◌∷◌, ◌++◌, subst}
use Rattle.std.specs.Prelude.{Option, Some, None}
use Rattle.std.specs.List.{AllByRecursion}
use Rattle.stream_packets.specs.Packets.{StreamPacket}
use Rattle.acquisition_machine.specs.Blocks.{Given}
use Rattle.acq_core.specs.declared.slot.Spare.{Spare}
use Rattle.acq_core.specs.declared.slot.Hold.{Hold}
use Rattle.acq_core.specs.declared.slot.Hold.TheVariants.{Without}
use Rattle.acq_core.specs.Standing.{HoldsFor, IsHeld, IsWide}

pub wide_none : (xs : List Spare) → xs ≡ [] → AllByRecursion IsWide xs
wide_none xs none = rw none tt

more : (xs : List Spare) (x : Spare) → AllByRecursion IsWide xs → IsWide x → AllByRecursion IsWide (xs ++ x ∷ [])
more [] x wide one = (one, tt)
more (y ∷ ys) x wide one = (wide.0, more ys x wide.1 one)

-- one more pair
pub wide_more : (xs ys : List Spare) (x : Spare) → AllByRecursion IsWide xs → IsWide x → ys ≡ xs ++ x ∷ [] → AllByRecursion IsWide ys
wide_more xs ys x wide one is = rw is (more xs x wide one)

of_nothing : (p b : ℕ) (spare : Spare) (given : Option Given) (heard : List StreamPacket) → HoldsFor p b (Without spare) given heard → IsWide spare
of_nothing p b spare None heard h = h
of_nothing p b spare (Some g) heard h = absurd h

-- those of a block without a buffer
pub wide_waiting : (p : ℕ) (hold : Hold) (spare : Spare) → IsHeld p hold → hold ≡ Without spare → IsWide spare
wide_waiting p hold spare s is =
    of_nothing p s.block.block spare s.block.given s.block.heard (subst (λ h. HoldsFor p s.block.block h s.block.given s.block.heard) is s.holds)
