-- Turns that a turn ended that wasn't made whole.
use Rattle.std.proofs.Common.{◌≡◌, ℕ, Bool, List, Option, Err, subst, inl, inr}
use Rattle.camera_machine.specs.Camera.{Camera}
use Rattle.gev_serve.specs.Wires.{Wire, send_failed, gave_up}
use Rattle.camera_serving.specs.declared.kinds.TurnKind.{TurnKind}
use Rattle.camera_serving.specs.declared.kinds.Cut.{Cut}
use Rattle.camera_serving.specs.declared.kinds.Cut.TheVariants as cuts
use Rattle.camera_serving.specs.declared.ends.TurnsEnd.TheVariants.{Fault, NoMemory}
use Rattle.camera_serving.specs.Turns.{next_kind}
use Rattle.camera_serving.specs.Turning.{TakesPart, TakesTurn, Begins, EndsTurns}

pub fault_at : (rate most : ℕ) (with_input : Bool) (left left_after : Option (List ℕ)) (s camera new : Camera) (v between w : Wire) (told mid_told now_told : Option (List ℕ)) (kind : TurnKind) (cut : Cut)
    → (b : Begins rate with_input s camera v between told mid_told left left_after most) → kind ≡ next_kind rate b.made → cut ≡ cuts.Fault
    → TakesTurn kind (Err cut) camera new between w mid_told now_told → EndsTurns Fault rate most with_input left left_after s new v w told now_told
fault_at rate most with_input left left_after s camera new v between w told mid_told now_told kind cuts.Fault b is same (inl misses) =
    inl (record { camera = camera; between = between; mid_told = mid_told; begins = b; misses = misses })
fault_at rate most with_input left left_after s camera new v between w told mid_told now_told kind cuts.Fault b is same (inr part) =
    inr (record {
      camera = camera;
      between = between;
      mid_told = mid_told;
      begins = b;
      part = subst (λ (k : TurnKind). TakesPart k send_failed camera between w mid_told now_told) is part;
    })
fault_at rate most with_input left left_after s camera new v between w told mid_told now_told kind cuts.NoMemory b is same takes =
    let bad : ⊥ = cc in absurd bad

pub memory_at : (rate most : ℕ) (with_input : Bool) (left left_after : Option (List ℕ)) (s camera new : Camera) (v between w : Wire) (told mid_told now_told : Option (List ℕ)) (kind : TurnKind) (cut : Cut)
    → (b : Begins rate with_input s camera v between told mid_told left left_after most) → kind ≡ next_kind rate b.made → cut ≡ cuts.NoMemory
    → TakesTurn kind (Err cut) camera new between w mid_told now_told → EndsTurns NoMemory rate most with_input left left_after s new v w told now_told
memory_at rate most with_input left left_after s camera new v between w told mid_told now_told kind cuts.Fault b is same takes =
    let bad : ⊥ = cc in absurd bad
memory_at rate most with_input left left_after s camera new v between w told mid_told now_told kind cuts.NoMemory b is same part = record {
  camera = camera;
  between = between;
  mid_told = mid_told;
  begins = b;
  part = subst (λ (k : TurnKind). TakesPart k gave_up camera between w mid_told now_told) is part;
}
