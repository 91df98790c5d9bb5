-- The link's count of faults, by how the turns ended.
use Rattle.std.proofs.Common.{◌≡◌, ◌≢◌, ℕ, zero, suc, List, Bool, Option, refl, sym, subst, ◌∙◌, inl, inr, arith}
use Rattle.camera_machine.specs.Camera.{Camera}
use Rattle.gev_links.specs.Faults.{Rose}
use Rattle.gev_links.specs.Given.{Raises}
use Rattle.gev_serve.specs.Wires.{Wire}
use Rattle.camera_serving.specs.declared.ends.TurnsEnd.{TurnsEnd}
use Rattle.camera_serving.specs.declared.ends.TurnsEnd.TheVariants.{Over, Fault, NoMemory}
use Rattle.camera_serving.specs.declared.ends.SimulateEnd.TheVariants.{LinkFault}
use Rattle.camera_serving.specs.Turning.{EndsTurns, WroteEnd}

pub turns_steady : (end : TurnsEnd) (rate most : ℕ) (with_input : Bool) (left left_after : Option (List ℕ)) (s new : Camera) (v w : Wire) (told now_told : Option (List ℕ))
    → EndsTurns end rate most with_input left left_after s new v w told now_told → end ≢ Fault → w.faults ≡ v.faults
turns_steady (Over turns frames) rate most with_input left left_after s new v w told now_told (inl spent) other = spent.serves.on.no_fault
turns_steady (Over turns frames) rate most with_input left left_after s new v w told now_told (inr ended) other = ended.serves.on.no_fault
turns_steady NoMemory rate most with_input left left_after s new v w told now_told ends other =
    ends.part.sends.ends ∙ (ends.part.unfailed ∙ ends.begins.serves.on.no_fault)
turns_steady Fault rate most with_input left left_after s new v w told now_told ends other = absurd (other refl)

pub turns_failed : (end : TurnsEnd) (rate most : ℕ) (with_input : Bool) (left left_after : Option (List ℕ)) (s new : Camera) (v w : Wire) (told now_told : Option (List ℕ))
    → EndsTurns end rate most with_input left left_after s new v w told now_told → end ≡ Fault → Rose v.faults w.faults
turns_failed (Over turns frames) rate most with_input left left_after s new v w told now_told ends is = let bad : ⊥ = cc in absurd bad
turns_failed NoMemory rate most with_input left left_after s new v w told now_told ends is = let bad : ⊥ = cc in absurd bad
turns_failed Fault rate most with_input left left_after s new v w told now_told (inl missing) is =
    subst (λ n. Rose n w.faults) missing.begins.serves.on.no_fault missing.misses.rose
turns_failed Fault rate most with_input left left_after s new v w told now_told (inr cut) is =
    subst (λ n. Rose n w.faults) (cut.part.unfailed ∙ cut.begins.serves.on.no_fault) cut.part.sends.ends

-- a run ends by a link's fault only where a turn did
pub faults_of_turns : (turns : TurnsEnd) (written written_after : Option (List ℕ)) → WroteEnd turns LinkFault written written_after → turns ≡ Fault
faults_of_turns (Over turns frames) written written_after bad = absurd bad
faults_of_turns Fault written written_after wrote = refl
faults_of_turns NoMemory written written_after bad = absurd bad

raised : (link old new : ℕ) → Rose 0 link → Raises link old new → Rose old new
raised zero old new (inl more) raises = let bad : ⊥ = omega (arith, more) in absurd bad
raised zero old new (inr last) raises = let bad : ⊥ = omega (arith, last) in absurd bad
raised (suc n) old new rose raises = raises

-- the count of ports that got a link back whose own count, which was 0, rose
pub rose_back : (begun link old before after end : ℕ) → begun ≡ 0 → Rose begun link → before ≡ old → Raises link before after → end ≡ after → Rose old end
rose_back begun link old before after end none rose same raises last =
    subst (λ n. Rose old n) (sym last)
    (subst (λ n. Rose n after) same (raised link before after (subst (λ n. Rose n link) none rose) raises))
