-- How a simulated camera's run ends.
use Rattle.std.proofs.Common.{◌≡◌, ◌≢◌, ℕ, refl, sym, ◌∙◌}
use Rattle.gev_links.specs.Faults.{Rose}
use Rattle.gev_status.specs.declared.status.Status.TheVariants as status
use Rattle.camera_words.specs.declared.simulate_words.SimulateWords.{SimulateWords}
use Rattle.camera_serving.specs.declared.ends.SimulateEnd.{SimulateEnd}
use Rattle.camera_serving.specs.declared.ends.SimulateEnd.TheVariants.{Done, LinkFault, WriteFault, NoMemory}
use Rattle.gev_top.specs.declared.errand.Errand.{Errand}
use Rattle.gev_top.specs.declared.errand.Errand.TheVariants.{Simulate}
use Rattle.gev_top.specs.Completeness.{NoneRose, EndsSimulation}
use Rattle.gev_program.specs.Simulation.{simulate_status}

pub simulate_links : (end : SimulateEnd) → simulate_status end ≡ status.LinkFault → end ≡ LinkFault
simulate_links Done is = let bad : ⊥ = cc in absurd bad
simulate_links LinkFault is = refl
simulate_links WriteFault is = let bad : ⊥ = cc in absurd bad
simulate_links NoMemory is = let bad : ⊥ = cc in absurd bad

pub simulate_says : (end : SimulateEnd) (place : ℕ) → simulate_status end ≢ status.Usage place
simulate_says Done place = λ is. let bad : ⊥ = cc in bad
simulate_says LinkFault place = λ is. let bad : ⊥ = cc in bad
simulate_says WriteFault place = λ is. let bad : ⊥ = cc in bad
simulate_says NoMemory place = λ is. let bad : ⊥ = cc in bad

pub simulate_ends : (end : SimulateEnd) (links links_after writes writes_after : ℕ) → (end ≡ LinkFault → Rose links links_after)
    → (end ≡ WriteFault → Rose writes writes_after) → NoneRose writes writes_after → NoneRose links links_after → EndsSimulation (simulate_status end)
simulate_ends Done links links_after writes writes_after failed unwritten none_written none = tt
simulate_ends LinkFault links links_after writes writes_after failed unwritten none_written none = absurd (none (failed refl))
simulate_ends WriteFault links links_after writes writes_after failed unwritten none_written none = absurd (none_written (unwritten refl))
simulate_ends NoMemory links links_after writes writes_after failed unwritten none_written none = tt

pub simulate_is : (made asked : SimulateWords) (errand : Errand) → errand ≡ Simulate made → errand ≡ Simulate asked → made ≡ asked
simulate_is made asked errand a b = let e : Simulate made ≡ Simulate asked = sym a ∙ b in cc
