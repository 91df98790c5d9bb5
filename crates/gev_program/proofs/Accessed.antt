-- How accesses to a camera's registers end.
use Rattle.std.proofs.Common.{◌≡◌, ◌≢◌, ℕ, false, Ok, Err, refl}
use Rattle.gev_links.specs.Faults.{Rose}
use Rattle.gev_control.specs.Sends.{Fails}
use Rattle.gev_status.specs.declared.status.Status.TheVariants as status
use Rattle.camera_registers.specs.declared.register_fault.RegisterFault.TheVariants as fault
use Rattle.camera_registers.specs.Registers.{Outcome, is_fault}
use Rattle.gev_top.specs.Completeness.{NoneRose, EndsRegisters}
use Rattle.gev_program.specs.Cameras.{register_status}

pub register_links : (end : Outcome) (links links_after : ℕ) → Fails false (is_fault end) links links_after → register_status end ≡ status.LinkFault → Rose links links_after
register_links (Ok done) links links_after fails is = let bad : ⊥ = cc in absurd bad
register_links (Err fault.LinkFault) links links_after fails is = fails
register_links (Err fault.WriteFault) links links_after fails is = let bad : ⊥ = cc in absurd bad
register_links (Err (fault.NoAnswer req)) links links_after fails is = let bad : ⊥ = cc in absurd bad
register_links (Err (fault.RefusedAt register code)) links links_after fails is = let bad : ⊥ = cc in absurd bad
register_links (Err fault.Controlled) links links_after fails is = let bad : ⊥ = cc in absurd bad

pub register_steady : (end : Outcome) (links links_after : ℕ) → Fails false (is_fault end) links links_after → register_status end ≢ status.LinkFault
    → links_after ≡ links
register_steady (Ok done) links links_after fails other = fails
register_steady (Err fault.LinkFault) links links_after fails other = absurd (other refl)
register_steady (Err fault.WriteFault) links links_after fails other = fails
register_steady (Err (fault.NoAnswer req)) links links_after fails other = fails
register_steady (Err (fault.RefusedAt register code)) links links_after fails other = fails
register_steady (Err fault.Controlled) links links_after fails other = fails

pub register_says : (end : Outcome) (place : ℕ) → register_status end ≢ status.Usage place
register_says (Ok done) place = λ is. let bad : ⊥ = cc in bad
register_says (Err fault.LinkFault) place = λ is. let bad : ⊥ = cc in bad
register_says (Err fault.WriteFault) place = λ is. let bad : ⊥ = cc in bad
register_says (Err (fault.NoAnswer req)) place = λ is. let bad : ⊥ = cc in bad
register_says (Err (fault.RefusedAt register code)) place = λ is. let bad : ⊥ = cc in bad
register_says (Err fault.Controlled) place = λ is. let bad : ⊥ = cc in bad

pub register_ends : (end : Outcome) (links links_after writes writes_after : ℕ) → Fails false (is_fault end) links links_after
    → (end ≡ Err fault.WriteFault → Rose writes writes_after) → NoneRose writes writes_after → NoneRose links links_after
    → EndsRegisters (register_status end)
register_ends (Ok done) links links_after writes writes_after fails unwritten none_written none = tt
register_ends (Err fault.LinkFault) links links_after writes writes_after fails unwritten none_written none = absurd (none fails)
register_ends (Err fault.WriteFault) links links_after writes writes_after fails unwritten none_written none = absurd (none_written (unwritten refl))
register_ends (Err (fault.NoAnswer req)) links links_after writes writes_after fails unwritten none_written none = tt
register_ends (Err (fault.RefusedAt register code)) links links_after writes writes_after fails unwritten none_written none = tt
register_ends (Err fault.Controlled) links links_after writes writes_after fails unwritten none_written none = tt
