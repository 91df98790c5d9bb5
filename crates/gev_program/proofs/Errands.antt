-- What is asked for, and that no command over source and sink alone is answered by a link's fault.
use Rattle.std.proofs.Common.{◌≡◌, ℕ, List, Option, Ok, sym, ◌∙◌, subst}
use Rattle.gev_world.specs.declared.soak_end.SoakEnd.{SoakEnd}
use Rattle.gev_world.specs.declared.soak_end.SoakEnd.TheVariants as soaks
use Rattle.gev_status.specs.declared.status.Status.{Status}
use Rattle.gev_status.specs.declared.status.Status.TheVariants.{LinkFault}
use Rattle.gev_top.specs.declared.command.Command.{Command}
use Rattle.gev_top.specs.declared.command.Command.TheVariants.{Replay, Explain, Image, Streams, Capture, Camera, Make, Soak}
use Rattle.gev_top.specs.declared.errand.Errand.{Errand}
use Rattle.gev_top.specs.declared.errand.Errand.TheVariants.{Plain, Discover, Description}
use Rattle.gev_top.specs.Usage.{Said}
use Rattle.gev_top.specs.Answers.{Answers}
use Rattle.gev_top.specs.Soaking.{status_after}

soak_links : (end : SoakEnd) → LinkFault ≡ status_after end → ⊥
soak_links soaks.Done is = cc
soak_links soaks.WriteFault is = cc
soak_links soaks.NoMemory is = cc
soak_links (soaks.NoAnswer req) is = cc
soak_links (soaks.Refused status) is = cc

no_links : (command : Command) (left left_after : Option (List ℕ)) (reads reads_after : ℕ) (written written_after : Option (List ℕ)) (writes writes_after : ℕ)
    → Answers command LinkFault left left_after reads reads_after written written_after writes writes_after → ⊥
no_links Replay left left_after reads reads_after written written_after writes writes_after bad = bad
no_links Explain left left_after reads reads_after written written_after writes writes_after bad = bad
no_links (Image wanted) left left_after reads reads_after written written_after writes writes_after bad = bad
no_links Streams left left_after reads reads_after written written_after writes writes_after bad = bad
no_links (Capture port p bytes) left left_after reads reads_after written written_after writes writes_after bad = bad
no_links Camera left left_after reads reads_after written written_after writes writes_after bad = bad
no_links (Make seed frames rates) left left_after reads reads_after written written_after writes writes_after bad = bad.wrote
no_links (Soak seed frames rates short) left left_after reads reads_after written written_after writes writes_after bad = soak_links bad.wrote.end bad.wrote.is

pub never_links : (command : Command) (status : Status) (left left_after : Option (List ℕ)) (reads reads_after : ℕ) (written written_after : Option (List ℕ)) (writes writes_after : ℕ)
    → Answers command status left left_after reads reads_after written written_after writes writes_after → status ≡ LinkFault → ⊥
never_links command status left left_after reads reads_after written written_after writes writes_after answers is =
    no_links command left left_after reads reads_after written written_after writes writes_after
    (subst (λ (s : Status). Answers command s left left_after reads reads_after written written_after writes writes_after) is answers)

-- what the words say is what was read
pub said_is : (made asked : Errand) (said : Said Errand) → Ok made ≡ said → said ≡ Ok asked → made ≡ asked
said_is made asked said a b = let e : Ok made ≡ Ok asked = a ∙ b in cc

pub command_is : (made asked : Command) (errand : Errand) → errand ≡ Plain made → errand ≡ Plain asked → made ≡ asked
command_is made asked errand a b = let e : Plain made ≡ Plain asked = sym a ∙ b in cc

pub discover_is : (made asked : ℕ) (errand : Errand) → errand ≡ Discover made → errand ≡ Discover asked → made ≡ asked
discover_is made asked errand a b = let e : Discover made ≡ Discover asked = sym a ∙ b in cc

pub description_is : (made asked : ℕ) (errand : Errand) → errand ≡ Description made → errand ≡ Description asked → made ≡ asked
description_is made asked errand a b = let e : Description made ≡ Description asked = sym a ∙ b in cc
