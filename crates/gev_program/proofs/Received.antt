-- How a run over a camera's frames ends.
use Rattle.std.proofs.Common.{◌≡◌, ◌≢◌, ◌≤◌, ℕ, List, Option, refl, sym, ◌∙◌, subst, arith}
use Rattle.gev_links.specs.Faults.{Rose}
use Rattle.gev_status.specs.declared.status.Status.{Status}
use Rattle.gev_status.specs.declared.status.Status.TheVariants.{Done, Usage, BadScript, ReadFault, WriteFault, LinkFault, NoMemory, NoAnswer, Refused, TurnsSpent, BadCapture, NoPicture, Silent, Controlled, NoDescription, ControlLost, NoDatagram, RefusedAt}
use Rattle.camera_words.specs.declared.settings.Settings.{Settings}
use Rattle.gev_receive.specs.Answers.{rank}
use Rattle.gev_top.specs.declared.errand.Errand.{Errand}
use Rattle.gev_top.specs.declared.errand.Errand.TheVariants.{Receive}
use Rattle.gev_top.specs.Completeness.{NoneRose, EndsReception, CompletesErrand}

too_many : 10 ≤ 9 → ⊥
too_many few = omega (arith, few)

pub receive_says : (answer : Status) (place : ℕ) → rank answer ≤ 9 → answer ≢ Usage place
receive_says (Usage at) place few = λ is. too_many few
receive_says Done place few = λ is. let bad : ⊥ = cc in bad
receive_says (BadScript line kind) place few = λ is. let bad : ⊥ = cc in bad
receive_says ReadFault place few = λ is. let bad : ⊥ = cc in bad
receive_says WriteFault place few = λ is. let bad : ⊥ = cc in bad
receive_says LinkFault place few = λ is. let bad : ⊥ = cc in bad
receive_says NoMemory place few = λ is. let bad : ⊥ = cc in bad
receive_says (NoAnswer req) place few = λ is. let bad : ⊥ = cc in bad
receive_says (Refused status) place few = λ is. let bad : ⊥ = cc in bad
receive_says (TurnsSpent turns frames) place few = λ is. let bad : ⊥ = cc in bad
receive_says (BadCapture number kind) place few = λ is. let bad : ⊥ = cc in bad
receive_says (NoPicture why) place few = λ is. let bad : ⊥ = cc in bad
receive_says (Silent frames) place few = λ is. let bad : ⊥ = cc in bad
receive_says Controlled place few = λ is. let bad : ⊥ = cc in bad
receive_says NoDescription place few = λ is. let bad : ⊥ = cc in bad
receive_says (ControlLost frames) place few = λ is. let bad : ⊥ = cc in bad
receive_says (NoDatagram port) place few = λ is. let bad : ⊥ = cc in bad
receive_says (RefusedAt register code) place few = λ is. let bad : ⊥ = cc in bad

pub receive_ends : (answer : Status) (links links_after writes writes_after : ℕ) → rank answer ≤ 9 → (answer ≡ LinkFault → Rose links links_after)
    → (answer ≡ WriteFault → Rose writes writes_after) → NoneRose writes writes_after → NoneRose links links_after → EndsReception answer
receive_ends Done links links_after writes writes_after few failed unwritten none_written none = tt
receive_ends (NoAnswer req) links links_after writes writes_after few failed unwritten none_written none = tt
receive_ends (RefusedAt register code) links links_after writes writes_after few failed unwritten none_written none = tt
receive_ends (NoPicture why) links links_after writes writes_after few failed unwritten none_written none = tt
receive_ends (Silent frames) links links_after writes writes_after few failed unwritten none_written none = tt
receive_ends Controlled links links_after writes writes_after few failed unwritten none_written none = tt
receive_ends (ControlLost frames) links links_after writes writes_after few failed unwritten none_written none = tt
receive_ends NoMemory links links_after writes writes_after few failed unwritten none_written none = tt
receive_ends LinkFault links links_after writes writes_after few failed unwritten none_written none = none (failed refl)
receive_ends WriteFault links links_after writes writes_after few failed unwritten none_written none = none_written (unwritten refl)
receive_ends ReadFault links links_after writes writes_after few failed unwritten none_written none = too_many few
receive_ends (Usage place) links links_after writes writes_after few failed unwritten none_written none = too_many few
receive_ends (BadScript line kind) links links_after writes writes_after few failed unwritten none_written none = too_many few
receive_ends (Refused status) links links_after writes writes_after few failed unwritten none_written none = too_many few
receive_ends (TurnsSpent turns frames) links links_after writes writes_after few failed unwritten none_written none = too_many few
receive_ends (BadCapture number kind) links links_after writes writes_after few failed unwritten none_written none = too_many few
receive_ends NoDescription links links_after writes writes_after few failed unwritten none_written none = too_many few
receive_ends (NoDatagram port) links links_after writes writes_after few failed unwritten none_written none = too_many few

pub receive_is : (made asked : Settings) (errand : Errand) → errand ≡ Receive made → errand ≡ Receive asked → made ≡ asked
receive_is made asked errand a b = let e : Receive made ≡ Receive asked = sym a ∙ b in cc

-- the frames of a camera are asked for
pub receive_completes : (made : Settings) (asked : Errand) (answer : Status) (left : Option (List ℕ)) → Receive made ≡ asked → EndsReception answer → CompletesErrand asked left answer
receive_completes made asked answer left is ends = subst (λ (errand : Errand). CompletesErrand errand left answer) is ends
