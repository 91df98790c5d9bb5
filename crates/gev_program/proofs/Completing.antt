-- Answers where no count of faults rose.
use Rattle.std.proofs.Common.{◌≡◌, ◌≢◌, ℕ, List, Option, refl, sym, subst, inl, inr}
use Rattle.script_runs.specs.Verdicts.{IfTold}
use Rattle.board_machine.specs.declared.events.Entry.{Entry}
use Rattle.gev_links.specs.Links.{Address}
use Rattle.gev_status.specs.declared.status.Status.{Status}
use Rattle.gev_status.specs.declared.status.Status.TheVariants.{Done, Usage, BadScript, ReadFault, WriteFault, LinkFault, NoMemory, NoAnswer, Refused, TurnsSpent, BadCapture, NoPicture, Silent, Controlled, NoDescription, ControlLost, NoDatagram, RefusedAt}
use Rattle.gev_live.specs.Told.{Told}
use Rattle.gev_live.specs.Endings.{Wrote}
use Rattle.gev_program.specs.Runs.{RunsSo}
use Rattle.gev_top.specs.declared.command.Command.{Command}
use Rattle.gev_top.specs.declared.live_numbers.LiveNumbers.{LiveNumbers}
use Rattle.gev_top.specs.declared.errand.Errand.{Errand}
use Rattle.gev_top.specs.declared.errand.Errand.TheVariants.{Plain}
use Rattle.gev_top.specs.Answers.{Answers, IsDecided}
use Rattle.gev_top.specs.Completeness.{NoneRose, EndsLive, CompletesErrand}
use Rattle.gev_top.proofs.Completing.{completes}

wrote_ends : (answer : Status) (text : List ℕ) (written written_after : Option (List ℕ)) (faults faults_after : ℕ) → Wrote answer text written written_after faults faults_after
    → NoneRose faults faults_after → answer ≢ LinkFault → EndsLive answer
wrote_ends Done text written written_after faults faults_after wrote none other = tt
wrote_ends (NoAnswer req) text written written_after faults faults_after wrote none other = tt
wrote_ends (Refused status) text written written_after faults faults_after wrote none other = tt
wrote_ends (TurnsSpent turns frames) text written written_after faults faults_after wrote none other = tt
wrote_ends NoMemory text written written_after faults faults_after wrote none other = tt
wrote_ends WriteFault text written written_after faults faults_after wrote none other = none wrote.1
wrote_ends LinkFault text written written_after faults faults_after wrote none other = other refl
wrote_ends ReadFault text written written_after faults faults_after wrote none other = wrote
wrote_ends (Usage place) text written written_after faults faults_after wrote none other = wrote
wrote_ends (BadScript line kind) text written written_after faults faults_after wrote none other = wrote
wrote_ends (BadCapture number kind) text written written_after faults faults_after wrote none other = wrote
wrote_ends (NoPicture why) text written written_after faults faults_after wrote none other = wrote
wrote_ends (Silent frames) text written written_after faults faults_after wrote none other = wrote
wrote_ends Controlled text written written_after faults faults_after wrote none other = wrote
wrote_ends NoDescription text written written_after faults faults_after wrote none other = wrote
wrote_ends (ControlLost frames) text written written_after faults faults_after wrote none other = wrote
wrote_ends (NoDatagram port) text written written_after faults faults_after wrote none other = wrote
wrote_ends (RefusedAt register code) text written written_after faults faults_after wrote none other = wrote

pub run_ends : (n : LiveNumbers) (camera stream : Address) (answer : Status) (o e : Told) (written written_after : Option (List ℕ)) (faults faults_after : ℕ) (h : List Entry)
    → RunsSo n camera stream answer o e written written_after faults faults_after h → NoneRose faults faults_after → answer ≢ LinkFault → EndsLive answer
run_ends n camera stream answer o e written written_after faults faults_after h (inl (one, inl run)) none other =
    wrote_ends answer _ written written_after faults faults_after run.ended.wrote none other
run_ends n camera stream answer o e written written_after faults faults_after h (inr (more, inl run)) none other =
    wrote_ends answer _ written written_after faults faults_after run.ended.wrote none other
run_ends n camera stream answer o e written written_after faults faults_after h (inl (one, inr never)) none other = subst EndsLive (sym never.wanted) tt
run_ends n camera stream answer o e written written_after faults faults_after h (inr (more, inr never)) none other = subst EndsLive (sym never.wanted) tt

-- a command is asked for that makes no use of ports
pub plain_completes : (command : Command) (asked : Errand) (status : Status) (left left_after : Option (List ℕ)) (reads reads_after : ℕ) (written written_after : Option (List ℕ)) (writes writes_after : ℕ)
    → Plain command ≡ asked → Answers command status left left_after reads reads_after written written_after writes writes_after
    → IfTold left (λ content. IsDecided command status content) → NoneRose reads reads_after → NoneRose writes writes_after → CompletesErrand asked left status
plain_completes command asked status left left_after reads reads_after written written_after writes writes_after is answers decided none none_written =
    subst (λ (errand : Errand). CompletesErrand errand left status) is
    (record { answer = completes command status left left_after reads reads_after written written_after writes writes_after answers none none_written; decided = decided })
