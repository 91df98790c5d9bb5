-- What was done is what the words ask for.
use Rattle.std.proofs.Common.{◌≡◌, ◌∙◌, ℕ, Ok, Err, refl}
use Rattle.gev_top.specs.declared.command.Command.TheVariants.{Replay, Explain}
use Rattle.gev_top.specs.declared.errand.Errand.{Errand}
use Rattle.gev_top.specs.declared.errand.Errand.TheVariants.{Plain, Live, Record, Discover, Description, Simulate, Receive, Register}
use Rattle.gev_top.specs.Usage.{Said}
use Rattle.gev_program.proofs.Errands.{said_is}
use Rattle.gev_program.proofs.Replaying.{replay_headline, explain_headline}
use Rattle.gev_program.proofs.Done.{does_is, unread_of, none_of, cameras_of, complete_of, writes_steady_of}
use Rattle.gev_program.proofs.top.gevacq_top.Goals as goal

pub returns-in-Ok-clause-cause : goal.returns-in-Ok-clause-cause
returns-in-Ok-clause-cause g c = λ command is. (does_is _ _ _ _ _ _ _ _ _ _ _ (Plain command) c.run_errand.ensures.does (said_is _ _ _ c.in-Ok.ensures.said is)).cause

pub returns-in-Ok-clause-exact : goal.returns-in-Ok-clause-exact
returns-in-Ok-clause-exact g c = λ command is. (does_is _ _ _ _ _ _ _ _ _ _ _ (Plain command) c.run_errand.ensures.does (said_is _ _ _ c.in-Ok.ensures.said is)).exact

pub returns-in-Ok-clause-headline : goal.returns-in-Ok-clause-headline
returns-in-Ok-clause-headline g c = λ is. replay_headline Replay _ _ _ _ _ _ _ _ _ refl (does_is _ _ _ _ _ _ _ _ _ _ _ (Plain Replay) c.run_errand.ensures.does (said_is _ _ _ c.in-Ok.ensures.said is)).cause

pub returns-in-Ok-clause-explained : goal.returns-in-Ok-clause-explained
returns-in-Ok-clause-explained g c = λ is. explain_headline Explain _ _ _ _ _ _ _ _ _ refl (does_is _ _ _ _ _ _ _ _ _ _ _ (Plain Explain) c.run_errand.ensures.does (said_is _ _ _ c.in-Ok.ensures.said is)).cause

pub returns-in-Ok-clause-plain_ports : goal.returns-in-Ok-clause-plain_ports
returns-in-Ok-clause-plain_ports g c = λ command is. (does_is _ _ _ _ _ _ _ _ _ _ _ (Plain command) c.run_errand.ensures.does (said_is _ _ _ c.in-Ok.ensures.said is)).ports

pub returns-in-Ok-clause-reads_steady : goal.returns-in-Ok-clause-reads_steady
returns-in-Ok-clause-reads_steady g c = λ command is. (does_is _ _ _ _ _ _ _ _ _ _ _ (Plain command) c.run_errand.ensures.does (said_is _ _ _ c.in-Ok.ensures.said is)).reads_steady

pub returns-in-Ok-clause-unread : goal.returns-in-Ok-clause-unread
returns-in-Ok-clause-unread g c = λ asked is. unread_of _ _ _ _ _ _ _ _ _ _ asked (does_is _ _ _ _ _ _ _ _ _ _ _ asked c.run_errand.ensures.does (said_is _ _ _ c.in-Ok.ensures.said is))

pub returns-in-Ok-clause-live : goal.returns-in-Ok-clause-live
returns-in-Ok-clause-live g c = λ n is. (does_is _ _ _ _ _ _ _ _ _ _ _ (Live n) c.run_errand.ensures.does (said_is _ _ _ c.in-Ok.ensures.said is)).runs

pub returns-in-Ok-clause-recorded : goal.returns-in-Ok-clause-recorded
returns-in-Ok-clause-recorded g c = λ n is. (does_is _ _ _ _ _ _ _ _ _ _ _ (Record n) c.run_errand.ensures.does (said_is _ _ _ c.in-Ok.ensures.said is)).runs

pub returns-in-Ok-clause-none : goal.returns-in-Ok-clause-none
returns-in-Ok-clause-none g c = λ asked is. none_of _ _ _ _ _ _ _ _ _ _ asked (does_is _ _ _ _ _ _ _ _ _ _ _ asked c.run_errand.ensures.does (said_is _ _ _ c.in-Ok.ensures.said is))

pub returns-in-Ok-clause-discovers : goal.returns-in-Ok-clause-discovers
returns-in-Ok-clause-discovers g c = λ address is. (does_is _ _ _ _ _ _ _ _ _ _ _ (Discover address) c.run_errand.ensures.does (said_is _ _ _ c.in-Ok.ensures.said is)).asks

pub returns-in-Ok-clause-describes : goal.returns-in-Ok-clause-describes
returns-in-Ok-clause-describes g c = λ camera is. (does_is _ _ _ _ _ _ _ _ _ _ _ (Description camera) c.run_errand.ensures.does (said_is _ _ _ c.in-Ok.ensures.said is)).asks

pub returns-in-Ok-clause-registers : goal.returns-in-Ok-clause-registers
returns-in-Ok-clause-registers g c = λ asked is. (does_is _ _ _ _ _ _ _ _ _ _ _ (Register asked) c.run_errand.ensures.does (said_is _ _ _ c.in-Ok.ensures.said is)).registers

pub returns-in-Ok-clause-cameras : goal.returns-in-Ok-clause-cameras
returns-in-Ok-clause-cameras g c = λ asked is. cameras_of _ _ _ _ _ _ _ _ _ _ asked (does_is _ _ _ _ _ _ _ _ _ _ _ asked c.run_errand.ensures.does (said_is _ _ _ c.in-Ok.ensures.said is))

pub returns-in-Ok-clause-simulates : goal.returns-in-Ok-clause-simulates
returns-in-Ok-clause-simulates g c = λ asked is. ((does_is _ _ _ _ _ _ _ _ _ _ _ (Simulate asked) c.run_errand.ensures.does (said_is _ _ _ c.in-Ok.ensures.said is)).simulates, (does_is _ _ _ _ _ _ _ _ _ _ _ (Simulate asked) c.run_errand.ensures.does (said_is _ _ _ c.in-Ok.ensures.said is)).unkept)

pub returns-in-Ok-clause-receives : goal.returns-in-Ok-clause-receives
returns-in-Ok-clause-receives g c = λ asked is. (does_is _ _ _ _ _ _ _ _ _ _ _ (Receive asked) c.run_errand.ensures.does (said_is _ _ _ c.in-Ok.ensures.said is)).receives

pub returns-in-Ok-clause-complete : goal.returns-in-Ok-clause-complete
returns-in-Ok-clause-complete g c = λ asked is. complete_of _ _ _ _ _ _ _ _ _ _ asked (does_is _ _ _ _ _ _ _ _ _ _ _ asked c.run_errand.ensures.does (said_is _ _ _ c.in-Ok.ensures.said is)) c.run_errand.ensures.link_fault

pub returns-in-Ok-clause-writes_steady : goal.returns-in-Ok-clause-writes_steady
returns-in-Ok-clause-writes_steady g c = λ asked is. writes_steady_of _ _ _ _ _ _ _ _ _ _ asked (does_is _ _ _ _ _ _ _ _ _ _ _ asked c.run_errand.ensures.does (said_is _ _ _ c.in-Ok.ensures.said is))

-- words that are refused ask for nothing
refused : {P : Type 0} (place : ℕ) (asked : Errand) (said : Said Errand) → Err place ≡ said → said ≡ Ok asked → P
refused place asked said a b = let e : Err place ≡ Ok asked = a ∙ b in cc

pub returns-in-Err-clause-cause : goal.returns-in-Err-clause-cause
returns-in-Err-clause-cause g c = λ _ is. refused _ _ _ c.in-Err.ensures.said is

pub returns-in-Err-clause-exact : goal.returns-in-Err-clause-exact
returns-in-Err-clause-exact g c = λ _ is. refused _ _ _ c.in-Err.ensures.said is

pub returns-in-Err-clause-headline : goal.returns-in-Err-clause-headline
returns-in-Err-clause-headline g c = λ is. refused _ _ _ c.in-Err.ensures.said is

pub returns-in-Err-clause-explained : goal.returns-in-Err-clause-explained
returns-in-Err-clause-explained g c = λ is. refused _ _ _ c.in-Err.ensures.said is

pub returns-in-Err-clause-plain_ports : goal.returns-in-Err-clause-plain_ports
returns-in-Err-clause-plain_ports g c = λ _ is. refused _ _ _ c.in-Err.ensures.said is

pub returns-in-Err-clause-unread : goal.returns-in-Err-clause-unread
returns-in-Err-clause-unread g c = λ _ is. refused _ _ _ c.in-Err.ensures.said is

pub returns-in-Err-clause-live : goal.returns-in-Err-clause-live
returns-in-Err-clause-live g c = λ _ is. refused _ _ _ c.in-Err.ensures.said is

pub returns-in-Err-clause-recorded : goal.returns-in-Err-clause-recorded
returns-in-Err-clause-recorded g c = λ _ is. refused _ _ _ c.in-Err.ensures.said is

pub returns-in-Err-clause-none : goal.returns-in-Err-clause-none
returns-in-Err-clause-none g c = λ _ is. refused _ _ _ c.in-Err.ensures.said is

pub returns-in-Err-clause-discovers : goal.returns-in-Err-clause-discovers
returns-in-Err-clause-discovers g c = λ _ is. refused _ _ _ c.in-Err.ensures.said is

pub returns-in-Err-clause-describes : goal.returns-in-Err-clause-describes
returns-in-Err-clause-describes g c = λ _ is. refused _ _ _ c.in-Err.ensures.said is

pub returns-in-Err-clause-registers : goal.returns-in-Err-clause-registers
returns-in-Err-clause-registers g c = λ _ is. refused _ _ _ c.in-Err.ensures.said is

pub returns-in-Err-clause-cameras : goal.returns-in-Err-clause-cameras
returns-in-Err-clause-cameras g c = λ _ is. refused _ _ _ c.in-Err.ensures.said is

pub returns-in-Err-clause-simulates : goal.returns-in-Err-clause-simulates
returns-in-Err-clause-simulates g c = λ _ is. refused _ _ _ c.in-Err.ensures.said is

pub returns-in-Err-clause-receives : goal.returns-in-Err-clause-receives
returns-in-Err-clause-receives g c = λ _ is. refused _ _ _ c.in-Err.ensures.said is

pub returns-in-Err-clause-complete : goal.returns-in-Err-clause-complete
returns-in-Err-clause-complete g c = λ _ is. refused _ _ _ c.in-Err.ensures.said is

pub returns-in-Err-clause-reads_steady : goal.returns-in-Err-clause-reads_steady
returns-in-Err-clause-reads_steady g c = λ _ is. refused _ _ _ c.in-Err.ensures.said is

pub returns-in-Err-clause-writes_steady : goal.returns-in-Err-clause-writes_steady
returns-in-Err-clause-writes_steady g c = λ _ is. refused _ _ _ c.in-Err.ensures.said is
