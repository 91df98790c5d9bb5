-- What came back tells of the run, and links that failed go back with their counts.
use Rattle.std.proofs.Common.{◌≡◌, ℕ, ◌+◌, ◌∙◌, Option, Some, None, refl, sym, subst, arith}
use Rattle.std.specs.Prelude.{IfSome}
use Rattle.gev_status.specs.declared.status.Status.TheVariants.{LinkFault, NoMemory, Usage}
use Rattle.gev_program.proofs.Counted.{one_rose}
use Rattle.gev_program.proofs.Promised.{ran_over}
use Rattle.gev_program.proofs.Answered.{links_kept, link_failed, writes_kept, run_understood}
use Rattle.gev_program.proofs.Completing.{run_ends}
use Rattle.gev_program.proofs.running.run_over.Goals as goal

unkept : {A : Type 0} (kept : Option A) (P : A → Type 0) → kept ≡ None → IfSome kept P
unkept kept P none = subst (λ k. IfSome k P) (sym none) tt

none_failed : (camera stream control : ℕ) → camera ≡ 0 → stream ≡ 0 → control ≡ 0 → camera + stream + control ≡ 0
none_failed camera stream control a b d = omega (arith, a, b, d)

no_fault : NoMemory ≡ LinkFault → ⊥
no_fault is = cc

no_usage : (place : ℕ) → NoMemory ≡ Usage place → ⊥
no_usage place is = cc

is_kept : {A : Type 0} (a : A) → Some a ≡ None → ⊥
is_kept a none = cc

pub returns-in-Ok-clause-live : goal.returns-in-Ok-clause-live
returns-in-Ok-clause-live g c =
    ran_over _ _ _ _ _ _ _ _ _ _ _ _ _ _ _ _ _ _ _ _ _ _ _ _
    c.requires.untold (rw c.give_back.ensures.told at c.live_over-status.ensures.live) c.witness.ensures.run c.give_back.ensures.links c.give_back.ensures.clocks

pub returns-in-Ok-clause-link_fault : goal.returns-in-Ok-clause-link_fault
returns-in-Ok-clause-link_fault g c =
    λ is.
    c.give_back.ensures.faults.rises
    (one_rose _ _ _ _ _ _ c.requires.untold.camera.no_fault c.requires.untold.stream.no_fault c.requires.untold.control.no_fault
    (link_failed c.args.numbers _ _ _ _ _ _ _ _ _ _ (rw c.give_back.ensures.told at c.live_over-status.ensures.live) is))

pub returns-in-Ok-clause-links_steady : goal.returns-in-Ok-clause-links_steady
returns-in-Ok-clause-links_steady g c =
    λ other.
    let kept = links_kept c.args.numbers _ _ _ _ _ _ _ _ _ _ (rw c.give_back.ensures.told at c.live_over-status.ensures.live) other in
    c.give_back.ensures.faults.stays
    (omega (arith, kept.camera, kept.stream, kept.control, c.requires.untold.camera.no_fault, c.requires.untold.stream.no_fault, c.requires.untold.control.no_fault))

pub returns-in-Ok-clause-writes_steady : goal.returns-in-Ok-clause-writes_steady
returns-in-Ok-clause-writes_steady g c = λ other. writes_kept c.args.numbers _ _ _ _ _ _ _ _ _ _ c.live_over-status.ensures.live other

pub returns-in-Ok-clause-complete : goal.returns-in-Ok-clause-complete
returns-in-Ok-clause-complete g c = λ none other. run_ends c.args.numbers _ _ _ _ _ _ _ _ _ _ c.live_over-status.ensures.live none other

pub returns-in-Ok-clause-alone : goal.returns-in-Ok-clause-alone
returns-in-Ok-clause-alone g c = c.live_over-status.ensures.alone

pub returns-in-Ok-clause-own : goal.returns-in-Ok-clause-own
returns-in-Ok-clause-own g c = c.live_over-status.ensures.table ∙ c.in-Ok.ensures.table

pub returns-in-Ok-clause-wanting : goal.returns-in-Ok-clause-wanting
returns-in-Ok-clause-wanting g c = λ none. absurd (is_kept _ none)

pub returns-in-Ok-clause-back : goal.returns-in-Ok-clause-back
returns-in-Ok-clause-back g c = λ none. absurd (is_kept _ none)

pub returns-in-Ok-clause-unwritten : goal.returns-in-Ok-clause-unwritten
returns-in-Ok-clause-unwritten g c = λ none. absurd (is_kept _ none)

pub returns-in-Ok-clause-no_fault : goal.returns-in-Ok-clause-no_fault
returns-in-Ok-clause-no_fault g c = λ none. absurd (is_kept _ none)

pub returns-in-Ok-clause-binds : goal.returns-in-Ok-clause-binds
returns-in-Ok-clause-binds g c = c.give_back.ensures.binds

pub returns-in-Ok-clause-bound : goal.returns-in-Ok-clause-bound
returns-in-Ok-clause-bound g c = c.give_back.ensures.bound

pub returns-in-Ok-clause-understood : goal.returns-in-Ok-clause-understood
returns-in-Ok-clause-understood g c = run_understood c.args.numbers _ _ _ _ _ _ _ _ _ _ c.live_over-status.ensures.live

pub returns-in-Err-clause-live : goal.returns-in-Err-clause-live
returns-in-Err-clause-live g c = unkept _ _ c.requires.unkept

pub returns-in-Err-clause-alone : goal.returns-in-Err-clause-alone
returns-in-Err-clause-alone g c = unkept _ _ c.requires.unkept

pub returns-in-Err-clause-own : goal.returns-in-Err-clause-own
returns-in-Err-clause-own g c = unkept _ _ c.requires.unkept

pub returns-in-Err-clause-unwritten : goal.returns-in-Err-clause-unwritten
returns-in-Err-clause-unwritten g c = λ _. refl

pub returns-in-Err-clause-no_fault : goal.returns-in-Err-clause-no_fault
returns-in-Err-clause-no_fault g c = λ _. refl

pub returns-in-Err-clause-wanting : goal.returns-in-Err-clause-wanting
returns-in-Err-clause-wanting g c = λ _. refl

pub returns-in-Err-clause-writes_steady : goal.returns-in-Err-clause-writes_steady
returns-in-Err-clause-writes_steady g c = λ _. refl

pub returns-in-Err-clause-back : goal.returns-in-Err-clause-back
returns-in-Err-clause-back g c =
    λ _. record {
      camera = c.args.ends.camera;
      stream = c.args.ends.stream;
      control = c.args.ends.control;
      camera_clock = c.args.ends.camera_clock;
      host_clock = c.args.ends.host_clock;
      app_clock = c.args.ends.app_clock;
      untold = rw c.give_back-in-Err.ensures.told at c.requires.untold;
      links_back = c.give_back-in-Err.ensures.links;
      clocks_back = c.give_back-in-Err.ensures.clocks;
    }

pub returns-in-Err-clause-binds : goal.returns-in-Err-clause-binds
returns-in-Err-clause-binds g c = c.give_back-in-Err.ensures.binds

pub returns-in-Err-clause-bound : goal.returns-in-Err-clause-bound
returns-in-Err-clause-bound g c = c.give_back-in-Err.ensures.bound

pub returns-in-Err-clause-link_fault : goal.returns-in-Err-clause-link_fault
returns-in-Err-clause-link_fault g c = λ is. absurd (no_fault is)

pub returns-in-Err-clause-links_steady : goal.returns-in-Err-clause-links_steady
returns-in-Err-clause-links_steady g c =
    λ _.
    let untold = rw c.give_back-in-Err.ensures.told at c.requires.untold in
    c.give_back-in-Err.ensures.faults.stays (none_failed _ _ _ untold.camera.no_fault untold.stream.no_fault untold.control.no_fault)

pub returns-in-Err-clause-understood : goal.returns-in-Err-clause-understood
returns-in-Err-clause-understood g c = no_usage

pub returns-in-Err-clause-complete : goal.returns-in-Err-clause-complete
returns-in-Err-clause-complete g c = λ _ _. tt
