-- The links were bound and the clocks taken, and the count of faults stood still until the run began.
use Rattle.std.proofs.Common.{◌≡◌, ℕ, Option, None, refl, sym, ◌∙◌, subst, inl, inr}
use Rattle.std.specs.Prelude.{IfSome}
use Rattle.gev_links.specs.Faults.{Rose}
use Rattle.gev_status.specs.declared.status.Status.{Status}
use Rattle.gev_status.specs.declared.status.Status.TheVariants.{LinkFault, NoMemory, Usage}
use Rattle.gev_program.specs.Runs.{RunsOver}
use Rattle.gev_program.proofs.Addresses.{bound_so}
use Rattle.gev_program.proofs.running.run_live.Goals as goal

unkept : {A : Type 0} (kept : Option A) (P : A → Type 0) → kept ≡ None → IfSome kept P
unkept kept P none = subst (λ k. IfSome k P) (sym none) tt

no_usage : (place : ℕ) → LinkFault ≡ Usage place → ⊥
no_usage place is = cc

neither : (answer : Status) → answer ≡ NoMemory → answer ≡ LinkFault → ⊥
neither answer wanted is = let bad : LinkFault ≡ NoMemory = sym is ∙ wanted in cc

pub returns-in-Ok-clause-live : goal.returns-in-Ok-clause-live
returns-in-Ok-clause-live g c =
    bound_so c.run_over.new.kept
    (λ k camera stream links clocks. RunsOver g.P.L.Link.received g.P.L.Link.sent g.P.L.Link.faults g.P.C.Clock.told c.args.numbers camera stream c.run_over.result links
    (g.P.Ports.links c.run_over.new.ports) clocks (g.P.Ports.clocks c.run_over.new.ports) (g.K.Sink.written c.args.sink.now) (g.K.Sink.written c.run_over.new.sink)
    (g.K.Sink.faults c.args.sink.now) (g.K.Sink.faults c.run_over.new.sink) k.1.seen)
    _ _ _ _ _ _ _ _ _ _ c.in-Ok.ensures.bound c.run_over.ensures.bound c.in-Ok.ensures.links c.bind_three.ensures.clocks c.run_over.ensures.live

pub returns-in-Ok-clause-link_fault : goal.returns-in-Ok-clause-link_fault
returns-in-Ok-clause-link_fault g c fault =
    subst (λ before. Rose before (g.P.Ports.faults c.run_over.new.ports)) c.in-Ok.ensures.no_fault (c.run_over.ensures.link_fault fault)

pub returns-in-Ok-clause-alone : goal.returns-in-Ok-clause-alone
returns-in-Ok-clause-alone g c = c.run_over.ensures.alone

pub returns-in-Ok-clause-own : goal.returns-in-Ok-clause-own
returns-in-Ok-clause-own g c = c.run_over.ensures.own

pub returns-in-Ok-clause-writes_steady : goal.returns-in-Ok-clause-writes_steady
returns-in-Ok-clause-writes_steady g c = c.run_over.ensures.writes_steady

pub returns-in-Ok-clause-understood : goal.returns-in-Ok-clause-understood
returns-in-Ok-clause-understood g c = c.run_over.ensures.understood

pub returns-in-Ok-clause-complete : goal.returns-in-Ok-clause-complete
returns-in-Ok-clause-complete g c = c.run_over.ensures.complete

pub returns-in-Ok-clause-links_steady : goal.returns-in-Ok-clause-links_steady
returns-in-Ok-clause-links_steady g c = λ steady. c.run_over.ensures.links_steady steady ∙ c.in-Ok.ensures.no_fault

pub returns-in-Ok-clause-none : goal.returns-in-Ok-clause-none
returns-in-Ok-clause-none g c =
    λ none. record {
      cause = inr (c.run_over.ensures.wanting none);
      unbound = λ fault. absurd (neither c.run_over.result (c.run_over.ensures.wanting none) fault);
      back = λ _. (c.run_over.ensures.binds ∙ c.in-Ok.ensures.called, rw (c.in-Ok.ensures.links, c.bind_three.ensures.clocks) at (c.run_over.ensures.back none));
      unwritten = c.run_over.ensures.unwritten none;
      no_fault = c.run_over.ensures.no_fault none;
    }

pub returns-in-Ok-clause-binds : goal.returns-in-Ok-clause-binds
returns-in-Ok-clause-binds g c = rw c.run_over.ensures.binds c.bind_three.ensures.few

pub returns-in-Err-clause-live : goal.returns-in-Err-clause-live
returns-in-Err-clause-live g c = unkept _ _ c.requires.unkept

pub returns-in-Err-clause-alone : goal.returns-in-Err-clause-alone
returns-in-Err-clause-alone g c = unkept _ _ c.requires.unkept

pub returns-in-Err-clause-own : goal.returns-in-Err-clause-own
returns-in-Err-clause-own g c = unkept _ _ c.requires.unkept

pub returns-in-Err-clause-none : goal.returns-in-Err-clause-none
returns-in-Err-clause-none g c =
    λ _. record {
      cause = inl refl;
      unbound = λ _. (c.in-Err.ensures.back, c.bind_three.ensures.clocks);
      back = λ wanted. absurd (neither LinkFault wanted refl);
      unwritten = refl;
      no_fault = refl;
    }

pub returns-in-Err-clause-binds : goal.returns-in-Err-clause-binds
returns-in-Err-clause-binds g c = c.bind_three.ensures.few

pub returns-in-Err-clause-link_fault : goal.returns-in-Err-clause-link_fault
returns-in-Err-clause-link_fault g c = λ _. c.in-Err.ensures.failed

pub returns-in-Err-clause-links_steady : goal.returns-in-Err-clause-links_steady
returns-in-Err-clause-links_steady g c = λ other. absurd (other refl)

pub returns-in-Err-clause-writes_steady : goal.returns-in-Err-clause-writes_steady
returns-in-Err-clause-writes_steady g c = λ _. refl

pub returns-in-Err-clause-understood : goal.returns-in-Err-clause-understood
returns-in-Err-clause-understood g c = no_usage

pub returns-in-Err-clause-complete : goal.returns-in-Err-clause-complete
returns-in-Err-clause-complete g c = λ _ other. absurd (other refl)
