use Rattle.std.proofs.Common.{◌≡◌, refl, ◌∙◌, arith}
use Rattle.gev_script.specs.Streams.{IsLine, IsLong}
use Rattle.gev_script.proofs.Windows.{came_none, came_behind, longer_behind, reads_on, ends_spent, ends_failed}
use Rattle.gev_script.proofs.window.hold_next_line.Goals as goal

pub loop-window-init : goal.loop-window-init
loop-window-init g c = record { came = came_none _ _; steady = refl; few = c.requires }

pub loop-window-preserved : goal.loop-window-preserved
loop-window-preserved g c = record {
  came =
      came_behind _ _ _ _ _ _ _ _ c.loop-window.invariant.came c.in-Open.ensures.finds.0 c.in-Open.ensures.finds.1
      c.in-Ok.ensures.more;
  steady = c.in-Ok.ensures.no_fault ∙ c.loop-window.invariant.steady;
  few = c.read_more.ensures.few;
}

pub loop-window-smaller : goal.loop-window-smaller
loop-window-smaller g c = longer_behind _ _ _ _ _ _ c.in-Open.ensures.finds.0 c.in-Open.ensures.finds.1 c.in-Ok.ensures.more (omega arith)

pub returns-in-Line-clause-takes : goal.returns-in-Line-clause-takes
returns-in-Line-clause-takes g c =
    reads_on _ _ _ _ (λ bytes. IsLine bytes c.find_line.new.self.line c.find_line.new.self.held)
    c.loop-window.invariant.came c.loop-window.invariant.few c.in-Line.ensures.finds

pub returns-in-Line-clause-steady : goal.returns-in-Line-clause-steady
returns-in-Line-clause-steady g c = λ _. c.loop-window.invariant.steady

pub returns-in-Line-clause-never_falls : goal.returns-in-Line-clause-never_falls
returns-in-Line-clause-never_falls g c = omega arith

pub returns-in-Long-clause-takes : goal.returns-in-Long-clause-takes
returns-in-Long-clause-takes g c =
    reads_on _ _ _ _ (λ bytes. IsLong bytes × (c.find_line.new.self.held ≡ bytes))
    c.loop-window.invariant.came c.loop-window.invariant.few c.in-Long.ensures.finds

pub returns-in-Long-clause-steady : goal.returns-in-Long-clause-steady
returns-in-Long-clause-steady g c = λ _. c.loop-window.invariant.steady

pub returns-in-Long-clause-never_falls : goal.returns-in-Long-clause-never_falls
returns-in-Long-clause-never_falls g c = omega arith

pub returns-in-Ok-eq0-clause-takes : goal.returns-in-Ok-eq0-clause-takes
returns-in-Ok-eq0-clause-takes g c =
    ends_spent _ _ _ _ _ _ _ _ c.loop-window.invariant.came c.in-Open.ensures.finds.0 c.in-Open.ensures.finds.1
    c.in-Ok-eq0.ensures.more c.in-Ok-eq0.field-0-test c.read_more.ensures.few

pub returns-in-Ok-eq0-clause-steady : goal.returns-in-Ok-eq0-clause-steady
returns-in-Ok-eq0-clause-steady g c = λ _. c.in-Ok-eq0.ensures.no_fault ∙ c.loop-window.invariant.steady

pub returns-in-Ok-eq0-clause-never_falls : goal.returns-in-Ok-eq0-clause-never_falls
returns-in-Ok-eq0-clause-never_falls g c = omega arith

pub returns-in-Err-clause-takes : goal.returns-in-Err-clause-takes
returns-in-Err-clause-takes g c =
    ends_failed _ _ _ _ _ _ _ _ _ c.loop-window.invariant.came c.in-Open.ensures.finds.0 c.in-Open.ensures.finds.1
    c.in-Err.ensures.kept c.in-Err.ensures.untaken c.loop-window.invariant.few (rw c.loop-window.invariant.steady at c.in-Err.ensures.failed)

pub returns-in-Err-clause-steady : goal.returns-in-Err-clause-steady
returns-in-Err-clause-steady g c = λ other. absurd (other refl)

pub returns-in-Err-clause-never_falls : goal.returns-in-Err-clause-never_falls
returns-in-Err-clause-never_falls g c = omega arith
