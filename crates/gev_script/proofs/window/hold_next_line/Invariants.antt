use Rattle.std.proofs.Common.{◌≡◌, ◌-◌, ◌≤◌, length}
use Rattle.gev_script.proofs.Windows.{Came}
use Rattle.gev_script.proofs.window.hold_next_line.Given as goal

abbrev pub invariant-loop-window : goal.invariant-loop-window
invariant-loop-window g l = record {
  came : Came l.fn.window.held l.window.held (g.S.Source.left l.fn.source) (g.S.Source.left l.source);
  steady : g.S.Source.faults l.source ≡ g.S.Source.faults l.fn.source;
  few : length l.window.held ≤ 32768;
}

abbrev pub decreases-loop-window : goal.decreases-loop-window
decreases-loop-window g l = 40000 - length l.window.held
