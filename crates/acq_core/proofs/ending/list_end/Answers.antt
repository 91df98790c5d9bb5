-- Nothing is listed only where ends aren't told.
use Rattle.std.proofs.Common.{◌≡◌, List, ◌++◌, Bool, false, sym}
use Rattle.std.proofs.lemmas.List.{append-nil}
use Rattle.acq_core.specs.declared.ended.Ended.{Ended}
use Rattle.acq_core.specs.Ending.{told_end}
use Rattle.acq_core.proofs.ending.list_end.Goals as goal

none_told : (telling : Bool) (items : List Ended) (end : Ended) → telling ≡ false → items ≡ items ++ told_end telling end
none_told telling items end is = rw is (sym (append-nil items))

pub returns-then-not-window-clause-ends : goal.returns-then-not-window-clause-ends
returns-then-not-window-clause-ends c p o s = none_told c.args.window.now.telling c.args.window.now.ends.items _ (cc)
