use Rattle.std.proofs.Common.{◌∙◌, sym}
use Rattle.gentl_handles.proofs.Ordered.{found_under}
use Rattle.gentl_handles.proofs.storing.look_up.Goals as goal

pub returns-then-opened-handle : goal.returns-then-opened-handle
returns-then-opened-handle c =
    sym (found_under c.args.entries.now c.args.order.now c.requires.ordered.0 c.args.handle.key c.args.handle.serial c.in-Some.opened
    c.requires.stored c.requires.ordered.1 (sym c.get.ensures ∙ sym c.copied-kept.ensures ∙ c.in-Some.is) c.if-opened-handle.true)
