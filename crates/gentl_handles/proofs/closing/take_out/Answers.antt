use Rattle.std.proofs.Common.{◌∙◌, length, ap, sym, subst, arith}
use Rattle.std.specs.Prelude.{is_some}
use Rattle.gentl_handles.specs.Storing.{opened_by, AreStored}
use Rattle.gentl_handles.proofs.Stored.{opened_less, stored_less, some_at, on_some}
use Rattle.gentl_handles.proofs.closing.take_out.Goals as goal

pub returns-clause-order : goal.returns-clause-order
returns-clause-order c =
    ap (λ l. opened_by c.try_remove.new.self l) c.remove-key.ensures.items
    ∙ opened_less c.args.entries.now c.try_remove.new.self c.remove-key.result c.args.order.now.items c.args.place
    c.requires.stored.keys c.requires.place c.remove-key.ensures.value c.try_remove.ensures.updates

pub returns-clause-stored : goal.returns-clause-stored
returns-clause-stored c =
    let some = some_at c.args.entries.now c.remove-key.result c.args.order.now.items c.args.place c.requires.stored.keys c.requires.place c.remove-key.ensures.value in
    subst (AreStored c.try_remove.new.self) (sym c.remove-key.ensures.items)
    (stored_less c.args.entries.now c.try_remove.new.self c.remove-key.result c.args.order.now.items c.args.place
    c.requires.stored c.requires.place c.remove-key.ensures.value c.try_remove.ensures.updates
    (on_some c.try_remove.result c.try_remove.ensures.len (ap is_some c.try_remove.ensures.value ∙ some))
    c.try_remove.ensures.capacity
    (omega (arith, c.remove-key.ensures.len, ap length c.remove-key.ensures.items)))
