use Rattle.std.proofs.Common.{List, [], ◌∷◌, ◌++◌, ap, sym, ◌∙◌}
use Rattle.lossy_queue.specs.declared.datagram.Datagram.{Datagram}
use Rattle.lossy_queue.proofs.Places.{placed_before}
use Rattle.lossy_queue.proofs.queue.enqueue.Goals as goal

pub returns-in-Some-clause-placed : goal.returns-in-Some-clause-placed
returns-in-Some-clause-placed c =
    c.push_back_reserved-in-Some-2.ensures.items
    ∙ (ap (λ (l : List Datagram). l ++ c.in-Some.last ∷ []) c.push_back_reserved-in-Some.ensures.items
    ∙ sym (placed_before c.args.swapped c.args.datagram c.in-Some.last c.pop_back.new.self.items c.args.items.now.items c.if-not-swapped.false c.in-Some.ensures.items))
