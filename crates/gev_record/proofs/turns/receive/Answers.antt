use Rattle.std.proofs.Common.{ap, ◌∙◌}
use Rattle.std.specs.Prelude.{Some}
use Rattle.acquisition_machine.specs.declared.need.Need.{Need}
use Rattle.acquisition_machine.specs.TurnLaws.{asked_by}
use Rattle.gev_record.proofs.Hearing.{hears_none, hears_some}
use Rattle.gev_record.proofs.turns.receive.Goals as goal

pub returns-in_ok-tell-in-Buffer : goal.returns-in_ok-tell-in-Buffer
returns-in_ok-tell-in-Buffer c =
    hears_some c.args.player.now c.tell.new.player c.give_outcome.new.player c.tell-in-Buffer.new.player c.args.used.now c.tell.new.used c.give_outcome.new.used c.tell-in-Buffer.new.used
    c.lowest_free-place.result c.in-Buffer.field-0 c.args.bytes.now c.args.mark c.args.text.now.items c.add_queue.new.text.items c.add_datagram.new.text.items
    c.tell.new.text.items c.tell-in-Buffer.new.text.items c.lowest_free-place.ensures c.in_ok-add_queue.ensures c.in_ok-add_datagram.ensures
    c.in_ok-tell.ensures.takes (λ q s. c.in_ok-tell.ensures.need q s ∙ ap (λ (n : Need). asked_by (Some n)) c.in-Buffer.is) c.give_outcome.ensures
    c.in_ok-tell-in-Buffer.ensures.takes

pub returns-in-Done : goal.returns-in-Done
returns-in-Done c =
    hears_none c.args.player.now c.tell.new.player c.args.used.now c.tell.new.used c.lowest_free-place.result c.args.bytes.now c.args.mark c.args.text.now.items
    c.add_queue.new.text.items c.add_datagram.new.text.items c.tell.new.text.items c.lowest_free-place.ensures c.in_ok-add_queue.ensures c.in_ok-add_datagram.ensures
    c.in_ok-tell.ensures.takes (λ q s. c.in_ok-tell.ensures.need q s ∙ ap (λ (n : Need). asked_by (Some n)) c.in-Done.is)

pub returns-in-Ignored : goal.returns-in-Ignored
returns-in-Ignored c =
    hears_none c.args.player.now c.tell.new.player c.args.used.now c.tell.new.used c.lowest_free-place.result c.args.bytes.now c.args.mark c.args.text.now.items
    c.add_queue.new.text.items c.add_datagram.new.text.items c.tell.new.text.items c.lowest_free-place.ensures c.in_ok-add_queue.ensures c.in_ok-add_datagram.ensures
    c.in_ok-tell.ensures.takes (λ q s. c.in_ok-tell.ensures.need q s ∙ ap (λ (n : Need). asked_by (Some n)) c.in-Ignored.is)
