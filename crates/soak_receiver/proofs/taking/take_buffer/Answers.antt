use Rattle.soak_receiver.proofs.Lending.{IsReturned, took_first, took_hosting, took_nothing, no_take_hosting}
use Rattle.soak_receiver.proofs.taking.take_buffer.Goals as goal

pub returns-in-Ok : goal.returns-in-Ok
returns-in-Ok c =
    let is : IsReturned c.in-Ok.place c.generation_at-generation.result c.args.running.now c.event_get.new.self c.ds_return.new.self c.saturating_add-running.result = record {
      counted = c.owned.ensures.counted;
      kept = c.owned.ensures.kept;
      got = c.in-Ok.ensures.entries;
      got_contents = c.in-Ok.ensures.contents;
      generation_is = c.generation_at-generation.ensures;
      back = c.ds_return.ensures.entries;
      back_contents = c.ds_return.ensures.contents;
      count_is = c.saturating_add-running.ensures;
    } in
    record {
      took = took_first _ _ c.args.running.now _ _ _ c.requires is;
      hosting = took_hosting _ _ c.args.running.now _ _ _ c.requires is;
    }

pub returns-in-Err : goal.returns-in-Err
returns-in-Err c = record {
  took = took_nothing c.args.running.now c.event_get.new.self c.in-Err._error c.requires c.in-Err.ensures.entries c.in-Err.ensures.contents;
  hosting = no_take_hosting c.args.running.now c.event_get.new.self c.in-Err._error c.requires c.in-Err.ensures.entries c.in-Err.ensures.contents;
}
