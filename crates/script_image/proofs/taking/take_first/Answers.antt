use Rattle.script_image.proofs.Finding.{takes_some, takes_none}
use Rattle.script_image.proofs.taking.take_first.Goals as goal

pub returns-in-Ok : goal.returns-in-Ok
returns-in-Ok c = record {
  takes =
      takes_some c.args.board.now c.event_get.new.self c.ds_return.new.self c.in-Ok.place c.requires.ready c.owned.ensures.kept
      c.in-Ok.ensures.entries c.in-Ok.ensures.contents c.ds_return.ensures.entries c.ds_return.ensures.contents;
}

pub returns-in-Err : goal.returns-in-Err
returns-in-Err c = record {
  takes = takes_none c.args.board.now c.event_get.new.self c.in-Err._error c.requires.ready c.in-Err.ensures.entries c.in-Err.ensures.contents;
}
