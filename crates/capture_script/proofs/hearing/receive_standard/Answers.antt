use Rattle.std.specs.Prelude.{length}
use Rattle.gvsp_std.proofs.Written.{widened_fits}
use Rattle.capture_script.proofs.Heard.{hears_wide, hears_refused, front_is}
use Rattle.capture_script.proofs.hearing.receive_standard.Goals as goal

pub widen-requires-clause-room : goal.widen-requires-clause-room
widen-requires-clause-room c = widened_fits c.args.widener.now c.args.bytes.now (length c.args.room.now) c.requires.room

pub returns-in-Ok-clause-hears : goal.returns-in-Ok-clause-hears
returns-in-Ok-clause-hears c s =
    let w = c.in-Ok.ensures.answer in
    hears_wide c.args.player.now c.tell.new.player c.args.p c.args.player.now.size c.args.widener.now c.widen.new.self c.tell.result w.block c.args.bytes.now w.wide s c.requires.standard w.is w.top_is
    _ (front_is _ w.wide _ c.in-Ok.count w.written w.len_is) c.tell.ensures.plays

pub returns-in-Err-clause-hears : goal.returns-in-Err-clause-hears
returns-in-Err-clause-hears c s =
    let w = c.in-Err.ensures.answer in
    hears_refused c.args.player.now c.args.p c.args.player.now.size c.args.widener.now c.widen.new.self c.args.bytes.now s c.in-Err._refusal c.requires.standard w.is w.top_stays
