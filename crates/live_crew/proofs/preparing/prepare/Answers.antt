use Rattle.live_crew.proofs.Beginning.{short_childless, started_only, started_childless, start_refused}
use Rattle.live_crew.proofs.preparing.prepare.Goals as goal

pub returns-in-Ok-ds_start-clause-prepares : goal.returns-in-Ok-ds_start-clause-prepares
returns-in-Ok-ds_start-clause-prepares c =
    started_only c.args.pass.now c.prepare_buffers.new.pass c.ds_start.new.pass c.args.size c.args.buffers c.requires.first c.requires.unseen c.in-Ok.ensures.prepared c.in-Ok-ds_start.ensures.entries

pub returns-in-Ok-ds_start-clause-childless : goal.returns-in-Ok-ds_start-clause-childless
returns-in-Ok-ds_start-clause-childless c =
    started_childless c.args.pass.now c.prepare_buffers.new.pass c.ds_start.new.pass c.args.size c.args.buffers c.requires.first c.requires.unseen c.in-Ok.ensures.prepared c.in-Ok-ds_start.ensures.entries

pub returns-in-Err-ds_start-clause-short : goal.returns-in-Err-ds_start-clause-short
returns-in-Err-ds_start-clause-short c =
    start_refused c.args.pass.now c.prepare_buffers.new.pass c.ds_start.new.pass c.args.size c.args.buffers c.in-Err-ds_start._refusal _ c.requires.unseen c.in-Ok.ensures.prepared c.in-Err-ds_start.ensures.entries

pub returns-in-Err-ds_start-clause-childless : goal.returns-in-Err-ds_start-clause-childless
returns-in-Err-ds_start-clause-childless c =
    start_refused c.args.pass.now c.prepare_buffers.new.pass c.ds_start.new.pass c.args.size c.args.buffers c.in-Err-ds_start._refusal _ c.requires.unseen c.in-Ok.ensures.prepared c.in-Err-ds_start.ensures.entries

pub returns-in-Err-clause-childless : goal.returns-in-Err-clause-childless
returns-in-Err-clause-childless c = short_childless c.args.pass.now c.prepare_buffers.new.pass c.args.size c.args.buffers c.requires.first c.requires.unseen c.in-Err.ensures.short
