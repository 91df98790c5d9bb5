use Rattle.gev_script.specs.declared.act.Act.TheVariants as act
use Rattle.script_replay.proofs.Stepping.{as_act}
use Rattle.script_replay.proofs.step_line.make_step.Goals as goal

pub returns-in-Grab : goal.returns-in-Grab
returns-in-Grab c = as_act c.args.act act.Grab c.args.actor c.args.place 0 c.grab.result _ _ c.in-Grab.is c.grab.ensures

pub returns-in-Lay : goal.returns-in-Lay
returns-in-Lay c = as_act c.args.act act.Lay c.args.actor c.args.place 0 c.lay.result _ _ c.in-Lay.is c.lay.ensures

pub returns-in-Pool : goal.returns-in-Pool
returns-in-Pool c = as_act c.args.act act.Pool c.args.actor c.args.place 0 c.pool.result _ _ c.in-Pool.is c.pool.ensures

pub returns-in-Fill : goal.returns-in-Fill
returns-in-Fill c = as_act c.args.act act.Fill c.args.actor c.args.place 0 c.fill.result _ _ c.in-Fill.is c.fill.ensures

pub returns-in-Claim : goal.returns-in-Claim
returns-in-Claim c = as_act c.args.act act.Claim c.args.actor c.args.place 0 c.claim.result _ _ c.in-Claim.is c.claim.ensures

pub returns-in-SweepPool : goal.returns-in-SweepPool
returns-in-SweepPool c = as_act c.args.act act.SweepPool c.args.actor c.args.place 0 c.sweep_pool.result _ _ c.in-SweepPool.is c.sweep_pool.ensures

pub returns-in-SweepOut : goal.returns-in-SweepOut
returns-in-SweepOut c = as_act c.args.act act.SweepOut c.args.actor c.args.place 0 c.sweep_out.result _ _ c.in-SweepOut.is c.sweep_out.ensures

pub returns-in-Close : goal.returns-in-Close
returns-in-Close c = as_act c.args.act act.Close c.args.actor c.args.place 0 c.close.result _ _ c.in-Close.is c.close.ensures

pub returns-in-Take : goal.returns-in-Take
returns-in-Take c = as_act c.args.act act.Take c.args.actor c.args.place c.take.result.1 c.take.result.0 _ _ c.in-Take.is c.take.ensures
