use Rattle.std.proofs.Common.{List, Option, Ok, refl, ap, subst}
use Rattle.gev_links.specs.Links.{Answer}
use Rattle.first_leader.specs.declared.leading.FirstLeader.{FirstLeader}
use Rattle.first_leader.specs.Waiting.{WaitSide, Looks, found, unseen, ends_so}
use Rattle.first_leader.proofs.Turning.{pass_ends, pass_on}
use Rattle.first_leader.proofs.waiting.wait_once.Goals as goal

pub returns-in-Ok-Some-clause-makes : goal.returns-in-Ok-Some-clause-makes
returns-in-Ok-Some-clause-makes g c =
    ends_so _ (found c.in-Ok-Some.leader (subst (λ (f : Option FirstLeader). Looks c.args.wait.patience.packet_size (Ok f) (g.L.Link.received c.args.stream.now) (g.L.Link.received c.look.new.stream)) c.in-Ok-Some.field-0-is c.in-Ok-Some.ensures.looks).0
    (ap (λ (r : Option (List Answer)). let s : WaitSide = record { received = r; heard = g.M.Link.received c.args.control.now; sent = g.M.Link.sent c.args.control.now; told = g.C.Clock.told c.args.clock.now; client = c.args.client.now } in s)
    (subst (λ (f : Option FirstLeader). Looks c.args.wait.patience.packet_size (Ok f) (g.L.Link.received c.args.stream.now) (g.L.Link.received c.look.new.stream)) c.in-Ok-Some.field-0-is c.in-Ok-Some.ensures.looks).1))

pub returns-in-Some-clause-makes : goal.returns-in-Some-clause-makes
returns-in-Some-clause-makes g c =
    ends_so _ (pass_ends c.args.wait.camera c.args.wait.patience c.args.wait.begin c.args.pace.now c.pass_time.new.pace (record { received = g.L.Link.received c.args.stream.now; heard = g.M.Link.received c.args.control.now; sent = g.M.Link.sent c.args.control.now; told = g.C.Clock.told c.args.clock.now; client = c.args.client.now }) (record { received = g.L.Link.received c.look.new.stream; heard = g.M.Link.received c.pass_time.new.control; sent = g.M.Link.sent c.pass_time.new.control; told = g.C.Clock.told c.pass_time.new.clock; client = c.pass_time.new.client }) c.in-Some.why (subst (λ (f : Option FirstLeader). Looks c.args.wait.patience.packet_size (Ok f) (g.L.Link.received c.args.stream.now) (g.L.Link.received c.look.new.stream)) c.in-Ok-None.field-0-is c.in-Ok-None.ensures.looks) c.in-Some.ensures.passes)

pub returns-in-None-clause-makes : goal.returns-in-None-clause-makes
returns-in-None-clause-makes g c =
    pass_on c.args.wait.camera c.args.wait.patience c.args.wait.begin c.args.pace.now c.pass_time.new.pace (record { received = g.L.Link.received c.args.stream.now; heard = g.M.Link.received c.args.control.now; sent = g.M.Link.sent c.args.control.now; told = g.C.Clock.told c.args.clock.now; client = c.args.client.now }) (record { received = g.L.Link.received c.look.new.stream; heard = g.M.Link.received c.pass_time.new.control; sent = g.M.Link.sent c.pass_time.new.control; told = g.C.Clock.told c.pass_time.new.clock; client = c.pass_time.new.client }) (subst (λ (f : Option FirstLeader). Looks c.args.wait.patience.packet_size (Ok f) (g.L.Link.received c.args.stream.now) (g.L.Link.received c.look.new.stream)) c.in-Ok-None.field-0-is c.in-Ok-None.ensures.looks) c.in-None.ensures.passes

pub returns-in-Err-clause-makes : goal.returns-in-Err-clause-makes
returns-in-Err-clause-makes g c =
    ends_so _ (unseen c.in-Err.ensures.looks refl)
