use Rattle.std.proofs.Common.{◌≡◌, ℕ, List, ap, subst, sym, ◌∙◌}
use Rattle.stream_packets.specs.Packets.{StreamPacket, head_of}
use Rattle.gvsp_wire.specs.View.{view}
use Rattle.block_assembly.specs.declared.progress.Progress.{Progress}
use Rattle.block_assembly.specs.Assembly.{AssemblyStands, block_of}
use Rattle.block_assembly.proofs.Accepts.{sound, acts, acts_for_some, verdict_is}
use Rattle.block_assembly.proofs.assembly.Assembly.accept.Goals as goal

of_block : (c : goal.After-act) → (head_of (view c.args.packet.now)).block ≡ c.self.inside.progress.block
of_block c = c.requires.of_block ∙ sym (ap block_of c.self.view_is)

stood : (c : goal.After-act) (p b size : ℕ) (heard : List StreamPacket) → AssemblyStands c.args.self.now p b size heard → AssemblyStands c.self.inside.progress p b size heard
stood c p b size heard s = subst (λ (a : Progress). AssemblyStands a p b size heard) (sym c.self.view_is) s

pub act-requires-clause-sound : goal.act-requires-clause-sound
act-requires-clause-sound c = sound c.self.inside.progress c.self.invariant

pub invariant_of-self : goal.invariant_of-self
invariant_of-self c =
    acts_for_some c.self.inside.progress c.act.new.assembly c.judge-verdict.result (view c.args.packet.now) c.judge-verdict.ensures c.act.ensures c.requires.read (of_block c) c.self.invariant

pub returns-clause-verdict : goal.returns-clause-verdict
returns-clause-verdict c p b size heard s =
    c.judge-verdict.ensures ∙ verdict_is c.self.inside.progress p b size heard (view c.args.packet.now) (stood c p b size heard s) (of_block c)

pub returns-clause-stands : goal.returns-clause-stands
returns-clause-stands c p b size heard s =
    acts c.self.inside.progress c.act.new.assembly c.judge-verdict.result (view c.args.packet.now) p b size heard c.judge-verdict.ensures c.act.ensures c.requires.read (of_block c)
    (stood c p b size heard s)

pub returns-clause-same_block : goal.returns-clause-same_block
returns-clause-same_block c =
    let some = c.self.invariant in
    (acts c.self.inside.progress c.act.new.assembly c.judge-verdict.result (view c.args.packet.now) some.p some.b some.size some.heard c.judge-verdict.ensures c.act.ensures c.requires.read (of_block c) some.stands).block
    ∙ sym some.stands.block ∙ ap block_of c.self.view_is
