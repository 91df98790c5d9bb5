use Rattle.std.proofs.Common.{◌∙◌}
use Rattle.block_assembly.proofs.Wholes.{Leads, leads_with}
use Rattle.block_assembly.proofs.completing.completes.Goals as goal

pub returns-in-Some : goal.returns-in-Some
returns-in-Some c ks s =
    let told : Leads c.args.assembly.now c.in-Some.len ks = leads_with c.args.assembly.now c.in-Some.len ks s c.in-Some.ensures.value in
    c.has_image.ensures ks s told.leads ∙ told.complete
