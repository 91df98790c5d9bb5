-- What was dropped before is what the interface told last.
use Rattle.std.proofs.Common.{ℕ, Option, Some, refl, sym, ap, ◌∙◌}
use Rattle.std.proofs.lemmas.Option.{slice_get_read}
use Rattle.gev_capture.specs.declared.form.SectionInterface.{SectionInterface}
use Rattle.gev_capture.specs.Files.{statistics_on}
use Rattle.gev_capture.proofs.blocks.statistics_on.Goals as goal

pub returns-clause-told : goal.returns-clause-told
returns-clause-told c bytes =
    let there = c.in-Some.ensures.lookup.3 in
    sym (ap (λ (o : Option SectionInterface). statistics_on c.args.order c.args.interfaces.now c.args.time c.args.total c.args.i o c.args.found)
    (slice_get_read c.args.interfaces.now _ c.args.i c.in-Some.interface.now refl there.0 (there.1 _))
    ∙ ap (λ (o : Option ℕ). statistics_on c.args.order c.args.interfaces.now c.args.time c.args.total c.args.i (Some c.in-Some.interface.now) o) c.in-Some-found.is)
