use Rattle.std.proofs.Common.{◌∙◌, ap, sym}
use Rattle.gentl_handles.specs.Closing.{is_among}
use Rattle.gentl_handles.specs.Storing.{serials_of}
use Rattle.gentl_handles.proofs.Sortings.{any_serial}
use Rattle.gentl_handles.proofs.closing.is_among.Goals as goal

pub returns-in-Some : goal.returns-in-Some
returns-in-Some c =
    c.contains.ensures ∙ any_serial c.in-Some.parent c.args.closed.now
    ∙ ap (λ p. is_among (serials_of c.args.closed.now) p) (sym c.in-Some.is)
