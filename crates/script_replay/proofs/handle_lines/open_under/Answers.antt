use Rattle.std.proofs.Common.{◌≡◌, ℕ, Option, Err, MatchResult, IsOkAnd, ap, subst, ◌∙◌}
use Rattle.gentl_handles.specs.Opening.{opening, with_opened}
use Rattle.script_replay.proofs.Named.{named_parent}
use Rattle.script_replay.proofs.handle_lines.open_under.Goals as goal

pub returns-in-Some-by_serial-clause-opened : goal.returns-in-Some-by_serial-clause-opened
returns-in-Some-by_serial-clause-opened c =
    subst (λ (p : Option ℕ). MatchResult (opening c.args.tree.now p c.args.index)
    (λ opened. IsOkAnd c.open_child-in-Some-by_serial.result (λ handle. handle.serial ≡ opened.serial)) (λ refusal. c.open_child-in-Some-by_serial.result ≡ Err refusal))
    (named_parent c.args.parent c.in-Some.serial c.in-Some-by_serial.handle.serial c.args.tree.now c.in-Some.is c.in-Some-by_serial.ensures) c.open_child-in-Some-by_serial.ensures.opened

pub returns-in-Some-by_serial-clause-after : goal.returns-in-Some-by_serial-clause-after
returns-in-Some-by_serial-clause-after c =
    c.open_child-in-Some-by_serial.ensures.after
    ∙ ap (λ (p : Option ℕ). with_opened c.args.tree.now (opening c.args.tree.now p c.args.index)) (named_parent c.args.parent c.in-Some.serial c.in-Some-by_serial.handle.serial c.args.tree.now c.in-Some.is c.in-Some-by_serial.ensures)
