use Rattle.std.proofs.Common.{◌≡◌, ℕ, Err, IsOkAnd, MatchResult, ap, subst, ◌∙◌}
use Rattle.gentl_handles.specs.Closing.{closing, without_closed}
use Rattle.gentl_handles.specs.Storing.{serials_of}
use Rattle.script_replay.proofs.Named.{found_serial}
use Rattle.script_replay.proofs.handle_lines.close_under.Goals as goal

pub returns-in-Some-clause-closed : goal.returns-in-Some-clause-closed
returns-in-Some-clause-closed c =
    subst (λ (n : ℕ). MatchResult (closing c.args.tree.now n)
    (λ serials. IsOkAnd c.close_all.result (λ closed. serials_of closed.items ≡ serials)) (λ refusal. c.close_all.result ≡ Err refusal)) (found_serial c.args.serial c.in-Some.handle.serial c.args.tree.now.handles c.in-Some.ensures) c.close_all.ensures.closed

pub returns-in-Some-clause-after : goal.returns-in-Some-clause-after
returns-in-Some-clause-after c =
    c.close_all.ensures.after
    ∙ ap (λ (n : ℕ). without_closed c.args.tree.now n (closing c.args.tree.now n)) (found_serial c.args.serial c.in-Some.handle.serial c.args.tree.now.handles c.in-Some.ensures)
