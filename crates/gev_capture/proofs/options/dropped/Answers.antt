use Rattle.std.proofs.Common.{◌≡◌, true, false, rules}
use Rattle.gev_capture.specs.Files.{has_ended, told_dropped}
use Rattle.gev_capture.proofs.Resolving.{counted, counted_all}
use Rattle.gev_capture.proofs.options.dropped.Goals as goal

pub options-preserved : goal.options-preserved
options-preserved c =
    let goes : has_ended c.args.order c.options.rest.now ≡ false = search rules in
    let whole = told_dropped c.args.order c.args.options.now in
    let s = counted c.args.order c.options.found whole c.options.invariant.0 c.options.rest.now c.options.invariant.1 c.options.invariant.2 goes in
    rw (c.with_dropped-found.ensures, c.behind-rest.ensures) (s.more, s.enough, s.tells)

pub returns : goal.returns
returns c =
    let done : has_ended c.args.order c.options.rest.now ≡ true = search rules in
    let whole = told_dropped c.args.order c.args.options.now in
    counted_all c.args.order c.options.found whole c.options.invariant.0 c.options.rest.now c.options.invariant.2 done
