use Rattle.std.proofs.Common.{◌≡◌, length, true, false, rules}
use Rattle.gev_capture.specs.Files.{has_ended, resolution}
use Rattle.gev_capture.proofs.Resolving.{stepped, ended}
use Rattle.gev_capture.proofs.options.resolution.Goals as goal

pub options-preserved : goal.options-preserved
options-preserved c =
    let goes : has_ended c.args.order c.options.rest.now ≡ false = search rules in
    let whole = resolution (length c.args.options.now) c.args.order 6 c.args.options.now in
    let s = stepped c.args.order c.options.r whole c.options.invariant.0 c.options.rest.now c.options.invariant.1 c.options.invariant.2 goes in
    rw (c.with_option-r.ensures, c.behind-rest.ensures) (s.more, s.enough, s.tells)

pub returns : goal.returns
returns c =
    let done : has_ended c.args.order c.options.rest.now ≡ true = search rules in
    let whole = resolution (length c.args.options.now) c.args.order 6 c.args.options.now in
    ended c.args.order c.options.r whole c.options.invariant.0 c.options.rest.now c.options.invariant.2 done
