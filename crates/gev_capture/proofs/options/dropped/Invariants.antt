use Rattle.std.proofs.Common.{◌≡◌, ◌≤◌, ℕ, length}
use Rattle.gev_capture.specs.Files.{dropped_in, told_dropped}
use Rattle.gev_capture.proofs.options.dropped.Given as goal

-- some number of steps from here gives the whole's answer
abbrev pub invariant-options : goal.invariant-options
invariant-options l =
    (more : ℕ) × (length l.rest ≤ more) × (dropped_in more l.order l.found l.rest ≡ told_dropped l.order l.fn.options)

abbrev pub decreases-options : goal.decreases-options
decreases-options l = length l.rest
