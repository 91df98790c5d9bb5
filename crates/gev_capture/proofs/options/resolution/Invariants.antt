use Rattle.std.proofs.Common.{◌≡◌, ◌≤◌, ℕ, length}
use Rattle.gev_capture.specs.Files.{resolution}
use Rattle.gev_capture.proofs.options.resolution.Given as goal

-- some number of steps from here gives the whole's answer
abbrev pub invariant-options : goal.invariant-options
invariant-options l =
    (more : ℕ) × (length l.rest ≤ more) × (resolution more l.order l.r l.rest ≡ resolution (length l.fn.options) l.order 6 l.fn.options)

abbrev pub decreases-options : goal.decreases-options
decreases-options l = length l.rest
