-- The frames of a camera on the network, by the answer.
use Rattle.std.specs.Prelude.{◌≡◌, ◌≢◌, ℕ}
use Rattle.gev_status.specs.declared.status.Status.{Status}
use Rattle.gev_status.specs.declared.status.Status.TheVariants.{WriteFault, LinkFault}
use Rattle.gev_top.specs.declared.errand.Errand.{Errand}
use Rattle.gev_top.specs.declared.errand.Errand.TheVariants.{Plain, Live, Record, Discover, Description, Simulate, Receive, Register}

-- How the sink's count of faults stands by the answer: it changes only with the answer that tells of it. The frames of a
-- camera are received while they are written, its registers read, and a link that failed goes before a write that failed:
-- so there it may also have changed with that answer.
abbrev pub WritesSteady : Errand → Status → ℕ → ℕ → Type 0
WritesSteady (Plain command) status writes writes_after = status ≢ WriteFault → writes_after ≡ writes
WritesSteady (Live n) status writes writes_after = status ≢ WriteFault → writes_after ≡ writes
WritesSteady (Record n) status writes writes_after = status ≢ WriteFault → writes_after ≡ writes
WritesSteady (Discover address) status writes writes_after = status ≢ WriteFault → writes_after ≡ writes
WritesSteady (Description camera) status writes writes_after = status ≢ WriteFault → writes_after ≡ writes
WritesSteady (Simulate asked) status writes writes_after = status ≢ WriteFault → writes_after ≡ writes
WritesSteady (Receive s) status writes writes_after = status ≢ WriteFault → status ≢ LinkFault → writes_after ≡ writes
WritesSteady (Register asked) status writes writes_after = status ≢ WriteFault → status ≢ LinkFault → writes_after ≡ writes
