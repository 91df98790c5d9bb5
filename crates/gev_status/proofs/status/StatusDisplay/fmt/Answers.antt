-- The numbers and the texts that are written are those of the status.
use Rattle.gev_status.proofs.status.StatusDisplay.fmt.Goals as goal

pub returns-in-Usage-clause-writes : goal.returns-in-Usage-clause-writes
returns-in-Usage-clause-writes g c = rw c.in-Usage.is (rw c.from.ensures at c.write_between.ensures)

pub returns-in-BadScript-clause-writes : goal.returns-in-BadScript-clause-writes
returns-in-BadScript-clause-writes g c = rw c.in-BadScript.is (rw c.script_cause.ensures at c.write_between-in-BadScript.ensures)

pub returns-in-BadCapture-clause-writes : goal.returns-in-BadCapture-clause-writes
returns-in-BadCapture-clause-writes g c = rw c.in-BadCapture.is (rw c.capture_cause.ensures at c.write_between-in-BadCapture.ensures)

pub returns-in-Silent-clause-writes : goal.returns-in-Silent-clause-writes
returns-in-Silent-clause-writes g c = rw c.in-Silent.is (rw c.from-in-Silent.ensures at c.write_between-in-Silent.ensures)

pub returns-in-ControlLost-clause-writes : goal.returns-in-ControlLost-clause-writes
returns-in-ControlLost-clause-writes g c = rw c.in-ControlLost.is (rw c.from-in-ControlLost.ensures at c.write_between-in-ControlLost.ensures)

pub returns-in-NoPicture-clause-writes : goal.returns-in-NoPicture-clause-writes
returns-in-NoPicture-clause-writes g c = rw c.in-NoPicture.is c.write_no_picture.ensures

pub returns-in-TurnsSpent-clause-writes : goal.returns-in-TurnsSpent-clause-writes
returns-in-TurnsSpent-clause-writes g c = rw c.in-TurnsSpent.is c.write-in-TurnsSpent.ensures.writes
