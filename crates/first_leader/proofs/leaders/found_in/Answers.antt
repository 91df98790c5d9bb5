-- A packet with standard identifiers carries its size but for the headers.
use Rattle.first_leader.proofs.leaders.found_in.Goals as goal

pub returns-in-Some-wide : goal.returns-in-Some-wide
returns-in-Some-wide c = rw (c.saturating_sub-in-Some-wide.ensures, c.in-None.is, c.in-Some-wide.is)
