-- The times of the control client, and how often it sends (GigE Vision 2.0, GVCP: retransmission, heartbeat).
-- The standard leaves these numbers to the host; the constants of `src/numbers.rt` are these.
use Rattle.std.specs.Prelude.{ℕ}

-- how often a command is sent
abbrev pub SENDS : ℕ
SENDS = 3

-- how many milliseconds after a send the next one comes, or the end of the command, where no other limit is given
abbrev pub SEND_LIMIT : ℕ
SEND_LIMIT = 40

-- how many milliseconds after the last acknowledge an idle client sends a heartbeat
abbrev pub HEARTBEAT_TIME : ℕ
HEARTBEAT_TIME = 1000
