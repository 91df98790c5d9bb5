-- The numbers of GVCP under the standard's names (GigE Vision 2.0, GVCP message values).
use Rattle.std.specs.Prelude.{ℕ}

-- the first byte of every command
abbrev pub KEY : ℕ
KEY = 0x42

-- the most bytes of a body
abbrev pub MAX_BODY_SIZE : ℕ
MAX_BODY_SIZE = 540

-- ---- commands

abbrev pub DISCOVERY_CMD : ℕ
DISCOVERY_CMD = 0x0002

abbrev pub PACKETRESEND_CMD : ℕ
PACKETRESEND_CMD = 0x0040

abbrev pub READREG_CMD : ℕ
READREG_CMD = 0x0080

abbrev pub WRITEREG_CMD : ℕ
WRITEREG_CMD = 0x0082

abbrev pub READMEM_CMD : ℕ
READMEM_CMD = 0x0084

abbrev pub WRITEMEM_CMD : ℕ
WRITEMEM_CMD = 0x0086

-- ---- acknowledges

abbrev pub DISCOVERY_ACK : ℕ
DISCOVERY_ACK = 0x0003

abbrev pub READREG_ACK : ℕ
READREG_ACK = 0x0081

abbrev pub WRITEREG_ACK : ℕ
WRITEREG_ACK = 0x0083

abbrev pub READMEM_ACK : ℕ
READMEM_ACK = 0x0085

abbrev pub WRITEMEM_ACK : ℕ
WRITEMEM_ACK = 0x0087

abbrev pub PENDING_ACK : ℕ
PENDING_ACK = 0x0089
