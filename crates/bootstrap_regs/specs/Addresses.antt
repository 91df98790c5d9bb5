-- Where the registers lie that the camera reads or writes itself (GigE Vision 2.0, bootstrap registers).
use Rattle.std.specs.Prelude.{ℕ}

abbrev pub HEARTBEAT_TIMEOUT : ℕ
HEARTBEAT_TIMEOUT = 0x0938

-- the control channel privilege
abbrev pub CCP : ℕ
CCP = 0x0A00

-- the host port of the stream channel
abbrev pub SCP0 : ℕ
SCP0 = 0x0D00

-- the packet size, the packet delay and the destination address of the stream channel
abbrev pub SCPS0 : ℕ
SCPS0 = 0x0D04

abbrev pub SCPD0 : ℕ
SCPD0 = 0x0D08

abbrev pub SCDA0 : ℕ
SCDA0 = 0x0D18

-- the end of the register space
abbrev pub END : ℕ
END = 0x0D40

-- how many words of 4 bytes it has
abbrev pub WORDS : ℕ
WORDS = 848

-- how many words DISCOVERY answers, from the first one on
abbrev pub DISCOVERY_WORDS : ℕ
DISCOVERY_WORDS = 62
