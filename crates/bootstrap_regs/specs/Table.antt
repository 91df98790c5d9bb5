-- The bootstrap registers of the camera by rising address (GigE Vision 2.0, bootstrap registers). The first
-- values and the ranges of values are this project's choice.
use Rattle.std.specs.Prelude.{ℕ, ◌-◌, List, [], ◌∷◌, ◌++◌, length, replicate, codes}
use Rattle.bootstrap_regs.specs.declared.table.Initial.TheVariants.{Number, Text}
use Rattle.bootstrap_regs.specs.declared.table.Writable.TheVariants.{No, Any, Between, PacketSize}
use Rattle.bootstrap_regs.specs.declared.table.Register.{Register}
use Rattle.bootstrap_regs.specs.Addresses.{HEARTBEAT_TIMEOUT, CCP, SCP0, SCPS0, SCPD0, SCDA0}

-- a register of one word that can only be read
abbrev pub fixed : ℕ → ℕ → Register
fixed address value = record { address = address; words = 1; initial = Number value; writable = No }

-- the first 8 bytes of a text that is filled up with zero bytes
abbrev pub filled : List ℕ → List ℕ
filled text = text ++ replicate (8 - length text) 0

-- a register of so many words with a text that can only be read
abbrev pub named : ℕ → ℕ → List ℕ → Register
named address words text = record { address = address; words = words; initial = Text (filled text); writable = No }

abbrev pub TABLE : List Register
TABLE =
    -- version
    fixed 0x0000 0x00020000
    -- device mode
    ∷ fixed 0x0004 0x80000001
    -- MAC address, high and low part
    ∷ fixed 0x0008 0x00000211
    ∷ fixed 0x000C 0x22334455
    -- supported and current IP configuration
    ∷ fixed 0x0010 0x00000004
    ∷ fixed 0x0014 0x00000004
    -- current IP address, subnet mask and gateway
    ∷ fixed 0x0024 0x7F000001
    ∷ fixed 0x0034 0xFF000000
    ∷ fixed 0x0044 0
    -- manufacturer name, model name, device version, manufacturer information, serial number
    ∷ named 0x0048 8 (codes "GEVACQ")
    ∷ named 0x0068 8 (codes "SIMCAM")
    ∷ named 0x0088 8 (codes "1.0")
    ∷ named 0x00A8 12 []
    ∷ named 0x00D8 4 (codes "0001")
    -- user-defined name
    ∷ record { address = 0x00E8; words = 4; initial = Text (filled []); writable = Any }
    -- first and second URL
    ∷ named 0x0200 128 []
    ∷ named 0x0400 128 []
    -- number of network interfaces, of message channels, of stream channels
    ∷ fixed 0x0600 1
    ∷ fixed 0x0900 0
    ∷ fixed 0x0904 1
    -- GVCP capability: concatenation 1, WRITEMEM 2, PACKETRESEND 4
    ∷ fixed 0x0934 0x00000007
    -- heartbeat timeout, in milliseconds
    ∷ record { address = HEARTBEAT_TIMEOUT; words = 1; initial = Number 3000; writable = Between 500 60000 }
    -- control channel privilege: release 0, exclusive access 1, control access 2
    ∷ record { address = CCP; words = 1; initial = Number 0; writable = Between 0 2 }
    -- the stream channel: host port, packet size, packet delay (without effect here), destination address
    ∷ record { address = SCP0; words = 1; initial = Number 0; writable = Between 0 65535 }
    ∷ record { address = SCPS0; words = 1; initial = Number 0x000005DC; writable = PacketSize }
    ∷ record { address = SCPD0; words = 1; initial = Number 0; writable = Any }
    ∷ record { address = SCDA0; words = 1; initial = Number 0; writable = Any }
    ∷ []
