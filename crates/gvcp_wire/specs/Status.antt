-- The status codes (GigE Vision 2.0, list of status codes).
use Rattle.std.specs.Prelude.{ℕ}
use Rattle.gvcp_wire.specs.declared.status.Status.{Status}
use Rattle.gvcp_wire.specs.declared.status.Status.TheVariants.{Success, PacketResend, NotImplemented, InvalidParameter, InvalidAddress, WriteProtect, BadAlignment, AccessDenied, Busy, PacketUnavailable, InvalidHeader, PacketNotYetAvailable, PacketAndPrevRemovedFromMemory, PacketRemovedFromMemory}

abbrev pub status_code : Status → ℕ
status_code Success = 0x0000
status_code PacketResend = 0x0100
status_code NotImplemented = 0x8001
status_code InvalidParameter = 0x8002
status_code InvalidAddress = 0x8003
status_code WriteProtect = 0x8004
status_code BadAlignment = 0x8005
status_code AccessDenied = 0x8006
status_code Busy = 0x8007
status_code PacketUnavailable = 0x800C
status_code InvalidHeader = 0x800E
status_code PacketNotYetAvailable = 0x8010
status_code PacketAndPrevRemovedFromMemory = 0x8011
status_code PacketRemovedFromMemory = 0x8012
