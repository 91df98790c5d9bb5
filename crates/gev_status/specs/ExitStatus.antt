-- The exit status of the program for each answer.
use Rattle.std.specs.Prelude.{ℕ}
use Rattle.gev_status.specs.declared.status.Status.{Status}
use Rattle.gev_status.specs.declared.status.Status.TheVariants.{Done, Usage, BadScript, ReadFault, WriteFault, LinkFault, NoMemory, NoAnswer, Refused, TurnsSpent, BadCapture, NoPicture, Silent, Controlled, NoDescription, ControlLost, NoDatagram, RefusedAt}

abbrev pub exit_status : Status → ℕ
exit_status Done = 0
exit_status (Usage place) = 2
exit_status (BadScript line kind) = 3
exit_status ReadFault = 4
exit_status WriteFault = 5
exit_status LinkFault = 6
exit_status NoMemory = 7
exit_status (NoAnswer req) = 9
exit_status (Refused status) = 10
exit_status (TurnsSpent turns frames) = 11
exit_status (BadCapture number kind) = 12
exit_status (NoPicture why) = 13
exit_status (Silent frames) = 14
exit_status Controlled = 15
exit_status NoDescription = 16
exit_status (ControlLost frames) = 17
exit_status (NoDatagram port) = 18
exit_status (RefusedAt register code) = 10
