-- The text of each answer, as it stands on standard error behind the program's name; `Done` has none there.
use Rattle.std.specs.Prelude.{ℕ, ◌-◌, ◌^◌, List, [], ◌++◌, codes, false}
use Rattle.std.specs.Fmt.{decimal, digits, format_spec, padded_integral}
use Rattle.gev_script.specs.declared.kind.ScriptKind.{ScriptKind}
use Rattle.gev_script.specs.declared.kind.ScriptKind.TheVariants as script
use Rattle.gev_capture.specs.declared.kind.CaptureKind.{CaptureKind}
use Rattle.gev_capture.specs.declared.kind.CaptureKind.TheVariants as capture
use Rattle.frame_pictures.specs.declared.no_picture.NoPicture.{NoPicture}
use Rattle.frame_pictures.specs.declared.no_picture.NoPicture.TheVariants as picture
use Rattle.gev_status.specs.declared.status.Status.{Status}
use Rattle.gev_status.specs.declared.status.Status.TheVariants as status

-- a number in lower-case hex, with zeros in front where it has fewer digits than this
abbrev pub hex_text : ℕ → ℕ → List ℕ
hex_text width n = padded_integral (format_spec 32 0 4 width (2 ^ 64 - 1)) false [] (digits 16 false n)

-- why a line of a script is refused
abbrev pub script_cause : ScriptKind → List ℕ
script_cause script.Header = codes "header"
script_cause script.Word = codes "word"
script_cause script.Number = codes "number"
script_cause script.Hex = codes "hex"
script_cause script.Long = codes "too long"
script_cause script.NoEnd = codes "no end"
script_cause script.Many = codes "too many lines"

-- why a record of a capture is refused
abbrev pub capture_cause : CaptureKind → List ℕ
capture_cause capture.Magic = codes "magic"
capture_cause capture.Cut = codes "cut off"
capture_cause capture.Version = codes "version"
capture_cause capture.Length = codes "length"
capture_cause capture.Interface = codes "interface"

-- why a buffer has no picture
abbrev pub picture_cause : NoPicture → List ℕ
picture_cause (picture.Taken count) = decimal count ++ codes " buffers were taken"
picture_cause (picture.NoneOf count) = codes "none of " ++ (decimal count ++ codes " buffers has one")
picture_cause picture.NoLeader = codes "no leader"
picture_cause (picture.PixelFormat code) = codes "pixel format 0x" ++ hex_text 8 code
picture_cause picture.NoPixels = codes "no pixels"
picture_cause picture.PartBytes = codes "rows of part bytes"

abbrev pub status_text : Status → List ℕ
status_text status.Done = codes "done"
status_text (status.Usage place) = codes "word " ++ (decimal place ++ codes " isn't understood")
status_text (status.BadScript line kind) = codes "line " ++ (decimal line ++ (codes ": " ++ script_cause kind))
status_text status.ReadFault = codes "reading failed"
status_text status.WriteFault = codes "writing failed"
status_text status.LinkFault = codes "the network failed"
status_text status.NoMemory = codes "out of memory"
status_text (status.NoAnswer req) = codes "no answer to request " ++ decimal req
status_text (status.Refused answer) = codes "refused with status 0x" ++ hex_text 4 answer
status_text (status.TurnsSpent turns frames) = decimal turns ++ (codes " turns spent, " ++ (decimal frames ++ codes " frames"))
status_text (status.BadCapture number kind) = codes "record " ++ (decimal number ++ (codes ": " ++ capture_cause kind))
status_text (status.NoPicture why) = codes "no picture: " ++ picture_cause why
status_text (status.Silent frames) = codes "the camera is silent, " ++ (decimal frames ++ codes " frames")
status_text status.Controlled = codes "another application controls the camera"
status_text status.NoDescription = codes "the description isn't in the camera"
status_text (status.ControlLost frames) = codes "the camera gave its control away, " ++ (decimal frames ++ codes " frames")
status_text (status.NoDatagram port) = codes "no datagram to port " ++ decimal port
status_text (status.RefusedAt register answer) = codes "register 0x" ++ (hex_text 8 register ++ (codes " refused with status 0x" ++ hex_text 4 answer))
