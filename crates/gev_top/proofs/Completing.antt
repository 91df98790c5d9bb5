-- A command whose counts of faults stayed has none of the answers that tell of a fault.
use Rattle.std.proofs.Common.{◌≡◌, ℕ, List, Bool, Option, Ok, sym, subst, ◌∙◌}
use Rattle.script_runs.specs.Verdicts.{IfTold}
use Rattle.gev_world.specs.declared.soak_end.SoakEnd.{SoakEnd}
use Rattle.gev_world.specs.declared.soak_end.SoakEnd.TheVariants as soaks
use Rattle.gev_world.specs.Runs.{RunsSoak}
use Rattle.world_machine.specs.State.{Run}
use Rattle.gev_make.specs.MakeText.{make_text}
use Rattle.gev_status.specs.declared.status.Status.{Status}
use Rattle.gev_status.specs.declared.status.Status.TheVariants.{Done, Usage, BadScript, ReadFault, WriteFault, LinkFault, NoMemory, NoAnswer, Refused, TurnsSpent, BadCapture, NoPicture, Silent, Controlled, NoDescription, ControlLost, NoDatagram, RefusedAt}
use Rattle.gev_top.specs.declared.command.Command.{Command}
use Rattle.gev_top.specs.declared.command.Command.TheVariants.{Replay, Explain, Image, Streams, Capture, Camera, Make, Soak}
use Rattle.gev_top.specs.Soaking.{status_after}
use Rattle.gev_capture.specs.Sightings.{Sighting}
use Rattle.capture_runs.specs.Ends.{RunEnds}
use Rattle.capture_streams.specs.Texts.{streams_text, listed_text, always}
use Rattle.capture_script.specs.Script.{capture_script, begun_script, has_datagram}
use Rattle.gev_top.specs.Capturing.{IfCaptured, IfScripted}
use Rattle.gev_top.specs.Explained.{Explains}
use Rattle.gev_top.specs.Imaging.{Images}
use Rattle.script_image.specs.declared.wanted.Wanted.{Wanted}
use Rattle.script_image.specs.declared.wanted.Wanted.TheVariants.{One, All}
use Rattle.gev_top.specs.Usage.{Said}
use Rattle.gev_top.specs.Answers.{Replays, Serves, Writes, Answers, IsDecided}
use Rattle.gev_top.specs.Completeness.{NoneRose, EndsScript, EndsImage, EndsCapture, EndsCaptured, EndsText, EndsWorld, IsComplete, Completes}

replayed : (status : Status) (left left_after : Option (List ℕ)) (reads reads_after : ℕ) (written written_after : Option (List ℕ)) (writes writes_after : ℕ)
    → Replays status left left_after reads reads_after written written_after writes writes_after → NoneRose reads reads_after → NoneRose writes writes_after → EndsScript status
replayed Done left left_after reads reads_after written written_after writes writes_after h none none_written = tt
replayed (BadScript line kind) left left_after reads reads_after written written_after writes writes_after h none none_written = tt
replayed NoMemory left left_after reads reads_after written written_after writes writes_after h none none_written = tt
replayed ReadFault left left_after reads reads_after written written_after writes writes_after h none none_written = none h.holds.ends.0
replayed WriteFault left left_after reads reads_after written written_after writes writes_after h none none_written = none_written h.holds.ends.0
replayed (Usage place) left left_after reads reads_after written written_after writes writes_after h none none_written = h
replayed (NoAnswer req) left left_after reads reads_after written written_after writes writes_after h none none_written = h
replayed (Refused status) left left_after reads reads_after written written_after writes writes_after h none none_written = h
replayed LinkFault left left_after reads reads_after written written_after writes writes_after h none none_written = h
replayed (TurnsSpent turns frames) left left_after reads reads_after written written_after writes writes_after h none none_written = h
replayed (BadCapture number kind) left left_after reads reads_after written written_after writes writes_after h none none_written = h
replayed (NoPicture why) left left_after reads reads_after written written_after writes writes_after h none none_written = h
replayed (Silent frames) left left_after reads reads_after written written_after writes writes_after h none none_written = h
replayed Controlled left left_after reads reads_after written written_after writes writes_after h none none_written = h
replayed NoDescription left left_after reads reads_after written written_after writes writes_after h none none_written = h
replayed (ControlLost frames) left left_after reads reads_after written written_after writes writes_after h none none_written = h
replayed (NoDatagram port) left left_after reads reads_after written written_after writes writes_after h none none_written = h
replayed (RefusedAt register code) left left_after reads reads_after written written_after writes writes_after h none none_written = h

explained : (status : Status) (left left_after : Option (List ℕ)) (reads reads_after : ℕ) (written written_after : Option (List ℕ)) (writes writes_after : ℕ)
    → Explains status left left_after reads reads_after written written_after writes writes_after → NoneRose reads reads_after → NoneRose writes writes_after → EndsScript status
explained Done left left_after reads reads_after written written_after writes writes_after h none none_written = tt
explained (BadScript line kind) left left_after reads reads_after written written_after writes writes_after h none none_written = tt
explained NoMemory left left_after reads reads_after written written_after writes writes_after h none none_written = tt
explained ReadFault left left_after reads reads_after written written_after writes writes_after h none none_written = none h.run.holds.ends.0
explained WriteFault left left_after reads reads_after written written_after writes writes_after h none none_written = none_written h.run.holds.ends.0
explained (Usage place) left left_after reads reads_after written written_after writes writes_after h none none_written = h
explained (NoAnswer req) left left_after reads reads_after written written_after writes writes_after h none none_written = h
explained (Refused status) left left_after reads reads_after written written_after writes writes_after h none none_written = h
explained LinkFault left left_after reads reads_after written written_after writes writes_after h none none_written = h
explained (TurnsSpent turns frames) left left_after reads reads_after written written_after writes writes_after h none none_written = h
explained (BadCapture number kind) left left_after reads reads_after written written_after writes writes_after h none none_written = h
explained (NoPicture why) left left_after reads reads_after written written_after writes writes_after h none none_written = h
explained (Silent frames) left left_after reads reads_after written written_after writes writes_after h none none_written = h
explained Controlled left left_after reads reads_after written written_after writes writes_after h none none_written = h
explained NoDescription left left_after reads reads_after written written_after writes writes_after h none none_written = h
explained (ControlLost frames) left left_after reads reads_after written written_after writes writes_after h none none_written = h
explained (NoDatagram port) left left_after reads reads_after written written_after writes writes_after h none none_written = h
explained (RefusedAt register code) left left_after reads reads_after written written_after writes writes_after h none none_written = h

shown : (wanted : Wanted) (status : Status) (left left_after : Option (List ℕ)) (reads reads_after : ℕ) (written written_after : Option (List ℕ)) (writes writes_after : ℕ)
    → Images wanted status left left_after reads reads_after written written_after writes writes_after → NoneRose reads reads_after → NoneRose writes writes_after → EndsImage status
shown wanted Done left left_after reads reads_after written written_after writes writes_after h none none_written = tt
shown wanted (NoPicture why) left left_after reads reads_after written written_after writes writes_after h none none_written = tt
shown wanted (BadScript line kind) left left_after reads reads_after written written_after writes writes_after h none none_written = tt
shown wanted NoMemory left left_after reads reads_after written written_after writes writes_after h none none_written = tt
shown (One k) ReadFault left left_after reads reads_after written written_after writes writes_after h none none_written = none h.holds.ends.0
shown All ReadFault left left_after reads reads_after written written_after writes writes_after h none none_written = none h.holds.0
shown (One k) WriteFault left left_after reads reads_after written written_after writes writes_after h none none_written = none_written h.holds.ends.0
shown All WriteFault left left_after reads reads_after written written_after writes writes_after h none none_written = none_written h.holds.0
shown wanted (Usage place) left left_after reads reads_after written written_after writes writes_after h none none_written = h
shown wanted (NoAnswer req) left left_after reads reads_after written written_after writes writes_after h none none_written = h
shown wanted (Refused status) left left_after reads reads_after written written_after writes writes_after h none none_written = h
shown wanted LinkFault left left_after reads reads_after written written_after writes writes_after h none none_written = h
shown wanted (TurnsSpent turns frames) left left_after reads reads_after written written_after writes writes_after h none none_written = h
shown wanted (BadCapture number kind) left left_after reads reads_after written written_after writes writes_after h none none_written = h
shown wanted (Silent frames) left left_after reads reads_after written written_after writes writes_after h none none_written = h
shown wanted Controlled left left_after reads reads_after written written_after writes writes_after h none none_written = h
shown wanted NoDescription left left_after reads reads_after written written_after writes writes_after h none none_written = h
shown wanted (ControlLost frames) left left_after reads reads_after written written_after writes writes_after h none none_written = h
shown wanted (NoDatagram port) left left_after reads reads_after written written_after writes writes_after h none none_written = h
shown wanted (RefusedAt register code) left left_after reads reads_after written written_after writes writes_after h none none_written = h

served : (status : Status) (left left_after : Option (List ℕ)) (reads reads_after : ℕ) (written written_after : Option (List ℕ)) (writes writes_after : ℕ)
    → Serves status left left_after reads reads_after written written_after writes writes_after → NoneRose reads reads_after → NoneRose writes writes_after → EndsScript status
served Done left left_after reads reads_after written written_after writes writes_after h none none_written = tt
served (BadScript line kind) left left_after reads reads_after written written_after writes writes_after h none none_written = tt
served NoMemory left left_after reads reads_after written written_after writes writes_after h none none_written = tt
served ReadFault left left_after reads reads_after written written_after writes writes_after h none none_written = none h.holds.ends.0
served WriteFault left left_after reads reads_after written written_after writes writes_after h none none_written = none_written h.holds.ends.0
served (Usage place) left left_after reads reads_after written written_after writes writes_after h none none_written = h
served (NoAnswer req) left left_after reads reads_after written written_after writes writes_after h none none_written = h
served (Refused status) left left_after reads reads_after written written_after writes writes_after h none none_written = h
served LinkFault left left_after reads reads_after written written_after writes writes_after h none none_written = h
served (TurnsSpent turns frames) left left_after reads reads_after written written_after writes writes_after h none none_written = h
served (BadCapture number kind) left left_after reads reads_after written written_after writes writes_after h none none_written = h
served (NoPicture why) left left_after reads reads_after written written_after writes writes_after h none none_written = h
served (Silent frames) left left_after reads reads_after written written_after writes writes_after h none none_written = h
served Controlled left left_after reads reads_after written written_after writes writes_after h none none_written = h
served NoDescription left left_after reads reads_after written written_after writes writes_after h none none_written = h
served (ControlLost frames) left left_after reads reads_after written written_after writes writes_after h none none_written = h
served (NoDatagram port) left left_after reads reads_after written written_after writes writes_after h none none_written = h
served (RefusedAt register code) left left_after reads reads_after written written_after writes writes_after h none none_written = h

captured : (whole begun : List Sighting → List ℕ) (some : List Sighting → Bool) (status : Status) (left left_after : Option (List ℕ)) (reads reads_after : ℕ) (written written_after : Option (List ℕ)) (writes writes_after : ℕ)
    → IfCaptured (λ ending. RunEnds whole begun some ending left left_after reads reads_after written written_after writes writes_after) status → NoneRose reads reads_after → NoneRose writes writes_after → EndsCapture status
captured whole begun some Done left left_after reads reads_after written written_after writes writes_after h none none_written = tt
captured whole begun some (BadCapture number kind) left left_after reads reads_after written written_after writes writes_after h none none_written = tt
captured whole begun some NoMemory left left_after reads reads_after written written_after writes writes_after h none none_written = tt
captured whole begun some ReadFault left left_after reads reads_after written written_after writes writes_after h none none_written = none h.0
captured whole begun some WriteFault left left_after reads reads_after written written_after writes writes_after h none none_written = none_written h.0
captured whole begun some (Usage place) left left_after reads reads_after written written_after writes writes_after h none none_written = h
captured whole begun some (BadScript line kind) left left_after reads reads_after written written_after writes writes_after h none none_written = h
captured whole begun some (NoAnswer req) left left_after reads reads_after written written_after writes writes_after h none none_written = h
captured whole begun some (Refused status) left left_after reads reads_after written written_after writes writes_after h none none_written = h
captured whole begun some LinkFault left left_after reads reads_after written written_after writes writes_after h none none_written = h
captured whole begun some (TurnsSpent turns frames) left left_after reads reads_after written written_after writes writes_after h none none_written = h
captured whole begun some (NoPicture why) left left_after reads reads_after written written_after writes writes_after h none none_written = h
captured whole begun some (Silent frames) left left_after reads reads_after written written_after writes writes_after h none none_written = h
captured whole begun some Controlled left left_after reads reads_after written written_after writes writes_after h none none_written = h
captured whole begun some NoDescription left left_after reads reads_after written written_after writes writes_after h none none_written = h
captured whole begun some (ControlLost frames) left left_after reads reads_after written written_after writes writes_after h none none_written = h
captured whole begun some (NoDatagram port) left left_after reads reads_after written written_after writes writes_after h none none_written = h
captured whole begun some (RefusedAt register code) left left_after reads reads_after written written_after writes writes_after h none none_written = h

scripted : (port : ℕ) (whole begun : List Sighting → List ℕ) (some : List Sighting → Bool) (status : Status) (left left_after : Option (List ℕ)) (reads reads_after : ℕ) (written written_after : Option (List ℕ)) (writes writes_after : ℕ)
    → IfScripted port (λ ending. RunEnds whole begun some ending left left_after reads reads_after written written_after writes writes_after) status → NoneRose reads reads_after → NoneRose writes writes_after → EndsCaptured status
scripted port whole begun some Done left left_after reads reads_after written written_after writes writes_after h none none_written = tt
scripted port whole begun some (BadCapture number kind) left left_after reads reads_after written written_after writes writes_after h none none_written = tt
scripted port whole begun some NoMemory left left_after reads reads_after written written_after writes writes_after h none none_written = tt
scripted port whole begun some ReadFault left left_after reads reads_after written written_after writes writes_after h none none_written = none h.0
scripted port whole begun some WriteFault left left_after reads reads_after written written_after writes writes_after h none none_written = none_written h.0
scripted port whole begun some (Usage place) left left_after reads reads_after written written_after writes writes_after h none none_written = h
scripted port whole begun some (BadScript line kind) left left_after reads reads_after written written_after writes writes_after h none none_written = h
scripted port whole begun some (NoAnswer req) left left_after reads reads_after written written_after writes writes_after h none none_written = h
scripted port whole begun some (Refused status) left left_after reads reads_after written written_after writes writes_after h none none_written = h
scripted port whole begun some LinkFault left left_after reads reads_after written written_after writes writes_after h none none_written = h
scripted port whole begun some (TurnsSpent turns frames) left left_after reads reads_after written written_after writes writes_after h none none_written = h
scripted port whole begun some (NoPicture why) left left_after reads reads_after written written_after writes writes_after h none none_written = h
scripted port whole begun some (Silent frames) left left_after reads reads_after written written_after writes writes_after h none none_written = h
scripted port whole begun some Controlled left left_after reads reads_after written written_after writes writes_after h none none_written = h
scripted port whole begun some NoDescription left left_after reads reads_after written written_after writes writes_after h none none_written = h
scripted port whole begun some (ControlLost frames) left left_after reads reads_after written written_after writes writes_after h none none_written = h
scripted port whole begun some (NoDatagram to) left left_after reads reads_after written written_after writes writes_after h none none_written = tt
scripted port whole begun some (RefusedAt register code) left left_after reads reads_after written written_after writes writes_after h none none_written = h

made : (text : List ℕ) (status : Status) (written written_after : Option (List ℕ)) (writes writes_after : ℕ)
    → Writes text status written written_after writes writes_after → NoneRose writes writes_after → EndsText status
made text Done written written_after writes writes_after h none = tt
made text NoMemory written written_after writes writes_after h none = tt
made text WriteFault written written_after writes writes_after h none = none h.0
made text ReadFault written written_after writes writes_after h none = h
made text (Usage place) written written_after writes writes_after h none = h
made text (BadScript line kind) written written_after writes writes_after h none = h
made text (NoAnswer req) written written_after writes writes_after h none = h
made text (Refused status) written written_after writes writes_after h none = h
made text LinkFault written written_after writes writes_after h none = h
made text (TurnsSpent turns frames) written written_after writes writes_after h none = h
made text (BadCapture number kind) written written_after writes writes_after h none = h
made text (NoPicture why) written written_after writes writes_after h none = h
made text (Silent frames) written written_after writes writes_after h none = h
made text Controlled written written_after writes writes_after h none = h
made text NoDescription written written_after writes writes_after h none = h
made text (ControlLost frames) written written_after writes writes_after h none = h
made text (NoDatagram port) written written_after writes writes_after h none = h
made text (RefusedAt register code) written written_after writes writes_after h none = h

soaked : (end : SoakEnd) (run : Run) (written written_after : Option (List ℕ)) (writes writes_after : ℕ)
    → RunsSoak end run written written_after writes writes_after → NoneRose writes writes_after → EndsWorld (status_after end)
soaked soaks.Done run written written_after writes writes_after h none = tt
soaked (soaks.NoAnswer req) run written written_after writes writes_after h none = tt
soaked (soaks.Refused status) run written written_after writes writes_after h none = tt
soaked soaks.NoMemory run written written_after writes writes_after h none = tt
soaked soaks.WriteFault run written written_after writes writes_after h none = none h.wrote.1

pub completes : (command : Command) (status : Status) (left left_after : Option (List ℕ)) (reads reads_after : ℕ) (written written_after : Option (List ℕ)) (writes writes_after : ℕ)
    → Answers command status left left_after reads reads_after written written_after writes writes_after → NoneRose reads reads_after → NoneRose writes writes_after → IsComplete command status
completes Replay status left left_after reads reads_after written written_after writes writes_after h none none_written =
    replayed status left left_after reads reads_after written written_after writes writes_after h none none_written
completes Explain status left left_after reads reads_after written written_after writes writes_after h none none_written =
    explained status left left_after reads reads_after written written_after writes writes_after h none none_written
completes (Image wanted) status left left_after reads reads_after written written_after writes writes_after h none none_written =
    shown wanted status left left_after reads reads_after written written_after writes writes_after h none none_written
completes Streams status left left_after reads reads_after written written_after writes writes_after h none none_written =
    captured streams_text listed_text always status left left_after reads reads_after written written_after writes writes_after h none none_written
completes (Capture port p bytes) status left left_after reads reads_after written written_after writes writes_after h none none_written =
    scripted port (capture_script port p bytes) (begun_script port p bytes) (has_datagram port) status left left_after reads reads_after written written_after writes writes_after h none none_written
completes Camera status left left_after reads reads_after written written_after writes writes_after h none none_written =
    served status left left_after reads reads_after written written_after writes writes_after h none none_written
completes (Make seed frames rates) status left left_after reads reads_after written written_after writes writes_after h none none_written =
    made (make_text seed frames rates) status written written_after writes writes_after h.wrote none_written
completes (Soak seed frames rates short) status left left_after reads reads_after written written_after writes writes_after h none none_written =
    subst EndsWorld (sym h.wrote.is) (soaked h.wrote.end (record { seed = seed; frames = frames; rates = rates; short = short }) written written_after writes writes_after h.wrote.ran none_written)

is_asked : (made asked : Command) (said : Said Command) → Ok made ≡ said → said ≡ Ok asked → made ≡ asked
is_asked made asked said a b = let e : Ok made ≡ Ok asked = a ∙ b in cc

-- the same of the command that the words said
pub completed : (made asked : Command) (said : Said Command) (status : Status) (left left_after : Option (List ℕ)) (reads reads_after : ℕ) (written written_after : Option (List ℕ)) (writes writes_after : ℕ)
    → Ok made ≡ said → said ≡ Ok asked → Answers made status left left_after reads reads_after written written_after writes writes_after
    → IfTold left (λ content. IsDecided made status content) → NoneRose reads reads_after → NoneRose writes writes_after → Completes asked left status
completed made asked said status left left_after reads reads_after written written_after writes writes_after a b h decided none none_written =
    subst (λ (command : Command). Completes command left status) (is_asked made asked said a b)
    (record { answer = completes made status left left_after reads reads_after written written_after writes writes_after h none none_written; decided = decided })
