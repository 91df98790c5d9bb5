-- What the application's worker does beside its turns: it stops the run.
use Rattle.std.specs.Prelude.{ℕ, Bool, true, false, List, Option}
use Rattle.buffer_words.specs.Passes.{Token}
use Rattle.live_crew.specs.Stops.{StopsIf}
use Rattle.camera_words.specs.declared.settings.Output.{Output}
use Rattle.frame_writing.specs.declared.handed_out.HandedEnd.{HandedEnd}
use Rattle.frame_writing.specs.declared.handed_out.HandedEnd.TheVariants.{Enough, Over, InputEnded, WriteFault, NoMemory}
use Rattle.frame_writing.specs.declared.handed_out.HandedOut.{HandedOut}
use Rattle.frame_writing.specs.HandsOut.{HandsOut}

-- it needs no more of the run, and the run may go on
abbrev pub has_enough : HandedEnd → Bool
has_enough Enough = true
has_enough Over = false
has_enough InputEnded = true
has_enough WriteFault = true
has_enough NoMemory = true

-- It handed out buffers, and stopped the run where it had enough.
pub record HandsOutAndStops (frames : ℕ) (output : Output) (told now : Option (List ℕ)) (result : HandedOut) (p q : Token) (written written_after : Option (List ℕ)) (faults faults_after : ℕ) (on : Bool) (left : Option (List ℕ)) : Type 0 where
  pub middle : Token
  pub hands_out : HandsOut frames output told now result p middle written written_after faults faults_after on left
  pub stops : StopsIf (has_enough result.end) middle q
