-- What the camera's worker does beside its turns: it stops the run.
use Rattle.std.specs.Prelude.{ℕ, Bool, true, false, List, Option}
use Rattle.buffer_words.specs.Passes.{Token}
use Rattle.camera_machine.specs.Camera.{Camera}
use Rattle.live_crew.specs.Stops.{StopsIf}
use Rattle.gev_serve.specs.declared.ends.ServeEnd.{ServeEnd}
use Rattle.gev_serve.specs.declared.ends.ServeEnd.TheVariants.{Stopped, Fault, NoMemory, Spent}
use Rattle.gev_serve.specs.Wires.{Wire}
use Rattle.gev_serve.specs.Serving.{ServesTo}

-- the most turns that a camera's worker makes
abbrev pub most_turns : ℕ
most_turns = 1000000000

-- the camera's worker ended by a fault of its link, or for want of memory
abbrev pub has_failed : ServeEnd → Bool
has_failed Stopped = false
has_failed Fault = true
has_failed NoMemory = true
has_failed Spent = false

-- It served, and stopped the run where it failed.
pub record ServesAndStops (end : ServeEnd) (s : Camera) (v w : Wire) (told now_told : Option (List ℕ)) (p q : Token) : Type 0 where
  pub camera : Camera
  pub middle : Token
  pub serves : ServesTo end s camera v w told now_told p middle most_turns
  pub stops : StopsIf (has_failed end) middle q
