-- What the code says of reads and writes of words.
use Rattle.std.specs.Prelude.{ℕ, ◌+◌, Bool, ◌||◌, List, ◌++◌, Option, Some, None, Result, Ok, Err}
use Rattle.gvcp_wire.specs.declared.status.Status.{Status}
use Rattle.camera_machine.specs.Words.{bytes_of}
use Rattle.camera_machine.specs.Camera.{Camera}
use Rattle.camera_machine.specs.Access.{Written}
use Rattle.camera_sim.specs.declared.writes.Writes.{Writes}

-- the camera after a write, which a refusal leaves as it was
abbrev pub unless_refused : Option Status → Camera → Camera → Camera
unless_refused None s done = done
unless_refused (Some status) s done = s

-- ---- words that are read, as bytes

-- the words that were read, after these bytes
abbrev pub after_bytes : List ℕ → Result (List ℕ) Status → Result (List ℕ) Status
after_bytes front (Ok values) = Ok (front ++ bytes_of values)
after_bytes front (Err status) = Err status

-- these bytes, unless a word was refused
abbrev pub read_as : Option Status → List ℕ → Result (List ℕ) Status
read_as None bytes = Ok bytes
read_as (Some status) bytes = Err status

-- ---- words that are written in order

-- What the code says of them.
pub record Wrote : Type 0 where
  pub camera : Camera
  pub done : ℕ
  pub refusal : Option Status
  pub has_granted : Bool

abbrev pub wrote : Written → Wrote
wrote w = record { camera = w.camera; done = w.done; refusal = w.refusal; has_granted = w.has_granted }

-- the camera after them, and what the code answers
abbrev pub wrote_as : Camera → Writes → Wrote
wrote_as s w = record { camera = s; done = w.done; refusal = w.refusal; has_granted = w.has_granted }

-- what further writes left, where so many were done before, which granted control or not
abbrev pub joined : ℕ → Bool → Written → Wrote
joined done has_granted w = record {
  camera = w.camera;
  done = done + w.done;
  refusal = w.refusal;
  has_granted = has_granted || w.has_granted;
}
