-- The laws of the camera over lists of events, which `src/laws.rt` proves.
use Rattle.std.specs.Prelude.{◌≡◌, ℕ, ◌-◌, ◌^◌, ◌≤◌, min, IsTrue, List, [], ◌∷◌}
use Rattle.gev_types.specs.declared.frame.Shape.{Shape}
use Rattle.bootstrap_regs.specs.Addresses.{CCP}
use Rattle.bootstrap_regs.specs.Words.{word_at}
use Rattle.control_privilege.specs.Control.{ccp_of}
use Rattle.bootstrap_regs.specs.Changes.{Holds}
use Rattle.resend_store.specs.Laws.{Stands}
use Rattle.camera_machine.specs.Words.{initial_words}
use Rattle.camera_machine.specs.Camera.{Job, Camera, new_camera}
use Rattle.camera_machine.specs.Stream.{has_packets}
use Rattle.camera_machine.specs.Events.{Event, Deed, after, past, changes_in, last_kept, counted_in, frames_since_opening}

-- each job has packets
abbrev pub AreFilled : List Job → Type 0
AreFilled [] = Unit {0}
AreFilled (job ∷ jobs) = IsTrue (has_packets job.packets) × AreFilled jobs

-- The state of a camera that began as `start` says what was done.
pub record IsLeftBy (start s : Camera) (deeds : List Deed) : Type 0 where
  -- each word holds what was last written to it, a release writing 0 to CCP and SCP0, else its first value
  pub words : Holds s.words (changes_in deeds)
  -- the control channel privilege holds who has control, and how
  pub privilege : word_at s.words CCP ≡ ccp_of s.holder
  -- the kept command is the last executed one of the primary since the last release
  pub kept : s.kept ≡ last_kept deeds
  -- the count of the primary's commands is of those executed, as far as 64 bits go
  pub executed : s.executed ≡ min (counted_in deeds) (2 ^ 64 - 1)
  -- no reply or frame waits of which nothing is left to be sent
  pub waiting : AreFilled s.waiting
  pub seed_is : s.seed ≡ start.seed
  pub shape_is : s.shape ≡ start.shape
  pub room_is : s.shelf.room ≡ start.shelf.room
  -- the store holds the last of the frames that were made since the channel last opened
  pub store : 1 ≤ start.shelf.room → Stands s.shelf (frames_since_opening deeds)

-- so it is after any events of a new camera
abbrev pub StateSaysThePast : ℕ → Shape → ℕ → List Event → Type 0
StateSaysThePast seed shape room es = IsLeftBy (new_camera seed shape room) (after (new_camera seed shape room) es) (past (new_camera seed shape room) es)

-- new registers have these words
abbrev pub NewWordsAreInitial : Type 0
NewWordsAreInitial = (words : List ℕ) → Holds words [] → words ≡ initial_words
