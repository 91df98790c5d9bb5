-- How long a camera was silent before a run ended for it.
use Rattle.std.specs.Prelude.{ℕ, ◌+◌, ◌≤◌, List, [], ◌∷◌, ◌++◌}
use Rattle.gev_links.specs.Moments.{TellsEach}
use Rattle.first_leader.specs.Waiting.{WaitSide}
use Rattle.camera_reader.specs.Hearing.{Arrival, answers_of, moments_of}
use Rattle.camera_reader.specs.Laws.{last_datagram}

-- No leader came. These are all moments that the host's clock told from the begin of the wait on, and the last lies the
-- whole silence behind the first.
pub record WaitsSilent (silence : ℕ) (o n : WaitSide) : Type 0 where
  pub begin : ℕ
  pub earlier : List ℕ
  pub last : ℕ
  pub told : TellsEach o.told n.told (begin ∷ (earlier ++ last ∷ []))
  pub waited : begin + silence ≤ last

-- Behind the first leader this is all that the stream's link gave and all moments that the host's clock told, and the last
-- moment lies the whole silence behind that of the last datagram, or behind the begin where none came.
pub record ReadsSilent (silence : ℕ) (o n : WaitSide) : Type 0 where
  pub begin : ℕ
  pub earlier : List Arrival
  pub last : Arrival
  pub received : TellsEach o.received n.received (answers_of (earlier ++ last ∷ []))
  pub told : TellsEach o.told n.told (begin ∷ moments_of (earlier ++ last ∷ []))
  pub waited : last_datagram begin (earlier ++ last ∷ []) + silence ≤ last.moment
