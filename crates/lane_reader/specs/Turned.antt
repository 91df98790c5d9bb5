-- One turn of the reader with lanes: what came from outside, what went to the lanes, and what was sent.
use Rattle.std.specs.Prelude.{◌≡◌, ℕ, List, [], ◌++◌, Some, None}
use Rattle.client_machine.specs.Machine.{Client}
use Rattle.gev_links.specs.Links.{Address, Answer, failed, Adds}
use Rattle.gev_links.specs.Moments.{Tells, TellsEach}
use Rattle.gev_control.specs.declared.turn_end.TurnEnd.{TurnEnd}
use Rattle.gev_control.specs.Sends.{addressed}
use Rattle.gev_control.specs.Controlled.{EndsAs, listed, sent_by, control_of}
use Rattle.gev_acq.specs.Turns.{SendsAll, Outside}
use Rattle.gev_lanes.specs.declared.parts.ReaderLane.{ReaderLane}
use Rattle.lane_reader.specs.LanesTurns.{ReaderTurn, joined, TakesLanesTurn}

-- What the turn sent, and how it ended, by the lanes' requests and the client.
pub record IsControlled (s : Client) (t : ReaderTurn) : Type 0 where
  pub ends_as : EndsAs t.end (control_of s t.heard t.moment).end
  pub sends : SendsAll t.end (joined t.asked ++ sent_by t.end (control_of s t.heard t.moment).send) t.sent
  -- after a failed receive on the stream nothing is heard and nothing sent
  pub lost : t.answer ≡ failed → (t.heard ≡ None) × (t.sent ≡ [])
  -- the control link is received from only after all requests were sent
  pub after : (answer : Answer) → t.heard ≡ Some answer → (more : List (List ℕ)) × (t.sent ≡ joined t.asked ++ more)

-- The turn was made on n lanes: one receive on the stream, one moment, what they bring to the lanes, the lanes'
-- requests, and the control part.
pub record TakesTurn (n : ℕ) (camera : Address) (o m : Outside) (t : ReaderTurn) (ss us : List ReaderLane) : Type 0 where
  pub lanes : TakesLanesTurn n t ss us
  pub controlled : IsControlled o.client t
  pub client : m.client ≡ (control_of o.client t.heard t.moment).state
  pub received : Tells o.received m.received t.answer
  pub told : Tells o.told m.told t.moment
  pub heard : TellsEach o.heard m.heard (listed t.heard)
  pub sent : Adds o.sent m.sent (addressed camera t.sent)

-- the same of some turn that ended so
pub record TakesOne (n : ℕ) (camera : Address) (o m : Outside) (end : TurnEnd) (ss us : List ReaderLane) : Type 0 where
  pub turned : ReaderTurn
  pub ended : turned.end ≡ end
  pub takes : TakesTurn n camera o m turned ss us
