-- The wait for the first leader: turns in which what waits in the stream's link is looked at and dropped, and the control
-- of the camera is kept.
use Rattle.std.specs.Prelude.{◌≡◌, ◌⊎◌, ◌≤◌, ⊤, ℕ, ◌+◌, ◌&&◌, ◌||◌, nat_le, nat_lt, not, Bool, true, false, List, length, Option, Some, None, is_some, Result, Ok, Err}
use Rattle.client_machine.specs.Machine.{Client}
use Rattle.bootstrap_regs.specs.Addresses.{CCP}
use Rattle.gev_links.specs.declared.failed.Failed.{Failed}
use Rattle.gev_links.specs.Faults.{Rose}
use Rattle.gev_links.specs.Links.{Address, Answer}
use Rattle.gev_links.specs.Moments.{Tells, TellsEach}
use Rattle.gev_links.specs.Told.{IsSpent}
use Rattle.gev_control.specs.declared.turn_end.TurnEnd.{TurnEnd}
use Rattle.gev_control.specs.declared.turn_end.TurnEnd.TheVariants as ends
use Rattle.gev_control.specs.Controlled.{listed, ClientTurn}
use Rattle.gev_control.specs.Telling.{told_value}
use Rattle.camera_control.specs.declared.control_end.ControlEnd.{ControlEnd}
use Rattle.camera_control.specs.declared.control_end.ControlEnd.TheVariants as causes
use Rattle.camera_control.specs.Steps.{lost_cause}
use Rattle.first_leader.specs.declared.leading.FirstLeader.{FirstLeader}
use Rattle.first_leader.specs.declared.no_leader.NoLeader.{NoLeader}
use Rattle.first_leader.specs.declared.no_leader.NoLeader.TheVariants.{Silent, InputEnded, Ended}
use Rattle.first_leader.specs.declared.patience.Patience.{Patience}
use Rattle.first_leader.specs.declared.silence.Pace.{Pace}
use Rattle.first_leader.specs.Leaders.{first_leader_in}

-- What is told of the outside, and the client: what was received on the stream, and on the control link, what was sent
-- there, and the moments.
pub record WaitSide : Type 0 where
  pub received : Option (List Answer)
  pub heard : Option (List Answer)
  pub sent : Option (List (Address × List ℕ))
  pub told : Option (List ℕ)
  pub client : Client

-- ---- control

-- how a turn ends the wait, by how its control part ended and by what a heartbeat told
abbrev pub beat_cause : TurnEnd → Option ℕ → Option ControlEnd
beat_cause ends.GoesOn told = lost_cause true told
beat_cause ends.Fault told = Some causes.LinkFault
beat_cause (ends.NoAnswer req) told = Some (causes.NoAnswer req)
beat_cause (ends.Refused status) told = Some (causes.RefusedAt CCP status)

-- One receive on the control link, what the client made of it and sent, and how that ends the wait, if it does. Nothing
-- but heartbeats is submitted.
pub record Beats (camera : Address) (s : Client) (moment : ℕ) (u : Client) (heard heard_after : Option (List Answer))
    (sent sent_after : Option (List (Address × List ℕ))) (cause : Option ControlEnd) : Type 0 where
  pub end : TurnEnd
  pub turn : ClientTurn camera s moment false end u heard heard_after sent sent_after
  pub cause_is : cause ≡ beat_cause end (told_value (is_some s.asked) u.asked u)

-- ---- the stream

-- one receive at most, whose answer was dropped
abbrev pub Drops : Option (List Answer) → Option (List Answer) → Type 0
Drops received received_after = (dropped : Option Answer) × TellsEach received received_after (listed dropped)

-- a leader that some datagram is
abbrev pub IsLeader : ℕ → Option FirstLeader → Type 0
IsLeader packet_size None = ⊤
IsLeader packet_size (Some leader) = (bytes : List ℕ) × (first_leader_in packet_size bytes ≡ Some leader)

-- A look at the stream showed a leader, which stays. Else what was shown was received and dropped, if anything was.
abbrev pub Looks : ℕ → Result (Option FirstLeader) Failed → Option (List Answer) → Option (List Answer) → Type 0
Looks packet_size (Ok (Some leader)) received received_after = IsLeader packet_size (Some leader) × (received_after ≡ received)
Looks packet_size (Ok None) received received_after = Drops received received_after
Looks packet_size (Err error) received received_after = Drops received received_after

-- ---- silence

-- A moment is so much behind the one before it that it isn't the wait that took so long.
abbrev pub jumps : ℕ → Pace → ℕ → Bool
jumps silence pace moment = nat_lt (pace.last + silence) moment

-- The turn of a moment that jumps ends nothing, and the one behind it decides.
abbrev pub is_over : ℕ → ℕ → Pace → ℕ → Bool
is_over silence begin pace moment = nat_le (begin + silence) moment && (not (jumps silence pace moment) || pace.spared)

abbrev pub next_pace : ℕ → Pace → ℕ → Pace
next_pace silence pace moment = record { last = moment; spared = jumps silence pace moment && not pace.spared }

-- ---- turns

-- A turn: a look at the stream that showed no leader, one moment, and the control part.
pub record TakesTurn (camera : Address) (o n : WaitSide) (moment : ℕ) (cause : Option ControlEnd) : Type 0 where
  pub received : Drops o.received n.received
  pub told : Tells o.told n.told moment
  pub beats : Beats camera o.client moment n.client o.heard n.heard o.sent n.sent cause

-- These turns were made, from this moment on, and none ended the wait.
pub data Waits (camera : Address) (silence begin : ℕ) (o : WaitSide) : Pace → WaitSide → Type 0 where
  begins : Waits camera silence begin o (record { last = begin; spared = false }) o
  goes_on : (pace : Pace) (m n : WaitSide) (moment : ℕ) → Waits camera silence begin o pace m → TakesTurn camera m n moment None
      → is_over silence begin pace moment ≡ false → Waits camera silence begin o (next_pace silence pace moment) n

-- The turn behind them ended the wait.
pub data EndsTurn (camera : Address) (patience : Patience) (begin : ℕ) (pace : Pace) (m n : WaitSide) : Result FirstLeader NoLeader → Type 0 where
  found : (leader : FirstLeader) → IsLeader patience.packet_size (Some leader) → n ≡ m → EndsTurn camera patience begin pace m n (Ok leader)
  unseen : Drops m.received n.received → n ≡ record m { received = n.received }
      → EndsTurn camera patience begin pace m n (Err (Ended causes.LinkFault))
  ended : (moment : ℕ) (cause : ControlEnd) → TakesTurn camera m n moment (Some cause) → EndsTurn camera patience begin pace m n (Err (Ended cause))
  silent : (moment : ℕ) → TakesTurn camera m n moment None → is_over patience.silence begin pace moment ≡ true
      → EndsTurn camera patience begin pace m n (Err Silent)

-- How the wait ended: by a turn, or between two because the input had ended.
pub data EndsWait (camera : Address) (patience : Patience) (begin : ℕ) (pace : Pace) (m n : WaitSide) : Result FirstLeader NoLeader → Type 0 where
  by_turn : (result : Result FirstLeader NoLeader) → EndsTurn camera patience begin pace m n result → EndsWait camera patience begin pace m n result
  by_input : patience.until_input ≡ true → n ≡ m → EndsWait camera patience begin pace m n (Err InputEnded)

-- The wait began at a moment, and turns were made until it ended so.
pub record AwaitsLeader (camera : Address) (patience : Patience) (o n : WaitSide) (result : Result FirstLeader NoLeader) : Type 0 where
  pub begin : ℕ
  pub first : Option (List ℕ)
  pub begun : Tells o.told first begin
  pub pace : Pace
  pub m : WaitSide
  pub waits : Waits camera patience.silence begin (record o { told = first }) pace m
  pub ends : EndsWait camera patience begin pace m n result

-- ---- faults

abbrev pub is_link_fault : ControlEnd → Bool
is_link_fault causes.LinkFault = true
is_link_fault (causes.NoAnswer req) = false
is_link_fault (causes.RefusedAt register status) = false
is_link_fault causes.Controlled = false
is_link_fault causes.ControlLost = false

abbrev pub cause_faults : Option ControlEnd → Bool
cause_faults None = false
cause_faults (Some cause) = is_link_fault cause

abbrev pub is_fault : Result FirstLeader NoLeader → Bool
is_fault (Ok leader) = false
is_fault (Err Silent) = false
is_fault (Err InputEnded) = false
is_fault (Err (Ended cause)) = is_link_fault cause

-- no end is no fault
abbrev pub ends_in_fault : Option (Result FirstLeader NoLeader) → Bool
ends_in_fault None = false
ends_in_fault (Some end) = is_fault end

-- Where there was a fault one of the two counts rose, the stream's or the control link's, and else none did.
abbrev pub FaultsOf : Bool → ℕ → ℕ → ℕ → ℕ → Type 0
FaultsOf true stream stream_after control control_after =
    (Rose stream stream_after × (control_after ≡ control)) ⊎ ((stream_after ≡ stream) × Rose control control_after)
FaultsOf false stream stream_after control control_after = (stream_after ≡ stream) × (control_after ≡ control)

-- The input had ended where that ended the wait.
abbrev pub InputOf : Result FirstLeader NoLeader → Option (List ℕ) → Type 0
InputOf (Ok leader) left = ⊤
InputOf (Err Silent) left = ⊤
InputOf (Err InputEnded) left = IsSpent left
InputOf (Err (Ended cause)) left = ⊤

abbrev pub IsInputSpent : Bool → Option (List ℕ) → Type 0
IsInputSpent until_input left = (until_input ≡ true) × IsSpent left

-- ---- one turn of the wait

-- how a turn ended behind its look
abbrev pub none_in_fault : Option NoLeader → Bool
none_in_fault None = false
none_in_fault (Some Silent) = false
none_in_fault (Some InputEnded) = false
none_in_fault (Some (Ended cause)) = is_link_fault cause

-- A moment was read and the control part was made: it goes on at this pace, or ends so.
pub data PassesTime (camera : Address) (patience : Patience) (begin : ℕ) (pace pace_after : Pace) (told told_after : Option (List ℕ)) (s u : Client)
    (heard heard_after : Option (List Answer)) (sent sent_after : Option (List (Address × List ℕ))) : Option NoLeader → Type 0 where
  time_left : (moment : ℕ) → Tells told told_after moment → Beats camera s moment u heard heard_after sent sent_after None
      → is_over patience.silence begin pace moment ≡ false → pace_after ≡ next_pace patience.silence pace moment
      → PassesTime camera patience begin pace pace_after told told_after s u heard heard_after sent sent_after None
  time_spent : (moment : ℕ) → Tells told told_after moment → Beats camera s moment u heard heard_after sent sent_after None
      → is_over patience.silence begin pace moment ≡ true
      → PassesTime camera patience begin pace pace_after told told_after s u heard heard_after sent sent_after (Some Silent)
  control_ended : (moment : ℕ) (cause : ControlEnd) → Tells told told_after moment
      → Beats camera s moment u heard heard_after sent sent_after (Some cause)
      → PassesTime camera patience begin pace pace_after told told_after s u heard heard_after sent sent_after (Some (Ended cause))

-- A turn was made, after which it goes on at this pace, or ends so.
pub data MakesTurn (camera : Address) (patience : Patience) (begin : ℕ) (pace pace_after : Pace) (m n : WaitSide)
    : Option (Result FirstLeader NoLeader) → Type 0 where
  on : (moment : ℕ) → TakesTurn camera m n moment None → is_over patience.silence begin pace moment ≡ false
      → pace_after ≡ next_pace patience.silence pace moment → MakesTurn camera patience begin pace pace_after m n None
  ends_so : (result : Result FirstLeader NoLeader) → EndsTurn camera patience begin pace m n result
      → MakesTurn camera patience begin pace pace_after m n (Some result)
