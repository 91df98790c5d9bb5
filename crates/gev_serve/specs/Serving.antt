-- What the camera's worker of a live run promises.
use Rattle.std.specs.Prelude.{◌≡◌, ◌≢◌, ◌⊎◌, ℕ, ◌+◌, ◌<◌, ◌≤◌, List, length, Option}
use Rattle.board_machine.specs.declared.events.Event.TheVariants.{LookRun}
use Rattle.buffer_words.specs.Passes.{Token, Enters, slot_at}
use Rattle.buffer_words.specs.Several.{EntersEach}
use Rattle.camera_machine.specs.Camera.{Camera}
use Rattle.gev_links.specs.Faults.{Rose}
use Rattle.gev_links.specs.Links.{failed, Adds}
use Rattle.gev_links.specs.Moments.{Tells, TellsEach}
use Rattle.gev_serve.specs.declared.ends.ServeTurn.{ServeTurn}
use Rattle.gev_serve.specs.declared.ends.ServeTurn.TheVariants as turns
use Rattle.gev_serve.specs.declared.ends.ServeEnd.{ServeEnd}
use Rattle.gev_serve.specs.declared.ends.ServeEnd.TheVariants.{Stopped, Fault, NoMemory, Spent}
use Rattle.gev_serve.specs.Wires.{Wire, SendEnd, all_sent, send_failed, gave_up, Sends}
use Rattle.gev_serve.specs.Turns.{Served, framed_turn, block_in, sent_in, answer_with, after_turns, sent_over, answers_in, moments_in, looks_in}

-- the pass has of each place what it had
abbrev pub KeepsHands : Token → Token → Type 0
KeepsHands s t = (i : ℕ) → slot_at t i ≡ slot_at s i

-- ---- one turn

-- how the sends of a turn ended
abbrev pub sends_end : ServeTurn → SendEnd
sends_end (turns.GoesOn block) = all_sent
sends_end turns.Fault = send_failed
sends_end turns.NoMemory = gave_up

-- a fact of a turn that went on
abbrev pub IfGoesOn : ServeTurn → Type 0 → Type 0
IfGoesOn (turns.GoesOn block) P = P
IfGoesOn turns.Fault P = Unit {0}
IfGoesOn turns.NoMemory P = Unit {0}

-- a turn that went on made this frame
abbrev pub IsBlock : ServeTurn → Option ℕ → Type 0
IsBlock (turns.GoesOn made) block = made ≡ block
IsBlock turns.Fault block = Unit {0}
IsBlock turns.NoMemory block = Unit {0}

-- A turn received once and read the clock once, and sent what it had to send up to this end.
pub record MakesPart (end : SendEnd) (s : Camera) (v w : Wire) (told now_told : Option (List ℕ)) : Type 0 where
  pub turn : Served
  pub heard : Wire
  pub received : Tells v.received heard.received (answer_with turn.arrived)
  pub unsent : heard.sent ≡ v.sent
  pub unfailed : heard.faults ≡ v.faults
  pub moment : Tells told now_told turn.moment
  pub sends : Sends (sent_in s turn) end heard w

-- So it did to its end, and left the camera that comes of it.
pub record MakesWhole (s new : Camera) (v w : Wire) (told now_told : Option (List ℕ)) : Type 0 where
  pub part : MakesPart all_sent s v w told now_told
  pub state : new ≡ (framed_turn s part.turn).camera

-- The same, and it made this frame.
pub record MakesFrame (block : Option ℕ) (s new : Camera) (v w : Wire) (told now_told : Option (List ℕ)) : Type 0 where
  pub whole : MakesWhole s new v w told now_told
  pub made : block ≡ block_in s whole.part.turn

-- Its receive failed: the clock wasn't read, nothing was sent, and the camera stayed as it was.
pub record MissesReceive (s new : Camera) (v w : Wire) (told now_told : Option (List ℕ)) : Type 0 where
  pub received : Tells v.received w.received failed
  pub unsent : w.sent ≡ v.sent
  pub rose : Rose v.faults w.faults
  pub untold : now_told ≡ told
  pub state : new ≡ s

abbrev pub MakesTurn : ServeTurn → Camera → Camera → Wire → Wire → Option (List ℕ) → Option (List ℕ) → Type 0
MakesTurn (turns.GoesOn block) s new v w told now_told = MakesFrame block s new v w told now_told
MakesTurn turns.Fault s new v w told now_told = MissesReceive s new v w told now_told ⊎ MakesPart send_failed s v w told now_told
MakesTurn turns.NoMemory s new v w told now_told = MakesPart gave_up s v w told now_told

-- ---- whole turns

-- These turns were made from a camera on, each to its end: all that they send was sent, in order.
pub record TurnsOn (s now : Camera) (v w : Wire) (told now_told : Option (List ℕ)) (p q : Token) (made : List Served) : Type 0 where
  pub entries : EntersEach p (looks_in made) q
  pub received : TellsEach v.received w.received (answers_in made)
  pub moments : TellsEach told now_told (moments_in made)
  pub sent : Adds v.sent w.sent (sent_over s made)
  pub no_fault : w.faults ≡ v.faults
  pub state : now ≡ after_turns s made

-- So many were made, and the camera counts at most so many frames more.
pub record ServesOn (s now : Camera) (v w : Wire) (told now_told : Option (List ℕ)) (p q : Token) (n : ℕ) : Type 0 where
  pub made : List Served
  pub on : TurnsOn s now v w told now_told p q made
  pub number : length made ≡ n
  pub count : now.shelf.count ≤ s.shelf.count + n

-- ---- how the worker ends

-- After whole turns a look found that the acquisition doesn't run any more.
pub record StopsServing (s new : Camera) (v w : Wire) (told now_told : Option (List ℕ)) (p q : Token) (most : ℕ) : Type 0 where
  pub n : ℕ
  pub few : n < most
  pub middle : Token
  pub on : ServesOn s new v w told now_told p middle n
  pub run : ℕ
  pub look : Enters middle (LookRun run) q
  pub ended : run ≢ 1

-- After whole turns, fewer than there may be, the acquisition was found running, and one more turn began.
pub record Begins (s now : Camera) (v w : Wire) (told now_told : Option (List ℕ)) (p q : Token) (most : ℕ) : Type 0 where
  pub n : ℕ
  pub few : n < most
  pub middle : Token
  pub on : ServesOn s now v w told now_told p middle n
  pub look : Enters middle (LookRun 1) q

-- The receive of the last turn failed.
pub record EndsMissing (s new : Camera) (v w : Wire) (told now_told : Option (List ℕ)) (p q : Token) (most : ℕ) : Type 0 where
  pub camera : Camera
  pub between : Wire
  pub mid_told : Option (List ℕ)
  pub begins : Begins s camera v between told mid_told p q most
  pub misses : MissesReceive camera new between w mid_told now_told

-- The last turn was cut short.
pub record EndsCut (end : SendEnd) (s : Camera) (v w : Wire) (told now_told : Option (List ℕ)) (p q : Token) (most : ℕ) : Type 0 where
  pub camera : Camera
  pub between : Wire
  pub mid_told : Option (List ℕ)
  pub begins : Begins s camera v between told mid_told p q most
  pub part : MakesPart end camera between w mid_told now_told

abbrev pub ServesTo : ServeEnd → Camera → Camera → Wire → Wire → Option (List ℕ) → Option (List ℕ) → Token → Token → ℕ → Type 0
ServesTo Stopped s new v w told now_told p q most = StopsServing s new v w told now_told p q most
ServesTo Spent s new v w told now_told p q most = ServesOn s new v w told now_told p q most
ServesTo NoMemory s new v w told now_told p q most = EndsCut gave_up s v w told now_told p q most
ServesTo Fault s new v w told now_told p q most =
    EndsMissing s new v w told now_told p q most ⊎ EndsCut send_failed s v w told now_told p q most
