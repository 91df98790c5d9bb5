-- How the turns of a simulated camera go on and end, and what is written then.
use Rattle.std.specs.Prelude.{◌≡◌, ◌⊎◌, ℕ, ◌+◌, ◌<◌, ◌≤◌, ◌&&◌, Bool, true, false, List, [], ◌∷◌, codes, Option, Some, None, is_none, Result, Ok, Err}
use Rattle.std.specs.List.{concat}
use Rattle.std.specs.Fmt.{decimal}
use Rattle.camera_machine.specs.Camera.{Camera}
use Rattle.gev_links.specs.Links.{Adds}
use Rattle.gev_links.specs.Moments.{Tells, TellsEach}
use Rattle.gev_links.specs.Told.{Appends, WritesPart, IsSpent}
use Rattle.gev_serve.specs.Wires.{Wire, SendEnd, all_sent, send_failed, gave_up, Sends}
use Rattle.gev_serve.specs.Turns.{Served, answer_with}
use Rattle.gev_serve.specs.Serving.{MissesReceive}
use Rattle.camera_serving.specs.declared.kinds.TurnKind.{TurnKind}
use Rattle.camera_serving.specs.declared.kinds.Made.{Made}
use Rattle.camera_serving.specs.declared.kinds.Cut.{Cut}
use Rattle.camera_serving.specs.declared.kinds.Cut.TheVariants as cuts
use Rattle.camera_serving.specs.declared.ends.TurnsEnd.{TurnsEnd}
use Rattle.camera_serving.specs.declared.ends.TurnsEnd.TheVariants as turns
use Rattle.camera_serving.specs.declared.ends.SimulateEnd.{SimulateEnd}
use Rattle.camera_serving.specs.declared.ends.SimulateEnd.TheVariants.{Done, LinkFault, WriteFault, NoMemory}
use Rattle.camera_serving.specs.Turns.{Turn, sent_by, camera_after, block_by, camera_over, sent_over, answers_over, moments_over, frames_over, frame_turns, next_kind, AreInOrder, is_look_due, LooksSo, LooksOver}

-- ---- one turn

-- A turn received once and read the clock once, and sent what it had to send up to this end.
pub record TakesPart (kind : TurnKind) (end : SendEnd) (s : Camera) (v w : Wire) (told now_told : Option (List ℕ)) : Type 0 where
  pub turn : Served
  pub heard : Wire
  pub received : Tells v.received heard.received (answer_with turn.arrived)
  pub unsent : heard.sent ≡ v.sent
  pub unfailed : heard.faults ≡ v.faults
  pub moment : Tells told now_told turn.moment
  pub sends : Sends (sent_by kind s turn) end heard w

-- So it did to its end, left the camera that comes of it, and told this.
pub record TakesWhole (kind : TurnKind) (made : Made) (s new : Camera) (v w : Wire) (told now_told : Option (List ℕ)) : Type 0 where
  pub part : TakesPart kind all_sent s v w told now_told
  pub state : new ≡ camera_after kind s part.turn
  pub moment : made.moment ≡ part.turn.moment
  pub is_quiet : made.is_quiet ≡ is_none part.turn.arrived
  pub block : made.block ≡ block_by kind s part.turn

abbrev pub TakesTurn : TurnKind → Result Made Cut → Camera → Camera → Wire → Wire → Option (List ℕ) → Option (List ℕ) → Type 0
TakesTurn kind (Ok made) s new v w told now_told = TakesWhole kind made s new v w told now_told
TakesTurn kind (Err cuts.Fault) s new v w told now_told = MissesReceive s new v w told now_told ⊎ TakesPart kind send_failed s v w told now_told
TakesTurn kind (Err cuts.NoMemory) s new v w told now_told = TakesPart kind gave_up s v w told now_told

-- ---- whole turns

-- These turns were made from a camera on, each to its end: all that they send was sent, in order.
pub record MakesTurns (s now : Camera) (v w : Wire) (told now_told : Option (List ℕ)) (made : List Turn) : Type 0 where
  pub received : TellsEach v.received w.received (answers_over made)
  pub moments : TellsEach told now_told (moments_over made)
  pub sent : Adds v.sent w.sent (sent_over s made)
  pub no_fault : w.faults ≡ v.faults
  pub state : now ≡ camera_over s made

-- They came in their order, with looks at standard input before those that have to have one. So many of them were frame
-- turns, with so many frames, of which each makes one at most.
pub record Serves (rate : ℕ) (with_input : Bool) (s now : Camera) (v w : Wire) (told now_told left now_left : Option (List ℕ)) (turns frames : ℕ) (made : List Turn) : Type 0 where
  pub on : MakesTurns s now v w told now_told made
  pub order : AreInOrder rate made
  pub looks : LooksOver with_input made left now_left
  pub number : frame_turns made ≡ turns
  pub frames_are : frames_over s made ≡ frames
  pub few : frames ≤ turns
  pub count : now.shelf.count ≤ s.shelf.count + turns

-- ---- how they end

-- All frame turns were made.
pub record EndsSpent (rate : ℕ) (with_input : Bool) (s new : Camera) (v w : Wire) (told now_told left left_after : Option (List ℕ)) (turns frames most : ℕ) : Type 0 where
  pub made : List Turn
  pub serves : Serves rate with_input s new v w told now_told left left_after turns frames made
  pub all : turns ≡ most

-- Fewer were made, and standard input, which was to be looked at before the next turn, had ended.
pub record EndsByInput (rate : ℕ) (with_input : Bool) (s new : Camera) (v w : Wire) (told now_told left left_after : Option (List ℕ)) (turns frames most : ℕ) : Type 0 where
  pub made : List Turn
  pub middle : Option (List ℕ)
  pub serves : Serves rate with_input s new v w told now_told left middle turns frames made
  pub few : turns < most
  pub look : LooksSo true (with_input && is_look_due made) middle left_after
  pub spent : IsSpent left_after

-- Fewer were made, and one more turn began, with a look before it where it has to have one.
pub record Begins (rate : ℕ) (with_input : Bool) (s now : Camera) (v w : Wire) (told now_told left left_after : Option (List ℕ)) (most : ℕ) : Type 0 where
  pub made : List Turn
  pub turns : ℕ
  pub frames : ℕ
  pub middle : Option (List ℕ)
  pub serves : Serves rate with_input s now v w told now_told left middle turns frames made
  pub few : turns < most
  pub look : LooksSo false (with_input && is_look_due made) middle left_after

-- its receive failed
pub record EndsMissing (rate : ℕ) (with_input : Bool) (s new : Camera) (v w : Wire) (told now_told left left_after : Option (List ℕ)) (most : ℕ) : Type 0 where
  pub camera : Camera
  pub between : Wire
  pub mid_told : Option (List ℕ)
  pub begins : Begins rate with_input s camera v between told mid_told left left_after most
  pub misses : MissesReceive camera new between w mid_told now_told

-- it was cut short
pub record EndsCut (end : SendEnd) (rate : ℕ) (with_input : Bool) (s : Camera) (v w : Wire) (told now_told left left_after : Option (List ℕ)) (most : ℕ) : Type 0 where
  pub camera : Camera
  pub between : Wire
  pub mid_told : Option (List ℕ)
  pub begins : Begins rate with_input s camera v between told mid_told left left_after most
  pub part : TakesPart (next_kind rate begins.made) end camera between w mid_told now_told

abbrev pub EndsTurns : TurnsEnd → ℕ → ℕ → Bool → Option (List ℕ) → Option (List ℕ) → Camera → Camera → Wire → Wire → Option (List ℕ) → Option (List ℕ) → Type 0
EndsTurns (turns.Over turns frames) rate most with_input left left_after s new v w told now_told =
    EndsSpent rate with_input s new v w told now_told left left_after turns frames most
    ⊎ EndsByInput rate with_input s new v w told now_told left left_after turns frames most
EndsTurns turns.Fault rate most with_input left left_after s new v w told now_told =
    EndsMissing rate with_input s new v w told now_told left left_after most
    ⊎ EndsCut send_failed rate with_input s v w told now_told left left_after most
EndsTurns turns.NoMemory rate most with_input left left_after s new v w told now_told =
    EndsCut gave_up rate with_input s v w told now_told left left_after most

-- ---- the line

-- the frames, and the frame turns
abbrev pub simulate_line : ℕ → ℕ → List ℕ
simulate_line frames turns = concat (codes "simulate frames=" ∷ decimal frames ∷ codes " turns=" ∷ decimal turns ∷ codes "\n" ∷ [])

-- What was written with this answer, where the turns ended so: the line of the turns that were made, or nothing.
abbrev pub WroteEnd : TurnsEnd → SimulateEnd → Option (List ℕ) → Option (List ℕ) → Type 0
WroteEnd (turns.Over turns frames) Done written written_after = Appends written written_after (simulate_line frames turns)
WroteEnd (turns.Over turns frames) WriteFault written written_after = WritesPart written written_after (simulate_line frames turns)
WroteEnd (turns.Over turns frames) NoMemory written written_after = written_after ≡ written
WroteEnd (turns.Over turns frames) LinkFault written written_after = ⊥
WroteEnd turns.Fault LinkFault written written_after = written_after ≡ written
WroteEnd turns.Fault _ written written_after = ⊥
WroteEnd turns.NoMemory NoMemory written written_after = written_after ≡ written
WroteEnd turns.NoMemory _ written written_after = ⊥
