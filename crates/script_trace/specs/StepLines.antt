-- What `step` lines add: one step of the board by one of the actors 1 to 4.
use Rattle.std.specs.Prelude.{◌≡◌, ℕ, nat_le, Bool, true, false, List, [], ◌∷◌, length, codes, Option, Some, None, unwrap_or, Result, Ok, Err}
use Rattle.gev_types.specs.Filling.{Filling}
use Rattle.gentl_types.specs.declared.word.Word.{Word}
use Rattle.gentl_types.specs.declared.word.State.{State}
use Rattle.gentl_types.specs.declared.word.State.TheVariants as state
use Rattle.gev_script.specs.declared.act.Act.{Act}
use Rattle.gev_script.specs.declared.act.Act.TheVariants as act
use Rattle.gev_report.specs.declared.step_text.StepText.{StepText}
use Rattle.gev_report.specs.declared.step_text.StepText.TheVariants as said
use Rattle.gev_report.specs.StepLine.{step_line}
use Rattle.board_machine.specs.declared.events.Event.{Event}
use Rattle.board_machine.specs.declared.events.Event.TheVariants.{Grab, Lay, Pool, Claim, SweepPool, Fill, Take, SweepOut, Close}
use Rattle.board_machine.specs.declared.events.TakeEnd.{TakeEnd}
use Rattle.board_machine.specs.declared.events.TakeEnd.TheVariants as end
use Rattle.board_machine.specs.Places.{times}
use Rattle.board_machine.specs.Machine.{Board, word_at, hand}
use Rattle.script_trace.specs.Trace.{Trace, Part, board, acts, only_says}

-- these acts of actor k, whose line has this word, and their answer
abbrev pub steps : Trace → ℕ → List Event → List ℕ → StepText → Part
steps t k events word answer = acts t k events (step_line k word answer)

-- the place is in the actor's hands
abbrev pub is_in_hand : Board → ℕ → ℕ → Bool
is_in_hand b k i = nat_le 1 (times i (hand b k))

-- what was found where a grab was refused
abbrev pub found_text : State → StepText
found_text state.Vacant = said.Vacant
found_text state.Held = said.Done
found_text state.Away = said.Away

abbrev pub grab_text : Result (Unit {0}) Word → StepText
grab_text (Ok done) = said.Done
grab_text (Err word) = found_text word.state

-- The buffer of the place is grabbed with the generation that its word has, which is looked at without an
-- entry; so a Held one is never refused.
abbrev pub GrabStep : Trace → ℕ → ℕ → Part → Type 0
GrabStep t k i part =
    (answer : Result (Unit {0}) Word)
    × (part ≡ steps t k (Grab i (word_at (board t) i).generation answer ∷ []) (codes "grab") (grab_text answer))

-- an act on a place in hand
abbrev pub StepInHand : Trace → ℕ → Event → List ℕ → Bool → Part → Type 0
StepInHand t k event word true part = part ≡ steps t k (event ∷ []) word said.Done
StepInHand t k event word false part = part ≡ only_says t (step_line k word said.NotHeld)

abbrev pub fill_text : Bool → StepText
fill_text true = said.Done
fill_text false = said.Closed

-- a fill with the bytes that lie there and the empty record; where it's answered `closed` the place stays in hand
abbrev pub FillStep : Trace → ℕ → ℕ → Bool → Part → Type 0
FillStep t k i true part =
    (f : Filling) × (filled : Bool) × (part ≡ steps t k (Fill i f filled ∷ []) (codes "fill") (fill_text filled))
FillStep t k i false part = part ≡ only_says t (step_line k (codes "fill") said.NotHeld)

abbrev pub claim_text : Option ℕ → StepText
claim_text None = said.None
claim_text (Some place) = said.Number place

abbrev pub ClaimStep : Trace → ℕ → Part → Type 0
ClaimStep t k part = (answer : Option ℕ) × (part ≡ steps t k (Claim answer ∷ []) (codes "claim") (claim_text answer))

abbrev pub take_text : TakeEnd → StepText
take_text (end.Taken place) = said.Number place
take_text end.Empty = said.None
take_text end.Closed = said.Closed

abbrev pub TakeStep : Trace → ℕ → Part → Type 0
TakeStep t k part = (answer : TakeEnd) × (part ≡ steps t k (Take answer ∷ []) (codes "take") (take_text answer))

abbrev pub SweepPoolStep : Trace → ℕ → Part → Type 0
SweepPoolStep t k part =
    (pooled : List ℕ) × (part ≡ steps t k (SweepPool pooled ∷ []) (codes "sweep-pool") (said.Number (length pooled)))

abbrev pub SweepOutStep : Trace → ℕ → Part → Type 0
SweepOutStep t k part =
    (output : List ℕ) × (part ≡ steps t k (SweepOut output ∷ []) (codes "sweep-out") (said.Number (length output)))

-- by the act, with the place of an act on a place
abbrev pub StepBy : Trace → ℕ → Act → ℕ → Part → Type 0
StepBy t k act.Grab i part = GrabStep t k i part
StepBy t k act.Lay i part = StepInHand t k (Lay i) (codes "lay") (is_in_hand (board t) k i) part
StepBy t k act.Pool i part = StepInHand t k (Pool i) (codes "pool") (is_in_hand (board t) k i) part
StepBy t k act.Fill i part = FillStep t k i (is_in_hand (board t) k i) part
StepBy t k act.Claim i part = ClaimStep t k part
StepBy t k act.Take i part = TakeStep t k part
StepBy t k act.SweepPool i part = SweepPoolStep t k part
StepBy t k act.SweepOut i part = SweepOutStep t k part
StepBy t k act.Close i part = part ≡ steps t k (Close ∷ []) (codes "close") said.Done

-- In the grammar just the acts on a place name one; the others read none.
abbrev pub StepLine : Trace → ℕ → Act → Option ℕ → Part → Type 0
StepLine t k act place part = StepBy t k act (unwrap_or place 0) part
