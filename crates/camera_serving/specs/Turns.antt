-- The turns of a simulated camera on the network: what each does, and in which order the two kinds come.
use Rattle.std.specs.Prelude.{◌≡◌, ⊤, ℕ, ◌+◌, ◌-◌, ◌/◌, ◌==◌, ◌&&◌, max, nat_le, Bool, true, false, if◌then◌else◌, List, [], ◌∷◌, ◌++◌, Option, Some, None, is_none}
use Rattle.camera_machine.specs.Camera.{Camera, stream_peer}
use Rattle.gev_links.specs.Links.{Answer, Address}
use Rattle.gev_links.specs.Told.{IsSpent, Drops, IsShorter}
use Rattle.gev_serve.specs.Turns.{Served, answer_with, heard_turn, framed_turn, packets_to, ack_to, sent_in, block_in}
use Rattle.camera_serving.specs.declared.kinds.TurnKind.{TurnKind}
use Rattle.camera_serving.specs.declared.kinds.TurnKind.TheVariants.{Serving, Framing}

-- A turn: what it does, what came in it, and its moment in milliseconds.
pub record Turn : Type 0 where
  pub kind : TurnKind
  pub served : Served

-- ---- one turn

-- what is sent without a frame: the acknowledge, and what waits after the command
abbrev pub heard_in : Camera → Served → List (Address × List ℕ)
heard_in s t = ack_to t.arrived (heard_turn s t).ack ++ packets_to (stream_peer (heard_turn s t).camera) (heard_turn s t).packets

-- a frame turn sends the packets of its frame behind that
abbrev pub sent_by : TurnKind → Camera → Served → List (Address × List ℕ)
sent_by Serving s t = heard_in s t
sent_by Framing s t = sent_in s t

abbrev pub camera_after : TurnKind → Camera → Served → Camera
camera_after Serving s t = (heard_turn s t).camera
camera_after Framing s t = (framed_turn s t).camera

-- the block id of its frame, where the channel is open
abbrev pub block_by : TurnKind → Camera → Served → Option ℕ
block_by Serving s t = None
block_by Framing s t = block_in s t

-- ---- turns one after the other, the latest of which comes first

abbrev pub camera_over : Camera → List Turn → Camera
camera_over s [] = s
camera_over s (t ∷ before) = camera_after t.kind (camera_over s before) t.served

abbrev pub sent_over : Camera → List Turn → List (Address × List ℕ)
sent_over s [] = []
sent_over s (t ∷ before) = sent_over s before ++ sent_by t.kind (camera_over s before) t.served

abbrev pub answers_over : List Turn → List Answer
answers_over [] = []
answers_over (t ∷ before) = answers_over before ++ answer_with t.served.arrived ∷ []

abbrev pub moments_over : List Turn → List ℕ
moments_over [] = []
moments_over (t ∷ before) = moments_over before ++ t.served.moment ∷ []

-- one frame, or none
abbrev pub one_if : Option ℕ → ℕ
one_if None = 0
one_if (Some block) = 1

-- how many frames were made, over all openings of the stream channel
abbrev pub frames_over : Camera → List Turn → ℕ
frames_over s [] = 0
frames_over s (t ∷ before) = frames_over s before + one_if (block_by t.kind (camera_over s before) t.served)

abbrev pub one_if_framing : TurnKind → ℕ
one_if_framing Serving = 0
one_if_framing Framing = 1

-- how many of the turns were frame turns
abbrev pub frame_turns : List Turn → ℕ
frame_turns [] = 0
frame_turns (t ∷ before) = frame_turns before + one_if_framing t.kind

-- ---- the order of the two kinds

-- from a frame turn to the next, in milliseconds: 1000 divided by the rate, rounded up
abbrev pub period : ℕ → ℕ
period rate = 999 / max rate 1 + 1

-- the moment of the latest turn
abbrev pub latest_moment : List Turn → ℕ
latest_moment [] = 0
latest_moment (t ∷ before) = t.served.moment

abbrev pub frame_moment : TurnKind → ℕ → Option ℕ → Option ℕ
frame_moment Serving moment earlier = earlier
frame_moment Framing moment earlier = Some moment

-- the moment of the latest frame turn
abbrev pub last_frame : List Turn → Option ℕ
last_frame [] = None
last_frame (t ∷ before) = frame_moment t.kind t.served.moment (last_frame before)

-- whether so much time has gone by since then; before the first frame turn it has
abbrev pub has_passed : ℕ → Option ℕ → ℕ → Bool
has_passed wait None moment = true
has_passed wait (Some begun) moment = nat_le wait (moment - begun)

-- so many serving turns come at most before a frame turn that is late
abbrev pub MOST_SERVING : ℕ
MOST_SERVING = 64

-- none behind one whose receive gave nothing
abbrev pub left_by : TurnKind → Bool → ℕ → ℕ
left_by Framing is_quiet left = MOST_SERVING
left_by Serving is_quiet left = if is_quiet then 0 else left - 1

-- how many serving turns have still to come before the next frame turn, also where that is late
abbrev pub serving_left : List Turn → ℕ
serving_left [] = MOST_SERVING
serving_left (t ∷ before) = left_by t.kind (is_none t.served.arrived) (serving_left before)

abbrev pub kind_with : ℕ → Option ℕ → ℕ → ℕ → TurnKind
kind_with wait framed moment left = if has_passed wait framed moment && (left == 0) then Framing else Serving

-- what the next turn is: a frame turn once its time has come and no serving turn has still to come before it
abbrev pub next_kind : ℕ → List Turn → TurnKind
next_kind rate ts = kind_with (period rate) (last_frame ts) (latest_moment ts) (serving_left ts)

-- each of these turns is what comes next behind those before it
abbrev pub AreInOrder : ℕ → List Turn → Type 0
AreInOrder rate [] = ⊤
AreInOrder rate (t ∷ before) = AreInOrder rate before × (t.kind ≡ next_kind rate before)

-- ---- looks at standard input

-- from a look to the next, in milliseconds
abbrev pub LOOK_PERIOD : ℕ
LOOK_PERIOD = 100

-- a look's moment is that of the turn before it, the first one's that of the turn behind it
abbrev pub look_moment : Option ℕ → ℕ → ℕ → ℕ
look_moment None latest moment = moment
look_moment (Some looked) latest moment = if nat_le LOOK_PERIOD (latest - looked) then latest else looked

-- the moment of the latest look, where the turns have looks before them
abbrev pub last_look : List Turn → Option ℕ
last_look [] = None
last_look (t ∷ before) = Some (look_moment (last_look before) (latest_moment before) t.served.moment)

-- whether a look stands before the next turn
abbrev pub is_look_due : List Turn → Bool
is_look_due ts = has_passed LOOK_PERIOD (last_look ts) (latest_moment ts)

-- What a look that is due, if it is, left of standard input. Where that had ended nothing was left before the look.
abbrev pub LooksSo : Bool → Bool → Option (List ℕ) → Option (List ℕ) → Type 0
LooksSo true due left left_after = (due ≡ true) × IsSpent left × Drops left left_after
LooksSo false true left left_after = IsShorter left left_after × Drops left left_after
LooksSo false false left left_after = left_after ≡ left

-- Before each of these turns that has to have one stood a look, which found that standard input hadn't ended. Nothing else
-- was taken of it.
abbrev pub LooksOver : Bool → List Turn → Option (List ℕ) → Option (List ℕ) → Type 0
LooksOver with_input [] left left_after = left_after ≡ left
LooksOver with_input (t ∷ before) left left_after =
    (middle : Option (List ℕ)) × LooksOver with_input before left middle × LooksSo false (with_input && is_look_due before) middle left_after
