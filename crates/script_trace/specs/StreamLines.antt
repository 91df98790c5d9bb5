-- What lines that drive the acquisition add: start, stop, t, d and mode.
use Rattle.std.specs.Prelude.{◌≡◌, ℕ, ◌==◌, Bool, true, false, List, [], ◌∷◌, ◌++◌, codes, Option, Some, None, Result, Ok, Err}
use Rattle.hex.specs.Hex.{decode_of}
use Rattle.gentl_types.specs.declared.errors.GcError.{GcError}
use Rattle.gentl_types.specs.declared.errors.GcError.TheVariants.{ResourceInUse}
use Rattle.gentl_types.specs.declared.errors.Shown.TheVariants.{Word}
use Rattle.gev_report.specs.ReplayLines.{request_line}
use Rattle.board_machine.specs.declared.events.Event.{Event}
use Rattle.board_machine.specs.Machine.{Board, word_at}
use Rattle.board_machine.specs.Adding.{entries_of}
use Rattle.board_calls.specs.Calls.{Starts, Stops, run_word}
use Rattle.acquisition_machine.specs.declared.config.AcqConfig.{AcqConfig}
use Rattle.acquisition_machine.specs.declared.retired.Retired.{Retired}
use Rattle.acquisition_machine.specs.Blocks.{Given, fills}
use Rattle.acquisition_machine.specs.Machine.{Input, Request, request_bytes, datagram, claimed, tick, stop, restart}
use Rattle.acquisition_machine.specs.Runs.{turn}
use Rattle.acquisition_machine.specs.TurnLaws.{asked_by}
use Rattle.board_calls.specs.declared.mode.Mode.{Mode}
use Rattle.board_calls.specs.Modes.{ClaimsFor}
use Rattle.script_trace.specs.Trace.{Trace, Part, board, caller, acquirer, acts, only_says}
use Rattle.script_trace.specs.Modes.{mode_of, FillsInMode, place_of}
use Rattle.script_trace.specs.Answers.{refused_text, done_text}

-- ---- what retires

-- what retires with a buffer as this input comes after these
abbrev pub retired_by : AcqConfig → List Input → Input → List Retired
retired_by c inputs i = fills c.p (turn c inputs i).retired

-- events of a call, then events of the acquisition, and one input
abbrev pub tells : Trace → List Event → Input → List Event → List ℕ → Part
tells t calls i events said = record {
  entries = entries_of caller calls ++ entries_of acquirer events;
  inputs = i ∷ [];
  handles = t.handles;
  idle = 0;
  text = said;
  mode = t.mode;
  told_mode = t.told_mode;
}

-- The acquisition is told this, and what retires is filled.
pub record Settles (c : AcqConfig) (t : Trace) (calls : List Event) (i : Input) (said : List ℕ) (part : Part) : Type 0 where
  pub events : List Event
  pub filled : FillsInMode t.mode (retired_by c t.inputs i) events
  pub is : part ≡ tells t calls i events said

-- ---- start and stop

-- the acquisition begins again, where the stream was started
abbrev pub Restarts : Trace → List Event → Result (Unit {0}) GcError → Part → Type 0
Restarts t calls (Ok done) part = part ≡ tells t calls restart [] (done_text (codes "start"))
Restarts t calls (Err error) part = part ≡ acts t caller calls (refused_text (codes "start") error)

abbrev pub StartLine : Trace → Part → Type 0
StartLine t part =
    (answer : Result (Unit {0}) GcError) × (calls : List Event) × Starts answer calls × Restarts t calls answer part

-- the acquisition stops, where the stream was stopped
abbrev pub StopsAcquiring : AcqConfig → Trace → List Event → Result (Unit {0}) GcError → Part → Type 0
StopsAcquiring c t calls (Ok done) part = Settles c t calls stop (done_text (codes "stop")) part
StopsAcquiring c t calls (Err error) part = part ≡ acts t caller calls (refused_text (codes "stop") error)

abbrev pub StopLine : AcqConfig → Trace → ℕ → Part → Type 0
StopLine c t flags part =
    (answer : Result (Unit {0}) GcError) × (calls : List Event) × Stops flags answer calls × StopsAcquiring c t calls answer part

-- ---- t

abbrev pub requests_text : List Request → List ℕ
requests_text [] = []
requests_text (r ∷ rs) = request_line (request_bytes r) ++ requests_text rs

abbrev pub TickLine : AcqConfig → Trace → ℕ → Part → Type 0
TickLine c t moment part = Settles c t [] (tick moment) (requests_text (turn c t.inputs (tick moment)).requests) part

-- ---- d

-- the datagram is counted, and goes nowhere
abbrev pub idles : Trace → Part
idles t = record { entries = []; inputs = []; handles = t.handles; idle = 1; text = []; mode = t.mode; told_mode = t.told_mode }

-- what a claim came to: the place that it took in hand, pooled or dropped, with the size of its buffer
abbrev pub outcome : Board → Option ℕ → Option Given
outcome b None = None
outcome b (Some place) = Some (record { place = place; size = (word_at b place).size })

-- a datagram that wants a buffer, the outcome of the claim, and the same datagram again
abbrev pub told_twice : Trace → List ℕ → Option ℕ → List Input
told_twice t bytes claim = datagram bytes ∷ claimed (outcome (board t) claim) ∷ datagram bytes ∷ []

-- A buffer is wanted. What gave its place is filled, a place is claimed by the mode, the outcome is told, and
-- the same datagram is told again; then what retires is filled.
pub record HeardAgain (c : AcqConfig) (t : Trace) (bytes : List ℕ) (part : Part) : Type 0 where
  pub first : List Event
  pub claim : Option (ℕ × Bool)
  pub claims : List Event
  pub second : List Event
  pub displaced : FillsInMode t.mode (retired_by c t.inputs (datagram bytes)) first
  pub got : ClaimsFor t.mode claim claims
  pub filled :
      FillsInMode t.mode
      (retired_by c (t.inputs ++ datagram bytes ∷ claimed (outcome (board t) (place_of claim)) ∷ []) (datagram bytes))
      second
  pub is :
      part ≡ record {
        entries = entries_of acquirer (first ++ (claims ++ second));
        inputs = told_twice t bytes (place_of claim);
        handles = t.handles;
        idle = 0;
        text = [];
        mode = t.mode;
        told_mode = t.told_mode;
      }

-- by the block for which a buffer is wanted
abbrev pub Hears : AcqConfig → Trace → List ℕ → Option ℕ → Part → Type 0
Hears c t bytes None part = Settles c t [] (datagram bytes) [] part
Hears c t bytes (Some block) part = HeardAgain c t bytes part

-- by whether the stream is running
abbrev pub HearsIfRunning : AcqConfig → Trace → List ℕ → Bool → Part → Type 0
HearsIfRunning c t bytes false part = part ≡ idles t
HearsIfRunning c t bytes true part = Hears c t bytes (asked_by (turn c t.inputs (datagram bytes)).need) part

abbrev pub DatagramLine : AcqConfig → Trace → List ℕ → Part → Type 0
DatagramLine c t digits part =
    (bytes : List ℕ) × (decode_of digits ≡ Ok bytes) × HearsIfRunning c t bytes ((board t).run == 1) part

-- ---- mode

-- the mode is set
abbrev pub sets_mode : Trace → Mode → Part
sets_mode t mode = record {
  entries = [];
  inputs = [];
  handles = t.handles;
  idle = 0;
  text = done_text (codes "mode");
  mode = mode;
  told_mode = true;
}

-- It can be set where the stream isn't running. The line looks at the run word alone, and at no handle.
abbrev pub ModeIfRunning : Trace → ℕ → Bool → Part → Type 0
ModeIfRunning t n true part = part ≡ only_says t (refused_text (codes "mode") (ResourceInUse (Word (run_word (board t).run))))
ModeIfRunning t n false part = part ≡ sets_mode t (mode_of n)

abbrev pub ModeLine : Trace → ℕ → Part → Type 0
ModeLine t n part = ModeIfRunning t n ((board t).run == 1) part
