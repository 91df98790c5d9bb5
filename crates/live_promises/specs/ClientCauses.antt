-- Why a live run's reader ended as its client did.
use Rattle.std.specs.Prelude.{◌≡◌, ℕ, ◌+◌, ◌<◌, false, List, [], ◌∷◌, ◌++◌}
use Rattle.board_machine.specs.declared.events.Event.{Event}
use Rattle.gvcp_wire.specs.Messages.{PlainCommand}
use Rattle.client_machine.specs.Times.{SENDS}
use Rattle.client_machine.specs.declared.outcome.Outcome.{Outcome}
use Rattle.client_machine.specs.declared.outcome.Outcome.TheVariants.{Waiting, Idle, Acked, Refused, NoAnswer}
use Rattle.client_machine.specs.Machine.{Client, HasSubmittedNone}
use Rattle.client_machine.specs.Events.{Request, new_request}
use Rattle.acquisition_machine.specs.declared.config.AcqConfig.{AcqConfig}
use Rattle.board_calls.specs.declared.mode.Mode.{Mode}
use Rattle.gev_links.specs.Links.{Address}
use Rattle.gev_control.specs.declared.acq_end.AcqEnd.{AcqEnd}
use Rattle.gev_control.specs.declared.acq_end.AcqEnd.TheVariants as how
use Rattle.gev_control.specs.SetupTurns.{SetUp, set_up, SetupTurned, setup_turn}
use Rattle.gev_control.specs.Controlled.{control_of}
use Rattle.gev_control.specs.SetsUp.{setup_sent, setup_heards}
use Rattle.gev_control.specs.SetupLaws.{outcomes_of, hears_outcomes}
use Rattle.gev_acq.specs.declared.turn.Turn.{Turn}
use Rattle.gev_acq.specs.Turns.{Turned, Outside}
use Rattle.gev_acq.specs.Acquired.{heards_in, sends_in}
use Rattle.gev_acq.specs.Reads.{ReadsOn}
use Rattle.live_promises.specs.Moves.{Move, sends, setup_moves, reader_moves, moves_sent, moves_heard, datagrams, is_answering, later_moves}

-- So many of these moves, the latest of which comes first, send the request's bytes, and since the first of these
-- no matching acknowledge of it came.
pub data HasSent (r : Request) : ℕ → List Move → Type 0 where
  first : (ms : List Move) → HasSent r 1 (sends r.bytes ∷ ms)
  again : (n : ℕ) (ms : List Move) → HasSent r n ms → HasSent r (n + 1) (sends r.bytes ∷ ms)
  meanwhile : (n : ℕ) (m : Move) (ms : List Move) → HasSent r n ms → is_answering r m ≡ false → HasSent r n (m ∷ ms)

-- A command was sent three times under this request number, and no matching acknowledge came after the first of these.
pub record IsUnanswered (req : ℕ) (ms : List Move) : Type 0 where
  pub command : PlainCommand
  pub sent : HasSent (new_request req command) SENDS ms

-- the moves of the setup's turns and of the reader's
abbrev pub run_moves : (mode : Mode) (c : AcqConfig) (camera stream : Address) (o n : Outside) (journal journal_after : List Turn) (turns : ℕ) (end : AcqEnd)
    (made : List Turned) (turned last : List Event) → ReadsOn mode c camera stream o n journal journal_after turns end made turned last → List Move
run_moves mode c camera stream o n journal journal_after turns end made turned last on =
    setup_moves stream (set_up o.client 0) on.setup ++ reader_moves c [] on.client made

-- Where the reader of a new client, whose sends have a limit, ends with NoAnswer, a command was sent three times with that number over the
-- control link, and no matching acknowledge came after the first of these. The moves are what that link sent and
-- heard.
pub record GivesUpUnanswered (mode : Mode) (c : AcqConfig) (camera stream : Address) (o n : Outside) (journal journal_after : List Turn) (turns req : ℕ)
    (made : List Turned) (turned last : List Event) (on : ReadsOn mode c camera stream o n journal journal_after turns (how.NoAnswer req) made turned last) : Type 0 where
  pub unanswered : IsUnanswered req (later_moves [] (run_moves mode c camera stream o n journal journal_after turns (how.NoAnswer req) made turned last on))
  pub sent : moves_sent (run_moves mode c camera stream o n journal journal_after turns (how.NoAnswer req) made turned last on)
      ≡ setup_sent stream (set_up o.client 0) on.setup ++ sends_in made
  pub heard : moves_heard (run_moves mode c camera stream o n journal journal_after turns (how.NoAnswer req) made turned last on)
      ≡ datagrams (setup_heards on.setup ++ heards_in made)

abbrev pub NoAnswerIsUnanswered : Type 0
NoAnswerIsUnanswered =
    (mode : Mode) (c : AcqConfig) (camera stream : Address) (o n : Outside) (journal journal_after : List Turn) (turns req : ℕ) (made : List Turned) (turned last : List Event)
    (on : ReadsOn mode c camera stream o n journal journal_after turns (how.NoAnswer req) made turned last) → HasSubmittedNone o.client → 0 < o.client.limit
    → GivesUpUnanswered mode c camera stream o n journal journal_after turns req made turned last on

-- ---- refusals

-- the status of a refusal
abbrev pub refused_by : Outcome → List ℕ
refused_by (Waiting req) = []
refused_by Idle = []
refused_by Acked = []
refused_by (Refused status) = status ∷ []
refused_by (NoAnswer req) = []

abbrev pub refused_in : List Outcome → List ℕ
refused_in [] = []
refused_in (o ∷ os) = refused_by o ++ refused_in os

-- the refusals that came in turns of the setup: the client told Refused of what came
abbrev pub setup_refusals : Address → SetUp → List SetupTurned → List ℕ
setup_refusals stream s [] = []
setup_refusals stream s (t ∷ ts) = refused_in (hears_outcomes stream s t) ++ setup_refusals stream (setup_turn stream s t).state ts

-- and those in turns of the reader
abbrev pub reader_refusals : Client → List Turned → List ℕ
reader_refusals s [] = []
reader_refusals s (t ∷ ts) = refused_in (outcomes_of s t.moment t.heard) ++ reader_refusals (control_of s t.heard t.moment).state ts

abbrev pub refusal_of : AcqEnd → List ℕ
refusal_of how.Stopped = []
refusal_of how.Spent = []
refusal_of how.Fault = []
refusal_of (how.NoAnswer req) = []
refusal_of (how.Refused status) = status ∷ []

-- The reader ends with Refused exactly where a refusal came, with its status, and no other refusal came.
abbrev pub RefusedIsRead : Type 0
RefusedIsRead =
    (mode : Mode) (c : AcqConfig) (camera stream : Address) (o n : Outside) (journal journal_after : List Turn) (turns : ℕ) (end : AcqEnd) (made : List Turned) (turned last : List Event)
    (on : ReadsOn mode c camera stream o n journal journal_after turns end made turned last)
    → setup_refusals stream (set_up o.client 0) on.setup ++ reader_refusals on.client made ≡ refusal_of end
