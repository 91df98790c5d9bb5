-- Why the reader of a live run ended as it did, by what its links told.
use Rattle.std.specs.Prelude.{◌≡◌, ℕ, List, [], ◌++◌}
use Rattle.board_machine.specs.declared.events.Event.{Event}
use Rattle.acquisition_machine.specs.declared.config.AcqConfig.{AcqConfig}
use Rattle.board_calls.specs.declared.mode.Mode.{Mode}
use Rattle.gev_links.specs.Links.{Address}
use Rattle.gev_control.specs.declared.acq_end.AcqEnd.{AcqEnd}
use Rattle.gev_control.specs.declared.acq_end.AcqEnd.TheVariants as how
use Rattle.gev_control.specs.SetupTurns.{set_up}
use Rattle.gev_control.specs.SetsUp.{setup_sent, setup_heards}
use Rattle.gev_acq.specs.declared.turn.Turn.{Turn}
use Rattle.gev_acq.specs.Turns.{Turned, Outside}
use Rattle.gev_acq.specs.Acquired.{heards_in, sends_in}
use Rattle.gev_acq.specs.Reads.{ReadsOn}
use Rattle.live_promises.specs.Moves.{Move, moves_sent, moves_heard, datagrams, later_moves}
use Rattle.live_promises.specs.ClientCauses.{IsUnanswered, run_moves, setup_refusals, reader_refusals, refusal_of}

-- These moves are what was sent and heard over the control link, in order. Among them a command with this number was
-- sent three times, and no matching acknowledge came after the first of these.
pub record HadNoAnswer (req : ℕ) (moves : List Move) (sent heard : List (List ℕ)) : Type 0 where
  pub unanswered : IsUnanswered req (later_moves [] moves)
  pub sent_are : moves_sent moves ≡ sent
  pub heard_are : moves_heard moves ≡ heard

-- The reader gave up a command only where three sends of it had no answer. And it ended with a refusal exactly where
-- one came, with its status, and no other came.
pub record HasCauses (mode : Mode) (c : AcqConfig) (camera stream : Address) (o n : Outside) (journal journal_after : List Turn) (turns : ℕ) (end : AcqEnd)
    (made : List Turned) (turned last : List Event) (on : ReadsOn mode c camera stream o n journal journal_after turns end made turned last) : Type 0 where
  pub unanswered : (req : ℕ) → end ≡ how.NoAnswer req
      → HadNoAnswer req (run_moves mode c camera stream o n journal journal_after turns end made turned last on)
      (setup_sent stream (set_up o.client 0) on.setup ++ sends_in made) (datagrams (setup_heards on.setup ++ heards_in made))
  pub refused : setup_refusals stream (set_up o.client 0) on.setup ++ reader_refusals on.client made ≡ refusal_of end
