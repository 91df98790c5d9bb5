-- Why a reader ended so.
use Rattle.std.proofs.Common.{◌≡◌, ℕ, ◌<◌, List, [], ◌++◌, subst}
use Rattle.board_machine.specs.declared.events.Event.{Event}
use Rattle.acquisition_machine.specs.declared.config.AcqConfig.{AcqConfig}
use Rattle.client_machine.specs.Machine.{HasSubmittedNone}
use Rattle.board_calls.specs.declared.mode.Mode.{Mode}
use Rattle.gev_links.specs.Links.{Address}
use Rattle.gev_control.specs.declared.acq_end.AcqEnd.{AcqEnd}
use Rattle.gev_control.specs.declared.acq_end.AcqEnd.TheVariants as how
use Rattle.gev_control.specs.SetupTurns.{set_up}
use Rattle.gev_control.specs.SetsUp.{setup_sent, setup_heards}
use Rattle.gev_acq.specs.declared.turn.Turn.{Turn}
use Rattle.gev_acq.specs.Turns.{Turned, Outside}
use Rattle.gev_acq.specs.Acquired.{heards_in, sends_in}
use Rattle.gev_acq.specs.Reads.{ReadsOn}
use Rattle.live_promises.specs.Moves.{datagrams, later_moves}
use Rattle.live_promises.specs.ClientCauses.{IsUnanswered, GivesUpUnanswered, run_moves}
use Rattle.live_promises.proofs.Unanswered.{no_answer}
use Rattle.live_promises.proofs.Refusals.{refused_read}
use Rattle.live_promises.specs.Causes.{HadNoAnswer, HasCauses}

given_up : (mode : Mode) (c : AcqConfig) (camera stream : Address) (o n : Outside) (journal journal_after : List Turn) (turns : ℕ) (end : AcqEnd) (made : List Turned) (turned last : List Event)
    (on : ReadsOn mode c camera stream o n journal journal_after turns end made turned last) → HasSubmittedNone o.client → 0 < o.client.limit → (req : ℕ) → end ≡ how.NoAnswer req
    → HadNoAnswer req (run_moves mode c camera stream o n journal journal_after turns end made turned last on)
    (setup_sent stream (set_up o.client 0) on.setup ++ sends_in made) (datagrams (setup_heards on.setup ++ heards_in made))
given_up mode c camera stream o n journal journal_after turns how.Stopped made turned last on new some req is = absurd (cc)
given_up mode c camera stream o n journal journal_after turns how.Spent made turned last on new some req is = absurd (cc)
given_up mode c camera stream o n journal journal_after turns how.Fault made turned last on new some req is = absurd (cc)
given_up mode c camera stream o n journal journal_after turns (how.Refused status) made turned last on new some req is = absurd (cc)
given_up mode c camera stream o n journal journal_after turns (how.NoAnswer found) made turned last on new some req is =
    let gave : GivesUpUnanswered mode c camera stream o n journal journal_after turns found made turned last on = no_answer mode c camera stream o n journal journal_after turns found made turned last on new some in
    let same : found ≡ req = cc in
    record {
      unanswered = subst (λ m. IsUnanswered m (later_moves [] (run_moves mode c camera stream o n journal journal_after turns (how.NoAnswer found) made turned last on))) same gave.unanswered;
      sent_are = gave.sent;
      heard_are = gave.heard;
    }

pub has_causes : (mode : Mode) (c : AcqConfig) (camera stream : Address) (o n : Outside) (journal journal_after : List Turn) (turns : ℕ) (end : AcqEnd) (made : List Turned) (turned last : List Event)
    (on : ReadsOn mode c camera stream o n journal journal_after turns end made turned last) → HasSubmittedNone o.client → 0 < o.client.limit
    → HasCauses mode c camera stream o n journal journal_after turns end made turned last on
has_causes mode c camera stream o n journal journal_after turns end made turned last on new some = record {
  unanswered = λ req is. given_up mode c camera stream o n journal journal_after turns end made turned last on new some req is;
  refused = refused_read mode c camera stream o n journal journal_after turns end made turned last on;
}
