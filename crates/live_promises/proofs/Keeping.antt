-- Each live run keeps its promises.
use Rattle.std.proofs.Common.{◌≡◌, inl, inr, ℕ, List, [], ◌∷◌, ◌++◌, Option, refl, sym, subst, arith}
use Rattle.std.specs.List.{AllByRecursion}
use Rattle.board_machine.specs.declared.events.Entry.{Entry}
use Rattle.board_machine.specs.Handout.{every_actor, filled, handed_items}
use Rattle.board_machine.specs.Histories.{Run}
use Rattle.acquisition_machine.specs.Machine.{Input, stop}
use Rattle.acquisition_machine.specs.Runs.{first_state}
use Rattle.acquisition_machine.proofs.Order.{all_weaker}
use Rattle.block_fills.specs.Fills.{IsRetired}
use Rattle.block_fills.proofs.Acquisitions.{retired_blocks}
use Rattle.client_machine.specs.Times.{SEND_LIMIT}
use Rattle.client_machine.specs.Machine.{new_client}
use Rattle.gev_links.specs.Links.{Address}
use Rattle.gev_status.specs.declared.status.Status.{Status}
use Rattle.gev_acq.specs.Acquired.{inputs_in}
use Rattle.script_trace.proofs.Handing.{taken_all}
use Rattle.gev_live.specs.Told.{Told, live_config, reader_side}
use Rattle.gev_live.specs.declared.numbers.Numbers.{Numbers}
use Rattle.gev_live.specs.LiveRun.{LiveRun, NeverRan}
use Rattle.live_promises.specs.Headline.{HoldsUnder}
use Rattle.live_promises.proofs.Headlines.{runs_headline, blocks_frames}
use Rattle.live_promises.specs.Promises.{reader_of, KeepsRun, KeepsNothing}
use Rattle.live_promises.specs.Laws.{LiveRunsKeepPromises}
use Rattle.live_promises.proofs.Sending.{inputs_sent, inputs_clean}
use Rattle.live_promises.proofs.Filling.{reader_alone, alone_acquires, filled_own, short_fills_nothing, short_unfilled}
use Rattle.live_promises.proofs.Accounts.{reader_account, none_handed}
use Rattle.live_promises.proofs.Causing.{has_causes}

-- what is taken are the reader's blocks
run_handed : (n : Numbers) (camera stream : Address) (answer : Status) (o e : Told) (written written_after : Option (List ℕ)) (faults faults_after : ℕ) (h : List Entry)
    (run : LiveRun n camera stream answer o e written written_after faults faults_after h) → AllByRecursion (IsRetired live_config (reader_of run).inputs) (handed_items h)
run_handed n camera stream answer o e written written_after faults faults_after h run =
    taken_all (IsRetired live_config q) every_actor h
    (filled_own (IsRetired live_config q) run.crew.reader h (reader_alone n.mode n.buffers run.crew h run.history)
    (subst (λ l. AllByRecursion (IsRetired live_config q) l) (sym run.reader_part.fills) (retired_blocks live_config q (omega arith) (inputs_clean live_config first_state run.reader_part.made))))
  where
    q : List Input
    q = inputs_in run.reader_part.made ++ stop ∷ []

run_keeps : (n : Numbers) (camera stream : Address) (answer : Status) (o e : Told) (written written_after : Option (List ℕ)) (faults faults_after : ℕ) (h : List Entry)
    (run : LiveRun n camera stream answer o e written written_after faults faults_after h) → KeepsRun run
run_keeps n camera stream answer o e written written_after faults faults_after h run = record {
  headline = runs_headline live_config (reader_of run ∷ []) h (omega arith) run.history.run
      (record { clean = inputs_clean live_config first_state run.reader_part.made; retired = run.reader_part.fills }, tt)
      (alone_acquires (reader_of run) h (reader_alone n.mode n.buffers run.crew h run.history));
  account = reader_account n.mode n.buffers run.crew (reader_of run) h refl run.history run.application_part.handed;
  handed = handed;
  framed = λ frames sent.
      all_weaker (IsRetired live_config (reader_of run).inputs) (HoldsUnder frames live_config (reader_of run).inputs)
      (λ x r. blocks_frames frames live_config (reader_of run).inputs x r (inputs_sent frames live_config.p run.reader_part.made sent)) (handed_items h) handed;
  causes = has_causes n.mode live_config camera stream (reader_side o (new_client SEND_LIMIT)) (reader_side e run.reader_part.client) [] run.reader_part.journal n.turns run.read
      run.reader_part.made run.reader_part.turned run.reader_part.last run.reader_part.on refl (omega arith);
}
  where
    handed : AllByRecursion (IsRetired live_config (reader_of run).inputs) (handed_items h)
    handed = run_handed n camera stream answer o e written written_after faults faults_after h run

pub never_keeps : (n : Numbers) (answer : Status) (o e : Told) (written written_after : Option (List ℕ)) (faults faults_after : ℕ) (h : List Entry)
    → NeverRan n answer o e written written_after faults faults_after h → Run h → KeepsNothing h
never_keeps n answer o e written written_after faults faults_after h never is_run = record {
  headline = runs_headline live_config [] h (omega arith) is_run tt (short_fills_nothing n.buffers never.events h never.short never.seen);
  unfilled = unfilled;
  untaken = none_handed h unfilled;
}
  where
    unfilled : filled h ≡ []
    unfilled = short_unfilled n.buffers never.events h never.short never.seen

pub live_runs_keep : LiveRunsKeepPromises
live_runs_keep n camera stream answer o e written written_after faults faults_after h (inl run) is_run = run_keeps n camera stream answer o e written written_after faults faults_after h run
live_runs_keep n camera stream answer o e written written_after faults faults_after h (inr never) is_run = never_keeps n answer o e written written_after faults faults_after h never is_run
