-- What a live run promises, beside what each of its workers did.
use Rattle.std.specs.Prelude.{◌≡◌, ℕ, Bool, List, [], ◌∷◌, ◌++◌, Option}
use mathlib.Core.Logic.{inl, inr}
use Rattle.std.specs.List.{AllByRecursion}
use Rattle.gev_types.specs.declared.frame.Frame.{Frame}
use Rattle.stream_packets.specs.Packets.{StreamPacket}
use Rattle.gvsp_wire.specs.Reading.{packet_of}
use Rattle.block_image.specs.OneBlock.{AreSent}
use Rattle.board_machine.specs.declared.events.Entry.{Entry}
use Rattle.board_machine.specs.Handout.{filled, items_handed_to, handed_items}
use Rattle.acquisition_machine.specs.Machine.{stop}
use Rattle.acquisition_machine.specs.Runs.{with_packet}
use Rattle.block_fills.specs.Fills.{IsRetired}
use Rattle.client_machine.specs.Times.{SEND_LIMIT}
use Rattle.client_machine.specs.Machine.{new_client}
use Rattle.board_calls.specs.Dropped.{handed_out_items}
use Rattle.gev_links.specs.Links.{Address, Answer, nothing, failed, came}
use Rattle.gev_status.specs.declared.status.Status.{Status}
use Rattle.gev_acq.specs.Acquired.{inputs_in, answers_in}
use Rattle.gev_live.specs.Acquirers.{handed_out}
use Rattle.gev_live.specs.Told.{Told, live_config, reader_side}
use Rattle.gev_live.specs.declared.numbers.Numbers.{Numbers}
use Rattle.gev_live.specs.LiveRun.{LiveRun, RunsLive}
use Rattle.live_promises.specs.Headline.{Acquirer, is_acquirer, KeepsHeadline, HoldsUnder}
use Rattle.live_promises.specs.Causes.{HasCauses}

-- The reader of a live run, with what its receiver was told: the inputs of its turns, and the stop at their end.
abbrev pub reader_of : {n : Numbers} {camera stream : Address} {answer : Status} {o e : Told} {written written_after : Option (List ℕ)} {faults faults_after : ℕ} {h : List Entry}
    → LiveRun n camera stream answer o e written written_after faults faults_after h → Acquirer
reader_of run = record { actor = run.crew.reader; inputs = inputs_in run.reader_part.made ++ stop ∷ [] }

-- the packets among what receives gave
abbrev pub packets_among : List Answer → List StreamPacket
packets_among [] = []
packets_among (nothing ∷ rest) = packets_among rest
packets_among (failed ∷ rest) = packets_among rest
packets_among (came bytes peer ∷ rest) = with_packet (packet_of bytes) (packets_among rest)

-- The headline holds of the history, with the reader as its only acquirer. What it calls handed out, what others than
-- the reader took, is what actors without a claim took: by `LiveApplication` the application took just this, and its
-- lines tell of it. Each buffer that was taken, handed out or dropped, holds one of the reader's blocks: no record is
-- empty. Under each map of frames from which all packets were sent that came on the stream's link, each of them is its
-- block's frame where it's marked complete, has each received byte in place and 0 elsewhere, tells no other image than
-- that frame's, and is marked complete where the buffer is large enough and all packets came before it was filled. And the
-- reader ended as it did for a cause.
pub record KeepsRun {n : Numbers} {camera stream : Address} {answer : Status} {o e : Told} {written written_after : Option (List ℕ)} {faults faults_after : ℕ} {h : List Entry}
    (run : LiveRun n camera stream answer o e written written_after faults faults_after h) : Type 0 where
  pub headline : KeepsHeadline live_config (reader_of run ∷ []) h
  pub account : handed_out_items (is_acquirer (reader_of run ∷ [])) h ≡ handed_out h
  pub handed : AllByRecursion (IsRetired live_config (reader_of run).inputs) (handed_items h)
  pub framed : (frames : ℕ → Option Frame) → AreSent frames live_config.p (packets_among (answers_in run.reader_part.made))
      → AllByRecursion (HoldsUnder frames live_config (reader_of run).inputs) (handed_items h)
  pub causes : HasCauses n.mode live_config camera stream (reader_side o (new_client SEND_LIMIT)) (reader_side e run.reader_part.client) [] run.reader_part.journal n.turns run.read
      run.reader_part.made run.reader_part.turned run.reader_part.last run.reader_part.on

-- The headline holds with no acquirer: nobody filled a buffer, and whichever actors one asks of, they took none, so
-- that none was handed out.
pub record KeepsNothing (h : List Entry) : Type 0 where
  pub headline : KeepsHeadline live_config [] h
  pub unfilled : filled h ≡ []
  pub untaken : (who : ℕ → Bool) → items_handed_to who h ≡ []

-- So it is of a live run: the first where its three workers ran, and the other where they never began.
abbrev pub KeepsLivePromises : {n : Numbers} {camera stream : Address} {answer : Status} {o e : Told} {written written_after : Option (List ℕ)} {faults faults_after : ℕ} {h : List Entry}
    → RunsLive n camera stream answer o e written written_after faults faults_after h → Type 0
KeepsLivePromises (inl run) = KeepsRun run
KeepsLivePromises {h} (inr never) = KeepsNothing h
