-- What a run over a camera's frames promises of its buffers, beside what each of its workers did.
use Rattle.std.specs.Prelude.{◌≡◌, ℕ, Bool, List, [], ◌∷◌, ◌++◌, Option, Some}
use Rattle.std.specs.List.{AllByRecursion}
use Rattle.gev_types.specs.declared.frame.Frame.{Frame}
use Rattle.block_image.specs.OneBlock.{AreSent}
use Rattle.board_machine.specs.declared.events.Entry.{Entry}
use Rattle.board_machine.specs.Handout.{handed_items}
use Rattle.acquisition_machine.specs.Machine.{stop}
use Rattle.block_fills.specs.Fills.{IsRetired}
use Rattle.board_calls.specs.Dropped.{handed_out_items}
use Rattle.gev_links.specs.Links.{Address, Answer}
use Rattle.gev_links.specs.Moments.{TellsEach}
use Rattle.gev_acq.specs.Turns.{Outside}
use Rattle.gev_acq.specs.Acquired.{answers_in}
use Rattle.gev_acq.specs.Moments.{told_in}
use Rattle.camera_reader.specs.Hearing.{Arrival, answers_of, moments_of, heard_as}
use Rattle.camera_reader.specs.ReceiverClock.{receiver_moments, InOrder, steps_from, cut_steps}
use Rattle.gev_apply.specs.Looks.{lent_in}
use Rattle.gev_live.specs.Acquirers.{handed_out}
use Rattle.camera_words.specs.declared.settings.Settings.{Settings}
use Rattle.first_leader.specs.declared.leading.FirstLeader.{FirstLeader}
use Rattle.frame_writing.specs.declared.receive_counts.ReceiveCounts.{ReceiveCounts}
use Rattle.live_promises.specs.Headline.{Acquirer, is_acquirer, KeepsHeadline, HoldsUnder}
use Rattle.live_promises.specs.Promises.{packets_among}
use Rattle.gev_receive.specs.Answers.{StreamEnd}
use Rattle.gev_receive.specs.Starting.{config_of}
use Rattle.gev_receive.specs.Reader.{inputs_from}
use Rattle.live_promises.specs.FramesRun.{FramesRun}
use Rattle.live_promises.specs.Meaning.{Means, WritesTexts}

-- The reader of a run, with what its receiver was told: a moment, the inputs of its turns, and the stop at their end.
abbrev pub reader_of : {settings : Settings} {camera : Address} {leader : FirstLeader} {resends : Bool} {o n : Outside} {stream stream_after control control_after : ℕ}
    {app app_after written written_after : Option (List ℕ)} {faults faults_after : ℕ} {input left : Option (List ℕ)} {misses misses_after : ℕ} {end : StreamEnd} {counts : ReceiveCounts} {h : List Entry}
    → FramesRun settings camera leader resends o n stream stream_after control control_after app app_after written written_after faults faults_after input left misses misses_after end counts h → Acquirer
reader_of run = record { actor = run.crew.reader; inputs = inputs_from run.reader_part.begin run.reader_part.made ++ stop ∷ [] }

-- Behind the first leader this is all that the stream's link gave and all moments that the host's clock told, turn by turn,
-- with the moment of the begin before them. The receiver was told that moment and then these, by its own clock: the steps
-- from one to the next are those of the host's clock, cut to 1 where the later turn gave a datagram, and to 5 where it gave
-- none, where the host's clock never falls.
pub record TellsByClock (o n : Outside) (begin : ℕ) (told : List ℕ) : Type 0 where
  pub arrivals : List Arrival
  pub received : TellsEach o.received n.received (answers_of arrivals)
  pub read : TellsEach o.told n.told (begin ∷ moments_of arrivals)
  pub moments : told ≡ receiver_moments begin arrivals
  pub steps : InOrder begin (moments_of arrivals) → steps_from begin told ≡ cut_steps begin arrivals

-- The headline holds of the history, with the reader as its only acquirer. What it calls handed out, what others than
-- the reader took, is what actors without a claim took: by `FramesApplication` the application took just this, and
-- wrote it. Each buffer that was taken, handed out or dropped, holds one of the reader's blocks: no record is empty.
-- Over a link that tells, the reader heard all that the stream's link gave since the turns began, in order, each datagram
-- in its wide form where the stream's identifiers are standard, and was told the moments of its clock. Under each map of frames from which all packets were sent
-- that it heard, each of these buffers is its block's frame where it's marked complete, has each received byte in place and
-- 0 elsewhere, tells no other image than that frame's, and is marked complete where the buffer is large enough and all
-- packets came before it was filled. The last line's p is the payload size by which blocks were received. The answer says
-- how the run ended, and what was written are the texts of the buffers that the application took.
pub record KeepsFrames {settings : Settings} {camera : Address} {leader : FirstLeader} {resends : Bool} {o n : Outside} {stream stream_after control control_after : ℕ}
    {app app_after written written_after : Option (List ℕ)} {faults faults_after : ℕ} {input left : Option (List ℕ)} {misses misses_after : ℕ} {end : StreamEnd} {counts : ReceiveCounts} {h : List Entry}
    (run : FramesRun settings camera leader resends o n stream stream_after control control_after app app_after written written_after faults faults_after input left misses misses_after end counts h) : Type 0 where
  pub headline : KeepsHeadline (config_of settings leader resends) (reader_of run ∷ []) h
  pub account : handed_out_items (is_acquirer (reader_of run ∷ [])) h ≡ handed_out h
  pub handed : AllByRecursion (IsRetired (config_of settings leader resends) (reader_of run).inputs) (handed_items h)
  pub heard : (old answers : List Answer) → o.received ≡ Some old → n.received ≡ Some (old ++ answers) → answers_in run.reader_part.made ≡ heard_as leader.ids answers
  pub clocked : TellsByClock o n run.reader_part.begin (told_in run.reader_part.made)
  pub framed : (frames : ℕ → Option Frame) → AreSent frames (config_of settings leader resends).p (packets_among (answers_in run.reader_part.made))
      → AllByRecursion (HoldsUnder frames (config_of settings leader resends) (reader_of run).inputs) (handed_items h)
  pub p_told : counts.p ≡ (config_of settings leader resends).p
  pub means : Means end.status settings run.handed run.read left
  pub wrote : WritesTexts settings.output run.handed.end (lent_in run.application_part.made) written written_after
