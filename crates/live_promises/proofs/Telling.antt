-- A run over a camera's frames by what its workers promised.
use Rattle.std.proofs.Common.{◌≡◌, ℕ, ◌≤◌, Bool, false, List, [], ◌∷◌, Option, sym, subst, append-nil, arith}
use Rattle.board_machine.specs.declared.events.Entry.{Entry}
use Rattle.board_machine.specs.declared.events.Event.TheVariants.{Join}
use Rattle.board_machine.specs.Places.{times, IsPrefix}
use Rattle.board_machine.specs.Histories.{own_of}
use Rattle.board_machine.specs.Kinds.{HasNone, is_fill_refused, is_stop, is_taken}
use Rattle.board_machine.proofs.Places.{same_is, same_self}
use Rattle.buffer_words.specs.Passes.{Token, own}
use Rattle.buffer_words.specs.Workers.{AreOf, Hosts}
use Rattle.buffer_words.proofs.Working.{works_own}
use Rattle.acquisition_machine.specs.declared.config.AcqConfig.{AcqConfig}
use Rattle.board_calls.specs.declared.mode.Mode.{Mode}
use Rattle.live_crew.specs.Kinds.{is_hosts}
use Rattle.live_crew.proofs.Crews.{home_worker}
use Rattle.gev_links.specs.Links.{Address}
use Rattle.gev_acq.specs.Turns.{Outside}
use Rattle.gev_acq.specs.Kinds.{is_readers, is_strict_readers}
use Rattle.gev_apply.specs.Looks.{Looked}
use Rattle.gev_apply.specs.Applied.{EndsStopped}
use Rattle.gev_apply.specs.Kinds.{is_applications}
use Rattle.gev_apply.specs.History.{LiveTakes}
use Rattle.gev_apply.proofs.Whole.{part_stays as application_stays}
use Rattle.gev_live.specs.Acquirers.{acquires}
use Rattle.gev_live.proofs.ApplicationPart.{stops_after}
use Rattle.gev_live.proofs.Quiet.{one_size}
use Rattle.gev_live.proofs.Acquiring.{HandsOut, hands_out}
use Rattle.gev_live.proofs.Handing.{host_stops_nothing}
use Rattle.gev_live.proofs.Stories.{seen_more, home_own, home_prefix}
use Rattle.camera_words.specs.declared.settings.Settings.{Settings}
use Rattle.camera_words.specs.declared.settings.Output.{Output}
use Rattle.first_leader.specs.declared.leading.FirstLeader.{FirstLeader}
use Rattle.frame_writing.specs.declared.handed_out.HandedEnd.{HandedEnd}
use Rattle.frame_writing.specs.declared.handed_out.HandedEnd.TheVariants as hands
use Rattle.frame_writing.specs.HandsOut.{EndsBy}
use Rattle.frame_writing.specs.Work.{has_enough}
use Rattle.frame_writing.specs.declared.receive_counts.ReceiveCounts.{ReceiveCounts}
use Rattle.gev_receive.specs.Answers.{StreamEnd}
use Rattle.gev_receive.specs.Starting.{config_of, mode_of, buffer_size}
use Rattle.gev_receive.specs.Frames.{Pair, FramesHistory, CameraReading, RanFrames}
use Rattle.live_promises.specs.FramesRun.{FramesRun}
use Rattle.live_promises.specs.ReceiveLaws.{RunsHaveHistories}
use Rattle.live_promises.proofs.Crew.{PairHome, pair_hosts}
use Rattle.live_promises.proofs.Histories.{pair_of, Story, frames_history}
use Rattle.live_promises.proofs.Reading.{part_stays, part_fills, part_sized, part_lays_nothing}
use Rattle.live_promises.proofs.Idle.{part_untaken}
use Rattle.live_promises.proofs.Ending.{emptied, stopped_by}

third_in : (l : List Entry) → IsPrefix l l
third_in l = record { rest = []; is = sym (append-nil l) }

-- of two actors, each of which stands once, the first isn't the second
apart_two : (b a : ℕ) → times b (b ∷ a ∷ []) ≤ 1 → times b (a ∷ []) ≡ 0
apart_two b a once = omega (arith, once, same_self b)

-- where the run was over, a turn found it so
over_stopped : (end : HandedEnd) (frames : ℕ) (output : Output) (taken : ℕ) (made : List Looked) (written written_after : Option (List ℕ)) (faults faults_after : ℕ) (on : Bool) (left : Option (List ℕ))
    → EndsBy end frames output taken made written written_after faults faults_after on left → end ≡ hands.Over → EndsStopped made
over_stopped end frames output taken made written written_after faults faults_after on left ends is =
    (subst (λ (e : HandedEnd). EndsBy e frames output taken made written written_after faults faults_after on left) is ends).1

module _ (settings : Settings) (camera : Address) (leader : FirstLeader) (resends : Bool) (o n : Outside) (stream stream_after control control_after : ℕ)
    (app app_after written written_after : Option (List ℕ)) (faults faults_after : ℕ) (input left : Option (List ℕ)) (misses misses_after : ℕ) (end : StreamEnd) (counts : ReceiveCounts) (h : List Entry)
    (r : RanFrames settings camera leader resends o n stream stream_after control control_after app app_after written written_after faults faults_after input left misses misses_after end counts h)
    (some : 1 ≤ settings.window) where
  abbrev mode : Mode
  mode = mode_of settings.mode

  abbrev c : AcqConfig
  c = config_of settings leader resends

  abbrev size : ℕ
  size = buffer_size settings leader

  abbrev a : Token
  a = r.ran.a

  abbrev b : Token
  b = r.ran.b

  abbrev u : Token
  u = r.last

  abbrev crew : Pair
  crew = pair_of a b

  pair : PairHome r.begin r.ran.one r.ran.two r.ran.home u a r.ran.worked_a b r.ran.worked_b
  pair = record {
    number = r.first;
    run = r.ran.run;
    childless = r.childless;
    first = r.ran.first;
    second = r.ran.second;
    ended_run = r.ran.ended_run;
    actor = r.ran.actor;
  }

  first_in : IsPrefix r.ran.home.seen u.seen
  first_in = seen_more r.ran.home u (Join r.ran.worked_b.number) r.ran.second.joins

  own_a : own_of a.number u.seen ≡ own r.ran.worked_a
  own_a = home_own r.begin r.ran.one a r.ran.worked_a r.ran.two r.ran.home u.seen r.ran.first first_in r.ran.ended_run

  reading : CameraReading mode c a.number r.read r.ran.did_first.0.begin r.ran.did_first.0.made u.seen
  reading = part_stays mode c leader.ids camera settings.silence o n r.counted r.read a r.ran.worked_a r.ran.did_first.0 u.seen r.ran.first.new
      (home_prefix r.begin r.ran.one a r.ran.worked_a r.ran.two r.ran.home u.seen r.ran.first first_in) own_a

  strict : HasNone is_fill_refused (own r.ran.worked_a) → AreOf (is_strict_readers mode) (own r.ran.worked_a)
  strict none = subst (λ l. AreOf (is_strict_readers mode) l) own_a
      (part_lays_nothing mode c a.number r.read r.ran.did_first.0.begin r.ran.did_first.0.made u.seen reading (subst (λ l. HasNone is_fill_refused l) (sym own_a) none))

  story : Story mode size settings.buffers r.begin r.ran.one r.ran.two r.ran.home u a r.ran.worked_a b r.ran.worked_b
  story = record {
    prepared = r.prepared;
    pair = pair;
    reader = r.ran.did_first.1;
    application = r.ran.did_second.1;
    strict = strict;
    owned = r.ran.owned;
    legal = r.ran.legal;
  }

  history : FramesHistory mode size settings.buffers crew u.seen
  history = frames_history mode size settings.buffers r.begin r.ran.one r.ran.two r.ran.home u a r.ran.worked_a b r.ran.worked_b story

  untaken : (k : ℕ) → 1 ≤ times k (a.number ∷ []) → acquires u.seen k ≡ false → HasNone is_taken (own_of k u.seen)
  untaken k member =
      subst (λ m. acquires u.seen m ≡ false → HasNone is_taken (own_of m u.seen)) (sym (same_is k a.number (omega (arith, member))))
      (λ free. part_untaken mode c a.number r.read r.ran.did_first.0.begin r.ran.did_first.0.made u.seen some reading free)

  out : HandsOut mode b.number u.seen
  out = hands_out mode b.number (a.number ∷ []) size settings.buffers history.prepared history.since u.seen history.prepares history.begins (apart_two b.number a.number (history.apart b.number))
      history.fills history.takes untaken

  hosts : Hosts r.begin.seen is_hosts u (a.number ∷ b.number ∷ []) (home_worker is_applications b r.ran.worked_b ∷ home_worker (is_readers mode) a r.ran.worked_a ∷ [])
  hosts = pair_hosts r.begin r.ran.one r.ran.two r.ran.home u a r.ran.worked_a b r.ran.worked_b (is_readers mode) is_applications pair
      (works_own (is_readers mode) a r.ran.worked_a r.ran.first.new r.ran.did_first.1) (works_own is_applications b r.ran.worked_b r.ran.second.new r.ran.did_second.1)

  host : HasNone is_stop (own_of 0 u.seen)
  host = host_stops_nothing size settings.buffers r.begin u _ _ r.prepared hosts

  takes : LiveTakes b.number (has_enough r.handed.end) r.ran.did_second.0.hands_out.made u.seen
  takes = application_stays app app_after r.ran.did_second.0.hands_out.made (has_enough r.handed.end) b r.ran.did_second.0.middle r.ran.worked_b u.seen r.ran.did_second.0.hands_out.looks
      (stops_after (has_enough r.handed.end) r.ran.did_second.0.middle r.ran.worked_b r.ran.did_second.0.stops) r.ran.second.new r.ran.ended_run
      (home_prefix r.ran.one r.ran.two b r.ran.worked_b r.ran.home u u.seen r.ran.second (third_in u.seen))
      (home_own r.ran.one r.ran.two b r.ran.worked_b r.ran.home u u.seen r.ran.second (third_in u.seen) r.ran.ended_run)

  told : FramesRun settings camera leader resends o n stream stream_after control control_after app app_after written written_after faults faults_after input left misses misses_after end counts u.seen
  told = record {
    crew = crew;
    history = history;
    read = r.read;
    reader_part = record {
      begin = r.ran.did_first.0.begin;
      refused = r.ran.did_first.0.refused;
      made = r.ran.did_first.0.made;
      turned = r.ran.did_first.0.turned;
      last = r.ran.did_first.0.last;
      on = r.ran.did_first.0.on;
      reading = reading;
      fills = part_fills mode c a.number r.read r.ran.did_first.0.begin r.ran.did_first.0.made u.seen reading;
      sized = part_sized mode c a.number r.read r.ran.did_first.0.begin r.ran.did_first.0.made u.seen size reading r.ran.ended_run
          (one_size size settings.buffers history.prepared history.since u.seen history.prepares history.begins history.kinds);
    };
    reader_faults = r.ran.did_first.2;
    handed = r.handed;
    application_part = record {
      made = r.ran.did_second.0.hands_out.made;
      takes = takes;
      all = out.handed;
      undropped = out.undropped;
      tells = r.ran.did_second.0.hands_out.looks.tells;
      number = r.ran.did_second.0.hands_out.number;
      few = r.ran.did_second.0.hands_out.few;
      complete = r.ran.did_second.0.hands_out.complete;
      ends = r.ran.did_second.0.hands_out.ends;
    };
    dropped = r.ran.did_second.2;
    unmissed = r.ran.did_second.3;
    counted = r.counted;
    counted_is = r.ran.did_first.0.counted;
    ended = r.ended;
    counts_are = r.counts_are;
    none_left = λ over.
        emptied mode c size settings.buffers crew r.read r.ran.did_first.0.begin r.ran.did_first.0.made (has_enough r.handed.end) r.ran.did_second.0.hands_out.made u.seen history reading takes
        (over_stopped r.handed.end settings.frames settings.output r.handed.taken r.ran.did_second.0.hands_out.made written written_after faults faults_after settings.until_input_ends left
        r.ran.did_second.0.hands_out.ends over) host;
    stopped_by = stopped_by mode c size settings.buffers crew r.read r.ran.did_first.0.begin r.ran.did_first.0.made (has_enough r.handed.end) r.ran.did_second.0.hands_out.made u.seen history reading takes host;
  }

  pub frames_run : FramesRun settings camera leader resends o n stream stream_after control control_after app app_after written written_after faults faults_after input left misses misses_after end counts h
  frames_run =
      subst (λ l. FramesRun settings camera leader resends o n stream stream_after control control_after app app_after written written_after faults faults_after input left misses misses_after end counts l)
      (sym r.saw) told

pub runs_have : RunsHaveHistories
runs_have settings camera leader resends o n stream stream_after control control_after app app_after written written_after faults faults_after input left misses misses_after end counts h r some =
    frames_run settings camera leader resends o n stream stream_after control control_after app app_after written written_after faults faults_after input left misses misses_after end counts h r some
