-- A live run by what its workers promised.
use Rattle.std.proofs.Common.{◌≡◌, inl, inr, ℕ, zero, suc, false, arith, List, [], ◌∷◌, ◌++◌, Option, Result, refl, sym, subst, append-nil, ◌≤◌, length}
use Rattle.gev_types.specs.declared.memory.NoMemory as memory
use Rattle.board_machine.specs.declared.events.Entry.{Entry}
use Rattle.board_machine.specs.declared.events.Event.TheVariants.{Join}
use Rattle.board_machine.specs.Places.{times, IsPrefix}
use Rattle.board_machine.proofs.Places.{same_is, same_self}
use Rattle.board_machine.specs.Histories.{own_of, After}
use Rattle.board_machine.specs.Machine.{empty_board, IsActor}
use Rattle.board_machine.specs.Laws.{IsAlone}
use Rattle.board_machine.specs.Kinds.{HasNone, is_fill_refused, is_stop, is_taken}
use Rattle.buffer_words.specs.Passes.{Token, own}
use Rattle.buffer_words.specs.Workers.{AreOf, Hosts}
use Rattle.client_machine.specs.Times.{SEND_LIMIT}
use Rattle.client_machine.specs.Machine.{new_client}
use Rattle.acquisition_machine.specs.declared.config.AcqConfig.{AcqConfig}
use Rattle.camera_machine.specs.Camera.{Camera}
use Rattle.gev_links.specs.Links.{Address}
use Rattle.gev_report.specs.LiveLine.{live_line}
use Rattle.gev_serve.specs.declared.ends.ServeEnd.{ServeEnd}
use Rattle.gev_control.specs.declared.acq_end.AcqEnd.{AcqEnd}
use Rattle.gev_status.specs.declared.status.Status.{Status}
use Rattle.gev_status.specs.declared.status.Status.TheVariants.{NoMemory}
use Rattle.live_crew.specs.Prepared.{Prepares, SawOnly}
use Rattle.board_calls.specs.declared.mode.Mode.{Mode}
use Rattle.gev_acq.specs.Kinds.{is_readers, is_strict_readers}
use Rattle.gev_acq.specs.History.{LiveReading}
use Rattle.gev_acq.proofs.Whole.{part_stays, part_fills, part_sized}
use Rattle.gev_acq.proofs.Strict.{part_lays_nothing}
use Rattle.gev_live.specs.Told.{Told, reader_side, live_config, live_camera}
use Rattle.gev_live.specs.History.{live_size, LiveHistory}
use Rattle.gev_live.specs.Acquirers.{acquires}
use Rattle.gev_live.specs.Endings.{taken_of, status_by, EndsSo}
use Rattle.gev_acq.specs.declared.turn.Turn.{Turn}
use Rattle.gev_live.specs.declared.numbers.Numbers.{Numbers}
use Rattle.gev_live.specs.LiveRun.{LiveRun, NeverRan, RunsLive}
use Rattle.gev_live.specs.Journal.{JournaledRun, RunsWithJournal}
use Rattle.gev_live.specs.Ran.{RanCrew}
use Rattle.gev_live.proofs.Quiet.{one_size}
use Rattle.gev_live.proofs.Untaken.{reader_untaken}
use Rattle.gev_live.proofs.Acquiring.{HandsOut, hands_out}
use Rattle.gev_live.proofs.CameraPart.{camera_part, camera_owns}
use Rattle.gev_live.proofs.ApplicationPart.{application_part}
use Rattle.gev_live.specs.Parts.{LiveCamera, LiveApplication}
use Rattle.gev_live.proofs.Meaning.{links_stay, link_failed, answer_means, spent_all, never_spent}
use Rattle.buffer_words.proofs.Working.{works_own}
use Rattle.gev_serve.specs.Kinds.{is_cameras}
use Rattle.gev_apply.specs.Kinds.{is_applications}
use Rattle.live_crew.specs.Kinds.{is_hosts}
use Rattle.live_crew.proofs.Crews.{home_worker, crew_hosts}
use Rattle.gev_live.proofs.Handing.{camera_stops_nothing, host_stops_nothing, all_or_empty}
use Rattle.gev_live.proofs.Stories.{seen_more, prefix_then, home_own, home_prefix, Story, crew_of, live_history}

-- what was seen when a worker was home stands in all that is seen at the end
second_in : {mode : Mode} {c : AcqConfig} {new : Camera} {camera stream : Address} {o e : Told} {frames turns : ℕ} {served : ServeEnd} {read : AcqEnd} {answer : Result ℕ memory.NoMemory} {lines : List ℕ} {s u : Token}
    → (r : RanCrew mode c new camera stream o e frames turns served read answer lines s u) → IsPrefix r.back.seen u.seen
second_in r = seen_more r.back _ (Join r.worked_d.number) r.crew.third.joins

first_in : {mode : Mode} {c : AcqConfig} {new : Camera} {camera stream : Address} {o e : Told} {frames turns : ℕ} {served : ServeEnd} {read : AcqEnd} {answer : Result ℕ memory.NoMemory} {lines : List ℕ} {s u : Token}
    → (r : RanCrew mode c new camera stream o e frames turns served read answer lines s u) → IsPrefix r.home.seen u.seen
first_in r = prefix_then r.home.seen r.back.seen _ (seen_more r.home r.back (Join r.worked_b.number) r.crew.second.joins) (second_in r)

third_in : (l : List Entry) → IsPrefix l l
third_in l = record { rest = []; is = sym (append-nil l) }

-- of three actors, each of which stands once, the first isn't the second
apart_two : (d b a : ℕ) → times d (d ∷ b ∷ a ∷ []) ≤ 1 → times d (b ∷ []) ≡ 0
apart_two d b a once = omega (arith, once, same_self d)

pub ran_live : (n : Numbers) (camera stream : Address) (answer : Status) (o e : Told) (served : ServeEnd) (read : AcqEnd) (taken : Result ℕ memory.NoMemory) (lines : List ℕ)
    (written written_after : Option (List ℕ)) (faults faults_after : ℕ) (s u : Token)
    → SawOnly (Prepares live_size n.buffers) s → RanCrew n.mode live_config (live_camera n.seed) camera stream o e n.frames n.turns served read taken lines s u
    → EndsSo (status_by served read n.frames n.turns taken) answer (lines ++ live_line n.frames (taken_of taken)) written written_after faults faults_after
    → LiveRun n camera stream answer o e written written_after faults faults_after u.seen
ran_live n camera stream answer o e served read taken lines written written_after faults faults_after s u saw r ends = record {
  crew = crew_of r.a r.b r.d;
  history = history;
  served = served;
  camera_part = served_part;
  camera_own = camera_owns served (live_camera n.seed) r.serves.camera o.camera e.camera o.camera_clock e.camera_clock r.a r.serves.middle r.worked_a u.seen
      r.serves.serves r.serves.stops r.crew.first.new own_a;
  read = read;
  reader_part = record {
    client = r.client;
    journal = r.journal;
    made = r.reads.made;
    turned = r.reads.turned;
    last = r.reads.last;
    on = r.reads.on;
    reading = reading;
    sized = part_sized n.mode live_config r.b.number read r.reads.made u.seen live_size reading r.crew.ended_run
        (one_size live_size n.buffers history.prepared history.since u.seen history.prepares history.begins history.kinds);
    fills = part_fills n.mode live_config r.b.number read r.reads.made u.seen reading;
    faults = r.faults;
  };
  applied = taken;
  lines = lines;
  application_part = taken_part;
  ended = ends;
  steady = links_stay (live_camera n.seed) o e served read n.frames n.turns taken answer served_part r.faults ends.cause;
  failed = link_failed (live_camera n.seed) o e served read n.frames n.turns taken answer served_part r.faults ends.cause;
  none_left = all_or_empty n.mode live_config n.buffers (crew_of r.a r.b r.d) served read r.reads.made o.app_clock e.app_clock n.frames n.turns lines taken answer u.seen history reading taken_part
      (λ well. subst (λ l. HasNone is_stop l) (sym own_a) (camera_stops_nothing served (live_camera n.seed) o.camera e.camera o.camera_clock e.camera_clock r.a r.worked_a well r.crew.first.new r.serves))
      (host_stops_nothing live_size n.buffers s u _ _ saw hosts) ends.cause;
  means = answer_means served read n.frames n.turns (length r.reads.made) lines taken_part.made taken answer taken_part.told_lines
      (spent_all stream r.reads.on.setup_end read n.turns r.reads.made (never_spent stream (new_client SEND_LIMIT) r.reads.on.setup r.reads.on.setup_end r.reads.on.client r.reads.on.set_up_by) r.reads.on.ends) ends.cause;
}
  where
    own_b : own_of r.b.number u.seen ≡ own r.worked_b
    own_b = home_own r.one r.two r.b r.worked_b r.home r.back u.seen r.crew.second (second_in r) r.crew.ended_run

    reading : LiveReading n.mode live_config r.b.number read r.reads.made u.seen
    reading = part_stays n.mode live_config camera stream (reader_side o (new_client SEND_LIMIT)) (reader_side e r.client) [] r.journal n.turns read r.b r.worked_b r.reads u.seen r.crew.second.new
        (home_prefix r.one r.two r.b r.worked_b r.home r.back u.seen r.crew.second (second_in r)) own_b

    strict : HasNone is_fill_refused (own r.worked_b) → AreOf (is_strict_readers n.mode) (own r.worked_b)
    strict none = subst (λ l. AreOf (is_strict_readers n.mode) l) own_b
        (part_lays_nothing n.mode live_config r.b.number read r.reads.made u.seen reading (subst (λ l. HasNone is_fill_refused l) (sym own_b) none))

    story : Story n.mode n.buffers s r.one r.two r.three r.home r.back u r.a r.worked_a r.b r.worked_b r.d r.worked_d
    story = record {
      prepared = saw;
      crew = r.crew;
      camera = r.camera_works;
      reader = r.reader_works;
      application = r.application_works;
      strict = strict;
      owned = r.owned;
      legal = r.legal;
    }

    history : LiveHistory n.mode n.buffers (crew_of r.a r.b r.d) u.seen
    history = live_history n.mode n.buffers s r.one r.two r.three r.home r.back u r.a r.worked_a r.b r.worked_b r.d r.worked_d story

    -- the application isn't the reader
    others_number : times r.d.number (r.b.number ∷ []) ≡ 0
    others_number = apart_two r.d.number r.b.number r.a.number (history.apart r.d.number)

    untaken : (k : ℕ) → 1 ≤ times k (r.b.number ∷ []) → acquires u.seen k ≡ false → HasNone is_taken (own_of k u.seen)
    untaken k member =
        subst (λ m. acquires u.seen m ≡ false → HasNone is_taken (own_of m u.seen)) (sym (same_is k r.b.number (omega (arith, member))))
        (λ free. reader_untaken n.mode live_config r.b.number read r.reads.made u.seen (omega arith) reading free)

    out : HandsOut n.mode r.d.number u.seen
    out = hands_out n.mode r.d.number (r.b.number ∷ []) live_size n.buffers history.prepared history.since u.seen history.prepares history.begins others_number history.fills history.takes untaken

    own_a : own_of r.a.number u.seen ≡ own r.worked_a
    own_a = home_own s r.one r.a r.worked_a r.three r.home u.seen r.crew.first (first_in r) r.crew.ended_run

    hosts : Hosts s.seen is_hosts u (r.a.number ∷ r.b.number ∷ r.d.number ∷ []) (home_worker is_applications r.d r.worked_d ∷ home_worker (is_readers n.mode) r.b r.worked_b ∷ home_worker is_cameras r.a r.worked_a ∷ [])
    hosts = crew_hosts s r.one r.two r.three r.home r.back u r.a r.worked_a r.b r.worked_b r.d r.worked_d is_cameras (is_readers n.mode) is_applications r.crew
        (works_own is_cameras r.a r.worked_a r.crew.first.new r.camera_works) (works_own (is_readers n.mode) r.b r.worked_b r.crew.second.new r.reader_works) (works_own is_applications r.d r.worked_d r.crew.third.new r.application_works)

    served_part : LiveCamera (live_camera n.seed) o.camera e.camera o.camera_clock e.camera_clock served
    served_part = camera_part served (live_camera n.seed) r.serves.camera o.camera e.camera o.camera_clock e.camera_clock r.a r.serves.middle r.serves.serves

    taken_part : LiveApplication n.mode o.app_clock e.app_clock n.frames r.d.number lines taken u.seen
    taken_part = application_part n.mode n.frames o.app_clock e.app_clock lines taken r.d r.worked_d u.seen r.applies r.crew.third.new r.crew.ended_run
        (home_prefix r.two r.three r.d r.worked_d r.back u u.seen r.crew.third (third_in u.seen))
        (home_own r.two r.three r.d r.worked_d r.back u u.seen r.crew.third (third_in u.seen) r.crew.ended_run)
        out.handed out.undropped

-- with the journal that the reader gave back
pub ran_with_journal : (n : Numbers) (camera stream : Address) (answer : Status) (o e : Told) (served : ServeEnd) (read : AcqEnd) (taken : Result ℕ memory.NoMemory) (lines : List ℕ)
    (written written_after : Option (List ℕ)) (faults faults_after : ℕ) (s u : Token) (journal : List Turn)
    → SawOnly (Prepares live_size n.buffers) s
    → ((ran : RanCrew n.mode live_config (live_camera n.seed) camera stream o e n.frames n.turns served read taken lines s u) × (ran.journal ≡ journal))
    → EndsSo (status_by served read n.frames n.turns taken) answer (lines ++ live_line n.frames (taken_of taken)) written written_after faults faults_after
    → JournaledRun n camera stream answer o e written written_after faults faults_after u.seen journal
unfolding ran_live
ran_with_journal n camera stream answer o e served read taken lines written written_after faults faults_after s u journal saw (ran, is) ends = record {
  run = ran_live n camera stream answer o e served read taken lines written written_after faults faults_after s u saw ran ends;
  journal_is = is;
}

-- the same, by what is the same
pub noted_as : (n : Numbers) (camera stream : Address) (answer : Status) (o e f : Told) (written written_after : Option (List ℕ)) (faults faults_after : ℕ) (h : List Entry) (journal kept : List Turn) → f ≡ e → kept ≡ journal
    → JournaledRun n camera stream answer o e written written_after faults faults_after h journal → JournaledRun n camera stream answer o f written written_after faults faults_after h kept
noted_as n camera stream answer o e f written written_after faults faults_after h journal kept is same run =
    subst (λ (l : List Turn). JournaledRun n camera stream answer o f written written_after faults faults_after h l) (sym same)
    (subst (λ (x : Told). JournaledRun n camera stream answer o x written written_after faults faults_after h journal) (sym is) run)

pub ends_as : (first second status : Status) (lines : List ℕ) (frames taken count : ℕ) (written written_after : Option (List ℕ)) (faults faults_after : ℕ) → first ≡ second → taken ≡ count
    → EndsSo first status (lines ++ live_line frames taken) written written_after faults faults_after → EndsSo second status (lines ++ live_line frames count) written written_after faults faults_after
ends_as first second status lines frames taken count written written_after faults faults_after e f ends =
    subst (λ k. EndsSo second status (lines ++ live_line frames k) written written_after faults faults_after) f
    (subst (λ s. EndsSo s status (lines ++ live_line frames taken) written written_after faults faults_after) e ends)

-- the first actor is alone on the empty board
alone_there : IsAlone empty_board 0
alone_there = record { actor = λ e. cc; only = λ n is_one. only n is_one }
  where
    only : (n : ℕ) → IsActor empty_board n → n ≡ 0
    only zero is_one = refl
    only (suc n) is_one = absurd (is_one refl)

pub none_alone : (h : List Entry) → h ≡ [] → IsAlone (After h) 0
none_alone h none = subst (λ l. IsAlone (After l) 0) (sym none) alone_there

pub runs_alone : (n : Numbers) (camera stream : Address) (answer : Status) (o e : Told) (written written_after : Option (List ℕ)) (faults faults_after : ℕ) (h : List Entry)
    → RunsLive n camera stream answer o e written written_after faults faults_after h → IsAlone (After h) 0
runs_alone n camera stream answer o e written written_after faults faults_after h (inl run) = run.history.alone
runs_alone n camera stream answer o e written written_after faults faults_after h (inr none) = none.alone

-- memory was wanting before anything was done
pub never_begun : (n : Numbers) (o : Told) (written : Option (List ℕ)) (faults : ℕ) (h : List Entry) → 1 ≤ n.buffers → h ≡ []
    → NeverRan n NoMemory o o written written faults faults h
never_begun n o written faults h some none = record {
  wanted = refl;
  events = [];
  short = record { ids = []; fewer = some; prepared = []; each = refl; last = []; looks = inl refl; is = refl };
  seen = none;
  alone = none_alone h none;
  untold = refl;
  unwritten = refl;
  no_fault = refl;
}

-- a run is one also where nobody asks for the journal
pub without_journal : (n : Numbers) (camera stream : Address) (answer : Status) (o e : Told) (written written_after : Option (List ℕ)) (faults faults_after : ℕ) (h : List Entry) (journal : List Turn)
    → RunsWithJournal n camera stream answer o e written written_after faults faults_after h journal → RunsLive n camera stream answer o e written written_after faults faults_after h
without_journal n camera stream answer o e written written_after faults faults_after h journal (inl noted) = inl noted.run
without_journal n camera stream answer o e written written_after faults faults_after h journal (inr never) = inr never.0
