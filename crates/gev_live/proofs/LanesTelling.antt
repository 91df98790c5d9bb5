-- A live run with lanes, by what its workers and lanes promised.
use Rattle.std.proofs.Common.{◌≡◌, inl, inr, ℕ, false, List, [], ◌∷◌, ◌++◌, Option, Result, refl, sym, ap, subst, ◌∙◌, append_assoc, arith, length}
use Rattle.std.proofs.lemmas.List.{append-nil, append_cancel_left}
use Rattle.gev_types.specs.declared.memory.NoMemory as memory
use Rattle.board_machine.specs.declared.events.Entry.{Entry}
use Rattle.board_machine.specs.declared.events.Event.{Event}
use Rattle.board_machine.specs.declared.events.Event.TheVariants.{Join, Stop}
use Rattle.board_machine.specs.Machine.{empty_board, entry}
use Rattle.board_machine.specs.Places.{times, IsPrefix}
use Rattle.board_machine.specs.Adding.{entries_of}
use Rattle.board_machine.specs.Histories.{Run, own_of, After}
use Rattle.board_machine.specs.Laws.{IsAlone}
use Rattle.board_machine.specs.Kinds.{HasNone, is_stop}
use Rattle.board_machine.proofs.Places.{same_self, times-append}
use Rattle.board_machine.proofs.Runs.{own_of-append, runs_rest}
use Rattle.buffer_words.specs.Passes.{Token, own}
use Rattle.buffer_words.specs.Several.{EntersEach}
use Rattle.buffer_words.proofs.Several.{each_then}
use Rattle.client_machine.specs.Times.{SEND_LIMIT}
use Rattle.client_machine.specs.Machine.{new_client}
use Rattle.gev_links.specs.Links.{Address}
use Rattle.gev_report.specs.LiveLine.{live_line}
use Rattle.gev_serve.specs.declared.ends.ServeEnd.{ServeEnd}
use Rattle.gev_control.specs.declared.acq_end.AcqEnd.{AcqEnd}
use Rattle.gev_status.specs.declared.status.Status.{Status}
use Rattle.live_crew.specs.Prepared.{Prepares, SawOnly}
use Rattle.lane_reader.specs.Reads.{looks_in}
use Rattle.lane_crew.specs.declared.lane_tools.LaneTools.{LaneTools}
use Rattle.lane_crew.specs.Tools.{joins_of, ends_in}
use Rattle.lane_crew.specs.Reader.{BringsAll}
use Rattle.lane_crew.proofs.Staying.{lanes_stay}
use Rattle.gev_live.specs.Told.{Told, live_config, live_camera}
use Rattle.gev_live.specs.History.{live_size}
use Rattle.gev_live.specs.Endings.{taken_of, status_by, EndsSo}
use Rattle.gev_live.specs.declared.numbers.Numbers.{Numbers}
use Rattle.gev_live.specs.Parts.{LiveCamera, LiveServes, LiveApplication}
use Rattle.gev_live.proofs.Quiet.{one_size}
use Rattle.gev_live.proofs.Acquiring.{HandsOut, hands_out}
use Rattle.gev_live.proofs.CameraPart.{camera_part, camera_owns}
use Rattle.gev_live.proofs.ApplicationPart.{application_part}
use Rattle.gev_live.proofs.Meaning.{links_stay, link_failed, answer_means, never_spent}
use Rattle.gev_live.proofs.Handing.{camera_stops_nothing, host_stops_nothing}
use Rattle.gev_live.proofs.Stories.{seen_more, prefix_then, home_own, home_prefix}
use Rattle.gev_live.proofs.Telling.{runs_alone}
use Rattle.gev_live.specs.LanesMade.{numbers_in}
use Rattle.gev_live.specs.LanesHistory.{LanesHistory}
use Rattle.gev_live.specs.LanesParts.{joins_from, LanesReader, LanesShare}
use Rattle.gev_live.specs.LanesRun.{LanesRun, RunsLanes, RunsSo}
use Rattle.gev_live.specs.LanesRan.{RanLanes}
use Rattle.gev_live.proofs.Splits.{numbers_count}
use Rattle.gev_live.proofs.Crews.{Did, lanes_stop_nothing, lanes_do_no_more}
use Rattle.gev_live.proofs.Hosting.{three_hosts}
use Rattle.gev_live.proofs.Stopping.{StoppedAt, stopped_at}
use Rattle.gev_live.proofs.Histories.{crew_of, all_of, lanes_history}
use Rattle.gev_live.proofs.LanesHanding.{stops_last, all_or_empty, spent_all}
use Rattle.gev_live.proofs.Shares.{lanes_share}
use Rattle.gev_live.proofs.Claiming.{lanes_untaken}

-- the joins of the lanes by their numbers
joins_same : (tools : List LaneTools) → joins_of tools ≡ joins_from (numbers_in tools)
joins_same [] = refl
joins_same (x ∷ xs) = ap (λ l. l ++ Join x.pass.number ∷ []) (joins_same xs)

nothing_more : {A : Type 0} (xs ys : List A) → xs ++ ys ≡ xs → ys ≡ []
nothing_more xs ys is = append_cancel_left xs ys [] (is ∙ sym (append-nil xs))

-- all that a new pass did is what it entered
own_entered : (s t : Token) (events : List Event) → own s ≡ [] → EntersEach s events t → own t ≡ entries_of s.number events
own_entered s t events none e =
    ap (λ n. own_of n t.seen) e.number
    ∙ (ap (λ l. own_of s.number l) e.seen
    ∙ (own_of-append s.number s.seen e.between ∙ (ap (λ l. l ++ own_of s.number e.between) none ∙ e.own)))

module _ (n : Numbers) (lanes : ℕ) (camera stream : Address) (o e : Told) (served : ServeEnd) (read : AcqEnd) (taken : Result ℕ memory.NoMemory) (lines : List ℕ) (s u : Token)
    (r : RanLanes n.mode lanes (live_camera n.seed) camera stream o e n.frames n.turns served read taken lines s u) where
  back_in : IsPrefix r.back.seen u.seen
  back_in = seen_more r.back u (Join r.worked_d.number) r.crew.third.joins

  home_in : IsPrefix r.home.seen u.seen
  home_in = prefix_then r.home.seen r.back.seen u.seen (seen_more r.home r.back (Join r.worked_b.number) r.crew.second.joins) back_in

  worked_in : IsPrefix r.worked_b.seen u.seen
  worked_in = home_prefix r.one r.two r.b r.worked_b r.home r.back u.seen r.crew.second back_in

  -- what was seen behind the lanes' return
  abbrev behind_them : List Entry
  behind_them = r.reads.stops.between ++ worked_in.rest

  joined_is : u.seen ≡ r.reads.joined.seen ++ behind_them
  joined_is = worked_in.is ∙ (ap (λ l. l ++ worked_in.rest) r.reads.stops.seen ∙ append_assoc r.reads.joined.seen r.reads.stops.between worked_in.rest)

  pub did_all : Did n.mode (length r.tools) 0 r.reads.made r.reads.after r.tools u.seen
  did_all = subst (λ l. Did n.mode (length r.tools) 0 r.reads.made r.reads.after r.tools l) (sym joined_is)
      (lanes_stay n.mode (length r.tools) 0 r.reads.made r.reads.after r.tools r.reads.joined.seen behind_them r.reads.did (subst (λ l. Run l) joined_is r.crew.ended_run))

  own_b : own_of r.b.number u.seen ≡ own r.worked_b
  own_b = home_own r.one r.two r.b r.worked_b r.home r.back u.seen r.crew.second back_in r.crew.ended_run

  pub own_a : own_of r.a.number u.seen ≡ own r.worked_a
  own_a = home_own r.off r.one r.a r.worked_a r.three r.home u.seen r.crew.first home_in r.crew.ended_run

  -- what the acquisition's worker entered
  all_entered : EntersEach r.b ((looks_in r.reads.made ++ (r.reads.last ++ joins_of r.tools)) ++ Stop false r.reads.answer ∷ []) r.worked_b
  all_entered = each_then r.b r.reads.joined r.worked_b (looks_in r.reads.made ++ (r.reads.last ++ joins_of r.tools)) (Stop false r.reads.answer ∷ []) r.reads.enters r.reads.stops

  events_same : (looks_in r.reads.made ++ (r.reads.last ++ joins_of r.tools)) ++ Stop false r.reads.answer ∷ []
      ≡ looks_in r.reads.made ++ (r.reads.last ++ (joins_from (numbers_in r.tools) ++ Stop false r.reads.answer ∷ []))
  events_same =
      append_assoc (looks_in r.reads.made) (r.reads.last ++ joins_of r.tools) (Stop false r.reads.answer ∷ [])
      ∙ (ap (λ l. looks_in r.reads.made ++ l) (append_assoc r.reads.last (joins_of r.tools) (Stop false r.reads.answer ∷ []))
      ∙ ap (λ l. looks_in r.reads.made ++ (r.reads.last ++ (l ++ Stop false r.reads.answer ∷ []))) (joins_same r.tools))

  pub reader_own : own_of r.b.number u.seen ≡ entries_of r.b.number (looks_in r.reads.made ++ (r.reads.last ++ (joins_from (numbers_in r.tools) ++ Stop false r.reads.answer ∷ [])))
  reader_own = own_b ∙ (own_entered r.b r.worked_b _ r.crew.second.new all_entered ∙ ap (entries_of r.b.number) events_same)

  -- behind what had been seen when the lanes were home its entries are the stop alone
  stop_alone : own_of r.b.number behind_them ≡ entry r.b.number (Stop false r.reads.answer) ∷ []
  stop_alone =
      own_of-append r.b.number r.reads.stops.between worked_in.rest
      ∙ (ap (λ l. own_of r.b.number r.reads.stops.between ++ l) nothing
      ∙ (append-nil (own_of r.b.number r.reads.stops.between)
      ∙ subst (λ k. own_of k r.reads.stops.between ≡ entry k (Stop false r.reads.answer) ∷ []) r.reads.enters.number r.reads.stops.own))
    where
      nothing : own_of r.b.number worked_in.rest ≡ []
      nothing = nothing_more (own_of r.b.number r.worked_b.seen) (own_of r.b.number worked_in.rest)
          (sym (own_of-append r.b.number r.worked_b.seen worked_in.rest) ∙ (ap (own_of r.b.number) (sym worked_in.is) ∙ (own_b ∙ ap (λ k. own_of k r.worked_b.seen) r.crew.second.number)))

  stop_stands : StoppedAt r.b.number r.reads.answer (numbers_in r.tools) u.seen
  stop_stands = stopped_at r.b.number r.reads.answer (numbers_in r.tools) r.reads.joined.seen behind_them u.seen joined_is stop_alone
      (lanes_do_no_more n.mode (length r.tools) 0 r.reads.made r.reads.after r.tools r.reads.joined.seen behind_them r.reads.did
      (runs_rest empty_board r.reads.joined.seen behind_them (subst (λ l. Run l) joined_is r.crew.ended_run)))

  pub history_of : SawOnly (Prepares live_size n.buffers) s → LanesHistory n.mode n.buffers (crew_of r.a r.b r.d r.tools) u.seen
  history_of saw = lanes_history n.mode n.buffers s r.off r.one r.two r.three r.home r.back u r.a r.worked_a r.b r.worked_b r.d r.worked_d (length r.tools) r.reads.made r.reads.after r.tools r.reads.answer
      (record {
        prepared = saw;
        crew = r.crew;
        camera = r.camera_works;
        reader = r.reader_works;
        application = r.application_works;
        did = did_all;
        stopped = stop_stands;
        owned = r.owned;
        legal = r.legal;
      })

  pub reader_of : LanesReader camera stream o e n.turns r.b.number (numbers_in r.tools) read u.seen
  reader_of = record {
    client = r.client;
    made = r.reads.made;
    last = r.reads.last;
    on = r.reads.on;
    answer = r.reads.answer;
    own = reader_own;
    faults = r.faults;
    queues = r.queues;
    sides = r.sides;
    sides_after = r.reads.after;
    ends = ends_in r.tools;
    new = r.sides_new;
    brings = subst (λ k. BringsAll k r.reads.made r.sides r.reads.after) (sym (numbers_count r.tools)) r.reads.lanes;
  }

  pub camera_of : LiveCamera (live_camera n.seed) o.camera e.camera o.camera_clock e.camera_clock served
  camera_of = camera_part served (live_camera n.seed) r.serves.camera o.camera e.camera o.camera_clock e.camera_clock r.a r.serves.middle r.serves.serves

  pub camera_own_of : LiveServes r.a.number served camera_of.whole u.seen
  unfolding camera_of
  camera_own_of = camera_owns served (live_camera n.seed) r.serves.camera o.camera e.camera o.camera_clock e.camera_clock r.a r.serves.middle r.worked_a u.seen
      r.serves.serves r.serves.stops r.crew.first.new own_a

  pub shares_of : LanesHistory n.mode n.buffers (crew_of r.a r.b r.d r.tools) u.seen
      → LanesShare n.mode live_config (length r.tools) 0 (numbers_in r.tools) r.reads.made r.reads.after (ends_in r.tools) u.seen
  shares_of history = lanes_share n.mode (length r.tools) 0 r.reads.made r.reads.after r.tools u.seen r.configs r.crew.ended_run
      (one_size live_size n.buffers history.prepared history.since u.seen history.prepares history.begins history.kinds) did_all

  -- the application is no lane
  no_lane : LanesHistory n.mode n.buffers (crew_of r.a r.b r.d r.tools) u.seen → times r.d.number (numbers_in r.tools) ≡ 0
  no_lane history =
      omega (arith, history.apart r.d.number, times-append r.d.number (numbers_in r.tools) (r.d.number ∷ r.b.number ∷ r.a.number ∷ []), same_self r.d.number)

  hands_of : LanesHistory n.mode n.buffers (crew_of r.a r.b r.d r.tools) u.seen → HandsOut n.mode r.d.number u.seen
  hands_of history = hands_out n.mode r.d.number (numbers_in r.tools) live_size n.buffers history.prepared history.since u.seen history.prepares history.begins (no_lane history)
      history.fills history.takes
      (lanes_untaken n.mode (length r.tools) 0 (numbers_in r.tools) r.reads.made r.reads.after (ends_in r.tools) u.seen (shares_of history))

  pub application_of : LanesHistory n.mode n.buffers (crew_of r.a r.b r.d r.tools) u.seen → LiveApplication n.mode o.app_clock e.app_clock n.frames r.d.number lines taken u.seen
  application_of history = application_part n.mode n.frames o.app_clock e.app_clock lines taken r.d r.worked_d u.seen r.applies r.crew.third.new r.crew.ended_run
      (home_prefix r.two r.three r.d r.worked_d r.back u u.seen r.crew.third (all_of u.seen))
      (home_own r.two r.three r.d r.worked_d r.back u u.seen r.crew.third (all_of u.seen) r.crew.ended_run)
      (hands_of history).handed (hands_of history).undropped

pub ran_lanes : (n : Numbers) (lanes : ℕ) (camera stream : Address) (answer : Status) (o e : Told) (served : ServeEnd) (read : AcqEnd) (taken : Result ℕ memory.NoMemory) (lines : List ℕ)
    (written written_after : Option (List ℕ)) (faults faults_after : ℕ) (s u : Token)
    → SawOnly (Prepares live_size n.buffers) s → RanLanes n.mode lanes (live_camera n.seed) camera stream o e n.frames n.turns served read taken lines s u
    → EndsSo (status_by served read n.frames n.turns taken) answer (lines ++ live_line n.frames (taken_of taken)) written written_after faults faults_after
    → LanesRun n lanes camera stream answer o e written written_after faults faults_after u.seen
unfolding reader_of
ran_lanes n lanes camera stream answer o e served read taken lines written written_after faults faults_after s u saw r ends = record {
  crew = crew_of r.a r.b r.d r.tools;
  count = numbers_count r.tools ∙ r.count;
  history = history;
  served = served;
  camera_part = served_part;
  camera_own = camera_own_of n lanes camera stream o e served read taken lines s u r;
  read = read;
  reader_part = part;
  shares = subst (λ k. LanesShare n.mode live_config k 0 (numbers_in r.tools) r.reads.made r.reads.after (ends_in r.tools) u.seen) r.count
      (shares_of n lanes camera stream o e served read taken lines s u r history);
  applied = taken;
  lines = lines;
  application_part = taken_part;
  ended = ends;
  steady = links_stay (live_camera n.seed) o e served read n.frames n.turns taken answer served_part r.faults ends.cause;
  failed = link_failed (live_camera n.seed) o e served read n.frames n.turns taken answer served_part r.faults ends.cause;
  none_left = all_or_empty n.mode n.buffers (crew_of r.a r.b r.d r.tools) served read o.app_clock e.app_clock n.frames n.turns lines taken answer u.seen history
      (stops_last camera stream o e n.turns r.b.number (numbers_in r.tools) read u.seen part) taken_part
      (λ well. subst (λ l. HasNone is_stop l) (sym own_camera) (camera_stops_nothing served (live_camera n.seed) o.camera e.camera o.camera_clock e.camera_clock r.a r.worked_a well r.crew.first.new r.serves))
      (host_stops_nothing live_size n.buffers s u _ _ saw
      (three_hosts s r.off r.one r.two r.three r.home r.back u r.a r.worked_a r.b r.worked_b r.d r.worked_d (numbers_in r.tools) r.crew r.camera_works r.reader_works r.application_works))
      (lanes_stop_nothing n.mode (length r.tools) 0 r.reads.made r.reads.after r.tools u.seen did) ends.cause;
  means = answer_means served read n.frames n.turns (length r.reads.made) lines taken_part.made taken answer taken_part.told_lines
      (spent_all r.reads.on.setup_end read n.turns r.reads.made (never_spent stream (new_client SEND_LIMIT) r.reads.on.setup r.reads.on.setup_end r.reads.on.client r.reads.on.set_up_by) r.reads.on.ends) ends.cause;
}
  where
    history : LanesHistory n.mode n.buffers (crew_of r.a r.b r.d r.tools) u.seen
    history = history_of n lanes camera stream o e served read taken lines s u r saw

    did : Did n.mode (length r.tools) 0 r.reads.made r.reads.after r.tools u.seen
    did = did_all n lanes camera stream o e served read taken lines s u r

    part : LanesReader camera stream o e n.turns r.b.number (numbers_in r.tools) read u.seen
    part = reader_of n lanes camera stream o e served read taken lines s u r

    served_part : LiveCamera (live_camera n.seed) o.camera e.camera o.camera_clock e.camera_clock served
    served_part = camera_of n lanes camera stream o e served read taken lines s u r

    taken_part : LiveApplication n.mode o.app_clock e.app_clock n.frames r.d.number lines taken u.seen
    taken_part = application_of n lanes camera stream o e served read taken lines s u r history

    own_camera : own_of r.a.number u.seen ≡ own r.worked_a
    own_camera = own_a n lanes camera stream o e served read taken lines s u r

-- the same, by what is the same
pub lanes_as : (n : Numbers) (lanes : ℕ) (camera stream : Address) (answer : Status) (o e f : Told) (written written_after : Option (List ℕ)) (faults faults_after : ℕ) (h : List Entry) → f ≡ e
    → LanesRun n lanes camera stream answer o e written written_after faults faults_after h → LanesRun n lanes camera stream answer o f written written_after faults faults_after h
lanes_as n lanes camera stream answer o e f written written_after faults faults_after h is run =
    subst (λ (x : Told). LanesRun n lanes camera stream answer o x written written_after faults faults_after h) (sym is) run

pub lanes_alone : (n : Numbers) (lanes : ℕ) (camera stream : Address) (answer : Status) (o e : Told) (written written_after : Option (List ℕ)) (faults faults_after : ℕ) (h : List Entry)
    → RunsLanes n lanes camera stream answer o e written written_after faults faults_after h → IsAlone (After h) 0
lanes_alone n lanes camera stream answer o e written written_after faults faults_after h (inl run) = run.history.alone
lanes_alone n lanes camera stream answer o e written written_after faults faults_after h (inr none) = none.alone

pub so_alone : (n : Numbers) (camera stream : Address) (answer : Status) (o e : Told) (written written_after : Option (List ℕ)) (faults faults_after : ℕ) (h : List Entry)
    → RunsSo n camera stream answer o e written written_after faults faults_after h → IsAlone (After h) 0
so_alone n camera stream answer o e written written_after faults faults_after h (inl (one, runs)) = runs_alone n camera stream answer o e written written_after faults faults_after h runs
so_alone n camera stream answer o e written written_after faults faults_after h (inr (more, runs)) = lanes_alone n n.lanes camera stream answer o e written written_after faults faults_after h runs
