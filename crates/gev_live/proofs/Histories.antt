-- The history of a live run with lanes, by what its preparation, the splits, the workers, the lanes and the joins ensured.
use Rattle.std.proofs.Common.{◌≡◌, ◌⊎◌, inl, inr, ℕ, Bool, false, ◌≤◌, List, [], ◌∷◌, ◌++◌, Result, refl, sym, ap, subst, ◌∙◌, append_assoc, arith}
use Rattle.std.proofs.lemmas.List.{append-nil}
use Rattle.board_machine.specs.declared.events.Entry.{Entry}
use Rattle.board_machine.specs.declared.events.Event.{Event}
use Rattle.board_machine.specs.declared.events.Event.TheVariants.{Stop}
use Rattle.board_machine.specs.Machine.{entry}
use Rattle.board_machine.specs.Places.{times, IsPrefix}
use Rattle.board_machine.specs.Histories.{Run, After}
use Rattle.board_machine.specs.Actors.{AllBy}
use Rattle.board_machine.specs.Owners.{IsOwned}
use Rattle.board_machine.specs.Handout.{IsLegal}
use Rattle.board_machine.specs.Kinds.{HasNone, is_close, is_fill_refused}
use Rattle.board_machine.specs.Adding.{entries_of}
use Rattle.board_machine.proofs.Places.{same_self}
use Rattle.board_machine.proofs.Quiet.{open_takes_fills}
use Rattle.buffer_words.specs.Passes.{Token}
use Rattle.buffer_words.specs.Workers.{AreApart, OnlyBy, Works, Worker, Hosts, OthersAreApart, HostedAll}
use Rattle.buffer_words.proofs.Working.{are_of_entries}
use Rattle.live_crew.specs.Prepared.{Prepares, SawOnly}
use Rattle.gev_serve.specs.Kinds.{is_cameras}
use Rattle.gev_apply.specs.Kinds.{is_applications}
use Rattle.live_crew.specs.Kinds.{is_hosts}
use Rattle.board_calls.specs.declared.mode.Mode.{Mode}
use Rattle.board_calls.specs.declared.mode.Mode.TheVariants.{OldestFirst, OldestFirstOverwrite, NewestOnly}
use Rattle.gev_lanes.specs.declared.parts.ReaderLane.{ReaderLane}
use Rattle.lane_reader.specs.LanesTurns.{ReaderTurn}
use Rattle.gev_live.specs.Kinds.{is_filling, is_taking, is_handing}
use Rattle.gev_live.specs.Acquirers.{takers}
use Rattle.gev_live.specs.History.{live_size}
use Rattle.gev_live.proofs.Apart.{is_other, hosts_live, cameras_live, applications_live, hosts_fill, cameras_fill, applications_fill, hosts_take, cameras_take, hosts_hand, cameras_hand, childless_cameras, childless_applications, all_live}
use Rattle.gev_live.proofs.Quiet.{is_beginning, beginning_are, never_closed}
use Rattle.gev_live.proofs.Splitting.{Behind, behind, only_later}
use Rattle.lane_crew.specs.declared.lane_tools.LaneTools.{LaneTools}
use Rattle.lane_crew.specs.Kinds.{is_lanes, is_lane_readers}
use Rattle.gev_live.specs.LanesKinds.{is_strict_lanes}
use Rattle.gev_live.specs.LanesHistory.{LanesCrew, LanesHistory}
use Rattle.gev_live.specs.LanesHomes.{LanesHome}
use Rattle.gev_live.specs.LanesMade.{numbers_in}
use Rattle.gev_live.proofs.LanesApart.{readers_live, readers_fill, readers_take, readers_hand, lanes_live, strict_live, strict_take, strict_hand, childless_readers, childless_lanes, childless_strict}
use Rattle.gev_live.proofs.Crews.{Did, lane_workers, workers_numbers, lanes_home, strict_lanes_home, lanes_childless, lanes_apart, lanes_among}
use Rattle.gev_live.proofs.Hosting.{three_home, split_off, three_hosts, hosted, all_apart}
use Rattle.gev_live.proofs.Stopping.{StoppedAt, quiet_all}

-- What the preparation, the splits, the workers, the lanes and the joins ensured, from the empty board on.
pub record Story (mode : Mode) (buffers : ℕ) (s off one two three home back u a worked_a b worked_b d worked_d : Token) (n : ℕ) (made : List ReaderTurn) (us : List ReaderLane) (tools : List LaneTools) (answer : Result (Unit {0}) ℕ) : Type 0 where
  pub prepared : SawOnly (Prepares live_size buffers) s
  pub crew : LanesHome s off one two three home back u a worked_a b worked_b d worked_d (numbers_in tools)
  pub camera : Works is_cameras a worked_a
  pub reader : Works is_lane_readers b worked_b
  pub application : Works is_applications d worked_d
  pub did : Did mode n 0 made us tools u.seen
  pub stopped : StoppedAt b.number answer (numbers_in tools) u.seen
  pub owned : IsOwned (After u.seen)
  pub legal : IsLegal u.seen

abbrev pub crew_of : Token → Token → Token → List LaneTools → LanesCrew
crew_of a b d tools = record { camera = a.number; reader = b.number; application = d.number; lanes = numbers_in tools }

pub all_of : (l : List Entry) → IsPrefix l l
all_of l = record { rest = []; is = sym (append-nil l) }

none_refused : (h : List Entry) → Run h → HasNone is_close h → HasNone is_fill_refused h
none_refused h run none = open_takes_fills [] h run refl none

pub lanes_history : (mode : Mode) (buffers : ℕ) (s off one two three home back u a worked_a b worked_b d worked_d : Token) (n : ℕ) (made : List ReaderTurn) (us : List ReaderLane) (tools : List LaneTools) (answer : Result (Unit {0}) ℕ)
    → Story mode buffers s off one two three home back u a worked_a b worked_b d worked_d n made us tools answer → LanesHistory mode buffers (crew_of a b d tools) u.seen
lanes_history mode buffers s off one two three home back u a worked_a b worked_b d worked_d n made us tools answer w = record {
  run = w.crew.ended_run;
  owned = w.owned;
  legal = w.legal;
  alone = tight.alone;
  apart = all_apart s off one two three home back u a worked_a b worked_b d worked_d (numbers_in tools) w.crew;
  entries = subst (λ l. AllBy (0 ∷ l) u.seen) (workers_numbers (is_strict_lanes mode) mode n 0 made us tools u.seen w.did trio) tight.entries;
  prepared = w.prepared.events;
  prepares = w.prepared.kind;
  since = tight.since;
  begins = begins_tight;
  kinds = all_live tight.since (tight.only is_other [] (inr hosts_live)
      (lanes_apart (is_strict_lanes mode) is_other [] mode n 0 made us tools u.seen w.did trio (strict_live mode) (inr applications_live, (inr readers_live, (inr cameras_live, tt)))));
  fills = fills_by;
  takes = takes_by mode tight.since w.did tight.only;
  hands = tight.only is_handing (d.number ∷ []) (inr hosts_hand)
      (lanes_apart (is_strict_lanes mode) is_handing (d.number ∷ []) mode n 0 made us tools u.seen w.did trio (strict_hand mode) (inl (omega (arith, same_self d.number)), (inr readers_hand, (inr cameras_hand, tt))));
  answer = answer;
  before = w.stopped.before;
  after = w.stopped.after;
  stopped = w.stopped.is;
  quiet = quiet_after;
}
  where
    trio : List Worker
    trio = three_home a worked_a b worked_b d worked_d

    stop_entry : Entry
    stop_entry = entry b.number (Stop false answer)

    hosts : Hosts s.seen is_hosts u (split_off a b d (numbers_in tools)) trio
    hosts = three_hosts s off one two three home back u a worked_a b worked_b d worked_d (numbers_in tools) w.crew w.camera w.reader w.application

    loose : HostedAll s.seen is_hosts u.seen (lane_workers (is_lanes mode) mode n 0 made us tools u.seen w.did trio)
    loose = hosted s off one two three home back u a worked_a b worked_b d worked_d (numbers_in tools) (lane_workers (is_lanes mode) mode n 0 made us tools u.seen w.did trio) w.crew
        (lanes_home s.seen is_hosts u (split_off a b d (numbers_in tools)) trio mode n 0 made us tools u.seen (all_of u.seen) w.did hosts)
        (lanes_childless (is_lanes mode) mode n 0 made us tools u.seen w.did trio (childless_lanes mode) (childless_applications, (childless_readers, (childless_cameras, tt))))
        (workers_numbers (is_lanes mode) mode n 0 made us tools u.seen w.did trio)

    unclosed : HasNone is_close u.seen
    unclosed = never_closed live_size buffers w.prepared.events loose.since u.seen w.prepared.kind (loose.seen_since ∙ ap (λ l. l ++ loose.since) w.prepared.seen)
        (all_live loose.since (loose.only is_other [] (inr hosts_live)
        (lanes_apart (is_lanes mode) is_other [] mode n 0 made us tools u.seen w.did trio (lanes_live mode) (inr applications_live, (inr readers_live, (inr cameras_live, tt))))))

    tight : HostedAll s.seen is_hosts u.seen (lane_workers (is_strict_lanes mode) mode n 0 made us tools u.seen w.did trio)
    tight = hosted s off one two three home back u a worked_a b worked_b d worked_d (numbers_in tools) (lane_workers (is_strict_lanes mode) mode n 0 made us tools u.seen w.did trio) w.crew
        (strict_lanes_home s.seen is_hosts u (split_off a b d (numbers_in tools)) trio mode n 0 made us tools u.seen (all_of u.seen) (none_refused u.seen w.crew.ended_run unclosed) w.did hosts)
        (lanes_childless (is_strict_lanes mode) mode n 0 made us tools u.seen w.did trio (childless_strict mode) (childless_applications, (childless_readers, (childless_cameras, tt))))
        (workers_numbers (is_strict_lanes mode) mode n 0 made us tools u.seen w.did trio)

    begins_tight : u.seen ≡ entries_of 0 w.prepared.events ++ tight.since
    begins_tight = tight.seen_since ∙ ap (λ l. l ++ tight.since) w.prepared.seen

    fills_by : OnlyBy is_filling (numbers_in tools) tight.since
    fills_by = tight.only is_filling (numbers_in tools) (inr hosts_fill)
        (lanes_among (is_strict_lanes mode) is_filling (numbers_in tools) mode n 0 made us tools u.seen w.did trio (λ i. omega arith) (inr applications_fill, (inr readers_fill, (inr cameras_fill, tt))))

    -- in a mode that drops buffers the lanes are among those that take
    takers_among : (m : Mode) (did : Did m n 0 made us tools u.seen) → OthersAreApart is_taking (d.number ∷ numbers_in tools) (lane_workers (is_strict_lanes m) m n 0 made us tools u.seen did trio)
    takers_among m did =
        lanes_among (is_strict_lanes m) is_taking (d.number ∷ numbers_in tools) m n 0 made us tools u.seen did trio (λ i. omega arith)
        (inl (omega (arith, same_self d.number)), (inr readers_take, (inr cameras_take, tt)))

    -- takes and poolings are the application's, and the lanes' in a mode that drops buffers
    takes_by : (m : Mode) (since : List Entry) (did : Did m n 0 made us tools u.seen)
        → ((part : Event → Bool) (ks : List ℕ) → ((1 ≤ times 0 ks) ⊎ AreApart is_hosts part) → OthersAreApart part ks (lane_workers (is_strict_lanes m) m n 0 made us tools u.seen did trio) → OnlyBy part ks since)
        → OnlyBy is_taking (takers m d.number (numbers_in tools)) since
    takes_by OldestFirst since did only =
        only is_taking (d.number ∷ []) (inr hosts_take)
        (lanes_apart (is_strict_lanes OldestFirst) is_taking (d.number ∷ []) OldestFirst n 0 made us tools u.seen did trio strict_take
        (inl (omega (arith, same_self d.number)), (inr readers_take, (inr cameras_take, tt))))
    takes_by OldestFirstOverwrite since did only =
        only is_taking (d.number ∷ numbers_in tools) (inr hosts_take) (takers_among OldestFirstOverwrite did)
    takes_by NewestOnly since did only =
        only is_taking (d.number ∷ numbers_in tools) (inr hosts_take) (takers_among NewestOnly did)

    there : Behind (entries_of 0 w.prepared.events) tight.since w.stopped.before stop_entry w.stopped.after
    there = behind is_beginning (entries_of 0 w.prepared.events) tight.since w.stopped.before stop_entry w.stopped.after
        (are_of_entries is_beginning 0 w.prepared.events (beginning_are live_size buffers w.prepared.events w.prepared.kind)) refl (sym begins_tight ∙ w.stopped.is)

    quiet_after : HasNone is_filling w.stopped.after
    quiet_after = quiet_all is_filling (numbers_in tools) w.stopped.after
        (only_later is_filling (numbers_in tools) (there.between ++ stop_entry ∷ []) w.stopped.after
        (subst (λ l. OnlyBy is_filling (numbers_in tools) l) (there.since_is ∙ sym (append_assoc there.between (stop_entry ∷ []) w.stopped.after)) fills_by)) w.stopped.none
