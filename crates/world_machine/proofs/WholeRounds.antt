-- Rounds are their acts, and so commands act once.
use Rattle.std.proofs.Common.{◌≡◌, ◌⊎◌, ℕ, zero, suc, Bool, true, false, List, [], ◌∷◌, ◌++◌, length, Option, Some, None, refl, sym, subst, inl, inr, arith}
use Rattle.std.specs.Prelude.{if◌then◌else◌}
use Rattle.std.specs.List.{Contains}
use Rattle.std.proofs.lemmas.List.Elements.{Contains-append_cases}
use Rattle.lossy_queue.specs.declared.datagram.Channel.TheVariants.{Stream}
use Rattle.lossy_queue.specs.declared.datagram.Datagram.{Datagram}
use Rattle.client_machine.specs.Machine.{Client}
use Rattle.camera_machine.specs.Camera.{Camera}
use Rattle.world_machine.specs.Schedule.{Act}
use Rattle.world_machine.proofs.Lines.{acts_once}
use Rattle.world_machine.specs.State.{Host, Run, World, image_shape, STORE_ROOM}
use Rattle.world_machine.specs.ClientTurn.{End, done, client_peer, client_turn}
use Rattle.world_machine.specs.CameraTurn.{camera_turn, makes}
use Rattle.world_machine.specs.HostTurn.{host_turn, asks, takes}
use Rattle.world_machine.specs.Rounds.{rises, is_done, last_line, Round, closes, from_host, from_camera, round, world_after}
use Rattle.world_machine.specs.Acts.{with_client_turn, with_camera_turn, with_frame, with_arrivals, with_rest, with_round, acts_after}
use Rattle.world_machine.specs.Laws.{AsksNoAccess, RoundsAreActs, RoundSubmitsOne, CommandsActOnce, HostIsFed}
use Rattle.world_machine.specs.HostActs.{HostAct, host_hears, host_ticks, host_takes, with_hearings, with_host_turn, with_host_rest, with_host_round, host_acts_after}
use Rattle.world_machine.proofs.Fits.{line_of, given_of, IsAnswer, Fits, FitsWorld, none_in, head_in, tail_in, cons_in, fits_asked}
use Rattle.world_machine.proofs.Hosts.{host_is}
use Rattle.world_machine.proofs.Turns.{heard_in, fits_client_turn, fits_camera_turn, fits_frame, fits_arrivals}

fits_either : {A : Type 0} (run : Run) (n : ℕ) (acts : List Act) (downs : List Datagram) (b : Bool) (x y : Round A) → FitsWorld run n acts x.world [] downs → FitsWorld run n acts y.world [] downs
    → FitsWorld run n acts (if b then x else y).world [] downs
fits_either run n acts downs true x y f g = f
fits_either run n acts downs false x y f g = g

fits_closes : {A : Type 0} (run : Run) (host : Host A) (n : ℕ) (acts : List Act) (w : World A) (downs : List Datagram) (lines : List ℕ) → FitsWorld run n acts w [] downs
    → FitsWorld run n acts (closes run host w lines).world [] downs
fits_closes run host n acts w downs lines f =
    fits_either run n acts downs (is_done run host w) (record { world = w; text = lines ++ last_line run host w; end = Some done })
    (record { world = w; text = lines; end = None }) f f

fits_host : {A : Type 0} (run : Run) (host : Host A) (n : ℕ) (acts : List Act) (hs : List HostAct) (o : Option End) (w : World A) → AsksNoAccess host
    → FitsWorld run n acts w [] (heard_in hs) → FitsWorld run n acts (from_host run host o w).world [] (heard_in (with_host_turn o w hs))
fits_host run host n acts hs (Some e) w none f = f
fits_host run host n acts hs None w none f =
    fits_closes run host n acts (takes host (asks run host w)) (heard_in hs) (host.lines (asks run host w).host)
    (fits_asked run n acts (record w { host = host.ticks w.host w.moment }) [] (heard_in hs) (host.requests w.host w.moment) (none w.host w.moment) f)

-- what is in the host's queue is taken out
without_queue : {A : Type 0} (run : Run) (n : ℕ) (acts : List Act) (w : World A) (downs : List Datagram) → FitsWorld run n acts w [] downs
    → FitsWorld run n acts (record w { to_host = [] }) [] (w.to_host ++ downs)
without_queue run n acts w downs f = record {
  schedule = f.schedule;
  client = f.client;
  camera = f.camera;
  few = f.few;
  up_is = f.up_is;
  down_is = λ d among. absurd (none_in d among);
  ups_are = f.ups_are;
  downs_are = λ d among. go d (Contains-append_cases w.to_host downs d among);
}
  where
    go : (d : Datagram) → Contains w.to_host d ⊎ Contains downs d → IsAnswer (line_of run acts).acks (given_of run acts) d.channel d.bytes
    go d (inl among) = f.down_is d among
    go d (inr among) = f.downs_are d among

fits_rest : {A : Type 0} (run : Run) (host : Host A) (n : ℕ) (acts : List Act) (hs : List HostAct) (o : Option End) (w : World A) → AsksNoAccess host
    → FitsWorld run n acts w [] (heard_in hs)
    → FitsWorld run n (with_rest run host o w acts) (from_camera run host o w).world [] (heard_in (with_host_rest run host o w hs))
fits_rest run host n acts hs (Some e) w none f = f
fits_rest {A} run host n acts hs None w none f =
    fits_host run host n (with_arrivals host (record shown { to_host = [] }) shown.to_host made) (with_hearings host (record shown { to_host = [] }) shown.to_host hs)
    (host_turn host shown).end (host_turn host shown).world none
    (fits_arrivals run host n shown.to_host made hs (record shown { to_host = [] })
    (without_queue run n made shown (heard_in hs)
    (fits_frame run n seen_acts seen (heard_in hs) (fits_camera_turn run n acts w (heard_in hs) f))))
  where
    seen : World A
    seen = camera_turn run w

    seen_acts : List Act
    seen_acts = with_camera_turn run w acts

    shown : World A
    shown = makes run seen

    made : List Act
    made = with_frame run seen seen_acts

fits_round : {A : Type 0} (run : Run) (host : Host A) (n : ℕ) (acts : List Act) (hs : List HostAct) (w : World A) → AsksNoAccess host
    → FitsWorld run n acts w [] (heard_in hs)
    → FitsWorld run (suc n) (with_round run host w acts) (round run host w).world [] (heard_in (with_host_round run host w hs))
fits_round run host n acts hs w none f =
    fits_rest run host (suc n) (with_client_turn (rises w) acts) hs (client_turn run (rises w)).end (client_turn run (rises w)).world none
    (fits_client_turn run n acts (rises w) (heard_in hs) f)

fits_after : {A : Type 0} (run : Run) (host : Host A) (start : A) (n : ℕ) → AsksNoAccess host
    → FitsWorld run n (acts_after run host start n) (world_after run host start n) [] (heard_in (host_acts_after run host start n))
fits_after run host start zero none = record {
  schedule = (tt, tt);
  client = refl;
  camera = refl;
  few = omega arith;
  up_is = λ d among. absurd (none_in d among);
  down_is = λ d among. absurd (none_in d among);
  ups_are = λ d among. absurd (none_in d among);
  downs_are = λ d among. absurd (none_in d among);
}
fits_after run host start (suc n) none =
    fits_round run host n (acts_after run host start n) (host_acts_after run host start n) (world_after run host start n) none (fits_after run host start n none)

pub rounds_are_acts : {A : Type 0} (run : Run) (host : Host A) (start : A) (n : ℕ) → RoundsAreActs run host start n
rounds_are_acts run host start n none =
    let f = fits_after run host start n none in record { schedule = f.schedule; client = f.client; camera = f.camera; few = f.few }

-- as many submissions as there were
exact : (run : Run) (n : ℕ) (acts : List Act) (s : Client) (c : Camera) (up down ups downs : List Datagram) → Fits run n acts s c up down ups downs
    → Fits run (length (line_of run acts).submitted) acts s c up down ups downs
exact run n acts s c up down ups downs f = record {
  schedule = f.schedule;
  client = f.client;
  camera = f.camera;
  few = omega arith;
  up_is = f.up_is;
  down_is = f.down_is;
  ups_are = f.ups_are;
  downs_are = f.downs_are;
}

pub submits_one : {A : Type 0} (run : Run) (host : Host A) (start : A) (n : ℕ) → RoundSubmitsOne run host start n
submits_one {A} run host start n none =
    (fits_round run host (length (line_of run acts).submitted) acts (host_acts_after run host start n) w none
    (exact run n acts w.client w.camera w.to_camera w.to_host [] (heard_in (host_acts_after run host start n)) (fits_after run host start n none))).few
  where
    acts : List Act
    acts = acts_after run host start n

    w : World A
    w = world_after run host start n

pub act_once : {A : Type 0} (run : Run) (host : Host A) (start : A) (n : ℕ) → CommandsActOnce run host start n
act_once run host start n none few =
    let f = fits_after run host start n none in
    let submitted = f.few in
    acts_once run.seed image_shape STORE_ROOM client_peer (acts_after run host start n) (record { schedule = f.schedule; few = omega arith })

-- ---- what was heard

heard_among : (hs : List HostAct) (bytes : List ℕ) → Contains hs (host_hears bytes) → Contains (heard_in hs) (record { channel = Stream; bytes = bytes })
heard_among [] bytes h = absurd (none_in (host_hears bytes) h)
heard_among (x ∷ hs) bytes h = go x (λ among. heard_among hs bytes among) (cons_in x (host_hears bytes) hs h.0 h.1 h.2)
  where
    go : (y : HostAct) → (Contains hs (host_hears bytes) → Contains (heard_in hs) (record { channel = Stream; bytes = bytes }))
        → (y ≡ host_hears bytes) ⊎ Contains hs (host_hears bytes) → Contains (heard_in (y ∷ hs)) (record { channel = Stream; bytes = bytes })
    go (host_hears other) rest (inl same) =
        let equal : other ≡ bytes = cc in
        subst (λ (b : List ℕ). Contains (record { channel = Stream; bytes = other } ∷ heard_in hs) (record { channel = Stream; bytes = b })) equal
        (head_in (record { channel = Stream; bytes = other }) (heard_in hs))
    go (host_hears other) rest (inr among) =
        tail_in (record { channel = Stream; bytes = other }) (record { channel = Stream; bytes = bytes }) (heard_in hs) (rest among)
    go (host_ticks moment) rest (inl same) = absurd (cc)
    go (host_ticks moment) rest (inr among) = rest among
    go host_takes rest (inl same) = absurd (cc)
    go host_takes rest (inr among) = rest among

pub hears_given : {A : Type 0} (run : Run) (host : Host A) (start : A) (n : ℕ) → HostIsFed run host start n
hears_given run host start n none = record {
  host_is = sym (host_is run host start n);
  given = λ bytes among. (fits_after run host start n none).downs_are (record { channel = Stream; bytes = bytes }) (heard_among (host_acts_after run host start n) bytes among);
}
