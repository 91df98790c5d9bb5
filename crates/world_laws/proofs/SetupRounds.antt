-- The setup of a soak run ends: each round that goes on leaves fewer rounds for it.
use Rattle.std.proofs.Common.{◌≡◌, ◌⊎◌, ℕ, zero, suc, ◌+◌, ◌-◌, ◌*◌, ◌/◌, ◌<◌, ◌≤◌, Bool, true, false, List, Option, Some, None, Result, Ok, Err, refl, sym, subst, inl, inr, arith}
use Rattle.std.specs.Prelude.{◌≢◌, ◌==◌, nat_lt, if◌then◌else◌, slice_get, option_map}
use Rattle.std.proofs.lemmas.Bool.{ne_eqb, ltb-true, lt-ltb, le-ltb, leb-false, cases_eq}
use Rattle.gvcp_wire.specs.declared.message.ControlError.{ControlError}
use Rattle.gvcp_wire.specs.declared.status.Status.TheVariants as statuses
use Rattle.gvcp_wire.specs.Status.{status_code}
use Rattle.gvcp_wire.specs.Messages.{PlainCommand, PlainAck}
use Rattle.gvcp_wire.specs.Control.{plain}
use Rattle.gvcp_wire.specs.Reading.{ack_reading}
use Rattle.gvcp_wire.specs.BodyReading.{pending_reading}
use Rattle.lossy_queue.specs.declared.datagram.Channel.{Channel}
use Rattle.lossy_queue.specs.declared.datagram.Channel.TheVariants.{Control, Stream}
use Rattle.lossy_queue.specs.declared.datagram.Datagram.{Datagram}
use Rattle.client_machine.specs.Times.{SENDS, SEND_LIMIT}
use Rattle.client_machine.specs.declared.outcome.Outcome.TheVariants.{Acked, Refused, NoAnswer}
use Rattle.client_machine.specs.Commands.{code_of, head_for, next_req, is_match}
use Rattle.client_machine.specs.Machine.{Asked, Client, goes_on, with_command, is_late, sent_again, ticked_with, ticked, not_waiting, to_send, taken, ended_by, pended, received_as}
use Rattle.world_machine.specs.State.{Host, Run, World, new_world}
use Rattle.world_machine.specs.ClientTurn.{SETUP_SIZE, stream_peer, setup_commands, end_of, submits, begins, client_turn}
use Rattle.world_machine.specs.HostTurn.{done_after, arrives}
use Rattle.world_machine.specs.Rounds.{rises, round, world_after}
use Rattle.world_machine.proofs.Fits.{none_in}
use Rattle.world_laws.specs.Setup.{MOST_SETUP, rounds_left, left_at, setup_left, IsPromptOn, IsWithinLimit, IsUnderWay, SetupAt, SetupGoes, SetupStep, GoesOn, SetupEnds}
use Rattle.world_laws.proofs.SetupProgress.{Progress, progress_of, sent_stays, IsCarried, round_carries}
use Rattle.world_laws.proofs.SetupLimit.{round_limit}
use Rattle.world_laws.proofs.SetupQueues.{shown_prompt, round_prompt}

-- ---- what is left

left_done : (asked : Option Asked) (begun done moment : ℕ) → done ≡ SETUP_SIZE → left_at asked begun done moment ≡ 0
left_done asked begun done moment e = rw e refl

left_going : (asked : Option Asked) (begun done moment : ℕ) → done < SETUP_SIZE → left_at asked begun done moment ≡ 13 * (4 - begun) + rounds_left asked moment
left_going asked begun done moment h = rw (ne_eqb done SETUP_SIZE (λ e. omega arith)) refl

some_left : (asked : Option Asked) (begun done moment : ℕ) → SetupAt asked begun done moment → done ≢ SETUP_SIZE → 0 < left_at asked begun done moment
some_left asked begun done moment (inl all) n = absurd (n all.1)
some_left None begun done moment (inr way) n =
    let same : begun ≡ done = way.1 in
    let few : done < 4 = way.0 in
    omega (arith, left_going None begun done moment way.0)
some_left (Some asked) begun done moment (inr way) n =
    let recent : moment < asked.sent + 40 = way.1.1.recent in
    omega (arith, left_going (Some asked) begun done moment way.0)

none_left : (asked : Option Asked) (begun done moment : ℕ) → SetupAt asked begun done moment → left_at asked begun done moment ≡ 0 → done ≡ SETUP_SIZE
none_left asked begun done moment at none = go (cases_eq done SETUP_SIZE)
  where
    go : (done ≡ SETUP_SIZE) ⊎ (done ≢ SETUP_SIZE) → done ≡ SETUP_SIZE
    go (inl e) = e
    go (inr n) = absurd (omega (arith, some_left asked begun done moment at n))

-- The setup is done or under way, and takes at most so many rounds more.
record Goes (left : ℕ) (asked : Option Asked) (begun done moment : ℕ) : Type 0 where
  pub stands : SetupAt asked begun done moment
  pub few : left_at asked begun done moment ≤ left

all_done : (left : ℕ) (asked : Option Asked) (begun done moment : ℕ) → begun ≡ SETUP_SIZE → done ≡ SETUP_SIZE → Goes left asked begun done moment
all_done left asked begun done moment b d = record { stands = inl (b, d); few = omega (arith, left_done asked begun done moment d) }

under_way : (left : ℕ) (asked : Option Asked) (begun done moment : ℕ) → done < SETUP_SIZE → IsUnderWay asked begun done moment
    → 13 * (4 - begun) + rounds_left asked moment ≤ left → Goes left asked begun done moment
under_way left asked begun done moment d way few = record { stands = inr (d, way); few = omega (arith, left_going asked begun done moment d) }

abbrev GoesIn : ℕ → Progress → Type 0
GoesIn left p = Goes left p.client.asked p.begun p.done p.moment

-- ---- a tick

-- a command is outstanding, and takes fewer rounds than so many more
abbrev IsTicked : Option Asked → ℕ → ℕ → Type 0
IsTicked None moment left = ⊥
IsTicked (Some asked) moment left = IsWithinLimit asked moment × (rounds_left (Some asked) moment < left)

ticks : (s : Client) (asked : Asked) (moment : ℕ) → s.limit ≡ SEND_LIMIT → asked.limit ≡ SEND_LIMIT → moment < asked.sent + 50
    → end_of (ticked_with (Some asked) (record s { asked = Some asked }) moment).outcome ≡ None
    → IsTicked (ticked_with (Some asked) (record s { asked = Some asked }) moment).client.asked moment (4 * (3 - asked.sends) + (asked.sent + 59 - moment) / 10)
ticks s asked moment own limit recent = go (is_late asked moment) refl (nat_lt asked.sends SENDS) refl
  where
    t : Client
    t = record s { asked = Some asked }

    go : (late : Bool) → is_late asked moment ≡ late → (more : Bool) → nat_lt asked.sends SENDS ≡ more
        → end_of (if late then
        (if more then goes_on (record t { asked = Some (sent_again t.limit asked moment) }) else record { client = record t { asked = None }; outcome = NoAnswer asked.req })
        else goes_on t).outcome ≡ None
        → IsTicked (if late then
        (if more then goes_on (record t { asked = Some (sent_again t.limit asked moment) }) else record { client = record t { asked = None }; outcome = NoAnswer asked.req })
        else goes_on t).client.asked moment (4 * (3 - asked.sends) + (asked.sent + 59 - moment) / 10)
    go true l true m e =
        let few : asked.sends < 3 = ltb-true asked.sends SENDS m in
        (record { limit = own; recent = omega arith }, omega arith)
    go true l false m e = absurd (cc)
    go false l more m e =
        let early : moment < asked.sent + asked.limit = leb-false (asked.sent + asked.limit) moment l in
        (record { limit = limit; recent = omega arith }, omega arith)

-- what is to be sent is taken
taken_goes : (o : Option Asked) (before left begun done moment : ℕ) → IsTicked o moment before → done < SETUP_SIZE → begun ≡ suc done
    → 13 * (4 - begun) + before ≤ suc left → Goes left (option_map not_waiting o) begun done moment
taken_goes None before left begun done moment t d b few = absurd t
taken_goes (Some asked) before left begun done moment t d b few =
    let later = t.1 in
    under_way left (Some (not_waiting asked)) begun done moment d (b, record { limit = t.0.limit; recent = t.0.recent }) (omega arith)

-- ---- the client's turn

pub next_below : (i : ℕ) (c : PlainCommand) → slice_get (setup_commands stream_peer) i ≡ Some c → i < SETUP_SIZE
next_below zero c e = omega arith
next_below (suc zero) c e = omega arith
next_below (suc (suc zero)) c e = omega arith
next_below (suc (suc (suc zero))) c e = omega arith
next_below (suc (suc (suc (suc i)))) c e = absurd (cc)

next_is_there : (i : ℕ) → i < SETUP_SIZE → slice_get (setup_commands stream_peer) i ≡ None → ⊥
next_is_there zero h e = cc
next_is_there (suc zero) h e = cc
next_is_there (suc (suc zero)) h e = cc
next_is_there (suc (suc (suc zero))) h e = cc
next_is_there (suc (suc (suc (suc i)))) h e = omega arith

abbrev with_asked : {A : Type 0} → World A → Option Asked → World A
with_asked w asked = record w { client = record w.client { asked = asked } }

-- the outstanding command of a client that submitted it at this moment
abbrev pub just_asked : Client → PlainCommand → ℕ → Asked
just_asked s c moment = record {
  code = code_of c;
  req = next_req s.last_req;
  bytes = plain (head_for (next_req s.last_req) c) c;
  sends = 1;
  sent = moment;
  limit = s.limit;
  waits = true;
}

-- it was just submitted
first_goes : (s : Client) (c : PlainCommand) (left begun done moment : ℕ) → s.limit ≡ SEND_LIMIT → begun ≡ done → done < SETUP_SIZE → 13 * (4 - begun) ≤ suc left
    → end_of (ticked (with_command s c moment) moment).outcome ≡ None
    → Goes left (taken (ticked (with_command s c moment) moment).client).asked (begun + 1) done moment
first_goes s c left begun done moment own same d few e =
    taken_goes (ticked (with_command s c moment) moment).client.asked (4 * (3 - 1) + (moment + 59 - moment) / 10) left (begun + 1) done moment
    (ticks (with_command s c moment) (just_asked s c moment) moment own own (omega arith) e) d (omega arith) (omega arith)

-- from the world of the round before, at its moment, to that after the tick
client_goes : {A : Type 0} (w : World A) (before : ℕ) (asked : Option Asked) (next : Option PlainCommand)
    → w.client.limit ≡ SEND_LIMIT → slice_get (setup_commands stream_peer) w.begun ≡ next → w.moment ≡ before + 10 → SetupAt asked w.begun w.done before
    → end_of (ticked (submits asked next (with_asked w asked)).client w.moment).outcome ≡ None
    → GoesIn (left_at asked w.begun w.done before - 1)
    (progress_of (record (submits asked next (with_asked w asked)) { client = taken (ticked (submits asked next (with_asked w asked)).client w.moment).client }))
client_goes w before None None own is time (inl all) e = all_done _ _ _ _ _ all.0 all.1
client_goes w before None None own is time (inr way) e =
    let same : w.begun ≡ w.done = way.1 in
    let few : w.done < 4 = way.0 in
    absurd (next_is_there w.begun (omega arith) is)
client_goes w before None (Some c) own is time (inl all) e =
    let below : w.begun < 4 = next_below w.begun c is in
    absurd (omega (arith, all.0))
client_goes w before None (Some c) own is time (inr way) e =
    let same : w.begun ≡ w.done = way.1 in
    let left = left_going None w.begun w.done before way.0 in
    first_goes (record w.client { asked = None }) c (left_at None w.begun w.done before - 1) w.begun w.done w.moment own (omega arith) way.0 (omega arith) e
client_goes w before (Some asked) next own is time (inl all) e = all_done _ _ _ _ _ all.0 all.1
client_goes w before (Some asked) next own is time (inr way) e =
    let recent : before < asked.sent + 40 = way.1.1.recent in
    taken_goes (ticked (record w.client { asked = Some asked }) w.moment).client.asked (4 * (3 - asked.sends) + (asked.sent + 59 - w.moment) / 10)
    (left_at (Some asked) w.begun w.done before - 1) w.begun w.done w.moment
    (ticks w.client asked w.moment own way.1.1.limit (omega arith) e) way.0 way.1.0
    (omega (arith, left_going (Some asked) w.begun w.done before way.0))

goes_after_client : {A : Type 0} (run : Run) (w : World A) → w.client.limit ≡ SEND_LIMIT → SetupAt w.client.asked w.begun w.done w.moment → (client_turn run (rises w)).end ≡ None
    → GoesIn (setup_left w - 1) (progress_of (client_turn run (rises w)).world)
goes_after_client run w own at e =
    let t = (ticked (begins (rises w)).client (rises w).moment).client in
    subst (GoesIn (setup_left w - 1)) (sym (sent_stays run (record (begins (rises w)) { client = taken t }) (to_send t.asked)))
    (client_goes (rises w) w.moment w.client.asked (slice_get (setup_commands stream_peer) w.begun) own refl refl at e)

-- ---- what arrives

-- the outstanding command is acknowledged
acked_goes : (left : ℕ) (asked : Asked) (begun done moment status : ℕ) (succeeds : Bool) → Goes left (Some asked) begun done moment
    → end_of (if succeeds then Acked else Refused status) ≡ None → Goes left None begun (done_after (if succeeds then Acked else Refused status) begun done) moment
acked_goes left asked begun done moment status false g e = absurd (cc)
acked_goes left asked begun done moment status true g e = go g.stands
  where
    next : (way : (done < SETUP_SIZE) × IsUnderWay (Some asked) begun done moment) → (done + 1 ≡ SETUP_SIZE) ⊎ (done + 1 ≢ SETUP_SIZE) → Goes left None begun (done + 1) moment
    next way (inl last) = all_done left None begun (done + 1) moment (omega (arith, way.1.0)) last
    next way (inr more) =
        let few = g.few in
        let below = way.0 in
        under_way left None begun (done + 1) moment (omega arith) (omega (arith, way.1.0)) (omega (arith, left_going (Some asked) begun done moment way.0))

    go : SetupAt (Some asked) begun done moment → Goes left None begun (if nat_lt done begun then done + 1 else done) moment
    go (inl all) = rw (le-ltb done begun (omega (arith, all.0, all.1))) (all_done left None begun done moment all.0 all.1)
    go (inr way) = rw (lt-ltb done begun (omega (arith, way.1.0))) (next way (cases_eq (done + 1) SETUP_SIZE))

-- nothing of it ends the command
stays_on : (left : ℕ) (s : Client) (asked : Option Asked) (begun done moment : ℕ) → Goes left asked begun done moment
    → Goes left asked begun (done_after (goes_on (record s { asked = asked })).outcome begun done) moment
stays_on left s None begun done moment g = g
stays_on left s (Some asked) begun done moment g = g

arrival_goes : (left : ℕ) (s : Client) (asked : Option Asked) (begun done moment : ℕ) (r : Result PlainAck ControlError)
    → ((ack : PlainAck) → r ≡ Ok ack → pending_reading ack ≡ None) → Goes left asked begun done moment
    → end_of (received_as r (record s { asked = asked }) moment).outcome ≡ None
    → Goes left (received_as r (record s { asked = asked }) moment).client.asked begun
    (done_after (received_as r (record s { asked = asked }) moment).outcome begun done) moment
arrival_goes left s asked begun done moment (Err x) prompt g e = stays_on left s asked begun done moment g
arrival_goes left s None begun done moment (Ok ack) prompt g e = stays_on left s None begun done moment g
arrival_goes left s (Some asked) begun done moment (Ok ack) prompt g e =
    go (is_match asked.code asked.req ack) (ack.req == asked.req) (pending_reading ack) (prompt ack refl) e
  where
    t : Client
    t = record s { asked = Some asked }

    go : (matches same : Bool) (p : Option ℕ) → p ≡ None → end_of (if matches then ended_by t ack moment else (if same then pended t asked p else goes_on t)).outcome ≡ None
        → Goes left (if matches then ended_by t ack moment else (if same then pended t asked p else goes_on t)).client.asked begun
        (done_after (if matches then ended_by t ack moment else (if same then pended t asked p else goes_on t)).outcome begun done) moment
    go true same p n e = acked_goes left asked begun done moment ack.status (ack.status == status_code statuses.Success) g e
    go false true None n e = g
    go false true (Some time) n e = absurd (cc)
    go false false p n e = g

abbrev IsPromptDatagram : Datagram → Type 0
IsPromptDatagram d = IsPromptOn d.channel d.bytes

goes_is_carried : {A : Type 0} (left : ℕ) (host : Host A) → IsCarried (GoesIn left) IsPromptDatagram host
goes_is_carried {A} left host v d prompt e g = go d.channel d.bytes prompt e
  where
    go : (channel : Channel) (bytes : List ℕ) → IsPromptOn channel bytes → (arrives host v channel bytes).end ≡ None
        → GoesIn left (progress_of (arrives host v channel bytes).world)
    go Control bytes prompt e = arrival_goes left v.client v.client.asked v.begun v.done v.moment (ack_reading bytes) prompt g e
    go Stream bytes prompt e = g

-- ---- rounds

pub setup_step : {A : Type 0} (run : Run) (host : Host A) (w : World A) → SetupGoes w → (round run host w).end ≡ None → SetupStep run host w
setup_step {A} run host w h e = record {
  goes = record { stands = g.stands; prompt = round_prompt run host w h.prompt; limit = round_limit run host w h.limit e };
  falls = λ n.
      let some = some_left w.client.asked w.begun w.done w.moment h.stands n in
      let few = g.few in
      omega arith;
  stays = λ d. none_left v.client.asked v.begun v.done v.moment g.stands (none d);
  none_left = none;
}
  where
    v : World A
    v = (round run host w).world

    g : GoesIn (setup_left w - 1) (progress_of v)
    g = round_carries (GoesIn (setup_left w - 1)) IsPromptDatagram run host (goes_is_carried (setup_left w - 1) host) w (goes_after_client run w h.limit h.stands)
        (shown_prompt run w h.prompt).arriving e

    none : w.done ≡ SETUP_SIZE → setup_left v ≡ 0
    none d =
        let few = g.few in
        omega (arith, left_done w.client.asked w.begun w.done w.moment d)

pub setup_begins : {A : Type 0} (run : Run) (start : A) → SetupGoes (new_world run start)
setup_begins run start =
    record { stands = inr (omega arith, refl); prompt = record { kept = tt; arriving = λ d among. absurd (none_in d among) }; limit = refl }

-- What holds after n rounds.
pub record IsSettingUp {A : Type 0} (w : World A) (n : ℕ) : Type 0 where
  pub goes : SetupGoes w
  pub few : setup_left w ≤ MOST_SETUP - n

set_up_more : {A : Type 0} (run : Run) (host : Host A) (w : World A) (n : ℕ) → IsSettingUp w n → (round run host w).end ≡ None
    → IsSettingUp (round run host w).world (suc n)
set_up_more {A} run host w n before e = record { goes = step.goes; few = go (cases_eq w.done SETUP_SIZE) }
  where
    step : SetupStep run host w
    step = setup_step run host w before.goes e

    go : (w.done ≡ SETUP_SIZE) ⊎ (w.done ≢ SETUP_SIZE) → setup_left (round run host w).world ≤ MOST_SETUP - suc n
    go (inl d) = omega (arith, step.none_left d)
    go (inr m) =
        let few = before.few in
        omega (arith, step.falls m)

pub setting_up : {A : Type 0} (run : Run) (host : Host A) (start : A) (n : ℕ) → GoesOn run host start n → IsSettingUp (world_after run host start n) n
setting_up run host start zero h = record { goes = setup_begins run start; few = omega arith }
setting_up run host start (suc n) h =
    set_up_more run host (world_after run host start n) n (setting_up run host start n (λ m below. h m (omega arith))) (h n (omega arith))

pub setup_ends : {A : Type 0} (run : Run) (host : Host A) (start : A) → SetupEnds run host start
setup_ends run host start = record {
  begins = setup_begins run start;
  few = omega arith;
  steps = setup_step run host;
  is_done = λ n long h.
      let s = setting_up run host start n h in
      let w = world_after run host start n in
      none_left w.client.asked w.begun w.done w.moment s.goes.stands (omega (arith, s.few));
}
