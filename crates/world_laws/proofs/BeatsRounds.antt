-- After the setup a soak run submits a command a second at most: a heartbeat comes a second after the end of
-- the command before it, and that after its submission.
use Rattle.std.proofs.Common.{◌≡◌, ℕ, zero, suc, ◌+◌, ◌-◌, ◌*◌, ◌<◌, ◌≤◌, Bool, true, false, List, [], ◌∷◌, ◌++◌, length, Option, Some, None, Result, Ok, Err, refl, sym, ap, ◌∙◌, subst, arith, length-append}
use Rattle.std.specs.Prelude.{◌==◌, nat_lt, if◌then◌else◌, slice_get, option_map}
use Rattle.std.proofs.lemmas.Bool.{leb-true}
use Rattle.gvcp_wire.specs.declared.message.ControlError.{ControlError}
use Rattle.gvcp_wire.specs.Messages.{PlainCommand, PlainAck}
use Rattle.gvcp_wire.specs.Reading.{ack_reading}
use Rattle.gvcp_wire.specs.BodyReading.{pending_reading}
use Rattle.lossy_queue.specs.declared.datagram.Channel.{Channel}
use Rattle.lossy_queue.specs.declared.datagram.Channel.TheVariants.{Control, Stream}
use Rattle.client_machine.specs.Times.{SENDS}
use Rattle.client_machine.specs.declared.outcome.Outcome.TheVariants.{NoAnswer}
use Rattle.client_machine.specs.Commands.{next_req, heartbeat, is_match}
use Rattle.client_machine.specs.Machine.{Asked, Client, Told, goes_on, with_command, submitted, is_heartbeat_due, is_late, sent_again, ticked_with, ticked, not_waiting, to_send, taken, ended_by, pended, received_as}
use Rattle.client_machine.specs.Events.{new_request, submitted_at}
use Rattle.client_machine.specs.Events as clients
use Rattle.world_machine.specs.Schedule.{Act, at_client, Line, heartbeat_at, with_last, bytes_of}
use Rattle.world_machine.proofs.Lines.{acts_once}
use Rattle.world_machine.specs.State.{Host, Run, World, image_shape, STORE_ROOM}
use Rattle.world_machine.specs.ClientTurn.{SETUP_SIZE, client_peer, stream_peer, setup_commands, end_of, submits, begins, client_turn}
use Rattle.world_machine.specs.HostTurn.{arrives}
use Rattle.world_machine.specs.Rounds.{rises, round, world_after}
use Rattle.world_machine.specs.Acts.{with_setup, with_client_turn, with_round, acts_after}
use Rattle.world_machine.specs.Laws.{AsksNoAccess}
use Rattle.world_machine.proofs.Fits.{line_of}
use Rattle.world_machine.proofs.WholeRounds.{rounds_are_acts}
use Rattle.world_laws.specs.Setup.{GoesOn}
use Rattle.world_laws.specs.Beats.{submitted_after, MOST_ROUNDS, CommandsAreFew}
use Rattle.world_laws.proofs.SetupProgress.{Progress, progress_of, sent_stays, IsCarried, round_carries}
use Rattle.world_laws.proofs.SetupRounds.{just_asked, next_below}
use Rattle.world_laws.proofs.BeatsCounts.{submitted_by, rest_submits_none}

-- ---- the pace

-- So many heartbeats took that many seconds, up to the submission of the outstanding command, or to the end
-- of the last one.
abbrev IsPaced : ℕ → Option Asked → Option ℕ → ℕ → Type 0
IsPaced beats (Some asked) ended moment = (1000 * beats ≤ asked.sent) × (asked.sent ≤ moment)
IsPaced beats None (Some e) moment = (1000 * beats ≤ e) × (e ≤ moment)
IsPaced beats None None moment = beats ≡ 0

abbrev IsPacedClient : ℕ → ℕ → Client → Type 0
IsPacedClient beats moment s = IsPaced beats s.asked s.ended moment

pace_taken : (beats moment : ℕ) (o : Option Asked) (ended : Option ℕ) → IsPaced beats o ended moment → IsPaced beats (option_map not_waiting o) ended moment
pace_taken beats moment None ended p = p
pace_taken beats moment (Some asked) ended p = p

-- time passes
pace_later : (beats before moment : ℕ) (o : Option Asked) (ended : Option ℕ) → before ≤ moment → IsPaced beats o ended before → IsPaced beats o ended moment
pace_later beats before moment (Some asked) ended h p = let late = p.1 in (p.0, omega arith)
pace_later beats before moment None (Some e) h p = let late = p.1 in (p.0, omega arith)
pace_later beats before moment None None h p = p

pace_few : (beats moment : ℕ) (o : Option Asked) (ended : Option ℕ) → IsPaced beats o ended moment → 1000 * beats ≤ moment
pace_few beats moment (Some asked) ended p =
    let last = p.0 in
    let past = p.1 in
    omega arith
pace_few beats moment None (Some e) p =
    let last = p.0 in
    let past = p.1 in
    omega arith
pace_few beats moment None None p = omega arith

-- an outstanding command at a tick
pace_ticks : (beats moment : ℕ) (s : Client) (asked : Asked) → 1000 * beats ≤ asked.sent → asked.sent ≤ moment
    → end_of (ticked_with (Some asked) (record s { asked = Some asked }) moment).outcome ≡ None
    → IsPacedClient beats moment (ticked_with (Some asked) (record s { asked = Some asked }) moment).client
pace_ticks beats moment s asked p q = go (is_late asked moment) (nat_lt asked.sends SENDS)
  where
    t : Client
    t = record s { asked = Some asked }

    go : (late more : Bool)
        → end_of (if late then
        (if more then goes_on (record t { asked = Some (sent_again t.limit asked moment) }) else record { client = record t { asked = None }; outcome = NoAnswer asked.req })
        else goes_on t).outcome ≡ None
        → IsPacedClient beats moment (if late then
        (if more then goes_on (record t { asked = Some (sent_again t.limit asked moment) }) else record { client = record t { asked = None }; outcome = NoAnswer asked.req })
        else goes_on t).client
    go true true e = (omega arith, omega arith)
    go true false e = absurd (cc)
    go false more e = (p, q)

-- ---- the client's turn

-- What was submitted up to a tick at a moment: commands of the setup, and at most one heartbeat a second.
record IsCounted (count begun moment : ℕ) (told : Told) : Type 0 where
  pub beats : ℕ
  pub counted : count ≡ begun + beats
  pub most : begun ≤ SETUP_SIZE
  pub few : 1000 * beats ≤ moment
  pub paced : end_of told.outcome ≡ None → IsPacedClient beats moment told.client

-- an idle client at a tick
idle_counts : (l : Line) (s : Client) (ended : Option ℕ) (begun beats moment : ℕ) → length l.submitted ≡ begun + beats → begun ≤ SETUP_SIZE
    → IsPaced beats None ended moment
    → IsCounted (length (with_last l.submitted (option_map bytes_of (heartbeat_at None (record s { asked = None; ended = ended }) moment)))) begun moment
    (ticked (record s { asked = None; ended = ended }) moment)
idle_counts l s None begun beats moment count most p =
    record { beats = beats; counted = count; most = most; few = omega arith; paced = λ e. p }
idle_counts l s (Some e) begun beats moment count most p = go (is_heartbeat_due (Some e) moment) refl
  where
    t : Client
    t = record s { asked = None; ended = Some e }

    last : 1000 * beats ≤ e
    last = p.0

    past : e ≤ moment
    past = p.1

    go : (due : Bool) → is_heartbeat_due (Some e) moment ≡ due
        → IsCounted (length (with_last l.submitted (option_map bytes_of (if due then Some (new_request (next_req t.last_req) heartbeat) else None)))) begun moment
        (goes_on (if due then with_command t heartbeat moment else t))
    go true d =
        let whole = leb-true (e + 1000) moment d in
        record {
          beats = suc beats;
          counted = omega (arith, length-append l.submitted (bytes_of (new_request (next_req t.last_req) heartbeat) ∷ []));
          most = most;
          few = omega arith;
          paced = λ e. (omega arith, omega arith);
        }
    go false d = record { beats = beats; counted = count; most = most; few = omega arith; paced = λ e. p }

abbrev with_client : {A : Type 0} → World A → Option Asked → Option ℕ → World A
with_client w asked ended = record w { client = record w.client { asked = asked; ended = ended } }

turn_counts : {A : Type 0} (run : Run) (acts : List Act) (w : World A) (asked : Option Asked) (ended : Option ℕ) (next : Option PlainCommand) (beats : ℕ)
    → slice_get (setup_commands stream_peer) w.begun ≡ next → (line_of run acts).client ≡ record w.client { asked = asked; ended = ended }
    → length (submitted_by run acts) ≡ w.begun + beats → w.begun ≤ SETUP_SIZE → IsPaced beats asked ended w.moment
    → IsCounted (length (submitted_by run (at_client (clients.ticks w.moment) ∷ with_setup asked next w.moment acts)))
    (submits asked next (with_client w asked ended)).begun w.moment (ticked (submits asked next (with_client w asked ended)).client w.moment)
turn_counts run acts w None ended None beats is same count most p =
    subst (λ (k : ℕ). IsCounted k w.begun w.moment (ticked (record w.client { asked = None; ended = ended }) w.moment))
    (sym (ap (λ (s : Client). length (with_last (submitted_by run acts) (option_map bytes_of (heartbeat_at s.asked s w.moment)))) same))
    (idle_counts (line_of run acts) w.client ended w.begun beats w.moment count most p)
turn_counts run acts w None ended (Some c) beats is same count most p =
    let s = record w.client { asked = None; ended = ended } in
    let below = next_below w.begun c is in
    let few = pace_few beats w.moment None ended p in
    let one : length (submitted_by run (at_client (clients.ticks w.moment) ∷ with_setup None (Some c) w.moment acts))
    ≡ length (submitted_by run acts ++ bytes_of (new_request (next_req w.client.last_req) c) ∷ []) =
    ap
    (λ (t : Client). length (with_last (with_last (submitted_by run acts) (option_map bytes_of (submitted_at t.asked t c)))
    (option_map bytes_of (heartbeat_at (submitted t c w.moment).asked (submitted t c w.moment) w.moment))))
    same in
    record {
      beats = beats;
      counted = omega (arith, one, length-append (submitted_by run acts) (bytes_of (new_request (next_req w.client.last_req) c) ∷ []));
      most = omega arith;
      few = few;
      paced = λ e. pace_ticks beats w.moment (with_command s c w.moment) (just_asked s c w.moment) few (omega arith) e;
    }
turn_counts run acts w (Some asked) ended next beats is same count most p = record {
  beats = beats;
  counted = ap (λ (t : Client). length (with_last (submitted_by run acts) (option_map bytes_of (heartbeat_at t.asked t w.moment)))) same ∙ count;
  most = most;
  few = pace_few beats w.moment (Some asked) ended p;
  paced = λ e. pace_ticks beats w.moment (record w.client { asked = Some asked; ended = ended }) asked p.0 p.1 e;
}

-- ---- what arrives

pace_arrives : (beats moment : ℕ) (s : Client) (asked : Option Asked) (ended : Option ℕ) (r : Result PlainAck ControlError) → IsPaced beats asked ended moment
    → IsPacedClient beats moment (received_as r (record s { asked = asked; ended = ended }) moment).client
pace_arrives beats moment s asked ended (Err x) p = p
pace_arrives beats moment s None ended (Ok ack) p = p
pace_arrives beats moment s (Some asked) ended (Ok ack) p = go (is_match asked.code asked.req ack) (ack.req == asked.req) (pending_reading ack)
  where
    t : Client
    t = record s { asked = Some asked; ended = ended }

    go : (matches same : Bool) (time : Option ℕ) → IsPacedClient beats moment (if matches then ended_by t ack moment else (if same then pended t asked time else goes_on t)).client
    go true same time =
        let last = p.0 in
        let past = p.1 in
        (omega arith, omega arith)
    go false true None = p
    go false true (Some time) = p
    go false false time = p

-- The pace of a client at this moment, with so many commands of the setup begun.
record IsPacedAt (beats begun moment : ℕ) (p : Progress) : Type 0 where
  pub begun_is : p.begun ≡ begun
  pub moment_is : p.moment ≡ moment
  pub paced : IsPacedClient beats p.moment p.client

pace_is_carried : {A : Type 0} (beats begun moment : ℕ) (host : Host A) → IsCarried (IsPacedAt beats begun moment) (λ d. Unit {0}) host
pace_is_carried {A} beats begun moment host v d all e p = go d.channel d.bytes
  where
    go : (channel : Channel) (bytes : List ℕ) → IsPacedAt beats begun moment (progress_of (arrives host v channel bytes).world)
    go Control bytes = record {
      begun_is = p.begun_is;
      moment_is = p.moment_is;
      paced = pace_arrives beats v.moment v.client v.client.asked v.client.ended (ack_reading bytes) p.paced;
    }
    go Stream bytes = p

-- ---- rounds

-- What holds after n rounds, none of which ended the run.
pub record IsBeating {A : Type 0} (run : Run) (acts : List Act) (w : World A) (n : ℕ) : Type 0 where
  pub beats : ℕ
  pub counted : length (submitted_by run acts) ≡ w.begun + beats
  pub most : w.begun ≤ SETUP_SIZE
  pub moment_is : w.moment ≡ 10 * n
  pub paced : IsPacedClient beats w.moment w.client

-- the client's turn after them
after_tick : {A : Type 0} (run : Run) (acts : List Act) (w : World A) (n : ℕ) → (line_of run acts).client ≡ w.client → IsBeating run acts w n
    → IsCounted (length (submitted_by run (with_client_turn (rises w) acts))) (begins (rises w)).begun (rises w).moment (ticked (begins (rises w)).client (rises w).moment)
after_tick run acts w n same b =
    turn_counts run acts (rises w) w.client.asked w.client.ended (slice_get (setup_commands stream_peer) w.begun) b.beats refl same b.counted b.most
    (pace_later b.beats w.moment (rises w).moment w.client.asked w.client.ended (omega arith) b.paced)

moment_stays : {A : Type 0} (asked : Option Asked) (next : Option PlainCommand) (w : World A) → (submits asked next w).moment ≡ w.moment
moment_stays None None w = refl
moment_stays None (Some c) w = refl
moment_stays (Some asked) next w = refl

paced_after_client : {A : Type 0} (run : Run) (w : World A) (beats moment : ℕ) → (begins w).moment ≡ moment
    → IsPacedClient beats moment (ticked (begins w).client w.moment).client
    → IsPacedAt beats (begins w).begun moment (progress_of (client_turn run w).world)
paced_after_client run w beats moment same p =
    let t = (ticked (begins w).client w.moment).client in
    subst (IsPacedAt beats (begins w).begun moment) (sym (sent_stays run (record (begins w) { client = taken t }) (to_send t.asked)))
    (record {
      begun_is = refl;
      moment_is = same;
      paced = subst (λ (m : ℕ). IsPaced beats (taken t).asked t.ended m) (sym same) (pace_taken beats moment t.asked t.ended p);
    })

counted_round : {A : Type 0} (run : Run) (host : Host A) (acts : List Act) (w : World A)
    → length (submitted_by run (with_round run host w acts)) ≡ length (submitted_by run (with_client_turn (rises w) acts))
counted_round run host acts w =
    ap length (rest_submits_none run host (client_turn run (rises w)).end (client_turn run (rises w)).world (with_client_turn (rises w) acts))

round_beats : {A : Type 0} (run : Run) (host : Host A) (acts : List Act) (w : World A) (n : ℕ) → (line_of run acts).client ≡ w.client → IsBeating run acts w n
    → (round run host w).end ≡ None → IsBeating run (with_round run host w acts) (round run host w).world (suc n)
round_beats {A} run host acts w n same b e = record {
  beats = t.beats;
  counted = omega (arith, counted_round run host acts w, t.counted, g.begun_is);
  most = omega (arith, t.most, g.begun_is);
  moment_is = omega (arith, g.moment_is, b.moment_is);
  paced = g.paced;
}
  where
    v : World A
    v = rises w

    t : IsCounted (length (submitted_by run (with_client_turn v acts))) (begins v).begun v.moment (ticked (begins v).client v.moment)
    t = after_tick run acts w n same b

    g : IsPacedAt t.beats (begins v).begun v.moment (progress_of (round run host w).world)
    g = round_carries (IsPacedAt t.beats (begins v).begun v.moment) (λ d. Unit {0}) run host (pace_is_carried t.beats (begins v).begun v.moment host) w
        (λ goes. paced_after_client run v t.beats v.moment (moment_stays v.client.asked (slice_get (setup_commands stream_peer) v.begun) v) (t.paced goes))
        (λ d among. tt) e

same_client : {A : Type 0} (run : Run) (host : Host A) (start : A) (n : ℕ) → AsksNoAccess host
    → (line_of run (acts_after run host start n)).client ≡ (world_after run host start n).client
same_client run host start n none = (rounds_are_acts run host start n none).client

pub beating : {A : Type 0} (run : Run) (host : Host A) (start : A) (n : ℕ) → AsksNoAccess host → GoesOn run host start n
    → IsBeating run (acts_after run host start n) (world_after run host start n) n
beating run host start zero none h = record { beats = 0; counted = refl; most = omega arith; moment_is = refl; paced = refl }
beating run host start (suc n) none h =
    round_beats run host (acts_after run host start n) (world_after run host start n) n (same_client run host start n none)
    (beating run host start n none (λ m below. h m (omega arith))) (h n (omega arith))

one_a_second : {A : Type 0} (run : Run) (host : Host A) (start : A) (n : ℕ) → AsksNoAccess host → GoesOn run host start (n - 1)
    → 100 * (submitted_after run host start n - SETUP_SIZE) ≤ n
one_a_second run host start zero none h = omega arith
one_a_second {A} run host start (suc n) none h = omega (arith, counted_round run host acts w, t.counted, t.most, t.few, b.moment_is)
  where
    acts : List Act
    acts = acts_after run host start n

    w : World A
    w = world_after run host start n

    b : IsBeating run acts w n
    b = beating run host start n none (λ m below. h m (omega arith))

    t : IsCounted (length (submitted_by run (with_client_turn (rises w) acts))) (begins (rises w)).begun (rises w).moment
        (ticked (begins (rises w)).client (rises w).moment)
    t = after_tick run acts w n (same_client run host start n none) b

few_submitted : (n count : ℕ) → n ≤ MOST_ROUNDS → 100 * (count - SETUP_SIZE) ≤ n → count < 32767
few_submitted n count short h = omega arith

pub commands_are_few : {A : Type 0} (run : Run) (host : Host A) (start : A) (n : ℕ) → CommandsAreFew run host start n
commands_are_few run host start n none h = record {
  one_a_second = second;
  few = λ short. few_submitted n (submitted_after run host start n) short second;
  once = λ short.
      acts_once run.seed image_shape STORE_ROOM client_peer (acts_after run host start n)
      (record { schedule = (rounds_are_acts run host start n none).schedule; few = few_submitted n (submitted_after run host start n) short second });
}
  where
    second : 100 * (submitted_after run host start n - SETUP_SIZE) ≤ n
    second = one_a_second run host start n none h
