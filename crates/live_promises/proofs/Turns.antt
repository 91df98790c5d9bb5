-- The same through the turns of the setup and of the reader.
use Rattle.std.proofs.Common.{◌≡◌, ℕ, ◌<◌, List, [], ◌∷◌, ◌++◌, Option, Some, None, refl, ap, sym, ◌∙◌, inl, inr, subst}
use Rattle.std.specs.Prelude.{⊤, slice_get}
use Rattle.gvcp_wire.specs.Messages.{PlainCommand}
use Rattle.client_machine.specs.declared.outcome.Outcome.{Outcome}
use Rattle.client_machine.specs.declared.outcome.Outcome.TheVariants.{Waiting, Idle, Acked, Refused, NoAnswer}
use Rattle.client_machine.specs.Machine.{Asked, Client, Told, outcome_after, ticked, received}
use Rattle.client_machine.specs.Events.{Event, ticks, receives}
use Rattle.client_machine.specs.Setup.{setup_commands}
use Rattle.acquisition_machine.specs.declared.config.AcqConfig.{AcqConfig}
use Rattle.acquisition_machine.specs.Machine.{Input}
use Rattle.gev_links.specs.Links.{Address, Answer, nothing, failed, came}
use Rattle.gev_control.specs.declared.turn_end.TurnEnd.{TurnEnd}
use Rattle.gev_control.specs.declared.turn_end.TurnEnd.TheVariants as ends
use Rattle.gev_control.specs.declared.acq_end.AcqEnd.{AcqEnd}
use Rattle.gev_control.specs.declared.acq_end.AcqEnd.TheVariants as how
use Rattle.gev_control.specs.Controlled.{ControlTurn, EndsAs, after_tick, ticks_turn, after_receive, control_of, listed, sent_by}
use Rattle.gev_control.specs.SetupTurns.{SetUp, SetupTurned, begins_with, begins, submits_next, hears_setup, setup_ticked, after_ticks, setup_turn, sent_if_heard, MayHear, IsHeard}
use Rattle.gev_control.proofs.OrderEnds.{ends_as_client}
use Rattle.gev_control.proofs.ClientSteps.{turn_keeps}
use Rattle.gev_acq.specs.Turns.{Turned, asks_of, IsControlled}
use Rattle.live_promises.specs.Moves.{Move, hears, sends_all, hears_of, turn_moves, later_moves}
use Rattle.live_promises.specs.ClientCauses.{IsUnanswered}
use Rattle.live_promises.proofs.ClientKeeping.{Kept, Due, TickCame, later-append, kept_sends, take_kept, tick_kept, new_tick, receive_kept}

-- What is known after the client's part of a turn, by its end.
abbrev pub CameTo : TurnEnd → Client → Option (List ℕ) → List Move → Type 0
CameTo ends.GoesOn s send ms = Kept s.asked (later_moves ms (sends_all (listed send)))
CameTo ends.Fault s send ms = ⊤
CameTo (ends.NoAnswer req) s send ms = IsUnanswered req ms
CameTo (ends.Refused status) s send ms = ⊤

-- ---- ticks

by_outcome : (o : Option Asked) (es : List Event) (c : Client) (ms : List Move) → Due c.asked ms
    → CameTo (after_tick es c (outcome_after o)).end (after_tick es c (outcome_after o)).state (after_tick es c (outcome_after o)).send ms
by_outcome None es c ms due = take_kept c.asked ms due
by_outcome (Some asked) es c ms due = take_kept c.asked ms due

tick_came : (es : List Event) (told : Told) (ms : List Move) → TickCame told ms
    → CameTo (after_tick es told.client told.outcome).end (after_tick es told.client told.outcome).state (after_tick es told.client told.outcome).send ms
tick_came es told ms (inl due) =
    subst (λ x. CameTo (after_tick es told.client x).end (after_tick es told.client x).state (after_tick es told.client x).send ms) (sym due.1)
    (by_outcome told.client.asked es told.client ms due.0)
tick_came es told ms (inr given_up) =
    subst (λ x. CameTo (after_tick es told.client x).end (after_tick es told.client x).state (after_tick es told.client x).send ms) (sym given_up.1.0)
    given_up.1.1

ticks_came : (es : List Event) (s : Client) (moment : ℕ) (ms : List Move) → Kept s.asked ms
    → CameTo (ticks_turn es s moment).end (ticks_turn es s moment).state (ticks_turn es s moment).send ms
ticks_came es s moment ms kept = tick_came (es ++ ticks moment ∷ []) (ticked s moment) ms (tick_kept s moment ms s.asked refl kept)

-- ---- the reader's turns

receive_came : (es : List Event) (k : Client) (o : Outcome) (moment : ℕ) (ms : List Move) → Kept k.asked ms
    → CameTo (after_receive es k o moment).end (after_receive es k o moment).state (after_receive es k o moment).send ms
receive_came es k (Waiting req) moment ms kept = ticks_came es k moment ms kept
receive_came es k Idle moment ms kept = ticks_came es k moment ms kept
receive_came es k Acked moment ms kept = ticks_came es k moment ms kept
receive_came es k (Refused status) moment ms kept = tt
receive_came es k (NoAnswer req) moment ms kept = ticks_came es k moment ms kept

pub control_came : (s : Client) (heard : Option Answer) (moment : ℕ) (ms : List Move) → Kept s.asked ms
    → CameTo (control_of s heard moment).end (control_of s heard moment).state (control_of s heard moment).send (later_moves ms (hears_of heard))
control_came s None moment ms kept = tt
control_came s (Some failed) moment ms kept = tt
control_came s (Some nothing) moment ms kept = ticks_came [] s moment ms kept
control_came s (Some (came bytes peer)) moment ms kept =
    receive_came (receives bytes moment ∷ []) (received s bytes moment).client (received s bytes moment).outcome moment (hears bytes ∷ ms)
    (receive_kept s bytes moment ms kept)

-- the moves of a turn by its parts
by_parts : (c : AcqConfig) (q : List Input) (s : Client) (t : Turned) (ms : List Move)
    → later_moves ms (turn_moves c q s t)
    ≡ later_moves (later_moves (later_moves ms (sends_all (asks_of c q t))) (hears_of t.heard))
    (sends_all (sent_by t.end (control_of s t.heard t.moment).send))
by_parts c q s t ms =
    later-append ms (sends_all (asks_of c q t)) (hears_of t.heard ++ sends_all (sent_by t.end (control_of s t.heard t.moment).send))
    ∙ later-append (later_moves ms (sends_all (asks_of c q t))) (hears_of t.heard) (sends_all (sent_by t.end (control_of s t.heard t.moment).send))

asked_came : (c : AcqConfig) (q : List Input) (s : Client) (t : Turned) (ms : List Move) → Kept s.asked ms
    → CameTo (control_of s t.heard t.moment).end (control_of s t.heard t.moment).state (control_of s t.heard t.moment).send
    (later_moves (later_moves ms (sends_all (asks_of c q t))) (hears_of t.heard))
asked_came c q s t ms kept = control_came s t.heard t.moment (later_moves ms (sends_all (asks_of c q t))) (kept_sends s.asked (asks_of c q t) ms kept)

-- a turn that goes on
pub on_by : (k : ControlTurn) (end : TurnEnd) (ms : List Move) → end ≡ ends.GoesOn → EndsAs end k.end → CameTo k.end k.state k.send ms
    → Kept k.state.asked (later_moves ms (sends_all (sent_by end k.send)))
on_by k end ms is ends_as came_to =
    let same : k.end ≡ ends.GoesOn = subst (λ x. EndsAs x k.end) is ends_as in
    subst (λ x. Kept k.state.asked (later_moves ms (sends_all (sent_by x k.send)))) (sym is) (subst (λ x. CameTo x k.state k.send ms) same came_to)

pub turn_goes_on : (c : AcqConfig) (q : List Input) (s : Client) (t : Turned) (ms : List Move) → t.end ≡ ends.GoesOn → IsControlled c q s t → Kept s.asked ms
    → Kept (control_of s t.heard t.moment).state.asked (later_moves ms (turn_moves c q s t))
turn_goes_on c q s t ms is controlled kept =
    subst (Kept (control_of s t.heard t.moment).state.asked) (sym (by_parts c q s t ms))
    (on_by (control_of s t.heard t.moment) t.end (later_moves (later_moves ms (sends_all (asks_of c q t))) (hears_of t.heard)) is controlled.ends_as
    (asked_came c q s t ms kept))

-- a turn whose command had no answer
pub up_by : (k : ControlTurn) (end : TurnEnd) (req : ℕ) (ms : List Move) → end ≡ ends.NoAnswer req → EndsAs end k.end → CameTo k.end k.state k.send ms
    → IsUnanswered req (later_moves ms (sends_all (sent_by end k.send)))
up_by k end req ms is ends_as came_to =
    let same : k.end ≡ ends.NoAnswer req = subst (λ x. EndsAs x k.end) is ends_as in
    subst (λ x. IsUnanswered req (later_moves ms (sends_all (sent_by x k.send)))) (sym is) (subst (λ x. CameTo x k.state k.send ms) same came_to)

pub turn_gives_up : (c : AcqConfig) (q : List Input) (s : Client) (t : Turned) (req : ℕ) (ms : List Move) → t.end ≡ ends.NoAnswer req → IsControlled c q s t
    → Kept s.asked ms → IsUnanswered req (later_moves ms (turn_moves c q s t))
turn_gives_up c q s t req ms is controlled kept =
    subst (IsUnanswered req) (sym (by_parts c q s t ms))
    (up_by (control_of s t.heard t.moment) t.end req (later_moves (later_moves ms (sends_all (asks_of c q t))) (hears_of t.heard)) is controlled.ends_as
    (asked_came c q s t ms kept))

-- ---- the setup's turns

next_tick : (s : SetUp) (moment : ℕ) (ms : List Move) (c : Option PlainCommand) → 0 < s.client.limit → s.client.asked ≡ None
    → TickCame (ticked (submits_next c s moment).state.client moment) ms
next_tick s moment ms None some idle = tick_kept s.client moment ms s.client.asked refl (subst (λ o. Kept o ms) (sym idle) tt)
next_tick s moment ms (Some c) some idle = new_tick s.client c moment ms s.client.asked some idle

begun_tick : (stream : Address) (s : SetUp) (moment : ℕ) (ms : List Move) (o : Option Asked) → 0 < s.client.limit → s.client.asked ≡ o → Kept o ms
    → TickCame (ticked (begins_with o stream s moment).state.client moment) ms
begun_tick stream s moment ms None some idle kept = next_tick s moment ms (slice_get (setup_commands stream) s.begun) some idle
begun_tick stream s moment ms (Some asked) some is kept = tick_kept s.client moment ms s.client.asked refl (subst (λ o. Kept o ms) (sym is) kept)

-- The same of a client whose sends have a limit.
abbrev pub KeptOf : Client → List Move → Type 0
KeptOf s ms = (0 < s.limit) × Kept s.asked ms

setup_came : (stream : Address) (s : SetUp) (moment : ℕ) (ms : List Move) → KeptOf s.client ms
    → CameTo (setup_ticked stream s moment).end (setup_ticked stream s moment).state (setup_ticked stream s moment).send ms
setup_came stream s moment ms kept =
    tick_came (ticks moment ∷ []) (ticked (begins stream s moment).state.client moment) ms (begun_tick stream s moment ms s.client.asked kept.0 refl kept.1)

-- the setup goes on, or is done
abbrev pub GoesOnOrStops : Option AcqEnd → Type 0
GoesOnOrStops None = ⊤
GoesOnOrStops (Some how.Stopped) = ⊤
GoesOnOrStops (Some how.Spent) = ⊥
GoesOnOrStops (Some how.Fault) = ⊥
GoesOnOrStops (Some (how.NoAnswer req)) = ⊥
GoesOnOrStops (Some (how.Refused status)) = ⊥

heard_kept : (k : Client) (send : Option (List ℕ)) (begun moment : ℕ) (heard : Option Answer) (ms : List Move)
    → Kept k.asked (later_moves ms (sends_all (listed send))) → GoesOnOrStops (hears_setup k begun moment heard).end
    → Kept (hears_setup k begun moment heard).client.asked (later_moves ms (sends_all (sent_if_heard heard send) ++ hears_of heard))
heard_kept k send begun moment None ms kept on = absurd on
heard_kept k send begun moment (Some failed) ms kept on = absurd on
heard_kept k send begun moment (Some nothing) ms kept on = subst (Kept k.asked) (sym (later-append ms (sends_all (listed send)) [])) kept
heard_kept k send begun moment (Some (came bytes peer)) ms kept on =
    subst (Kept (received k bytes moment).client.asked) (sym (later-append ms (sends_all (listed send)) (hears bytes ∷ [])))
    (receive_kept k bytes moment (later_moves ms (sends_all (listed send))) kept)

after_kept : (x : TurnEnd) (k : ControlTurn) (begun : ℕ) (turned : SetupTurned) (ms : List Move) → CameTo x k.state k.send ms
    → GoesOnOrStops (after_ticks x k begun turned).end
    → Kept (after_ticks x k begun turned).client.asked (later_moves ms (sends_all (sent_if_heard turned.heard k.send) ++ hears_of turned.heard))
after_kept ends.GoesOn k begun turned ms came_to on = heard_kept k.state k.send begun turned.moment turned.heard ms came_to on
after_kept ends.Fault k begun turned ms came_to on = absurd on
after_kept (ends.NoAnswer req) k begun turned ms came_to on = absurd on
after_kept (ends.Refused status) k begun turned ms came_to on = absurd on

pub setup_goes_on : (stream : Address) (s : SetUp) (t : SetupTurned) (ms : List Move) → GoesOnOrStops (setup_turn stream s t).end → KeptOf s.client ms
    → KeptOf (setup_turn stream s t).state.client
    (later_moves ms (sends_all (sent_if_heard t.heard (setup_turn stream s t).send) ++ hears_of t.heard))
setup_goes_on stream s t ms on kept = (
  subst (λ n. 0 < n) (sym (turn_keeps (setup_commands stream) s t)) kept.0,
  after_kept (setup_ticked stream s t.moment).end (setup_ticked stream s t.moment) (begins stream s t.moment).state.begun t ms
      (setup_came stream s t.moment ms kept) on,
)

quiet_end : (heard : Option Answer) (send : Option (List ℕ)) (ms : List Move) → heard ≡ None
    → later_moves ms (sends_all (sent_if_heard heard send) ++ hears_of heard) ≡ ms
quiet_end heard send ms is = ap (λ h. later_moves ms (sends_all (sent_if_heard h send) ++ hears_of h)) is

pub setup_gives_up : (stream : Address) (s : SetUp) (t : SetupTurned) (req : ℕ) (ms : List Move) → (setup_turn stream s t).end ≡ Some (how.NoAnswer req)
    → IsHeard stream s t → KeptOf s.client ms
    → IsUnanswered req (later_moves ms (sends_all (sent_if_heard t.heard (setup_turn stream s t).send) ++ hears_of t.heard))
setup_gives_up stream s t req ms is may kept =
    let told : (ticked (begins stream s t.moment).state.client t.moment).outcome ≡ NoAnswer req = ((ends_as_client stream s t).no_answer req).0 is in
    let same : (setup_ticked stream s t.moment).end ≡ ends.NoAnswer req =
    ap (λ o. (after_tick (ticks t.moment ∷ []) (ticked (begins stream s t.moment).state.client t.moment).client o).end) told
    in
    let silent : t.heard ≡ None = subst (λ x. MayHear x (setup_ticked stream s t.moment).send t.heard) same may in
    subst (IsUnanswered req) (sym (quiet_end t.heard (setup_turn stream s t).send ms silent))
    (subst (λ x. CameTo x (setup_ticked stream s t.moment).state (setup_ticked stream s t.moment).send ms) same (setup_came stream s t.moment ms kept))
