-- Which refusals came in the turns, by how they ended.
use Rattle.std.proofs.Common.{◌≡◌, ℕ, Bool, true, false, List, [], ◌∷◌, ◌++◌, Option, Some, None, refl, ap, sym, ◌∙◌, inl, inr}
use Rattle.std.proofs.lemmas.List.{append-nil}
use Rattle.std.specs.Prelude.{◌==◌, if◌then◌else◌}
use Rattle.client_machine.specs.declared.outcome.Outcome.{Outcome}
use Rattle.client_machine.specs.declared.outcome.Outcome.TheVariants.{Waiting, Idle, Acked, Refused, NoAnswer}
use Rattle.client_machine.specs.Machine.{Client, ticked, taken, received}
use Rattle.client_machine.specs.Events.{Event, ticks, receives}
use Rattle.client_machine.specs.Setup.{SETUP_SIZE}
use Rattle.acquisition_machine.specs.declared.config.AcqConfig.{AcqConfig}
use Rattle.acquisition_machine.specs.Machine.{Input}
use Rattle.gev_links.specs.Links.{Address, Answer, nothing, failed, came}
use Rattle.gev_control.specs.declared.turn_end.TurnEnd.{TurnEnd}
use Rattle.gev_control.specs.declared.turn_end.TurnEnd.TheVariants as ends
use Rattle.gev_control.specs.declared.acq_end.AcqEnd.{AcqEnd}
use Rattle.gev_control.specs.declared.acq_end.AcqEnd.TheVariants as how
use Rattle.gev_control.specs.Controlled.{EndsAs, after_tick, ticks_turn, after_receive, control_of}
use Rattle.gev_control.specs.SetupTurns.{SetUp, set_up, SetupTurned, begins, ends_by, hears_setup, after_ticks, setup_turn}
use Rattle.gev_control.specs.SetsUp.{setup_after, SetupGoesOn}
use Rattle.gev_control.specs.SetupLaws.{outcomes_of, outcomes_after, hears_outcomes}
use Rattle.gev_acq.specs.Turns.{Turned, inputs_of}
use Rattle.gev_acq.specs.Acquired.{ControlEach, AllGoOn, EndsIn, EndsBy}
use Rattle.gev_acq.specs.Reads.{IsSetUp, EndsAfter}
use Rattle.live_promises.specs.ClientCauses.{refused_by, refused_in, setup_refusals, reader_refusals, refusal_of, RefusedIsRead}

-- ---- the setup

abbrev refusal_if : Option AcqEnd → List ℕ
refusal_if None = []
refusal_if (Some end) = refusal_of end

last_ack : (b : Bool) → [] ≡ refusal_if (if b then Some how.Stopped else None)
last_ack true = refl
last_ack false = refl

by_outcome : (begun : ℕ) (o : Outcome) → refused_by o ++ [] ≡ refusal_if (ends_by begun o)
by_outcome begun (Waiting req) = refl
by_outcome begun Idle = refl
by_outcome begun Acked = last_ack (begun == SETUP_SIZE)
by_outcome begun (Refused status) = refl
by_outcome begun (NoAnswer req) = refl

by_heard : (s : Client) (begun moment : ℕ) (heard : Option Answer) → refused_in (outcomes_of s moment heard) ≡ refusal_if (hears_setup s begun moment heard).end
by_heard s begun moment None = refl
by_heard s begun moment (Some failed) = refl
by_heard s begun moment (Some nothing) = refl
by_heard s begun moment (Some (came bytes peer)) = by_outcome begun (received s bytes moment).outcome

by_tick : (es : List Event) (k : Client) (begun : ℕ) (t : SetupTurned) (o : Outcome)
    → refused_in (outcomes_after (after_tick es k o).end (after_tick es k o).state t.moment t.heard)
    ≡ refusal_if (after_ticks (after_tick es k o).end (after_tick es k o) begun t).end
by_tick es k begun t (Waiting req) = by_heard (taken k) begun t.moment t.heard
by_tick es k begun t Idle = by_heard (taken k) begun t.moment t.heard
by_tick es k begun t Acked = by_heard (taken k) begun t.moment t.heard
by_tick es k begun t (Refused status) = by_heard (taken k) begun t.moment t.heard
by_tick es k begun t (NoAnswer req) = refl

setup_refusal : (stream : Address) (s : SetUp) (t : SetupTurned) → refused_in (hears_outcomes stream s t) ≡ refusal_if (setup_turn stream s t).end
setup_refusal stream s t =
    by_tick (ticks t.moment ∷ []) (ticked (begins stream s t.moment).state.client t.moment).client (begins stream s t.moment).state.begun t
    (ticked (begins stream s t.moment).state.client t.moment).outcome

setup_refused : (stream : Address) (s : SetUp) (before : List SetupTurned) (last : SetupTurned) → SetupGoesOn stream s before
    → setup_refusals stream s (before ++ last ∷ []) ≡ refusal_if (setup_turn stream (setup_after stream s before) last).end
setup_refused stream s [] last on = append-nil (refused_in (hears_outcomes stream s last)) ∙ setup_refusal stream s last
setup_refused stream s (t ∷ ts) last on =
    ap (λ l. l ++ setup_refusals stream (setup_turn stream s t).state (ts ++ last ∷ [])) (setup_refusal stream s t ∙ ap refusal_if on.0)
    ∙ setup_refused stream (setup_turn stream s t).state ts last on.1

pub set_refused : (stream : Address) (s u : Client) (made : List SetupTurned) (end : AcqEnd) → IsSetUp stream s made end u
    → setup_refusals stream (set_up s 0) made ≡ refusal_of end
set_refused stream s u made end set =
    ap (setup_refusals stream (set_up s 0)) set.is ∙ (setup_refused stream (set_up s 0) set.before set.last set.on ∙ ap refusal_if set.ended)

-- ---- the reader

abbrev pub turn_refusal : TurnEnd → List ℕ
turn_refusal ends.GoesOn = []
turn_refusal ends.Fault = []
turn_refusal (ends.NoAnswer req) = []
turn_refusal (ends.Refused status) = status ∷ []

tick_refuses : (es : List Event) (k : Client) (o : Outcome) → [] ≡ turn_refusal (after_tick es k o).end
tick_refuses es k (Waiting req) = refl
tick_refuses es k Idle = refl
tick_refuses es k Acked = refl
tick_refuses es k (Refused status) = refl
tick_refuses es k (NoAnswer req) = refl

ticks_refuse : (es : List Event) (k : Client) (moment : ℕ) → [] ≡ turn_refusal (ticks_turn es k moment).end
ticks_refuse es k moment = tick_refuses (es ++ ticks moment ∷ []) (ticked k moment).client (ticked k moment).outcome

receive_refuses : (es : List Event) (k : Client) (o : Outcome) (moment : ℕ) → refused_by o ++ [] ≡ turn_refusal (after_receive es k o moment).end
receive_refuses es k (Waiting req) moment = ticks_refuse es k moment
receive_refuses es k Idle moment = ticks_refuse es k moment
receive_refuses es k Acked moment = ticks_refuse es k moment
receive_refuses es k (Refused status) moment = refl
receive_refuses es k (NoAnswer req) moment = ticks_refuse es k moment

pub control_refuses : (s : Client) (heard : Option Answer) (moment : ℕ) → refused_in (outcomes_of s moment heard) ≡ turn_refusal (control_of s heard moment).end
control_refuses s None moment = refl
control_refuses s (Some failed) moment = refl
control_refuses s (Some nothing) moment = ticks_refuse [] s moment
control_refuses s (Some (came bytes peer)) moment =
    receive_refuses (receives bytes moment ∷ []) (received s bytes moment).client (received s bytes moment).outcome moment

pub end_refuses : (end k : TurnEnd) → EndsAs end k → turn_refusal k ≡ turn_refusal end
end_refuses ends.GoesOn k is = ap turn_refusal is
end_refuses ends.Fault k (inl is) = ap turn_refusal is
end_refuses ends.Fault k (inr is) = ap turn_refusal is
end_refuses (ends.NoAnswer req) k is = ap turn_refusal is
end_refuses (ends.Refused status) k is = ap turn_refusal is

abbrev turns_refusals : List Turned → List ℕ
turns_refusals [] = []
turns_refusals (t ∷ ts) = turn_refusal t.end ++ turns_refusals ts

reader_refused : (c : AcqConfig) (q : List Input) (s u : Client) (ts : List Turned) → ControlEach c q s ts u → reader_refusals s ts ≡ turns_refusals ts
reader_refused c q s u [] each = refl
reader_refused c q s u (t ∷ ts) each =
    ap (λ l. l ++ reader_refusals (control_of s t.heard t.moment).state ts)
    (control_refuses s t.heard t.moment ∙ end_refuses t.end (control_of s t.heard t.moment).end each.0.ends_as)
    ∙ ap (λ l. turn_refusal t.end ++ l) (reader_refused c (q ++ inputs_of t) (control_of s t.heard t.moment).state u ts each.1)

all_on : (ts : List Turned) → AllGoOn ts → turns_refusals ts ≡ []
all_on [] on = refl
all_on (t ∷ ts) on = ap (λ x. turn_refusal x ++ turns_refusals ts) on.0 ∙ all_on ts on.1

then_one : (ts : List Turned) (t : Turned) → AllGoOn ts → turns_refusals (ts ++ t ∷ []) ≡ turn_refusal t.end
then_one [] t on = append-nil (turn_refusal t.end)
then_one (x ∷ ts) t on = ap (λ e. turn_refusal e ++ turns_refusals (ts ++ t ∷ [])) on.0 ∙ then_one ts t on.1

ends_in : (end : TurnEnd) (made : List Turned) → EndsIn end made → turns_refusals made ≡ turn_refusal end
ends_in end made ended = ap turns_refusals ended.is ∙ (then_one ended.before ended.last ended.on ∙ ap turn_refusal ended.ended)

ends_by_turns : (end : AcqEnd) (turns : ℕ) (made : List Turned) → EndsBy end turns made → turns_refusals made ≡ refusal_of end
ends_by_turns how.Stopped turns made by = all_on made by.1
ends_by_turns how.Spent turns made by = all_on made by.1
ends_by_turns how.Fault turns made by = ends_in ends.Fault made by.1
ends_by_turns (how.NoAnswer req) turns made by = ends_in (ends.NoAnswer req) made by.1
ends_by_turns (how.Refused status) turns made by = ends_in (ends.Refused status) made by.1

-- ---- the run

none_made : (setup_end end : AcqEnd) (made : List Turned) → end ≡ setup_end → made ≡ [] → refusal_of setup_end ++ turns_refusals made ≡ refusal_of end
none_made setup_end end made same nothing_made =
    ap (λ l. refusal_of setup_end ++ turns_refusals l) nothing_made ∙ (append-nil (refusal_of setup_end) ∙ ap refusal_of (sym same))

by_setup_end : (setup_end end : AcqEnd) (turns : ℕ) (made : List Turned) → EndsAfter setup_end end turns made
    → refusal_of setup_end ++ turns_refusals made ≡ refusal_of end
by_setup_end how.Stopped end turns made after = ends_by_turns end turns made after
by_setup_end how.Spent end turns made after = none_made how.Spent end made after.0 after.1
by_setup_end how.Fault end turns made after = none_made how.Fault end made after.0 after.1
by_setup_end (how.NoAnswer req) end turns made after = none_made (how.NoAnswer req) end made after.0 after.1
by_setup_end (how.Refused status) end turns made after = none_made (how.Refused status) end made after.0 after.1

pub refused_read : RefusedIsRead
refused_read mode c camera stream o n journal journal_after turns end made turned last on =
    ap (λ l. l ++ reader_refusals on.client made) (set_refused stream o.client on.client on.setup on.setup_end on.set_up_by)
    ∙ (ap (λ l. refusal_of on.setup_end ++ l) (reader_refused c [] on.client n.client made on.controlled)
    ∙ by_setup_end on.setup_end end turns made on.ends)
