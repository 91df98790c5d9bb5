-- How a turn ends, by what the client tells.
use Rattle.std.proofs.Common.{◌≡◌, ℕ, Bool, true, false, List, [], ◌∷◌, Option, Some, None, ap}
use Rattle.std.specs.Prelude.{◌↔◌, ◌≢◌, ◌==◌, if◌then◌else◌, length}
use Rattle.client_machine.specs.declared.outcome.Outcome.{Outcome}
use Rattle.client_machine.specs.declared.outcome.Outcome.TheVariants.{Waiting, Idle, Acked, Refused, NoAnswer}
use Rattle.client_machine.specs.Machine.{Client, ticked, received, taken}
use Rattle.client_machine.specs.Events.{Event, ticks}
use Rattle.client_machine.specs.Setup.{setup_commands}
use Rattle.gev_links.specs.Links.{Address, Answer, nothing, failed, came}
use Rattle.gev_control.specs.declared.acq_end.AcqEnd.{AcqEnd}
use Rattle.gev_control.specs.declared.acq_end.AcqEnd.TheVariants as how
use Rattle.gev_control.specs.Controlled.{after_tick}
use Rattle.gvcp_wire.specs.Messages.{PlainCommand}
use Rattle.gev_control.specs.OrderTurns.{Progress, OrderTurned, next_part, end_at, hears_order, after_send}
use Rattle.gev_control.specs.OrderLaws.{outcomes_of, outcomes_after, EndsAsTold}
use Rattle.gev_control.specs.SetupTurns.{SetUp, SetupTurned}
use Rattle.gev_control.specs.SetupLaws.{EndsAsTheClient}

-- both are false
neither : {A B : Type 0} → (A → ⊥) → (B → ⊥) → A ↔ B
neither first second = (λ a. absurd (first a), λ b. absurd (second b))

-- ---- the receive

stopped_alone : (last : Bool) (end : AcqEnd) → end ≢ how.Stopped → (if last then Some how.Stopped else None) ≢ Some end
stopped_alone true end ne e = let same : end ≡ how.Stopped = cc in ne same
stopped_alone false end ne e = cc

by_refusal : (size begun : ℕ) (o : Outcome) (status : ℕ) → (end_at size begun o ≡ Some (how.Refused status)) ↔ (o ∷ [] ≡ Refused status ∷ [])
by_refusal size begun (Waiting req) status = neither (λ e. cc) (λ e. cc)
by_refusal size begun Idle status = neither (λ e. cc) (λ e. cc)
by_refusal size begun Acked status = neither (λ e. stopped_alone (begun == size) (how.Refused status) (λ x. cc) e) (λ e. cc)
by_refusal size begun (Refused found) status =
    (λ e. let same : found ≡ status = cc in ap (λ n. Refused n ∷ []) same, λ e. let same : found ≡ status = cc in ap (λ n. Some (how.Refused n)) same)
by_refusal size begun (NoAnswer req) status = neither (λ e. cc) (λ e. cc)

hears_refusal : (size : ℕ) (s : Client) (begun moment : ℕ) (heard : Option Answer) (status : ℕ)
    → ((hears_order size s begun moment heard).end ≡ Some (how.Refused status)) ↔ (outcomes_of s moment heard ≡ Refused status ∷ [])
hears_refusal size s begun moment None status = neither (λ e. cc) (λ e. cc)
hears_refusal size s begun moment (Some failed) status = neither (λ e. cc) (λ e. cc)
hears_refusal size s begun moment (Some nothing) status = neither (λ e. cc) (λ e. cc)
hears_refusal size s begun moment (Some (came bytes peer)) status = by_refusal size begun (received s bytes moment).outcome status

by_neither : (size begun : ℕ) (o : Outcome) (end : AcqEnd) → end ≢ how.Stopped → ((status : ℕ) → end ≢ how.Refused status) → end_at size begun o ≢ Some end
by_neither size begun (Waiting req) end stopped refused e = cc
by_neither size begun Idle end stopped refused e = cc
by_neither size begun Acked end stopped refused e = stopped_alone (begun == size) end stopped e
by_neither size begun (Refused status) end stopped refused e = let same : end ≡ how.Refused status = cc in refused status same
by_neither size begun (NoAnswer req) end stopped refused e = cc

-- a receive ends the setup with a fault, Stopped or Refused alone
hears_neither : (size : ℕ) (s : Client) (begun moment : ℕ) (heard : Option Answer) (end : AcqEnd) → end ≢ how.Stopped → ((status : ℕ) → end ≢ how.Refused status)
    → end ≢ how.Fault → (hears_order size s begun moment heard).end ≢ Some end
hears_neither size s begun moment None end stopped refused fault e = let same : end ≡ how.Fault = cc in fault same
hears_neither size s begun moment (Some failed) end stopped refused fault e = let same : end ≡ how.Fault = cc in fault same
hears_neither size s begun moment (Some nothing) end stopped refused fault e = cc
hears_neither size s begun moment (Some (came bytes peer)) end stopped refused fault e =
    by_neither size begun (received s bytes moment).outcome end stopped refused e

hears_no_end : (size : ℕ) (s : Client) (begun moment req : ℕ) (heard : Option Answer) → (hears_order size s begun moment heard).end ≢ Some (how.NoAnswer req)
hears_no_end size s begun moment req heard = hears_neither size s begun moment heard (how.NoAnswer req) (λ e. cc) (λ status e. cc) (λ e. cc)

hears_not_spent : (size : ℕ) (s : Client) (begun moment : ℕ) (heard : Option Answer) → (hears_order size s begun moment heard).end ≢ Some how.Spent
hears_not_spent size s begun moment heard = hears_neither size s begun moment heard how.Spent (λ e. cc) (λ status e. cc) (λ e. cc)

-- ---- the turn, by the outcome of its tick

ends_unanswered : (size : ℕ) (es : List Event) (k : Client) (begun : ℕ) (t : OrderTurned) (o : Outcome) (req : ℕ)
    → ((after_send size (after_tick es k o).end (after_tick es k o) begun t).end ≡ Some (how.NoAnswer req)) ↔ (o ≡ NoAnswer req)
ends_unanswered size es k begun t (Waiting n) req = neither (hears_no_end size (taken k) begun t.moment req t.heard) (λ e. cc)
ends_unanswered size es k begun t Idle req = neither (hears_no_end size (taken k) begun t.moment req t.heard) (λ e. cc)
ends_unanswered size es k begun t Acked req = neither (hears_no_end size (taken k) begun t.moment req t.heard) (λ e. cc)
ends_unanswered size es k begun t (Refused n) req = neither (hears_no_end size (taken k) begun t.moment req t.heard) (λ e. cc)
ends_unanswered size es k begun t (NoAnswer n) req =
    (λ e. let same : n ≡ req = cc in ap (λ x. NoAnswer x) same, λ e. let same : n ≡ req = cc in ap (λ x. Some (how.NoAnswer x)) same)

ends_refused : (size : ℕ) (es : List Event) (k : Client) (begun : ℕ) (t : OrderTurned) (o : Outcome) (status : ℕ)
    → ((after_send size (after_tick es k o).end (after_tick es k o) begun t).end ≡ Some (how.Refused status))
    ↔ (outcomes_after (after_tick es k o).end (after_tick es k o).state t.moment t.heard ≡ Refused status ∷ [])
ends_refused size es k begun t (Waiting n) status = hears_refusal size (taken k) begun t.moment t.heard status
ends_refused size es k begun t Idle status = hears_refusal size (taken k) begun t.moment t.heard status
ends_refused size es k begun t Acked status = hears_refusal size (taken k) begun t.moment t.heard status
ends_refused size es k begun t (Refused n) status = hears_refusal size (taken k) begun t.moment t.heard status
ends_refused size es k begun t (NoAnswer n) status = neither (λ e. cc) (λ e. cc)

ends_unspent : (size : ℕ) (es : List Event) (k : Client) (begun : ℕ) (t : OrderTurned) (o : Outcome)
    → (after_send size (after_tick es k o).end (after_tick es k o) begun t).end ≢ Some how.Spent
ends_unspent size es k begun t (Waiting n) e = hears_not_spent size (taken k) begun t.moment t.heard e
ends_unspent size es k begun t Idle e = hears_not_spent size (taken k) begun t.moment t.heard e
ends_unspent size es k begun t Acked e = hears_not_spent size (taken k) begun t.moment t.heard e
ends_unspent size es k begun t (Refused n) e = hears_not_spent size (taken k) begun t.moment t.heard e
ends_unspent size es k begun t (NoAnswer n) e = cc

pub ends_as_told : (orders : List PlainCommand) (s : Progress) (t : OrderTurned) → EndsAsTold orders s t
ends_as_told orders s t =
    let k : Client = (next_part orders s t.moment).state.client in
    let begun : ℕ = (next_part orders s t.moment).state.begun in
    record {
      no_answer = λ req. ends_unanswered (length orders) (ticks t.moment ∷ []) (ticked k t.moment).client begun t (ticked k t.moment).outcome req;
      refused = λ status. ends_refused (length orders) (ticks t.moment ∷ []) (ticked k t.moment).client begun t (ticked k t.moment).outcome status;
      never_spent = ends_unspent (length orders) (ticks t.moment ∷ []) (ticked k t.moment).client begun t (ticked k t.moment).outcome;
    }

pub ends_as_client : (stream : Address) (s : SetUp) (t : SetupTurned) → EndsAsTheClient stream s t
ends_as_client stream s t =
    let told : EndsAsTold (setup_commands stream) s t = ends_as_told (setup_commands stream) s t in
    record { no_answer = told.no_answer; refused = told.refused; never_spent = told.never_spent }
