-- One step: what is outstanding, how it ends, and what is left.
use Rattle.std.proofs.Common.{◌≡◌, ℕ, Bool, true, false, List, [], ◌∷◌, Option, Some, None, IsSome, refl, ap, sym, ◌∙◌, subst}
use Rattle.std.specs.Prelude.{length, nat_lt, ◌==◌, if◌then◌else◌}
use Rattle.gvcp_wire.specs.Messages.{PlainCommand}
use Rattle.client_machine.specs.declared.outcome.Outcome.{Outcome}
use Rattle.client_machine.specs.declared.outcome.Outcome.TheVariants.{Waiting, Idle, Acked, Refused, NoAnswer}
use Rattle.client_machine.specs.Times.{SENDS}
use Rattle.client_machine.specs.Commands.{heartbeat}
use Rattle.client_machine.specs.Machine.{Asked, Client, IsIdle, outcome_after, goes_on, with_command, is_heartbeat_due, is_late, sent_again, ticked_with, ticked, received, taken}
use Rattle.client_machine.specs.Events.{Event, ticks}
use Rattle.client_machine.specs.Laws.{IsAnswered}
use Rattle.client_machine.proofs.Ends.{ends_exact}
use Rattle.bootstrap_regs.specs.Addresses.{CCP}
use Rattle.gev_links.specs.Links.{Address, Answer, nothing, failed, came}
use Rattle.gev_control.specs.declared.acq_end.AcqEnd.{AcqEnd}
use Rattle.gev_control.specs.declared.acq_end.AcqEnd.TheVariants as how
use Rattle.gev_control.specs.Controlled.{after_tick}
use Rattle.gev_control.specs.Ends.{is_fault_end}
use Rattle.gev_control.specs.Sends.{Fails}
use Rattle.gev_control.specs.OrderTurns.{Progress, progress, OrderTurned, next_part, end_at, hears_order, after_send, order_turn}
use Rattle.gev_control.specs.CarriesOut.{ControlSide, orders_after, CarriesOut}
use Rattle.gev_control.specs.CarriesThrough.{given_up}
use Rattle.gev_control.proofs.OrderEnds.{ends_as_told}
use Rattle.gev_control.proofs.OrderRuns.{after_more}
use Rattle.camera_control.specs.declared.step.Step.{Step}
use Rattle.camera_control.specs.declared.step.Step.TheVariants as step
use Rattle.camera_control.specs.declared.control_end.ControlEnd.{ControlEnd}
use Rattle.camera_control.specs.declared.control_end.ControlEnd.TheVariants as ends
use Rattle.camera_control.specs.Steps.{ACCESS_DENIED, commands_in, is_held, held_cause, lost_cause, told_cause, refused_cause, cause_of}
use Rattle.camera_control.specs.Taking.{IsReady, is_fault}

-- ---- none is outstanding then

answered_idle : (s : Client) (bytes : List ℕ) (moment status : ℕ) (a : IsAnswered s bytes status) → IsIdle (received s bytes moment).client
answered_idle s bytes moment status a = rw (a.read, a.outstanding, a.matches) refl

outcome_idle : (size begun : ℕ) (s : Client) (bytes : List ℕ) (moment : ℕ) (o : Outcome) (end : AcqEnd) → (received s bytes moment).outcome ≡ o
    → end_at size begun o ≡ Some end → IsIdle (received s bytes moment).client
outcome_idle size begun s bytes moment (Waiting req) end told e = absurd (cc)
outcome_idle size begun s bytes moment Idle end told e = absurd (cc)
outcome_idle size begun s bytes moment Acked end told e = answered_idle s bytes moment 0 (((ends_exact s).acked bytes moment).0 told)
outcome_idle size begun s bytes moment (Refused status) end told e =
    answered_idle s bytes moment status (((ends_exact s).refused bytes moment status).0 told).0
outcome_idle size begun s bytes moment (NoAnswer req) end told e = absurd (cc)

-- the turns went to their end without a fault or a command that had no answer
abbrev pub IsDone : AcqEnd → Type 0
IsDone end = given_up end ≡ None

not_fault : (x : AcqEnd) → how.Fault ≡ x → given_up x ≡ None → ⊥
not_fault x is none = let bad : Some how.Fault ≡ None = ap given_up is ∙ none in cc

not_up : (req : ℕ) (x : AcqEnd) → how.NoAnswer req ≡ x → given_up x ≡ None → ⊥
not_up req x is none = let bad : Some (how.NoAnswer req) ≡ None = ap given_up is ∙ none in cc

heard_idle : (size : ℕ) (s : Client) (begun moment : ℕ) (heard : Option Answer) (end : AcqEnd) → (hears_order size s begun moment heard).end ≡ Some end → IsDone end
    → IsIdle (hears_order size s begun moment heard).client
heard_idle size s begun moment None end e done = let same : how.Fault ≡ end = cc in absurd (not_fault end same done)
heard_idle size s begun moment (Some failed) end e done = let same : how.Fault ≡ end = cc in absurd (not_fault end same done)
heard_idle size s begun moment (Some nothing) end e done = absurd (cc)
heard_idle size s begun moment (Some (came bytes peer)) end e done = outcome_idle size begun s bytes moment (received s bytes moment).outcome end refl e

-- by the outcome of the tick
tick_idle : (size : ℕ) (es : List Event) (k : Client) (o : Outcome) (begun : ℕ) (t : OrderTurned) (end : AcqEnd)
    → (after_send size (after_tick es k o).end (after_tick es k o) begun t).end ≡ Some end → IsDone end
    → IsIdle (after_send size (after_tick es k o).end (after_tick es k o) begun t).client
tick_idle size es k (Waiting req) begun t end e done = heard_idle size (taken k) begun t.moment t.heard end e done
tick_idle size es k Idle begun t end e done = heard_idle size (taken k) begun t.moment t.heard end e done
tick_idle size es k Acked begun t end e done = heard_idle size (taken k) begun t.moment t.heard end e done
tick_idle size es k (Refused status) begun t end e done = heard_idle size (taken k) begun t.moment t.heard end e done
tick_idle size es k (NoAnswer req) begun t end e done = let same : how.NoAnswer req ≡ end = cc in absurd (not_up req end same done)

turn_idle : (orders : List PlainCommand) (s : Progress) (t : OrderTurned) (end : AcqEnd) → (order_turn orders s t).end ≡ Some end → IsDone end
    → IsIdle (order_turn orders s t).state.client
turn_idle orders s t end e done =
    let k : Client = (next_part orders s t.moment).state.client in
    tick_idle (length orders) (ticks t.moment ∷ []) (ticked k t.moment).client (ticked k t.moment).outcome (next_part orders s t.moment).state.begun t end e done

list_idle : (camera : Address) (orders : List PlainCommand) (o n : ControlSide) (end : AcqEnd) (carried : CarriesOut camera orders o n end) → IsDone end → IsIdle n.client
list_idle camera orders o n end carried done =
    subst IsIdle (sym (carried.client ∙ ap (λ (s : Progress). s.client) (after_more orders (progress o.client 0) carried.before carried.last)))
    (turn_idle orders (orders_after orders (progress o.client 0) carried.before) carried.last end carried.ended done)

-- ---- none is outstanding, also where it had no answer

never_spent : (camera : Address) (orders : List PlainCommand) (o n : ControlSide) → CarriesOut camera orders o n how.Spent → ⊥
never_spent camera orders o n carried =
    (ends_as_told orders (orders_after orders (progress o.client 0) carried.before) carried.last).never_spent carried.ended

late_idle : (s : Client) (asked : Asked) (moment req : ℕ) (late more : Bool)
    → (if late then (if more then goes_on (record s { asked = Some (sent_again s.limit asked moment) })
    else record { client = record s { asked = None }; outcome = NoAnswer asked.req }) else goes_on s).outcome ≡ NoAnswer req
    → s.asked ≡ Some asked
    → IsIdle (if late then (if more then goes_on (record s { asked = Some (sent_again s.limit asked moment) })
    else record { client = record s { asked = None }; outcome = NoAnswer asked.req }) else goes_on s).client
late_idle s asked moment req true false told there = refl
late_idle s asked moment req true true told there = let bad : ⊥ = cc in absurd bad
late_idle s asked moment req false more told there =
    let bad : Waiting asked.req ≡ NoAnswer req = ap outcome_after (sym there) ∙ told in absurd (cc)

due_outcome : (s : Client) (moment req : ℕ) (due : Bool) → s.asked ≡ None → (goes_on (if due then with_command s heartbeat moment else s)).outcome ≡ NoAnswer req → ⊥
due_outcome s moment req true none told = cc
due_outcome s moment req false none told = let bad : Idle ≡ NoAnswer req = ap outcome_after (sym none) ∙ told in cc

given_up_idle : (s : Client) (moment req : ℕ) (asked : Option Asked) → s.asked ≡ asked → (ticked_with asked s moment).outcome ≡ NoAnswer req
    → IsIdle (ticked_with asked s moment).client
given_up_idle s moment req None there told = absurd (due_outcome s moment req (is_heartbeat_due s.ended moment) there told)
given_up_idle s moment req (Some asked) there told = late_idle s asked moment req (is_late asked moment) (nat_lt asked.sends SENDS) told there

-- no receive tells it
stops_only : (last : Bool) (req : ℕ) → (if last then Some how.Stopped else None) ≡ Some (how.NoAnswer req) → ⊥
stops_only true req e = cc
stops_only false req e = cc

outcome_answers : (size begun : ℕ) (o : Outcome) (req : ℕ) → end_at size begun o ≡ Some (how.NoAnswer req) → ⊥
outcome_answers size begun (Waiting n) req e = cc
outcome_answers size begun Idle req e = cc
outcome_answers size begun Acked req e = stops_only (begun == size) req e
outcome_answers size begun (Refused status) req e = cc
outcome_answers size begun (NoAnswer n) req e = cc

hears_no_end : (size : ℕ) (s : Client) (begun moment req : ℕ) (heard : Option Answer) → (hears_order size s begun moment heard).end ≡ Some (how.NoAnswer req) → ⊥
hears_no_end size s begun moment req None e = cc
hears_no_end size s begun moment req (Some failed) e = cc
hears_no_end size s begun moment req (Some nothing) e = cc
hears_no_end size s begun moment req (Some (came bytes peer)) e = outcome_answers size begun (received s bytes moment).outcome req e

unanswered_idle : (size : ℕ) (es : List Event) (s : Client) (moment : ℕ) (o : Outcome) (begun : ℕ) (t : OrderTurned) (req : ℕ) → (ticked s moment).outcome ≡ o
    → (after_send size (after_tick es (ticked s moment).client o).end (after_tick es (ticked s moment).client o) begun t).end ≡ Some (how.NoAnswer req)
    → IsIdle (after_send size (after_tick es (ticked s moment).client o).end (after_tick es (ticked s moment).client o) begun t).client
unanswered_idle size es s moment (Waiting n) begun t req told e = absurd (hears_no_end size (taken (ticked s moment).client) begun t.moment req t.heard e)
unanswered_idle size es s moment Idle begun t req told e = absurd (hears_no_end size (taken (ticked s moment).client) begun t.moment req t.heard e)
unanswered_idle size es s moment Acked begun t req told e = absurd (hears_no_end size (taken (ticked s moment).client) begun t.moment req t.heard e)
unanswered_idle size es s moment (Refused n) begun t req told e = absurd (hears_no_end size (taken (ticked s moment).client) begun t.moment req t.heard e)
unanswered_idle size es s moment (NoAnswer n) begun t req told e = given_up_idle s moment n s.asked refl told

-- the client has none outstanding where a list ended without a fault
pub idle_unless_fault : (camera : Address) (orders : List PlainCommand) (o n : ControlSide) (end : AcqEnd) (carried : CarriesOut camera orders o n end)
    → is_fault_end end ≡ false → IsIdle n.client
idle_unless_fault camera orders o n how.Stopped carried whole = list_idle camera orders o n how.Stopped carried refl
idle_unless_fault camera orders o n (how.Refused status) carried whole = list_idle camera orders o n (how.Refused status) carried refl
idle_unless_fault camera orders o n how.Spent carried whole = absurd (never_spent camera orders o n carried)
idle_unless_fault camera orders o n how.Fault carried whole = let bad : ⊥ = cc in absurd bad
idle_unless_fault camera orders o n (how.NoAnswer req) carried whole =
    let s : Progress = orders_after orders (progress o.client 0) carried.before in
    let k : Client = (next_part orders s carried.last.moment).state.client in
    subst IsIdle (sym (carried.client ∙ ap (λ (p : Progress). p.client) (after_more orders (progress o.client 0) carried.before carried.last)))
    (unanswered_idle (length orders) (ticks carried.last.moment ∷ []) k carried.last.moment (ticked k carried.last.moment).outcome
    (next_part orders s carried.last.moment).state.begun carried.last req refl carried.ended)

-- ---- how it ends

passed_done : (s : Step) (end : AcqEnd) (told : Option ℕ) → cause_of s end told ≡ None → IsDone end
passed_done s how.Stopped told is = refl
passed_done s how.Spent told is = let bad : ⊥ = cc in absurd bad
passed_done s how.Fault told is = let bad : ⊥ = cc in absurd bad
passed_done s (how.NoAnswer req) told is = let bad : ⊥ = cc in absurd bad
passed_done s (how.Refused status) told is = refl

pub idle_then : (camera : Address) (s : Step) (o n : ControlSide) (end : AcqEnd) (told : Option ℕ) → CarriesOut camera (commands_in s) o n end
    → cause_of s end told ≡ None → IsIdle n.client
idle_then camera s o n end told carried is = list_idle camera (commands_in s) o n end carried (passed_done s end told is)

-- no fault is told by what was read, or by a refusal
abbrev pub IsPlain : Option ControlEnd → Type 0
IsPlain o = (cause : ControlEnd) → o ≡ Some cause → is_fault cause ≡ false

pub none_plain : IsPlain None
none_plain cause e = let bad : ⊥ = cc in absurd bad

pub some_plain : (x : ControlEnd) → is_fault x ≡ false → IsPlain (Some x)
some_plain x plain cause e = let same : x ≡ cause = cc in subst (λ (c : ControlEnd). is_fault c ≡ false) same plain

if_plain : (b : Bool) (x y : Option ControlEnd) → IsPlain x → IsPlain y → IsPlain (if b then x else y)
if_plain true x y p q = p
if_plain false x y p q = q

held_plain : (told : Option ℕ) → IsPlain (held_cause told)
held_plain None = none_plain
held_plain (Some privilege) = if_plain (is_held privilege) (Some ends.Controlled) None (some_plain ends.Controlled refl) none_plain

lost_plain : (heartbeat : Bool) (told : Option ℕ) → IsPlain (lost_cause heartbeat told)
lost_plain false told = none_plain
lost_plain true None = none_plain
lost_plain true (Some privilege) = if_plain (is_held privilege) None (Some ends.ControlLost) none_plain (some_plain ends.ControlLost refl)

told_plain : (s : Step) (told : Option ℕ) → IsPlain (told_cause s told)
told_plain step.Ask told = held_plain told
told_plain (step.Read register) told = none_plain
told_plain (step.Write register value) told = none_plain
told_plain (step.Stop register value) told = none_plain
told_plain (step.Await heartbeat) told = lost_plain heartbeat told

refused_plain : (s : Step) (status : ℕ) → IsPlain (refused_cause s status)
refused_plain step.Ask status =
    if_plain (status == ACCESS_DENIED) (Some ends.Controlled) (Some (ends.RefusedAt CCP status)) (some_plain ends.Controlled refl)
    (some_plain (ends.RefusedAt CCP status) refl)
refused_plain (step.Read register) status = none_plain
refused_plain (step.Write register value) status = some_plain (ends.RefusedAt register status) refl
refused_plain (step.Stop register value) status = none_plain
refused_plain (step.Await heartbeat) status = none_plain

-- the count of faults, by the cause that the end is
pub fails_by : (camera : Address) (s : Step) (o n : ControlSide) (end : AcqEnd) (told : Option ℕ) (cause : ControlEnd) (x y : ℕ)
    → CarriesOut camera (commands_in s) o n end → cause_of s end told ≡ Some cause → Fails false (is_fault_end end) x y
    → Fails false (is_fault cause) x y
fails_by camera s o n how.Stopped told cause x y carried is fails =
    subst (λ (b : Bool). Fails false b x y) (sym (told_plain s told cause is)) fails
fails_by camera s o n how.Spent told cause x y carried is fails = absurd (never_spent camera (commands_in s) o n carried)
fails_by camera s o n how.Fault told cause x y carried is fails =
    let same : ends.LinkFault ≡ cause = cc in subst (λ (c : ControlEnd). Fails false (is_fault c) x y) same fails
fails_by camera s o n (how.NoAnswer req) told cause x y carried is fails =
    let same : ends.NoAnswer req ≡ cause = cc in subst (λ (c : ControlEnd). Fails false (is_fault c) x y) same fails
fails_by camera s o n (how.Refused status) told cause x y carried is fails =
    subst (λ (b : Bool). Fails false b x y) (sym (refused_plain s status cause is)) fails

-- a step that went on had no fault
pub no_fault_by : (s : Step) (end : AcqEnd) (told : Option ℕ) (x y : ℕ) → cause_of s end told ≡ None → Fails false (is_fault_end end) x y → y ≡ x
no_fault_by s how.Stopped told x y is fails = fails
no_fault_by s how.Spent told x y is fails = let bad : ⊥ = cc in absurd bad
no_fault_by s how.Fault told x y is fails = let bad : ⊥ = cc in absurd bad
no_fault_by s (how.NoAnswer req) told x y is fails = let bad : ⊥ = cc in absurd bad
no_fault_by s (how.Refused status) told x y is fails = fails

-- ---- what is outstanding before it

-- a step that submits nothing waits for a command
pub waits_if : (s : Step) (c : Client) → commands_in s ≡ [] → IsReady s c → IsSome c.asked
waits_if step.Ask c none ready = let bad : ⊥ = cc in absurd bad
waits_if (step.Read register) c none ready = let bad : ⊥ = cc in absurd bad
waits_if (step.Write register value) c none ready = let bad : ⊥ = cc in absurd bad
waits_if (step.Stop register value) c none ready = let bad : ⊥ = cc in absurd bad
waits_if (step.Await heartbeat) c none ready = ready
