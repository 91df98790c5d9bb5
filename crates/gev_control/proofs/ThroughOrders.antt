-- What is submitted while a list is gone through are its first commands.
use Rattle.std.proofs.Common.{◌≡◌, ℕ, ◌+◌, List, [], ◌∷◌, ◌++◌, Option, Some, None, refl, ap, sym, ◌∙◌, subst}
use Rattle.std.specs.Prelude.{slice_get, take, length}
use Rattle.gvcp_wire.specs.Messages.{PlainCommand}
use Rattle.client_machine.specs.declared.outcome.Outcome.{Outcome}
use Rattle.client_machine.specs.declared.outcome.Outcome.TheVariants.{Waiting, Idle, Acked, Refused, NoAnswer}
use Rattle.client_machine.specs.Machine.{Asked, Client, IsIdle, ticked, received, taken}
use Rattle.client_machine.specs.Events.{Event, ticks}
use Rattle.client_machine.specs.Laws.{IsAnswered}
use Rattle.client_machine.proofs.Ends.{ends_exact}
use Rattle.gev_links.specs.Links.{Address, Answer, nothing, failed, came}
use Rattle.gev_control.specs.declared.acq_end.AcqEnd.{AcqEnd}
use Rattle.gev_control.specs.declared.acq_end.AcqEnd.TheVariants as how
use Rattle.gev_control.specs.Controlled.{after_tick}
use Rattle.gev_control.specs.OrderTurns.{Progress, progress, OrderTurned, submits_next, next_with, next_part, end_at, hears_order, after_send, order_turn}
use Rattle.gev_control.specs.CarriesOut.{ControlSide, orders_after, CarriesOut}
use Rattle.gev_control.specs.CarriesThrough.{given_up, begins, goes_on}
use Rattle.gev_control.specs.ThroughLaws.{list_submitted, SubmitsThrough, ThroughInOrder}
use Rattle.gev_control.proofs.OrderRuns.{after_more}
use Rattle.gev_control.proofs.Submissions.{in_order, take_next}

-- ---- how many were submitted

none_next : (c : Option PlainCommand) (s : Progress) (moment : ℕ) → c ≡ None → (submits_next c s moment).state.begun ≡ s.begun
none_next None s moment is = refl
none_next (Some c) s moment is = absurd (cc)

part_one : (o : Option Asked) (c : PlainCommand) (s : Progress) (moment : ℕ) → s.begun ≡ 1 → (next_with o (c ∷ []) s moment).state.begun ≡ 1
part_one None c s moment one =
    none_next (slice_get (c ∷ []) s.begun) s moment (ap (λ n. slice_get (c ∷ []) n) one) ∙ one
part_one (Some asked) c s moment one = one

turns_one : (c : PlainCommand) (s : Progress) (ts : List OrderTurned) → s.begun ≡ 1 → (orders_after (c ∷ []) s ts).begun ≡ 1
turns_one c s [] one = one
turns_one c s (t ∷ ts) one = turns_one c (order_turn (c ∷ []) s t).state ts (part_one s.client.asked c s t.moment one)

first_one : (c : PlainCommand) (s : Client) (t : OrderTurned) → IsIdle s → (order_turn (c ∷ []) (progress s 0) t).state.begun ≡ 1
first_one c s t idle = ap (λ o. (next_with o (c ∷ []) (progress s 0) t.moment).state.begun) idle

all_one : (c : PlainCommand) (s : Client) (before : List OrderTurned) (last : OrderTurned) → IsIdle s
    → (orders_after (c ∷ []) (progress s 0) (before ++ last ∷ [])).begun ≡ 1
all_one c s [] last idle = first_one c s last idle
all_one c s (t ∷ ts) last idle = turns_one c (order_turn (c ∷ []) (progress s 0) t).state (ts ++ last ∷ []) (first_one c s t idle)

one_submitted : (camera : Address) (c : PlainCommand) (o n : ControlSide) (end : AcqEnd) (carried : CarriesOut camera (c ∷ []) o n end) → IsIdle o.client
    → list_submitted (c ∷ []) o carried ≡ c ∷ []
one_submitted camera c o n end carried idle =
    in_order (c ∷ []) o.client (carried.before ++ carried.last ∷ []) ∙ ap (λ k. take k (c ∷ [])) (all_one c o.client carried.before carried.last idle)

-- ---- none is outstanding then

answered_idle : (s : Client) (bytes : List ℕ) (moment status : ℕ) (a : IsAnswered s bytes status) → IsIdle (received s bytes moment).client
answered_idle s bytes moment status a = rw (a.read, a.outstanding, a.matches) refl

outcome_idle : (size begun : ℕ) (s : Client) (bytes : List ℕ) (moment : ℕ) (o : Outcome) (end : AcqEnd) → (received s bytes moment).outcome ≡ o
    → end_at size begun o ≡ Some end → IsIdle (received s bytes moment).client
outcome_idle size begun s bytes moment (Waiting req) end told e = absurd (cc)
outcome_idle size begun s bytes moment Idle end told e = absurd (cc)
outcome_idle size begun s bytes moment Acked end told e = answered_idle s bytes moment 0 (((ends_exact s).acked bytes moment).0 told)
outcome_idle size begun s bytes moment (Refused status) end told e =
    answered_idle s bytes moment status (((ends_exact s).refused bytes moment status).0 told).0
outcome_idle size begun s bytes moment (NoAnswer req) end told e = absurd (cc)

-- the turns went to their end without a fault or a command that had no answer
abbrev IsDone : AcqEnd → Type 0
IsDone end = given_up end ≡ None

heard_idle : (size : ℕ) (s : Client) (begun moment : ℕ) (heard : Option Answer) (end : AcqEnd) → (hears_order size s begun moment heard).end ≡ Some end → IsDone end
    → IsIdle (hears_order size s begun moment heard).client
heard_idle size s begun moment None end e done = let same : how.Fault ≡ end = cc in absurd (not_fault end same done)
  where
    not_fault : (x : AcqEnd) → how.Fault ≡ x → given_up x ≡ None → ⊥
    not_fault x is none = let bad : Some how.Fault ≡ None = ap given_up is ∙ none in cc
heard_idle size s begun moment (Some failed) end e done = let same : how.Fault ≡ end = cc in absurd (not_fault end same done)
  where
    not_fault : (x : AcqEnd) → how.Fault ≡ x → given_up x ≡ None → ⊥
    not_fault x is none = let bad : Some how.Fault ≡ None = ap given_up is ∙ none in cc
heard_idle size s begun moment (Some nothing) end e done = absurd (cc)
heard_idle size s begun moment (Some (came bytes peer)) end e done = outcome_idle size begun s bytes moment (received s bytes moment).outcome end refl e

-- by the outcome of the tick
tick_idle : (size : ℕ) (es : List Event) (k : Client) (o : Outcome) (begun : ℕ) (t : OrderTurned) (end : AcqEnd)
    → (after_send size (after_tick es k o).end (after_tick es k o) begun t).end ≡ Some end → IsDone end
    → IsIdle (after_send size (after_tick es k o).end (after_tick es k o) begun t).client
tick_idle size es k (Waiting req) begun t end e done = heard_idle size (taken k) begun t.moment t.heard end e done
tick_idle size es k Idle begun t end e done = heard_idle size (taken k) begun t.moment t.heard end e done
tick_idle size es k Acked begun t end e done = heard_idle size (taken k) begun t.moment t.heard end e done
tick_idle size es k (Refused status) begun t end e done = heard_idle size (taken k) begun t.moment t.heard end e done
tick_idle size es k (NoAnswer req) begun t end e done = let same : how.NoAnswer req ≡ end = cc in absurd (not_up end same done)
  where
    not_up : (x : AcqEnd) → how.NoAnswer req ≡ x → given_up x ≡ None → ⊥
    not_up x is none = let bad : Some (how.NoAnswer req) ≡ None = ap given_up is ∙ none in cc

turn_idle : (orders : List PlainCommand) (s : Progress) (t : OrderTurned) (end : AcqEnd) → (order_turn orders s t).end ≡ Some end → IsDone end
    → IsIdle (order_turn orders s t).state.client
turn_idle orders s t end e done =
    let k : Client = (next_part orders s t.moment).state.client in
    tick_idle (length orders) (ticks t.moment ∷ []) (ticked k t.moment).client (ticked k t.moment).outcome (next_part orders s t.moment).state.begun t end e done

list_idle : (camera : Address) (orders : List PlainCommand) (o n : ControlSide) (end : AcqEnd) (carried : CarriesOut camera orders o n end) → IsDone end → IsIdle n.client
list_idle camera orders o n end carried done =
    subst IsIdle (sym (carried.client ∙ ap (λ (s : Progress). s.client) (after_more orders (progress o.client 0) carried.before carried.last)))
    (turn_idle orders (orders_after orders (progress o.client 0) carried.before) carried.last end carried.ended done)

-- ---- all of them

pub through_in_order : ThroughInOrder
through_in_order camera orders o _ _ _ begins idle = record { submitted = refl; idle = idle }
through_in_order camera orders o _ _ _ (goes_on n m u refused refused_after command through there one) idle =
    let so_far : SubmitsThrough through = through_in_order camera orders o n m refused through idle in
    record {
      submitted =
          ap (λ l. l ++ list_submitted (command ∷ []) m one.carried) so_far.submitted
          ∙ (ap (λ l. take n orders ++ l) (one_submitted camera command m u one.how_so one.carried so_far.idle) ∙ take_next orders n command there);
      idle = list_idle camera (command ∷ []) m u one.how_so one.carried (sym one.ended);
    }
