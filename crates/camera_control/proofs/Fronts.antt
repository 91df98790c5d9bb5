-- What steps submit.
use Rattle.std.proofs.Common.{◌≡◌, ℕ, zero, suc, List, [], ◌∷◌, ◌++◌, Option, Some, None, refl, ap, sym, ◌∙◌, append_assoc}
use Rattle.std.proofs.lemmas.List.{append-nil}
use Rattle.std.specs.Prelude.{slice_get, take}
use Rattle.gvcp_wire.specs.Messages.{PlainCommand}
use Rattle.client_machine.specs.Machine.{Asked, Client, IsIdle}
use Rattle.gev_links.specs.Links.{Address}
use Rattle.gev_control.specs.declared.acq_end.AcqEnd.{AcqEnd}
use Rattle.gev_control.specs.OrderTurns.{Progress, progress, OrderTurned, submits_next, next_with, order_turn}
use Rattle.gev_control.specs.CarriesOut.{ControlSide, orders_after, CarriesOut}
use Rattle.gev_control.specs.ThroughLaws.{list_submitted}
use Rattle.gev_control.proofs.Submissions.{in_order}
use Rattle.camera_control.specs.declared.step.Step.{Step}
use Rattle.camera_control.specs.declared.step.Step.TheVariants as step
use Rattle.camera_control.specs.Steps.{commands_in}
use Rattle.camera_control.specs.Taking.{Makes, made_so, begins, goes_on, steps_in}
use Rattle.camera_control.specs.Laws.{commands_of, StepsInOrder, FrontInOrder}
use Rattle.camera_control.proofs.Joining.{steps-append}

-- ---- one command

none_next : (c : Option PlainCommand) (s : Progress) (moment : ℕ) → c ≡ None → (submits_next c s moment).state.begun ≡ s.begun
none_next None s moment is = refl
none_next (Some c) s moment is = absurd (cc)

part_one : (o : Option Asked) (c : PlainCommand) (s : Progress) (moment : ℕ) → s.begun ≡ 1 → (next_with o (c ∷ []) s moment).state.begun ≡ 1
part_one None c s moment one = none_next (slice_get (c ∷ []) s.begun) s moment (ap (λ n. slice_get (c ∷ []) n) one) ∙ one
part_one (Some asked) c s moment one = one

turns_one : (c : PlainCommand) (s : Progress) (ts : List OrderTurned) → s.begun ≡ 1 → (orders_after (c ∷ []) s ts).begun ≡ 1
turns_one c s [] one = one
turns_one c s (t ∷ ts) one = turns_one c (order_turn (c ∷ []) s t).state ts (part_one s.client.asked c s t.moment one)

first_one : (c : PlainCommand) (s : Client) (t : OrderTurned) → IsIdle s → (order_turn (c ∷ []) (progress s 0) t).state.begun ≡ 1
first_one c s t idle = ap (λ o. (next_with o (c ∷ []) (progress s 0) t.moment).state.begun) idle

all_one : (c : PlainCommand) (s : Client) (before : List OrderTurned) (last : OrderTurned) → IsIdle s
    → (orders_after (c ∷ []) (progress s 0) (before ++ last ∷ [])).begun ≡ 1
all_one c s [] last idle = first_one c s last idle
all_one c s (t ∷ ts) last idle = turns_one c (order_turn (c ∷ []) (progress s 0) t).state (ts ++ last ∷ []) (first_one c s t idle)

pub one_submitted : (camera : Address) (c : PlainCommand) (o n : ControlSide) (end : AcqEnd) (carried : CarriesOut camera (c ∷ []) o n end) → IsIdle o.client
    → list_submitted (c ∷ []) o carried ≡ c ∷ []
one_submitted camera c o n end carried idle =
    in_order (c ∷ []) o.client (carried.before ++ carried.last ∷ []) ∙ ap (λ k. take k (c ∷ [])) (all_one c o.client carried.before carried.last idle)

take_nil : (l : List PlainCommand) (n : ℕ) → l ≡ [] → take n l ≡ []
take_nil [] zero e = refl
take_nil [] (suc n) e = refl
take_nil (c ∷ cs) n e = let bad : ⊥ = cc in absurd bad

none_submitted : (camera : Address) (o n : ControlSide) (end : AcqEnd) (carried : CarriesOut camera [] o n end) → list_submitted [] o carried ≡ []
none_submitted camera o n end carried =
    in_order [] o.client (carried.before ++ carried.last ∷ []) ∙ take_nil [] (orders_after [] (progress o.client 0) (carried.before ++ carried.last ∷ [])).begun refl

-- ---- steps

step_submitted : (camera : Address) (s : Step) (o n : ControlSide) (end : AcqEnd) (makes : Makes camera s o n end)
    → list_submitted (commands_in s) o makes.carried ≡ commands_in s
step_submitted camera step.Ask o n end makes = one_submitted camera _ o n end makes.carried makes.ready
step_submitted camera (step.Read register) o n end makes = one_submitted camera _ o n end makes.carried makes.ready
step_submitted camera (step.Write register value) o n end makes = one_submitted camera _ o n end makes.carried makes.ready
step_submitted camera (step.Stop register value) o n end makes = one_submitted camera _ o n end makes.carried makes.ready
step_submitted camera (step.Await heartbeat) o n end makes = none_submitted camera o n end makes.carried

commands-append : (xs ys : List Step) → commands_of (xs ++ ys) ≡ commands_of xs ++ commands_of ys
commands-append [] ys = refl
commands-append (x ∷ xs) ys =
    ap (λ (l : List PlainCommand). commands_in x ++ l) (commands-append xs ys) ∙ sym (append_assoc (commands_in x) (commands_of xs) (commands_of ys))

-- one more, behind these
one_more : (log : List Step) (s : Step) → commands_of log ++ commands_in s ≡ commands_of (log ++ s ∷ [])
one_more log s = ap (λ (l : List PlainCommand). commands_of log ++ l) (sym (append-nil (commands_in s))) ∙ sym (commands-append log (s ∷ []))

pub steps_in_order : StepsInOrder
steps_in_order camera o _ _ begins = refl
steps_in_order camera o _ _ (goes_on log m n s end passes makes on) =
    ap (λ (l : List PlainCommand). l ++ list_submitted (commands_in s) m makes.carried) (steps_in_order camera o log m passes)
    ∙ (ap (λ (l : List PlainCommand). commands_of (steps_in log) ++ l) (step_submitted camera s m n end makes)
    ∙ (one_more (steps_in log) s ∙ ap commands_of (sym (steps-append log (made_so s end n ∷ [])))))

pub front_in_order : FrontInOrder
front_in_order camera steps done o n cause halts =
    ap (λ (l : List PlainCommand). l ++ list_submitted (commands_in halts.last) halts.m halts.makes.carried)
    (steps_in_order camera o halts.log halts.m halts.passes)
    ∙ (ap (λ (l : List PlainCommand). commands_of (steps_in halts.log) ++ l) (step_submitted camera halts.last halts.m n halts.end halts.makes)
    ∙ one_more (steps_in halts.log) halts.last)
