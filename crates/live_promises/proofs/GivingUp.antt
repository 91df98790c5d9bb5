-- What the acts so far say of the command that is outstanding, up to the tick that gives it up.
use Rattle.std.proofs.Common.{◌≡◌, inl, inr, ℕ, ◌<◌, true, false, List, [], ◌∷◌, Option, Some, None, refl, sym, subst, ◌∙◌}
use Rattle.std.specs.Prelude.{option_map}
use Rattle.gvcp_wire.specs.Messages.{PlainCommand}
use Rattle.client_machine.specs.declared.outcome.Outcome.TheVariants.{NoAnswer}
use Rattle.client_machine.specs.Machine.{Asked, Client, Told, outcome_after, submitted_with, ticked, to_send, not_waiting, taken}
use Rattle.client_machine.specs.Events.{submits, ticks, receives}
use Rattle.client_machine.proofs.Limits.{step_keeps}
use Rattle.gev_control.specs.Controlled.{listed}
use Rattle.live_promises.specs.Moves.{Move, sends, sends_all, later_moves}
use Rattle.live_promises.specs.ClientCauses.{IsUnanswered}
use Rattle.live_promises.proofs.ClientKeeping.{later-append, Kept, kept_on, take_kept, TickCame, tick_kept, new_tick, receive_kept}
use Rattle.live_promises.specs.Acts.{Act, turns, gets, asks, with_given, clocked, behind, behind_all, moves_by, moves_in, NoneLost}
use Rattle.live_promises.specs.ReceiveCauses.{HadNoAnswer}
use Rattle.live_promises.proofs.Lists.{given_up_idle}
use Rattle.live_promises.proofs.Outstanding.{IsUp, is_up}
use Rattle.live_promises.proofs.Stepping.{GaveUp}

-- the outstanding command was sent as often as it counts, and the client's sends have a limit
abbrev pub KeptSo : Client → List Move → Type 0
KeptSo s ms = (0 < s.limit) × Kept s.asked ms

-- ---- a tick

submitted_came : (s : Client) (c : PlainCommand) (moment : ℕ) (ms : List Move) (o : Option Asked) → s.asked ≡ o → 0 < s.limit → Kept o ms
    → TickCame (ticked (submitted_with o s c moment) moment) ms
submitted_came s c moment ms None idle some kept = new_tick s c moment ms None some refl
submitted_came s c moment ms (Some asked) is some kept = tick_kept s moment ms s.asked refl (subst (λ (o : Option Asked). Kept o ms) (sym is) kept)

clocked_came : (s : Client) (given : Option PlainCommand) (moment : ℕ) (ms : List Move) → KeptSo s ms → TickCame (clocked s given moment) ms
clocked_came s None moment ms kept = tick_kept s moment ms s.asked refl kept.1
clocked_came s (Some c) moment ms kept = submitted_came s c moment ms s.asked refl kept.0 kept.1

none_kept : (o : Option Asked) (ms : List Move) → o ≡ None → Kept (option_map not_waiting o) (later_moves ms (sends_all (listed (to_send o))))
none_kept None ms idle = tt
none_kept (Some asked) ms idle = let bad : ⊥ = cc in absurd bad

taken_kept : (k : Client) (moment : ℕ) (ms : List Move) → TickCame (ticked k moment) ms
    → Kept (taken (ticked k moment).client).asked (later_moves ms (sends_all (listed (to_send (ticked k moment).client.asked))))
taken_kept k moment ms (inl due) = take_kept (ticked k moment).client.asked ms due.0
taken_kept k moment ms (inr up) = none_kept (ticked k moment).client.asked ms (given_up_idle k moment up.0 up.1.0)

given_keeps : (s : Client) (given : Option PlainCommand) (moment : ℕ) → (with_given given s moment).limit ≡ s.limit
given_keeps s None moment = refl
given_keeps s (Some c) moment = step_keeps s (submits c moment)

-- ---- an act

act_kept : (s : Client) (a : Act) (ms : List Move) → NoneLost (a ∷ []) → KeptSo s ms → KeptSo (behind s a) (later_moves ms (moves_by s a))
act_kept s (turns given moment true) ms whole kept = (
  subst (λ (n : ℕ). 0 < n) (sym (step_keeps (with_given given s moment) (ticks moment) ∙ given_keeps s given moment)) kept.0,
  taken_kept (with_given given s moment) moment ms (clocked_came s given moment ms kept),
)
act_kept s (turns given moment false) ms whole kept = let bad : false ≡ true = whole.0 in absurd (cc)
act_kept s (gets bytes moment) ms whole kept = (subst (λ (n : ℕ). 0 < n) (sym (step_keeps s (receives bytes moment))) kept.0, receive_kept s bytes moment ms kept.1)
act_kept s (asks bytes) ms whole kept = (kept.0, kept_on s.asked (sends bytes) ms (λ asked is. refl) kept.1)

pub acts_kept : (s : Client) (acts : List Act) (ms : List Move) → NoneLost acts → KeptSo s ms → KeptSo (behind_all s acts) (later_moves ms (moves_in s acts))
acts_kept s [] ms whole kept = kept
acts_kept s (a ∷ rest) ms whole kept =
    subst (KeptSo (behind_all (behind s a) rest)) (sym (later-append ms (moves_by s a) (moves_in (behind s a) rest)))
    (acts_kept (behind s a) rest (later_moves ms (moves_by s a)) whole.1 (act_kept s a ms (whole.0, tt) kept))

-- ---- the tick that gives it up

not_up : (o : Option Asked) (req : ℕ) → outcome_after o ≡ NoAnswer req → ⊥
not_up None req is = cc
not_up (Some asked) req is = cc

unanswered_by : (told : Told) (req : ℕ) (ms : List Move) → told.outcome ≡ NoAnswer req → TickCame told ms → IsUnanswered req ms
unanswered_by told req ms is (inl due) = absurd (not_up told.client.asked req (sym due.1 ∙ is))
unanswered_by told req ms is (inr up) = subst (λ (n : ℕ). IsUnanswered n ms) (number (sym up.1.0 ∙ is)) up.1.1
  where
    number : NoAnswer up.0 ≡ NoAnswer req → up.0 ≡ req
    number e = cc

-- From a client that has none outstanding on, and whose sends have a limit, a command that was given up had no answer.
pub had_no_answer : (req : ℕ) (o : Client) (acts : List Act) → o.asked ≡ None → 0 < o.limit → GaveUp req o acts → HadNoAnswer req o acts
had_no_answer req o acts idle some gave =
    let there : Client = behind_all o gave.before in
    let kept : KeptSo there (later_moves [] (moves_in o gave.before)) =
    acts_kept o gave.before [] gave.whole (some, subst (λ (x : Option Asked). Kept x []) (sym idle) tt) in
    let up : IsUp (with_given gave.given there gave.moment) gave.moment req = is_up (with_given gave.given there gave.moment) gave.moment req gave.up in
    record {
      before = gave.before;
      given = gave.given;
      moment = gave.moment;
      sent = gave.sent;
      later = gave.later;
      are = gave.are;
      asked = up.asked;
      outstanding = up.outstanding;
      req_is = up.req_is;
      waited = up.waited;
      unanswered = unanswered_by (clocked there gave.given gave.moment) req (later_moves [] (moves_in o gave.before)) gave.up (clocked_came there gave.given gave.moment (later_moves [] (moves_in o gave.before)) kept);
    }
