-- A command that was submitted is over before the next one is.
use Rattle.std.proofs.Common.{◌≡◌, inl, inr, ℕ, Bool, List, [], ◌∷◌, ◌++◌, Option, Some, None, refl, ap, sym, subst, ◌∙◌, append_assoc}
use Rattle.std.specs.Prelude.{option_map}
use Rattle.gvcp_wire.specs.Messages.{PlainCommand}
use Rattle.gvcp_wire.specs.Reading.{ack_reading}
use Rattle.client_machine.specs.Commands.{next_req}
use Rattle.client_machine.specs.Machine.{Asked, Client, submitted_with, not_waiting, taken, received}
use Rattle.client_machine.specs.Events.{Request, request_of, new_request}
use Rattle.live_promises.specs.Acts.{Act, turns, gets, asks, with_given, clocked, behind, behind_all, Ended, ended_as, ended_by, ended_in}
use Rattle.live_promises.specs.Commands.{IsOver, CommandsWait}
use Rattle.live_promises.proofs.Outstanding.{IsOut, TickOut, tick_out, ReceiveOut, receive_out, IsUp, is_up}
use Rattle.live_promises.proofs.Stepping.{submit_out}

later_over : (r : Request) (s : Client) (a : Act) (rest : List Act) → IsOver r (behind s a) rest → IsOver r s (a ∷ rest)
later_over r s a rest (inl answered) = inl (record {
  before = ended_by s a ++ answered.before;
  ended = answered.ended;
  later = answered.later;
  are = ap (λ (l : List Ended). ended_by s a ++ l) answered.are ∙ sym (append_assoc (ended_by s a) answered.before (answered.ended ∷ answered.later));
  of_request = answered.of_request;
})
later_over r s a rest (inr up) = inr (record {
  before = a ∷ up.before;
  given = up.given;
  moment = up.moment;
  sent = up.sent;
  later = up.later;
  are = ap (λ (l : List Act). a ∷ l) up.are;
  asked = up.asked;
  outstanding = up.outstanding;
  of_request = up.of_request;
  waited = up.waited;
})

-- ---- a tick

given_to : (s : Client) (c : PlainCommand) (moment : ℕ) (asked : Asked) (o : Option Asked) → o ≡ Some asked → submitted_with o s c moment ≡ s
given_to s c moment asked None is = let bad : ⊥ = cc in absurd bad
given_to s c moment asked (Some x) is = refl

given_out : (r : Request) (s : Client) (given : Option PlainCommand) (moment : ℕ) → IsOut r s → IsOut r (with_given given s moment)
given_out r s None moment out = out
given_out r s (Some c) moment out = subst (IsOut r) (sym (given_to s c moment out.0 s.asked out.1.0)) out

same_asked : (x y : Asked) → Some x ≡ Some y → x ≡ y
same_asked x y is = cc

ticked_over : (r : Request) (s : Client) (given : Option PlainCommand) (moment : ℕ) (sent : Bool) (rest : List Act) → IsOut r (with_given given s moment)
    → TickOut r (clocked s given moment) → (IsOut r (taken (clocked s given moment).client) → IsOver r (taken (clocked s given moment).client) rest)
    → IsOver r s (turns given moment sent ∷ rest)
ticked_over r s given moment sent rest out (inl still) more =
    later_over r s (turns given moment sent) rest (more (not_waiting still.asked, (ap (option_map not_waiting) still.is, still.of_request)))
ticked_over r s given moment sent rest out (inr gives) more =
    let up : IsUp (with_given given s moment) moment gives.0 = is_up (with_given given s moment) moment gives.0 gives.1 in
    inr (record {
      before = [];
      given = given;
      moment = moment;
      sent = sent;
      later = rest;
      are = refl;
      asked = up.asked;
      outstanding = up.outstanding;
      of_request = ap request_of (same_asked up.asked out.0 (sym up.outstanding ∙ out.1.0)) ∙ out.1.1;
      waited = up.waited;
    })

-- ---- a receive

received_over : (r : Request) (s : Client) (bytes : List ℕ) (moment : ℕ) (rest : List Act) → ReceiveOut r (ended_as s.asked (ack_reading bytes)) (received s bytes moment)
    → (IsOut r (received s bytes moment).client → IsOver r (received s bytes moment).client rest) → IsOver r s (gets bytes moment ∷ rest)
received_over r s bytes moment rest (inl still) more = later_over r s (gets bytes moment) rest (more (still.0.asked, (still.0.is, still.0.of_request)))
received_over r s bytes moment rest (inr it) more = inl (record {
  before = [];
  ended = it.ended;
  later = ended_in (received s bytes moment).client rest;
  are = ap (λ (l : List Ended). l ++ ended_in (received s bytes moment).client rest) it.is;
  of_request = it.of_request;
})

-- ---- all acts

none_out : (r : Request) (s : Client) → IsOut r s → s.asked ≡ None → ⊥
none_out r s out idle = let bad : None ≡ Some out.0 = sym idle ∙ out.1.0 in cc

over_from : (r : Request) (s : Client) (acts : List Act) → IsOut r s → (behind_all s acts).asked ≡ None → IsOver r s acts
over_from r s [] out idle = absurd (none_out r s out idle)
over_from r s (turns given moment sent ∷ rest) out idle =
    let there : IsOut r (with_given given s moment) = given_out r s given moment out in
    ticked_over r s given moment sent rest there (tick_out r (with_given given s moment) moment there)
    (λ still. over_from r (taken (clocked s given moment).client) rest still idle)
over_from r s (gets bytes moment ∷ rest) out idle =
    received_over r s bytes moment rest (receive_out r s bytes moment out) (λ still. over_from r (received s bytes moment).client rest still idle)
over_from r s (asks bytes ∷ rest) out idle = later_over r s (asks bytes) rest (over_from r s rest out idle)

pub commands_wait : CommandsWait
commands_wait s c moment sent acts idle over =
    let out : IsOut (new_request (next_req s.last_req) c) (with_given (Some c) s moment) = submit_out s c moment s.asked idle in
    ticked_over (new_request (next_req s.last_req) c) s (Some c) moment sent acts out (tick_out (new_request (next_req s.last_req) c) (with_given (Some c) s moment) moment out)
    (λ still. over_from (new_request (next_req s.last_req) c) (taken (clocked s (Some c) moment).client) acts still over)
