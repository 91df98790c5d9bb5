-- Turns of a receiver that asks for nothing.
use Rattle.std.proofs.Common.{◌≡◌, ℕ, ◌≤◌, List, [], ◌∷◌, ◌++◌, map, Option, refl, ap, ◌∙◌, subst, arith}
use Rattle.std.specs.List.{AllByRecursion}
use Rattle.client_machine.specs.Machine.{Client}
use Rattle.acquisition_machine.specs.declared.config.AcqConfig.{AcqConfig}
use Rattle.acquisition_machine.specs.Machine.{Input, State, Turn as MachineTurn, Request, tick, request_bytes}
use Rattle.acquisition_machine.specs.Runs.{After, turn}
use Rattle.acquisition_machine.specs.RequestLaws.{IsAsked}
use Rattle.acquisition_machine.proofs.Asking.{requests_are_missing}
use Rattle.gev_control.specs.declared.turn_end.TurnEnd.{TurnEnd}
use Rattle.gev_control.specs.declared.turn_end.TurnEnd.TheVariants as ends
use Rattle.gev_control.specs.Controlled.{sent_by, control_of}
use Rattle.packet_requests.specs.declared.id_mode.IdMode.{IdMode}
use Rattle.packet_requests.specs.Requests.{control_request}
use Rattle.gev_acq.specs.Turns.{Turned, inputs_before, inputs_of, SendsAll}
use Rattle.gev_acq.specs.Acquired.{sends_in}
use Rattle.camera_reader.specs.Asking.{requests_of, IsControlled}
use Rattle.camera_reader.specs.Laws.{WithoutRoundsNothingIsAsked}

none_of : (c : AcqConfig) (s : State) (t : MachineTurn) (rs : List Request) → c.rounds ≡ 0 → AllByRecursion (IsAsked c s t) rs → rs ≡ []
none_of c s t [] none all = refl
none_of c s t (r ∷ rs) none all = absurd (omega (arith, none, all.0.rounds_left))

unasked : (ids : IdMode) (c : AcqConfig) (q : List Input) (t : Turned) → 1 ≤ c.window → c.rounds ≡ 0 → requests_of ids c q t ≡ []
unasked ids c q t wide none =
    ap (λ (rs : List Request). map (control_request ids) (map request_bytes rs))
    (none_of c (After c (q ++ inputs_before t)) (turn c (q ++ inputs_before t) (tick t.told)) (turn c (q ++ inputs_before t) (tick t.told)).requests none
    (requests_are_missing c (q ++ inputs_before t) (tick t.told) wide))

-- a front of nothing is nothing
sent_own : (end : TurnEnd) (send : Option (List ℕ)) (sent : List (List ℕ)) → SendsAll end (sent_by end send) sent → sent ≡ sent_by end send
sent_own ends.GoesOn send sent is = is
sent_own ends.Fault send [] is = refl
sent_own ends.Fault send (x ∷ xs) is = let bad : ⊥ = cc in absurd bad
sent_own (ends.NoAnswer req) send sent is = is
sent_own (ends.Refused status) send sent is = is

one_own : (ids : IdMode) (c : AcqConfig) (q : List Input) (s : Client) (t : Turned) → 1 ≤ c.window → c.rounds ≡ 0 → IsControlled ids c q s t
    → t.sent ≡ sent_by t.end (control_of s t.heard t.moment).send
one_own ids c q s t wide none one =
    let send : Option (List ℕ) = (control_of s t.heard t.moment).send in
    sent_own t.end send t.sent (subst (λ l. SendsAll t.end (l ++ sent_by t.end send) t.sent) (unasked ids c q t wide none) one.sends)

pub nothing_is_asked : WithoutRoundsNothingIsAsked
nothing_is_asked ids c q s u [] wide none each = refl
nothing_is_asked ids c q s u (t ∷ ts) wide none each =
    ap (λ l. l ++ sends_in ts) (one_own ids c q s t wide none each.0)
    ∙ ap (λ l. sent_by t.end (control_of s t.heard t.moment).send ++ l)
    (nothing_is_asked ids c (q ++ inputs_of t) (control_of s t.heard t.moment).state u ts wide none each.1)
