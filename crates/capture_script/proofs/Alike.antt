-- What the script's own acquisition, whose buffers lie at place 0, has in common with the trace's.
use Rattle.std.proofs.Common.{◌≡◌, ℕ, List, [], ◌∷◌, length, map, refl, ap, ◌∙◌, arith, length-append}
use Rattle.std.specs.Prelude.{Option, Some, None}
use Rattle.acquisition_machine.specs.declared.config.AcqConfig.{AcqConfig}
use Rattle.acquisition_machine.specs.Blocks.{Given, Retirement, fill_of, fills}
use Rattle.acquisition_machine.specs.Machine.{Input, datagram, State, Turn, step}
use Rattle.acquisition_machine.specs.Runs.{after_from, retired_from}
use Rattle.acquisition_machine.specs.Erased.{bare_given, bare, bare_state, bare_input, bare_retirement}
use Rattle.acquisition_machine.proofs.Lists.{places_are_not_read}

fill_bares : (p : ℕ) (r q : Retirement) (g : Option Given) → length (fill_of p r (bare_given g)) ≡ length (fill_of p q g)
fill_bares p r q None = refl
fill_bares p r q (Some g) = refl

fills_bare : (p : ℕ) (rs : List Retirement) → length (fills p (map bare_retirement rs)) ≡ length (fills p rs)
fills_bare p [] = refl
fills_bare p (r ∷ rs) =
    let a = fill_bares p (bare_retirement r) r r.was.given in
    let b = fills_bare p rs in
    let c = length-append (fill_of p (bare_retirement r) (bare_given r.was.given)) (fills p (map bare_retirement rs)) in
    let d = length-append (fill_of p r r.was.given) (fills p rs) in
    omega (arith, a, b, c, d)

-- as many are filled
pub filled_alike : (c : AcqConfig) (p : ℕ) (r s : State) (q : List Input) → r ≡ bare_state s
    → length (fills p (retired_from c r (map bare_input q))) ≡ length (fills p (retired_from c s q))
filled_alike c p r s q e =
    ap (λ u. length (fills p (retired_from c u (map bare_input q)))) e
    ∙ (ap (λ l. length (fills p l)) (places_are_not_read.retired c s q) ∙ fills_bare p (retired_from c s q))

pub after_alike : (c : AcqConfig) (r s : State) (q : List Input) → r ≡ bare_state s → after_from c r (map bare_input q) ≡ bare_state (after_from c s q)
after_alike c r s q e = ap (λ u. after_from c u (map bare_input q)) e ∙ places_are_not_read.after c s q

pub need_alike : (c : AcqConfig) (r s : State) (bytes : List ℕ) → r ≡ bare_state s → (step c r (datagram bytes)).need ≡ (step c s (datagram bytes)).need
need_alike c r s bytes e =
    ap (λ u. (step c u (datagram bytes)).need) e ∙ ap (λ (t : Turn). t.need) (places_are_not_read.step c s (datagram bytes))
