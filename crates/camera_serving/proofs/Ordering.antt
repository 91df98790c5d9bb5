-- When a frame turn comes.
use Rattle.std.proofs.Common.{◌≡◌, ℕ, ◌+◌, ◌≤◌, Bool, true, false, List, [], ◌∷◌, ◌++◌, length, Option, Some, None, refl, sym, subst, ◌∙◌, arith}
use Rattle.std.specs.Prelude.{◌-◌, ◌==◌, ◌&&◌, max, nat_le, if◌then◌else◌}
use Rattle.std.proofs.lemmas.Bool.{eqb-true, leb-true, ne_eqb}
use Rattle.camera_serving.specs.declared.kinds.TurnKind.{TurnKind}
use Rattle.camera_serving.specs.declared.kinds.TurnKind.TheVariants.{Serving, Framing}
use Rattle.camera_serving.specs.Turns.{Turn, period, latest_moment, last_frame, MOST_SERVING, serving_left, has_passed, kind_with, next_kind}
use Rattle.camera_serving.specs.Laws.{ComesInTime, FrameTurnsAreApart, AreServed, AllIsServedFirst}

chosen : (a b : Bool) → (if a && b then Framing else Serving) ≡ Framing → (a ≡ true) × (b ≡ true)
chosen true true is = (refl, refl)
chosen true false is = let bad : ⊥ = cc in absurd bad
chosen false b is = let bad : ⊥ = cc in absurd bad

apart : (wait : ℕ) (framed : Option ℕ) (latest begun : ℕ) → 1 ≤ wait → has_passed wait framed latest ≡ true → framed ≡ Some begun → begun + wait ≤ latest
apart wait framed latest begun some passed is =
    let come : nat_le wait (latest - begun) ≡ true = subst (λ (f : Option ℕ). has_passed wait f latest ≡ true) is passed in
    let least = leb-true wait (latest - begun) come in
    omega (arith, least, some)

pub frame_turns_apart : (rate : ℕ) (t : Turn) (before : List Turn) → FrameTurnsAreApart rate t before
frame_turns_apart rate t before = λ order framing.
    let both = chosen (has_passed (period rate) (last_frame before) (latest_moment before)) (serving_left before == 0) (sym order.1 ∙ framing) in
    record {
      time = λ begun is. apart (period rate) (last_frame before) (latest_moment before) begun (omega arith) both.0 is;
      served = eqb-true (serving_left before) 0 both.1;
    }

-- so many of the serving turns are still left
left_behind : (before ts : List Turn) → serving_left before ≡ MOST_SERVING → AreServed ts → serving_left (ts ++ before) ≡ MOST_SERVING - length ts
left_behind before [] all served = all
left_behind before (t ∷ ts) all served =
    let less : serving_left (ts ++ before) ≡ MOST_SERVING - length ts = left_behind before ts all served.0 in
    rw (served.1, served.2) (omega (arith, less))

not_yet : (passed : Bool) (left : ℕ) → 1 ≤ left → (if passed && (left == 0) then Framing else Serving) ≡ Serving
not_yet true left some =
    let more : (left == 0) ≡ false = ne_eqb left 0 (λ none. omega (arith, none, some)) in
    rw more refl
not_yet false left some = refl

pub served_first : (rate : ℕ) (before ts : List Turn) → AllIsServedFirst rate before ts
served_first rate before ts = λ all served few.
    let left = left_behind before ts all served in
    not_yet (has_passed (period rate) (last_frame (ts ++ before)) (latest_moment (ts ++ before))) (serving_left (ts ++ before)) (omega (arith, left, few))
