-- The receiver's clock, turn by turn.
use Rattle.std.proofs.Common.{◌≡◌, ℕ, ◌+◌, ◌-◌, ◌^◌, ◌<◌, ◌≤◌, min, Bool, true, false, List, [], ◌∷◌, ◌++◌, refl, ap, ap₂, sym, ◌∙◌, arith}
use Rattle.gev_acq.specs.Turns.{Turned}
use Rattle.gev_acq.specs.Moments.{told_in}
use Rattle.camera_reader.specs.declared.receiver_clock.ReceiverClock.{ReceiverClock}
use Rattle.camera_reader.specs.Hearing.{Arrival, is_datagram, moments_of}
use Rattle.camera_reader.specs.ReceiverClock.{most_rise, begins_at, told_at, read_at, told_with, read_with, told_from, receiver_moments, InOrder, steps_from, cut_steps, ReceiverClockCutsSteps}

-- ---- one more turn

-- the clock behind these turns
abbrev pub clock_behind : ReceiverClock → List Arrival → ReceiverClock
clock_behind c [] = c
clock_behind c (a ∷ xs) = clock_behind (read_with c a) xs

pub behind-push : (c : ReceiverClock) (xs : List Arrival) (a : Arrival) → clock_behind c (xs ++ a ∷ []) ≡ read_with (clock_behind c xs) a
behind-push c [] a = refl
behind-push c (x ∷ xs) a = behind-push (read_with c x) xs a

told-push : (c : ReceiverClock) (xs : List Arrival) (a : Arrival) → told_from c (xs ++ a ∷ []) ≡ told_from c xs ++ told_with (clock_behind c xs) a ∷ []
told-push c [] a = refl
told-push c (x ∷ xs) a = ap (λ l. told_with c x ∷ l) (told-push (read_with c x) xs a)

turns-push : (ts : List Turned) (t : Turned) → told_in (ts ++ t ∷ []) ≡ told_in ts ++ t.told ∷ []
turns-push [] t = refl
turns-push (x ∷ xs) t = ap (λ l. x.told ∷ l) (turns-push xs t)

pub told_more : (begin : ℕ) (clock : ReceiverClock) (made : List Turned) (arrivals : List Arrival) (t : Turned) (a : Arrival)
    → clock ≡ clock_behind (begins_at begin) arrivals → told_in made ≡ receiver_moments begin arrivals → t.told ≡ told_with clock a
    → told_in (made ++ t ∷ []) ≡ receiver_moments begin (arrivals ++ a ∷ [])
told_more begin clock made arrivals t a is each one =
    turns-push made t
    ∙ (ap (λ l. l ++ t.told ∷ []) each
    ∙ (ap (λ (m : ℕ). receiver_moments begin arrivals ++ m ∷ []) (one ∙ ap (λ (c : ReceiverClock). told_with c a) is)
    ∙ sym (told-push (begins_at begin) arrivals a)))

pub behind_more : (begin : ℕ) (clock later : ReceiverClock) (arrivals : List Arrival) (a : Arrival) → clock ≡ clock_behind (begins_at begin) arrivals
    → later ≡ read_with clock a → later ≡ clock_behind (begins_at begin) (arrivals ++ a ∷ [])
behind_more begin clock later arrivals a is one =
    one ∙ (ap (λ (c : ReceiverClock). read_with c a) is ∙ sym (behind-push (begins_at begin) arrivals a))

-- ---- the steps

first_fits : (m : ℕ) (xs : List Arrival) → InOrder m (moments_of xs) → m < 2 ^ 64
first_fits m [] fits = fits
first_fits m (a ∷ xs) order = let later : a.moment < 2 ^ 64 = first_fits a.moment xs order.1 in let low : m ≤ a.moment = order.0 in omega (arith, later, low)

abbrev clock_at : ℕ → ℕ → ReceiverClock
clock_at before told = record { before = before; told = told }

behind : (before told moment most : ℕ) → told ≤ before → before ≤ moment → min (told + min (moment - before) most) (2 ^ 64 - 1) ≤ moment
behind before told moment most late low = omega (arith, late, low)

step_cut : (before told moment most : ℕ) → told ≤ before → before ≤ moment → moment < 2 ^ 64
    → min (told + min (moment - before) most) (2 ^ 64 - 1) - told ≡ min (moment - before) most
step_cut before told moment most late low fits = omega (arith, late, low, fits)

cut_from : (before told : ℕ) (xs : List Arrival) → told ≤ before → InOrder before (moments_of xs)
    → steps_from told (told_from (clock_at before told) xs) ≡ cut_steps before xs
cut_from before told [] late order = refl
cut_from before told (a ∷ xs) late order =
    ap₂ (λ (m : ℕ) (l : List ℕ). m ∷ l)
    (step_cut before told a.moment (most_rise (is_datagram a.answer)) late order.0 (first_fits a.moment xs order.1))
    (cut_from a.moment (told_with (clock_at before told) a) xs (behind before told a.moment (most_rise (is_datagram a.answer)) late order.0) order.1)

pub cuts_steps : ReceiverClockCutsSteps
cuts_steps begin arrivals order = cut_from begin begin arrivals (omega arith) order
