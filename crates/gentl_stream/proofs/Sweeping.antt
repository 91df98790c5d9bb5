-- The entries of calls that sweep a queue and then go over its places.
use Rattle.std.proofs.Common.{◌≡◌, ℕ, List, ◌∷◌, ◌++◌, refl, ap, ◌∙◌}
use Rattle.board_machine.specs.declared.events.Event.{Event}
use Rattle.board_machine.specs.declared.events.Event.TheVariants.{SweepOut, SweepPool, Close}
use Rattle.board_calls.specs.Rounds.{lays, pools, LaysEach, PoolsEach, PoolsHeld}
use Rattle.board_calls.specs.Calls.{DiscardsOutput, DiscardsAll, Closes, FlushesToInput}
use Rattle.buffer_words.specs.Passes.{Token, Enters}
use Rattle.buffer_words.specs.Several.{EntersOf}
use Rattle.buffer_words.proofs.Several.{of_first, of_then}

pub discards_output : (s t u : Token) (is js : List ℕ) → js ≡ is → Enters s (SweepOut is) t → EntersOf t (LaysEach js) u → EntersOf s DiscardsOutput u
discards_output s t u is js e swept laid =
    of_first s t u (LaysEach js) DiscardsOutput (SweepOut is)
    (λ es kind. record { output = is; is = ap (λ fs. SweepOut is ∷ fs) (kind ∙ ap lays e) }) refl swept laid

both_laid : (s t u : Token) (is js ks ls : List ℕ) → ks ≡ is → ls ≡ js → EntersOf s (LaysEach ks) t → EntersOf t (LaysEach ls) u → EntersOf s (λ es. es ≡ lays is ++ lays js) u
both_laid s t u is js ks ls e f first second =
    of_then s t u (LaysEach ks) (LaysEach ls) (λ es. es ≡ lays is ++ lays js)
    (λ es fs one two. ap (λ gs. gs ++ fs) (one ∙ ap lays e) ∙ ap (λ gs. lays is ++ gs) (two ∙ ap lays f)) first second

pub discards_all : (s one two laid u : Token) (is js ks ls : List ℕ) → ks ≡ is → ls ≡ js
    → Enters s (SweepPool is) one → Enters one (SweepOut js) two → EntersOf two (LaysEach ks) laid → EntersOf laid (LaysEach ls) u → EntersOf s DiscardsAll u
discards_all s one two laid u is js ks ls e f swept swept_too first second =
    of_first s one u (λ es. es ≡ SweepOut js ∷ lays is ++ lays js) DiscardsAll (SweepPool is)
    (λ es kind. record { pooled = is; output = js; is = ap (λ fs. SweepPool is ∷ fs) kind }) refl swept
    (of_first one two u (λ es. es ≡ lays is ++ lays js) (λ es. es ≡ SweepOut js ∷ lays is ++ lays js) (SweepOut js)
    (λ es kind. ap (λ fs. SweepOut js ∷ fs) kind) refl swept_too (both_laid two laid u is js ks ls e f first second))

pub closes : (s marked one two laid u : Token) (is js ks ls : List ℕ) → ks ≡ is → ls ≡ js → Enters s Close marked
    → Enters marked (SweepOut is) one → Enters one (SweepPool js) two → EntersOf two (LaysEach ks) laid → EntersOf laid (LaysEach ls) u → EntersOf s Closes u
closes s marked one two laid u is js ks ls e f mark swept swept_too first second =
    of_first s marked u (λ es. es ≡ SweepOut is ∷ SweepPool js ∷ lays is ++ lays js) Closes Close
    (λ es kind. record { output = is; pooled = js; is = ap (λ fs. Close ∷ fs) kind }) refl mark
    (of_first marked one u (λ es. es ≡ SweepPool js ∷ lays is ++ lays js) (λ es. es ≡ SweepOut is ∷ SweepPool js ∷ lays is ++ lays js) (SweepOut is)
    (λ es kind. ap (λ fs. SweepOut is ∷ fs) kind) refl swept
    (of_first one two u (λ es. es ≡ lays is ++ lays js) (λ es. es ≡ SweepPool js ∷ lays is ++ lays js) (SweepPool js)
    (λ es kind. ap (λ fs. SweepPool js ∷ fs) kind) refl swept_too (both_laid two laid u is js ks ls e f first second)))

pub flushes_to_input : (s t mid u : Token) (is js : List ℕ) → js ≡ is → Enters s (SweepOut is) t → EntersOf t (PoolsEach js) mid → EntersOf mid PoolsHeld u → EntersOf s FlushesToInput u
flushes_to_input s t mid u is js e swept pooled held =
    of_first s t u (λ es. PoolsThenHeld es) FlushesToInput (SweepOut is)
    (λ es kind. record { output = is; rest = kind.0; is = ap (λ fs. SweepOut is ∷ fs) kind.2; held = kind.1 }) refl swept
    (of_then t mid u (PoolsEach js) PoolsHeld (λ es. PoolsThenHeld es)
    (λ es fs one two. (fs, two, ap (λ gs. gs ++ fs) (one ∙ ap pools e))) pooled held)
  where
    PoolsThenHeld : List Event → Type 0
    PoolsThenHeld es = (rest : List Event) × PoolsHeld rest × (es ≡ pools is ++ rest)
