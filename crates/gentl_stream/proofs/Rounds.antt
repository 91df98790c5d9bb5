-- The entries of calls that go over several places.
use Rattle.std.proofs.Common.{◌≡◌, ◌≢◌, ℕ, ◌+◌, ◌<◌, ◌≤◌, List, [], ◌∷◌, ◌++◌, length, take, get_or, Some, None, Ok, Err, refl, sym, ap, subst, ◌∙◌}
use Rattle.std.proofs.lemmas.List.{take_more, take_all}
use Rattle.gentl_types.specs.declared.word.Word.{Word}
use Rattle.gentl_types.specs.declared.word.State.TheVariants.{Held}
use Rattle.board_machine.specs.declared.events.Event.{Event}
use Rattle.board_machine.specs.declared.events.Event.TheVariants.{Look, Grab, Lay, Pool}
use Rattle.board_calls.specs.Rounds.{LaysEach, PoolsEach, PoolsIfHeld, PoolsHeldBelow}
use Rattle.board_calls.proofs.Lists.{lays-append, pools-append, held_more}
use Rattle.buffer_words.specs.Passes.{Token, Enters}
use Rattle.buffer_words.specs.Several.{EntersOf}
use Rattle.buffer_words.proofs.Several.{each_none, each_first, each_two, of_kind, of_one, of_push, of_then}

pub of_nothing : (s : Token) (K : List Event → Type 0) → K [] → EntersOf s K s
of_nothing s K kind = of_kind s s K [] kind (each_none s)

pub lays_more : (s t u : Token) (n : ℕ) (is : List ℕ) → n < length is → EntersOf s (LaysEach (take n is)) t → Enters t (Lay (get_or is n 0)) u → EntersOf s (LaysEach (take (n + 1) is)) u
lays_more s t u n is within before step =
    subst (λ (js : List ℕ). EntersOf s (LaysEach js) u) (sym (take_more is n 0 within))
    (of_push s t u (LaysEach (take n is)) (LaysEach (take n is ++ get_or is n 0 ∷ [])) (Lay (get_or is n 0))
    (λ es first. ap (λ gs. gs ++ Lay (get_or is n 0) ∷ []) first ∙ sym (lays-append (take n is) (get_or is n 0 ∷ []))) refl before step)

pub pools_more : (s t u : Token) (n : ℕ) (is : List ℕ) → n < length is → EntersOf s (PoolsEach (take n is)) t → Enters t (Pool (get_or is n 0)) u → EntersOf s (PoolsEach (take (n + 1) is)) u
pools_more s t u n is within before step =
    subst (λ (js : List ℕ). EntersOf s (PoolsEach js) u) (sym (take_more is n 0 within))
    (of_push s t u (PoolsEach (take n is)) (PoolsEach (take n is ++ get_or is n 0 ∷ [])) (Pool (get_or is n 0))
    (λ es first. ap (λ gs. gs ++ Pool (get_or is n 0) ∷ []) first ∙ sym (pools-append (take n is) (get_or is n 0 ∷ []))) refl before step)

-- after the last place
pub lays_whole : (s t : Token) (n : ℕ) (is : List ℕ) → length is ≤ n → EntersOf s (LaysEach (take n is)) t → EntersOf s (LaysEach is) t
lays_whole s t n is past enters = subst (λ (js : List ℕ). EntersOf s (LaysEach js) t) (take_all n is past) enters

pub pools_whole : (s t : Token) (n : ℕ) (is : List ℕ) → length is ≤ n → EntersOf s (PoolsEach (take n is)) t → EntersOf s (PoolsEach is) t
pools_whole s t n is past enters = subst (λ (js : List ℕ). EntersOf s (PoolsEach js) t) (take_all n is past) enters

pub holds_more : (s t u : Token) (n : ℕ) → EntersOf s (PoolsHeldBelow n) t → EntersOf t (PoolsIfHeld n) u → EntersOf s (PoolsHeldBelow (n + 1)) u
holds_more s t u n before one = of_then s t u (PoolsHeldBelow n) (PoolsIfHeld n) (PoolsHeldBelow (n + 1)) (held_more n) before one

-- one place that is looked at: it isn't Held, it's grabbed and pooled, or its grab found another word
pub left_there : (s t : Token) (i : ℕ) (w : Word) → w.state ≢ Held → Enters s (Look i w) t → EntersOf s (PoolsIfHeld i) t
left_there s t i w elsewhere look =
    of_one s t (PoolsIfHeld i) (Look i w) (record { seen = record { word = w; grab = None }; grabbed = elsewhere; is = refl }) refl look

pub grabbed_there : (s t u v : Token) (i : ℕ) (w : Word) → w.state ≡ Held → Enters s (Look i w) t → Enters t (Grab i w.generation (Ok tt)) u → Enters u (Pool i) v → EntersOf s (PoolsIfHeld i) v
grabbed_there s t u v i w held look grab pool =
    of_kind s v (PoolsIfHeld i) (Look i w ∷ Grab i w.generation (Ok tt) ∷ Pool i ∷ [])
    (record { seen = record { word = w; grab = Some (Ok tt) }; grabbed = held; is = refl })
    (each_first s t v (Look i w) (Grab i w.generation (Ok tt) ∷ Pool i ∷ []) look refl (each_two t u v (Grab i w.generation (Ok tt)) (Pool i) grab pool refl refl))

pub missed_there : (s t u : Token) (i : ℕ) (w found : Word) → w.state ≡ Held → Enters s (Look i w) t → Enters t (Grab i w.generation (Err found)) u → EntersOf s (PoolsIfHeld i) u
missed_there s t u i w found held look grab =
    of_kind s u (PoolsIfHeld i) (Look i w ∷ Grab i w.generation (Err found) ∷ [])
    (record { seen = record { word = w; grab = Some (Err found) }; grabbed = held; is = refl })
    (each_two s t u (Look i w) (Grab i w.generation (Err found)) look grab refl refl)
