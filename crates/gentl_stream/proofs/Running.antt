-- What start and stop add, by what they found.
use Rattle.std.proofs.Common.{◌≡◌, ℕ, ◌≤◌, ◌==◌, false, [], ◌∷◌, Ok, Err, refl, sym, subst}
use Rattle.gentl_types.specs.declared.errors.GcError.TheVariants.{ResourceInUse}
use Rattle.gentl_types.specs.declared.errors.Shown.{Shown}
use Rattle.gentl_types.specs.declared.errors.Shown.TheVariants as shown
use Rattle.board_machine.specs.declared.events.Event.TheVariants.{Start, Stop}
use Rattle.board_calls.specs.Calls.{LooksOut, run_word, Starts, Stops}
use Rattle.board_calls.proofs.Refused.{opens}
use Rattle.buffer_words.specs.Passes.{Token, Enters}
use Rattle.buffer_words.specs.Several.{EntersOf}
use Rattle.buffer_words.proofs.Several.{of_one, of_push}

pub start_done : (s t u : Token) → EntersOf s (LooksOut false) t → Enters t (Start (Ok tt)) u → EntersOf s (Starts (Ok tt)) u
start_done s t u look step = of_push s t u (LooksOut false) (Starts (Ok tt)) (Start (Ok tt)) (λ es seen. opens es (Start (Ok tt) ∷ []) seen) refl look step

pub start_refused : (s t u : Token) (r : ℕ) (found : Shown) → found ≡ shown.Word (run_word r) → EntersOf s (LooksOut false) t → Enters t (Start (Err r)) u
    → EntersOf s (Starts (Err (ResourceInUse found))) u
start_refused s t u r found is look step =
    subst (λ (a : Shown). EntersOf s (Starts (Err (ResourceInUse a))) u) (sym is)
    (of_push s t u (LooksOut false) (Starts (Err (ResourceInUse (shown.Word (run_word r))))) (Start (Err r)) (λ es seen. (r, refl, opens es (Start (Err r) ∷ []) seen)) refl look step)

pub stop_refused : (s t : Token) (flags r : ℕ) (found : Shown) → flags ≤ 1 → found ≡ shown.Word (run_word r) → Enters s (Stop (flags == 1) (Err r)) t
    → EntersOf s (Stops flags (Err (ResourceInUse found))) t
stop_refused s t flags r found small is step =
    subst (λ (a : Shown). EntersOf s (Stops flags (Err (ResourceInUse a))) t) (sym is)
    (of_one s t (Stops flags (Err (ResourceInUse (shown.Word (run_word r))))) (Stop (flags == 1) (Err r)) (small, (r, refl, refl)) refl step)
