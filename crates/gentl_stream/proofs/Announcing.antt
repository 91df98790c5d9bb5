-- The entries of an announce, from those of its parts.
use Rattle.std.proofs.Common.{◌≡◌, ℕ, ◌+◌, false, List, [], ◌∷◌, ◌++◌, length, Some, None, Ok, Err, refl, ap, subst, ◌∙◌, append_assoc}
use Rattle.gev_types.specs.Limits.{place_count}
use Rattle.gev_types.specs.Filling.{Filling}
use Rattle.gentl_types.specs.declared.buffer_id.BufferId.{BufferId}
use Rattle.gentl_types.specs.declared.word.Word.{Word}
use Rattle.gentl_types.specs.declared.errors.GcError.TheVariants.{ResourceExhausted}
use Rattle.board_machine.specs.declared.events.Event.{Event}
use Rattle.board_machine.specs.declared.events.Event.TheVariants.{Enrol, Lay}
use Rattle.board_calls.specs.Rounds.{refused_from, RefusedBelow, EnrolsLowest}
use Rattle.board_calls.specs.Calls.{LooksOut, OpensWith, Announces, IsSize}
use Rattle.board_calls.proofs.Lists.{refused_more}
use Rattle.board_calls.proofs.Refused.{opens}
use Rattle.buffer_words.specs.Passes.{Token, Enters}
use Rattle.buffer_words.specs.Several.{EntersOf}
use Rattle.buffer_words.proofs.Several.{of_push, of_then}

-- the size of a buffer that came back unchanged
same_size : (f g : Filling) → f ≡ g → length f.bytes ≡ length g.bytes
same_size f g e = ap (λ (h : Filling). length h.bytes) e

pub enrol_more : (s t u : Token) (n : ℕ) (f g : Filling) (w : Word) → f ≡ g → EntersOf s (RefusedBelow n (length g.bytes)) t → Enters t (Enrol n (length f.bytes) (Err w)) u → EntersOf s (RefusedBelow (n + 1) (length g.bytes)) u
enrol_more s t u n f g w e tried step =
    of_push s t u (RefusedBelow n (length g.bytes)) (RefusedBelow (n + 1) (length g.bytes)) (Enrol n (length g.bytes) (Err w))
    (λ es below. refused_more n (length g.bytes) w es (Enrol n (length g.bytes) (Err w) ∷ []) below refl) refl tried
    (subst (λ (m : ℕ). Enters t (Enrol n m (Err w)) u) (same_size f g e) step)

pub enrol_found : (s t u : Token) (n g : ℕ) (f h : Filling) → f ≡ h → EntersOf s (RefusedBelow n (length h.bytes)) t → Enters t (Enrol n (length f.bytes) (Ok g)) u → EntersOf s (EnrolsLowest (length h.bytes) (Some (record { place = n; generation = g }))) u
enrol_found s t u n g f h e tried step =
    of_push s t u (RefusedBelow n (length h.bytes)) (EnrolsLowest (length h.bytes) (Some (record { place = n; generation = g }))) (Enrol n (length h.bytes) (Ok g))
    (λ es below. (below.words, below.all, ap (λ gs. gs ++ Enrol n (length h.bytes) (Ok g) ∷ []) below.is)) refl tried
    (subst (λ (m : ℕ). Enters t (Enrol n m (Ok g)) u) (same_size f h e) step)

pub announce_done : (s t mid u : Token) (n size : ℕ) (id : BufferId) → n ≡ size → IsSize size → EntersOf s (LooksOut false) t → EntersOf t (EnrolsLowest n (Some id)) mid → Enters mid (Lay id.place) u → EntersOf s (Announces size (Ok id)) u
announce_done s t mid u n size id e fits look tried laid =
    of_then s t u (LooksOut false) (λ es. EnrolsThenLays es) (Announces size (Ok id))
    (λ es fs first second. (fits, (second.0, second.1, subst (λ (gs : List Event). OpensWith gs (es ++ fs)) second.2 (opens es fs first))))
    look
    (of_push t mid u (EnrolsLowest size (Some id)) (λ es. EnrolsThenLays es) (Lay id.place)
    (λ es first. (first.0, first.1, ap (λ gs. gs ++ Lay id.place ∷ []) first.2 ∙ append_assoc (refused_from 0 size first.0) (Enrol id.place size (Ok id.generation) ∷ []) (Lay id.place ∷ []))) refl
    (subst (λ (m : ℕ). EntersOf t (EnrolsLowest m (Some id)) mid) e tried) laid)
  where
    EnrolsThenLays : List Event → Type 0
    EnrolsThenLays es = (words : List Word) × (length words ≡ id.place) × (es ≡ refused_from 0 size words ++ Enrol id.place size (Ok id.generation) ∷ Lay id.place ∷ [])

pub announce_full : (s t u : Token) (n size : ℕ) → n ≡ size → IsSize size → EntersOf s (LooksOut false) t → EntersOf t (EnrolsLowest n None) u → EntersOf s (Announces size (Err ResourceExhausted)) u
announce_full s t u n size e fits look tried =
    of_then s t u (LooksOut false) (RefusedBelow place_count size) (Announces size (Err ResourceExhausted))
    (λ es fs first second. (fits, (second.words, second.all, subst (λ (gs : List Event). OpensWith gs (es ++ fs)) second.is (opens es fs first))))
    look (subst (λ (m : ℕ). EntersOf t (RefusedBelow place_count m) u) e tried)
