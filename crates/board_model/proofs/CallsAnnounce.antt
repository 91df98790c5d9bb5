-- The events of an announce, from those of its parts.
use Rattle.std.proofs.Common.{◌≡◌, ◌≢◌, ℕ, ◌+◌, ◌<◌, false, List, [], ◌∷◌, ◌++◌, length, replicate, set, Option, Some, None, Ok, Err, refl, sym, ap, subst, ◌∙◌, append_assoc, get_or-set_same}
use Rattle.gev_types.specs.Limits.{place_count}
use Rattle.gentl_types.specs.declared.buffer_id.BufferId.{BufferId}
use Rattle.gentl_types.specs.declared.word.Word.{Word}
use Rattle.gentl_types.specs.declared.errors.GcError.TheVariants.{InvalidParameter, OutOfMemory, ResourceExhausted}
use Rattle.gev_types.specs.Filling.{Filling, empty_record}
use Rattle.board_machine.specs.declared.events.Event.{Event}
use Rattle.board_machine.specs.declared.events.Event.TheVariants.{Enrol, Lay}
use Rattle.board_machine.specs.Machine.{Board}
use Rattle.board_model.specs.Plain.{nothing, lying}
use Rattle.board_machine.specs.Adding.{AddsEntry, AddsOf}
use Rattle.board_model.specs.Holdings.{fresh}
use Rattle.board_calls.specs.Rounds.{refused_from, RefusedBelow, EnrolsLowest}
use Rattle.board_calls.specs.Calls.{LooksOut, OpensWith, Announces, IsSize}
use Rattle.board_machine.proofs.Adding.{adds_more, adds_as, adds_step}
use Rattle.board_calls.proofs.Refused.{opens}
use Rattle.board_model.proofs.CallsParts.{one_more_refused}

-- the size of a buffer that came back unchanged
same_size : (f g : Filling) → f ≡ g → length f.bytes ≡ length g.bytes
same_size f g e = ap (λ (h : Filling). length h.bytes) e

pub enrol_more : (b mid new : Board) (k n : ℕ) (f g : Filling) (w : Word) → f ≡ g → AddsOf b k (RefusedBelow n (length g.bytes)) mid → AddsEntry mid k (Enrol n (length f.bytes) (Err w)) new → AddsOf b k (RefusedBelow (n + 1) (length g.bytes)) new
enrol_more b mid new k n f g w e tried step =
    one_more_refused b mid new k n (length g.bytes) w tried
    (subst (λ (m : ℕ). AddsEntry mid k (Enrol n m (Err w)) new) (same_size f g e) step)

pub enrol_found : (b mid new : Board) (k n g : ℕ) (f h : Filling) → f ≡ h → AddsOf b k (RefusedBelow n (length h.bytes)) mid → AddsEntry mid k (Enrol n (length f.bytes) (Ok g)) new → AddsOf b k (EnrolsLowest (length h.bytes) (Some (record { place = n; generation = g }))) new
enrol_found b mid new k n g f h e tried step =
    adds_more b mid new k (RefusedBelow n (length h.bytes)) (λ es. es ≡ Enrol n (length h.bytes) (Ok g) ∷ []) (EnrolsLowest (length h.bytes) (Some (record { place = n; generation = g })))
    (λ es fs below last. (below.words, below.all, ap (λ gs. gs ++ fs) below.is ∙ ap (λ gs. refused_from 0 (length h.bytes) below.words ++ gs) last))
    tried
    (subst (λ (m : ℕ). AddsOf mid k (λ es. es ≡ Enrol n m (Ok g) ∷ []) new) (same_size f h e) (adds_step mid new k (Enrol n (length f.bytes) (Ok g)) tt step))

pub announce_done : (b mid there new : Board) (k n size : ℕ) (id : BufferId) → n ≡ size → IsSize size → AddsOf b k (LooksOut false) mid → AddsOf mid k (EnrolsLowest n (Some id)) there → AddsOf there k (λ es. es ≡ Lay id.place ∷ []) new → AddsOf b k (Announces size (Ok id)) new
announce_done b mid there new k n size id e fits look tried laid =
    adds_more b mid new k (LooksOut false) (λ es. EnrolsThenLays es) (Announces size (Ok id))
    (λ es fs first second. (fits, (second.0, second.1, subst (λ (gs : List Event). OpensWith gs (es ++ fs)) second.2 (opens es fs first))))
    look
    (adds_more mid there new k (EnrolsLowest size (Some id)) (λ es. es ≡ Lay id.place ∷ []) (λ es. EnrolsThenLays es)
    (λ es fs first second. (first.0, first.1, ap (λ gs. gs ++ fs) first.2 ∙ append_assoc (refused_from 0 size first.0) (Enrol id.place size (Ok id.generation) ∷ []) fs ∙ ap (λ gs. refused_from 0 size first.0 ++ Enrol id.place size (Ok id.generation) ∷ gs) second))
    (subst (λ (m : ℕ). AddsOf mid k (EnrolsLowest m (Some id)) there) e tried) laid)
  where
    EnrolsThenLays : List Event → Type 0
    EnrolsThenLays es = (words : List Word) × (length words ≡ id.place) × (es ≡ refused_from 0 size words ++ Enrol id.place size (Ok id.generation) ∷ Lay id.place ∷ [])

pub announce_full : (b mid new : Board) (k n size : ℕ) → n ≡ size → IsSize size → AddsOf b k (LooksOut false) mid → AddsOf mid k (EnrolsLowest n None) new → AddsOf b k (Announces size (Err ResourceExhausted)) new
announce_full b mid new k n size e fits look tried =
    adds_more b mid new k (LooksOut false) (RefusedBelow place_count size) (Announces size (Err ResourceExhausted))
    (λ es fs first second. (fits, (second.words, second.all, subst (λ (gs : List Event). OpensWith gs (es ++ fs)) second.is (opens es fs first))))
    look (subst (λ (m : ℕ). AddsOf mid k (RefusedBelow place_count m) new) e tried)

pub announce_odd : (b new : Board) (k size : ℕ) → ¬ IsSize size → AddsOf b k (LooksOut false) new → AddsOf b k (Announces size (Err (InvalidParameter size))) new
announce_odd b new k size unfit look =
    adds_as b new k (LooksOut false) (Announces size (Err (InvalidParameter size))) (λ es is. (refl, unfit, is)) look

pub announce_short : (b new : Board) (k size : ℕ) → IsSize size → AddsOf b k (LooksOut false) new → AddsOf b k (Announces size (Err OutOfMemory)) new
announce_short b new k size fits look =
    adds_as b new k (LooksOut false) (Announces size (Err OutOfMemory)) (λ es is. (fits, is)) look

-- a buffer with these bytes and this record is a new one
pub is_fresh : (f : Filling) (n : ℕ) → f.bytes ≡ replicate n 0 → f.rec ≡ empty_record → f ≡ fresh n
is_fresh f n bytes rec =
    let first : f ≡ record { bytes = replicate n 0; rec = f.rec } = ap (λ (bs : List ℕ). record { bytes = bs; rec = f.rec }) bytes in
    first ∙ ap (λ r. record { bytes = replicate n 0; rec = r }) rec

-- a place that a buffer was put at has it
pub put_has : (c d : List (Option Filling)) (i : ℕ) (f : Filling) → i < length c → d ≡ set c i (Some f) → lying d i ≢ nothing
put_has c d i f within e none =
    let there : Some f ≡ nothing = sym (get_or-set_same c i (Some f) nothing within) ∙ ap (λ x. lying x i) (sym e) ∙ none in cc
