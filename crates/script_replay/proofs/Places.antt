-- What lies at a place once something was put there.
use Rattle.std.proofs.Common.{◌≡◌, ◌≢◌, ◌⊎◌, ℕ, zero, suc, ◌<◌, List, [], ◌∷◌, length, set, Option, Some, Ok, refl, sym, ap, subst, ◌∙◌, inl, inr, arith}
use Rattle.std.proofs.lemmas.List.{get_or-set_other, get_or-set_same}
use Rattle.std.proofs.lemmas.Bool.{cases_eq}
use Rattle.gev_types.specs.Filling.{Filling}
use Rattle.gev_types.specs.Limits.{place_count}
use Rattle.board_machine.specs.declared.events.Entry.{Entry}
use Rattle.board_machine.specs.declared.events.Event.{Event}
use Rattle.board_machine.specs.declared.events.Event.TheVariants.{Enrol, Vacate, Fill}
use Rattle.board_machine.specs.Machine.{Board}
use Rattle.board_model.specs.Plain.{lying, nothing}
use Rattle.script_trace.specs.Contents.{content_after, contents_from, contents_of}
use Rattle.script_replay.specs.Boards.{LiesAsTold}

-- A place beyond the list has nothing before and after.
pub set_read : (c : List (Option Filling)) (i : ℕ) (x : Option Filling) → (lying (set c i x) i ≡ x) ⊎ (lying (set c i x) i ≡ nothing)
set_read [] i x = inr refl
set_read (y ∷ ys) zero x = inl refl
set_read (y ∷ ys) (suc i) x = set_read ys i x

pub set_nothing : (c : List (Option Filling)) (i : ℕ) → lying (set c i nothing) i ≡ nothing
set_nothing c i = elim (set_read c i nothing) [ inl e ↦ e | inr e ↦ e ]

-- something lies there only within the list
pub lies_within : (c : List (Option Filling)) (i : ℕ) (f : Filling) → lying c i ≡ Some f → i < length c
lies_within [] i f e = absurd cc
lies_within (y ∷ ys) zero f e = omega arith
lies_within (y ∷ ys) (suc i) f e = let below : i < length ys = lies_within ys i f e in omega arith

pub set_lies : (c : List (Option Filling)) (i : ℕ) (f g : Filling) → lying c i ≡ Some g → lying (set c i (Some f)) i ≡ Some f
set_lies c i f g e = get_or-set_same c i (Some f) nothing (lies_within c i g e)

pub set_apart : (c : List (Option Filling)) (i j : ℕ) (x : Option Filling) → j ≢ i → lying (set c i x) j ≡ lying c j
set_apart c i j x apart = get_or-set_other c i j x nothing apart

pub length-set_at : (c : List (Option Filling)) (i : ℕ) (x : Option Filling) → length (set c i x) ≡ length c
length-set_at [] i x = refl
length-set_at (y ∷ ys) zero x = refl
length-set_at (y ∷ ys) (suc i) x = ap suc (length-set_at ys i x)

pub one_keeps_length : (c : List (Option Filling)) (e : Event) → length (content_after c e) ≡ length c
one_keeps_length c (Enrol i size (Ok g)) = length-set_at c i _
one_keeps_length c (Vacate i) = length-set_at c i _
one_keeps_length c (Fill i f filled) = length-set_at c i _
one_keeps_length c e = refl

contents_keep_length : (c : List (Option Filling)) (h : List Entry) → length (contents_from c h) ≡ length c
contents_keep_length c [] = refl
contents_keep_length c (e ∷ h) = contents_keep_length (content_after c e.event) h ∙ one_keeps_length c e.event

pub told_wide : (h : List Entry) → length (contents_of h) ≡ place_count
told_wide h = contents_keep_length _ h

-- The same was put at one place, or nothing.
pub lies_set : (b : Board) (now told : List (Option Filling)) (i j : ℕ) (x : Option Filling) → lying (set now i x) i ≡ lying (set told i x) i → LiesAsTold b now told j → LiesAsTold b (set now i x) (set told i x) j
lies_set b now told i j x there as_told = go (cases_eq j i) as_told
  where
    go : (j ≡ i) ⊎ (j ≢ i) → LiesAsTold b now told j → LiesAsTold b (set now i x) (set told i x) j
    go (inl e) lies = inl (subst (λ n. lying (set now i x) n ≡ lying (set told i x) n) (sym e) there)
    go (inr apart) (inl e) = inl (set_apart now i j x apart ∙ e ∙ sym (set_apart told i j x apart))
    go (inr apart) (inr lifted) = inr (set_apart now i j x apart ∙ lifted.0, lifted.1)
