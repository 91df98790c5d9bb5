-- How a place is sorted out after the places before it.
use Rattle.std.proofs.Common.{◌≡◌, ℕ, zero, suc, ◌+◌, ◌<◌, Bool, true, false, List, [], ◌∷◌, ◌++◌, take, drop, length, get_or, refl, ap, sym, ◌∙◌, arith, add-one}
use Rattle.std.specs.Prelude.{◌==◌, ◌||◌, remove, if◌then◌else◌}
use Rattle.std.specs.List.{list_any}
use Rattle.std.proofs.Math.Seq.{drop-cons}
use Rattle.std.proofs.lemmas.List.{take_more}
use Rattle.gentl_handles.specs.declared.handle.Handle.{Handle}
use Rattle.gentl_handles.specs.declared.opened.Opened.{Opened}
use Rattle.gentl_handles.specs.Closing.{Sorted, falls, sort_one, sort_out}
use Rattle.gentl_handles.specs.Storing.{serials_of}

pub any_serial : (n : ℕ) (hs : List Handle) → list_any (λ h. h.serial == n) hs ≡ list_any (λ s. s == n) (serials_of hs)
any_serial n [] = refl
any_serial n (h ∷ hs) = ap (λ b. (h.serial == n) || b) (any_serial n hs)

pub serials_more : (hs : List Handle) (h : Handle) → serials_of (hs ++ h ∷ []) ≡ serials_of hs ++ h.serial ∷ []
serials_more [] h = refl
serials_more (x ∷ hs) h = ap (λ l. x.serial ∷ l) (serials_more hs h)

take_less : (os : List Opened) (place : ℕ) → place < length os → take place (remove os place) ≡ take place os
take_less [] place within = absurd (omega arith)
take_less (o ∷ os) zero within = refl
take_less (o ∷ os) (suc j) within = ap (λ l. o ∷ l) (take_less os j (omega arith))

drop_less : (os : List Opened) (place : ℕ) → place < length os → drop place (remove os place) ≡ drop (suc place) os
drop_less [] place within = absurd (omega arith)
drop_less (o ∷ os) zero within = refl
drop_less (o ∷ os) (suc j) within = drop_less os j (omega arith)

sort_by_test : (serial : ℕ) (c : List ℕ) (ks : List Opened) (o : Opened) (t : Bool) → falls serial c o ≡ t
    → sort_one serial (record { closed = c; kept = ks }) o
    ≡ (if t then record { closed = c ++ o.serial ∷ []; kept = ks } else record { closed = c; kept = ks ++ o ∷ [] })
sort_by_test serial c ks o t e =
    ap (λ b. if b then record { closed = c ++ o.serial ∷ []; kept = ks } else record { closed = c; kept = ks ++ o ∷ [] }) e

-- one more is closed
pub sorts_closed : (serial : ℕ) (c d : List ℕ) (os new : List Opened) (place : ℕ) (o : Opened) (all : Sorted)
    → place < length os → o ≡ get_or os place o → falls serial c o ≡ true → d ≡ c ++ o.serial ∷ [] → new ≡ remove os place
    → sort_out serial (record { closed = c; kept = take place os }) (drop place os) ≡ all
    → sort_out serial (record { closed = d; kept = take place new }) (drop place new) ≡ all
sorts_closed serial c d os new place o all within at fallen more less sorted =
    ap (λ l. sort_out serial (record { closed = d; kept = take place l }) (drop place l)) less
    ∙ ap (λ l. sort_out serial (record { closed = d; kept = l }) (drop place (remove os place))) (take_less os place within)
    ∙ ap (λ l. sort_out serial (record { closed = d; kept = take place os }) l) (drop_less os place within)
    ∙ ap (λ l. sort_out serial (record { closed = l; kept = take place os }) (drop (suc place) os)) more
    ∙ ap (λ s. sort_out serial s (drop (suc place) os)) (sym (sort_by_test serial c (take place os) o true fallen))
    ∙ ap (λ x. sort_out serial (record { closed = c; kept = take place os }) (x ∷ drop (suc place) os)) at
    ∙ ap (λ l. sort_out serial (record { closed = c; kept = take place os }) l) (sym (drop-cons os place o within))
    ∙ sorted

-- one more stays
pub sorts_kept : (serial : ℕ) (c : List ℕ) (os : List Opened) (place : ℕ) (o : Opened) (all : Sorted)
    → place < length os → o ≡ get_or os place o → falls serial c o ≡ false
    → sort_out serial (record { closed = c; kept = take place os }) (drop place os) ≡ all
    → sort_out serial (record { closed = c; kept = take (place + 1) os }) (drop (place + 1) os) ≡ all
sorts_kept serial c os place o all within at stays sorted =
    ap (λ l. sort_out serial (record { closed = c; kept = l }) (drop (place + 1) os)) (take_more os place o within ∙ ap (λ x. take place os ++ x ∷ []) (sym at))
    ∙ ap (λ n. sort_out serial (record { closed = c; kept = take place os ++ o ∷ [] }) (drop n os)) (add-one place)
    ∙ ap (λ s. sort_out serial s (drop (suc place) os)) (sym (sort_by_test serial c (take place os) o false stays))
    ∙ ap (λ x. sort_out serial (record { closed = c; kept = take place os }) (x ∷ drop (suc place) os)) at
    ∙ ap (λ l. sort_out serial (record { closed = c; kept = take place os }) l) (sym (drop-cons os place o within))
    ∙ sorted
