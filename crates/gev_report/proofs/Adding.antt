-- Texts that are added one after another, or not at all.
use Rattle.std.proofs.Common.{◌≡◌, ℕ, ◌+◌, ◌<◌, List, [], ◌∷◌, ◌++◌, length, get_or, take, true, false, Result, Ok, Err, OnOk, OnErr, ap, sym, ◌∙◌, append_assoc, add-one}
use Rattle.std.specs.List.{flat_map}
use Rattle.std.specs.Result.{is_err}
use Rattle.std.proofs.Math.Seq.{take-suc, take-append_seam}
use Rattle.std.proofs.lemmas.Grind.{flat_map-append}
use Rattle.std.proofs.lemmas.List.{append-nil}

-- one more text behind those that were added
pub one_more : {X E : Type 0} (r : Result (Unit {0}) E) (f : X → List ℕ) (start before after : List ℕ) (xs : List X) (i : ℕ) (d : X) → i < length xs → is_err r ≡ false
    → before ≡ start ++ flat_map f (take i xs) → OnOk r (after ≡ before ++ f (get_or xs i d)) → after ≡ start ++ flat_map f (take (i + 1) xs)
one_more (Ok done) f start before after xs i d within ok was added =
    let all : flat_map f (take (i + 1) xs) ≡ flat_map f (take i xs) ++ f (get_or xs i d) =
    ap (λ k. flat_map f (take k xs)) (add-one i)
    ∙ ap (flat_map f) (take-suc xs i d within)
    ∙ flat_map-append f (take i xs) (get_or xs i d ∷ [])
    ∙ ap (λ t. flat_map f (take i xs) ++ t) (append-nil (f (get_or xs i d))) in
    added ∙ ap (λ t. t ++ f (get_or xs i d)) was ∙ append_assoc start (flat_map f (take i xs)) (f (get_or xs i d)) ∙ ap (λ t. start ++ t) (sym all)
one_more (Err e) f start before after xs i d within ok was added = absurd (cc)

-- a text that is cut back to what it began with
pub cut_back : {E : Type 0} (r : Result (Unit {0}) E) (start before after more : List ℕ) (n : ℕ) → n ≡ length start → is_err r ≡ true → before ≡ start ++ more → OnErr r (after ≡ before) → take n after ≡ start
cut_back (Ok done) start before after more n size failed was kept = absurd (cc)
cut_back (Err e) start before after more n size failed was kept =
    ap (λ k. take k after) size ∙ ap (take (length start)) (kept ∙ was) ∙ take-append_seam start more
