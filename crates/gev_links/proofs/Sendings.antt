-- What a writing loop has written, turn by turn.
use Rattle.std.proofs.Common.{◌≡◌, ℕ, ◌-◌, ◌≤◌, List, [], ◌++◌, length, take, drop, Option, Some, None, refl, ap, sym, ◌∙◌, arith, subst, append_assoc, length-drop, drop_of_length-le}
use Rattle.std.proofs.lemmas.List.{append-nil, take-append-drop}
use Rattle.gev_links.specs.Told.{Appends}

-- All of the text up to this rest was written.
pub record Sent (before now : Option (List ℕ)) (text rest : List ℕ) : Type 0 where
  pub front : List ℕ
  pub parts : text ≡ front ++ rest
  pub appended : Appends before now front

Appends-same : (w : Option (List ℕ)) → Appends w w []
Appends-same None = refl
Appends-same (Some w) = ap (λ l. Some l) (sym (append-nil w))

-- bytes that were written, and then others
Appends-append : (w x y : Option (List ℕ)) (xs ys : List ℕ) → Appends w x xs → Appends x y ys → Appends w y (xs ++ ys)
Appends-append None x y xs ys g h = subst (λ v. Appends v y ys) g h
Appends-append (Some w) x y xs ys g h =
    let last : Appends (Some (w ++ xs)) y ys = subst (λ v. Appends v y ys) g h in
    last ∙ ap (λ t. Some t) (append_assoc w xs ys)

sent_more : (w x y : Option (List ℕ)) (text rest : List ℕ) (n : ℕ) → Sent w x text rest → Appends x y (take n rest) → Sent w y text (drop n rest)
sent_more w x y text rest n s a = record {
  front = s.front ++ take n rest;
  parts = s.parts ∙ ap (λ l. s.front ++ l) (sym (take-append-drop n rest)) ∙ sym (append_assoc s.front (take n rest) (drop n rest));
  appended = Appends-append w x y s.front (take n rest) s.appended a;
}

take_whole : (xs : List ℕ) (n : ℕ) → length xs ≤ n → take n xs ≡ xs
take_whole xs n h =
    sym (append-nil (take n xs)) ∙ ap (λ l. take n xs ++ l) (sym (drop_of_length-le xs h)) ∙ take-append-drop n xs

rest_of : (n : ℕ) (xs : List ℕ) → take (length xs - n) (drop n xs) ≡ drop n xs
rest_of n xs = take_whole (drop n xs) (length xs - n) (omega (arith, length-drop n xs))

-- one more piece, with the rest as a slice of the text
pub sent_slice : (w x y : Option (List ℕ)) (text rest : List ℕ) (n : ℕ) → Sent w x text rest → Appends x y (take n rest)
    → Sent w y text (take (length rest - n) (drop n rest))
sent_slice w x y text rest n s a = subst (Sent w y text) (sym (rest_of n rest)) (sent_more w x y text rest n s a)
