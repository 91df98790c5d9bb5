-- Datagrams that are sent one after the other, and the count of faults.
use Rattle.std.proofs.Common.{◌≡◌, ℕ, Bool, true, false, List, [], ◌∷◌, ◌++◌, Option, refl, ap, sym, ◌∙◌, subst, append_assoc}
use Rattle.std.proofs.lemmas.List.{append-nil}
use Rattle.gev_links.specs.Faults.{Rose}
use Rattle.gev_links.specs.Links.{Address, Adds}
use Rattle.gev_links.proofs.Growing.{adds_none, adds_then}
use Rattle.gev_control.specs.Sends.{addressed, SendsOn, Fails}

pub addressed-append : (peer : Address) (xs ys : List (List ℕ)) → addressed peer (xs ++ ys) ≡ addressed peer xs ++ addressed peer ys
addressed-append peer [] ys = refl
addressed-append peer (x ∷ xs) ys = ap (λ l. (peer, x) ∷ l) (addressed-append peer xs ys)

pub added_then : (peer : Address) (o m n : Option (List (Address × List ℕ))) (xs ys : List (List ℕ)) → Adds o m (addressed peer xs) → Adds m n (addressed peer ys)
    → Adds o n (addressed peer (xs ++ ys))
added_then peer o m n xs ys first second =
    subst (Adds o n) (sym (addressed-append peer xs ys)) (adds_then o m n (addressed peer xs) (addressed peer ys) first second)

pub fails_then : (a b c : Bool) (x y z : ℕ) → Fails a b x y → Fails b c y z → Fails a c x z
fails_then false false false x y z first second = second ∙ first
fails_then false false true x y z first second = subst (λ (n : ℕ). Rose n z) first second
fails_then false true false x y z first second = absurd second
fails_then false true true x y z first second = subst (Rose x) (sym second) first
fails_then true false c x y z first second = absurd first
fails_then true true false x y z first second = absurd second
fails_then true true true x y z first second = second ∙ first

pub fails_none : (a : Bool) (x : ℕ) → Fails a a x x
fails_none false x = refl
fails_none true x = refl

pub sends_none : (peer : Address) (a : Bool) (o : Option (List (Address × List ℕ))) → SendsOn peer [] a a o o
sends_none peer a o = record {
  done = [];
  rest = [];
  is = refl;
  sent = adds_none o;
  none = λ _. refl;
  stays = λ was. was;
  whole = λ _. refl;
}

-- one list after the other; what the first left unsent leaves all of the second unsent
pub sends_then : (peer : Address) (xs ys : List (List ℕ)) (a b c : Bool) (o m n : Option (List (Address × List ℕ)))
    → SendsOn peer xs a b o m → SendsOn peer ys b c m n → SendsOn peer (xs ++ ys) a c o n
sends_then peer xs ys a false c o m n first second = record {
  done = first.done ++ second.done;
  rest = second.rest;
  is =
      ap (λ l. l ++ ys) (first.is ∙ (ap (λ l. first.done ++ l) (first.whole refl) ∙ append-nil first.done))
      ∙ (ap (λ l. first.done ++ l) second.is ∙ sym (append_assoc first.done second.done second.rest));
  sent = added_then peer o m n first.done second.done first.sent second.sent;
  none = λ was. let bad : false ≡ true = first.stays was in cc;
  stays = λ was. let bad : false ≡ true = first.stays was in cc;
  whole = second.whole;
}
sends_then peer xs ys a true c o m n first second = record {
  done = first.done ++ second.done;
  rest = first.rest ++ ys;
  is =
      ap (λ l. l ++ ys) first.is
      ∙ (append_assoc first.done first.rest ys
      ∙ ap (λ l. l ++ (first.rest ++ ys)) (sym (ap (λ l. first.done ++ l) (second.none refl) ∙ append-nil first.done)));
  sent = added_then peer o m n first.done second.done first.sent second.sent;
  none = λ was. ap (λ l. l ++ second.done) (first.none was) ∙ second.none refl;
  stays = λ was. second.stays refl;
  whole = λ now. let bad : c ≡ true = second.stays refl in cc;
}

pub sending_ends : (peer : Address) (all taken rest : List (List ℕ)) (a b : Bool) (o n : Option (List (Address × List ℕ))) → all ≡ taken ++ rest → rest ≡ []
    → SendsOn peer taken a b o n → SendsOn peer all a b o n
sending_ends peer all taken rest a b o n parts none sends =
    subst (λ l. SendsOn peer l a b o n) (sym (parts ∙ (ap (λ l. taken ++ l) none ∙ append-nil taken))) sends

pub sent_one : (peer : Address) (bytes : List ℕ) (was : Bool) (o n : Option (List (Address × List ℕ))) → was ≡ false → Adds o n ((peer, bytes) ∷ [])
    → SendsOn peer (bytes ∷ []) was false o n
sent_one peer bytes was o n is sent = record {
  done = bytes ∷ [];
  rest = [];
  is = refl;
  sent = sent;
  none = λ bad. let no : ⊥ = cc in absurd no;
  stays = λ bad. let no : ⊥ = cc in absurd no;
  whole = λ _. refl;
}
