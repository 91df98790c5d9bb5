-- Of the cameras that answered each MAC address is told once, answer by answer.
use Rattle.std.proofs.Common.{◌≡◌, ℕ, ◌+◌, ◌<◌, ◌≤◌, Bool, true, false, List, [], ◌∷◌, ◌++◌, length, get_or, Option, Some, None, refl, sym, subst, ◌∙◌, append_assoc, length-append, eq-eqb, arith}
use Rattle.std.specs.Prelude.{nat_lt, not, ◌&&◌, if◌then◌else◌}
use Rattle.std.specs.Str.{bytes_eq}
use Rattle.std.specs.List.{All, Any, AllPairs, list_any}
use Rattle.std.proofs.lemmas.Bool.{and_from, and_parts, or_left, or_right, false_from_ne_true, lt-ltb, ltb-true}
use Rattle.std.proofs.lemmas.List.{append-nil, get_or_append_left}
use Rattle.std.proofs.lemmas.List.Folds.{list_any-append, list_any_at}
use Rattle.std.proofs.lemmas.List.Elements.{All-push, All-weaker, All-nil}
use Rattle.std.proofs.lemmas.List.Quantifiers.{Any-push, all_pairs_push}
use Rattle.gev_links.specs.Links.{Answer}
use Rattle.camera_search.specs.declared.discovery_ack.DiscoveryAck.{DiscoveryAck}
use Rattle.camera_search.specs.Found.{told_in, has_mac, is_new, new_among, found_after, cameras_in}
use Rattle.camera_search.specs.Laws.{EachOnce}

-- what is promised, with these cameras so far
record Kept (answers : List Answer) (found : List DiscoveryAck) : Type 0 where
  answered : All (λ (camera : DiscoveryAck). Any (λ (a : Answer). told_in a ≡ Some camera) answers) found
  apart : AllPairs (λ (first later : DiscoveryAck). has_mac later.mac_address first ≡ false) found
  few : length found ≤ 256
  none_left : length found < 256
      → All (λ (a : Answer). (camera : DiscoveryAck) → told_in a ≡ Some camera → list_any (has_mac camera.mac_address) found ≡ true) answers

any_more : (P : Answer → Type 0) (xs : List Answer) (y : Answer) → Any P xs → Any P (xs ++ y ∷ [])
any_more P xs y any = (any.0, any.1, omega (arith, any.2, length-append xs (y ∷ [])), get_or_append_left xs (y ∷ []) any.1 any.0 any.2 ∙ any.3, any.4)

same_bytes : (xs : List ℕ) → bytes_eq xs xs ≡ true
same_bytes [] = refl
same_bytes (x ∷ xs) = and_from _ _ (eq-eqb x x refl) (same_bytes xs)

-- an answer that adds nothing
kept_none : (xs : List Answer) (a : Answer) (found : List DiscoveryAck) → Kept xs found
    → (length found < 256 → (camera : DiscoveryAck) → told_in a ≡ Some camera → list_any (has_mac camera.mac_address) found ≡ true)
    → Kept (xs ++ a ∷ []) found
kept_none xs a found k known = record {
  answered =
      All-weaker (λ (camera : DiscoveryAck). Any (λ (a : Answer). told_in a ≡ Some camera) xs) (λ (camera : DiscoveryAck). Any (λ (a : Answer). told_in a ≡ Some camera) (xs ++ a ∷ []))
      (λ camera any. any_more (λ (a : Answer). told_in a ≡ Some camera) xs a any) found k.answered;
  apart = k.apart;
  few = k.few;
  none_left = λ few. All-push (λ (a : Answer). (camera : DiscoveryAck) → told_in a ≡ Some camera → list_any (has_mac camera.mac_address) found ≡ true) xs a
      (k.none_left few) (known few);
}

-- an answer that adds its camera
kept_new : (xs : List Answer) (a : Answer) (found : List DiscoveryAck) (camera : DiscoveryAck) → Kept xs found → told_in a ≡ Some camera
    → length found < 256 → list_any (has_mac camera.mac_address) found ≡ false → Kept (xs ++ a ∷ []) (found ++ camera ∷ [])
kept_new xs a found camera k told room none = record {
  answered =
      All-push (λ (camera : DiscoveryAck). Any (λ (a : Answer). told_in a ≡ Some camera) (xs ++ a ∷ [])) found camera
      (All-weaker (λ (camera : DiscoveryAck). Any (λ (a : Answer). told_in a ≡ Some camera) xs) (λ (camera : DiscoveryAck). Any (λ (a : Answer). told_in a ≡ Some camera) (xs ++ a ∷ []))
      (λ camera any. any_more (λ (a : Answer). told_in a ≡ Some camera) xs a any) found k.answered)
      (Any-push (λ (a : Answer). told_in a ≡ Some camera) xs a told);
  apart =
      all_pairs_push (λ (first later : DiscoveryAck). has_mac later.mac_address first ≡ false) found camera k.apart
      (λ at d inside. false_from_ne_true (has_mac camera.mac_address (get_or found at d))
      (λ same. let yes : list_any (has_mac camera.mac_address) found ≡ true = list_any_at (has_mac camera.mac_address) found at d inside same in
      let bad : ⊥ = cc in bad));
  few = omega (arith, room, length-append found (camera ∷ []));
  none_left = λ few.
      All-push (λ (a : Answer). (other : DiscoveryAck) → told_in a ≡ Some other → list_any (has_mac other.mac_address) (found ++ camera ∷ []) ≡ true) xs a
      (All-weaker (λ (a : Answer). (other : DiscoveryAck) → told_in a ≡ Some other → list_any (has_mac other.mac_address) found ≡ true)
      (λ (a : Answer). (other : DiscoveryAck) → told_in a ≡ Some other → list_any (has_mac other.mac_address) (found ++ camera ∷ []) ≡ true)
      (λ b before other is. list_any-append (has_mac other.mac_address) found (camera ∷ [])
      ∙ or_left (list_any (has_mac other.mac_address) found) (list_any (has_mac other.mac_address) (camera ∷ [])) (before other is)) xs (k.none_left room))
      (λ other is. list_any-append (has_mac other.mac_address) found (camera ∷ [])
      ∙ or_right (list_any (has_mac other.mac_address) found) (list_any (has_mac other.mac_address) (camera ∷ [])) (own other is));
}
  where
    own : (other : DiscoveryAck) → told_in a ≡ Some other → list_any (has_mac other.mac_address) (camera ∷ []) ≡ true
    own other is =
        let same : camera ≡ other = let both : Some camera ≡ Some other = sym told ∙ is in cc in
        subst (λ (c : DiscoveryAck). list_any (has_mac c.mac_address) (camera ∷ []) ≡ true) same
        (or_left (has_mac camera.mac_address camera) false (same_bytes camera.mac_address))

added : (xs : List Answer) (a : Answer) (found : List DiscoveryAck) (camera : DiscoveryAck) (fresh : Bool) → Kept xs found → told_in a ≡ Some camera
    → is_new found camera ≡ fresh → Kept (xs ++ a ∷ []) (found ++ (if fresh then camera ∷ [] else []))
added xs a found camera true k told is =
    let parts = and_parts (nat_lt (length found) 256) (not (list_any (has_mac camera.mac_address) found)) is in
    kept_new xs a found camera k told (ltb-true (length found) 256 parts.0)
    (false_from_ne_true (list_any (has_mac camera.mac_address) found) (λ there. not_both (list_any (has_mac camera.mac_address) found) there parts.1))
  where
    not_both : (b : Bool) → b ≡ true → not b ≡ true → ⊥
    not_both true a b = let bad : ⊥ = cc in bad
    not_both false a b = let bad : ⊥ = cc in bad
added xs a found camera false k told is =
    subst (Kept (xs ++ a ∷ [])) (sym (append-nil found)) (kept_none xs a found k
    (λ few other other_is. let same : other ≡ camera = let both : Some other ≡ Some camera = sym other_is ∙ told in cc in
    subst (λ (c : DiscoveryAck). list_any (has_mac c.mac_address) found ≡ true) (sym same)
    (known (nat_lt (length found) 256) (list_any (has_mac camera.mac_address) found) (lt-ltb (length found) 256 few) is)))
  where
    known : (room there : Bool) → room ≡ true → (room && not there) ≡ false → there ≡ true
    known true true a e = refl
    known true false a e = let bad : ⊥ = cc in absurd bad
    known false there a e = let bad : ⊥ = cc in absurd bad

kept_by : (xs : List Answer) (a : Answer) (found : List DiscoveryAck) (told : Option DiscoveryAck) → Kept xs found → told_in a ≡ told
    → Kept (xs ++ a ∷ []) (found ++ new_among found told)
kept_by xs a found None k is =
    subst (Kept (xs ++ a ∷ [])) (sym (append-nil found)) (kept_none xs a found k
    (λ few camera some. let bad : ⊥ = (let both : None ≡ Some camera = sym is ∙ some in cc) in absurd bad))
kept_by xs a found (Some camera) k is = added xs a found camera (is_new found camera) k is refl

kept_over : (xs ys : List Answer) (found : List DiscoveryAck) → Kept xs found → Kept (xs ++ ys) (found_after found ys)
kept_over xs [] found k = subst (λ (l : List Answer). Kept l found) (sym (append-nil xs)) k
kept_over xs (y ∷ ys) found k =
    subst (λ (l : List Answer). Kept l (found_after (found ++ new_among found (told_in y)) ys)) (append_assoc xs (y ∷ []) ys)
    (kept_over (xs ++ y ∷ []) ys (found ++ new_among found (told_in y)) (kept_by xs y found (told_in y) k refl))

kept_first : Kept [] []
kept_first = record {
  answered = All-nil (λ (camera : DiscoveryAck). Any (λ (a : Answer). told_in a ≡ Some camera) []);
  apart = λ i j d before inside. absurd (omega (arith, inside));
  few = omega arith;
  none_left = λ few. All-nil (λ (a : Answer). (camera : DiscoveryAck) → told_in a ≡ Some camera → list_any (has_mac camera.mac_address) [] ≡ true);
}

pub each_once : (answers : List Answer) → EachOnce answers
each_once answers =
    let k : Kept answers (cameras_in answers) = kept_over [] answers [] kept_first in
    record { answered = k.answered; apart = k.apart; few = k.few; none_left = k.none_left }
