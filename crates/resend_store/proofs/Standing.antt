-- The store stands for the list of its pushes.
use Rattle.std.proofs.Common.{◌≡◌, ℕ, ◌+◌, ◌-◌, ◌<◌, ◌≤◌, Bool, true, false, List, [], ◌∷◌, ◌++◌, length, drop, None, refl, ap, sym, ◌∙◌, arith, length-append, length-drop}
use Rattle.std.specs.Prelude.{nat_lt, nat_le, ◌&&◌, slice_get, if◌then◌else◌}
use Rattle.std.proofs.lemmas.Bool.{ltb-true, ltb-false, lt-ltb, le-ltb, leb-true, and_parts}
use Rattle.std.proofs.lemmas.List.{drop-drop, drop-append-le}
use Rattle.resend_store.specs.declared.sent.SentFrame.{SentFrame}
use Rattle.resend_store.specs.Pushes.{last_of, is_held, held_of, fallen_of}
use Rattle.resend_store.specs.Shelf.{Shelf, staying, oldest_out, shelved}
use Rattle.resend_store.specs.Laws.{PushStands, StoreAnswers}
use Rattle.resend_store.proofs.Places.{slice_get-drop}

pub length-last_of : {A : Type 0} (n : ℕ) (xs : List A) → length (last_of n xs) ≡ length xs - (length xs - n)
length-last_of n xs = length-drop (length xs - n) xs

-- the last ones with one more are the last ones, without the oldest where there is no room
pub staying-last_of : (room : ℕ) (pushed : List SentFrame) (sent : SentFrame) → 1 ≤ room
    → staying room (last_of room pushed) ++ sent ∷ [] ≡ last_of room (pushed ++ sent ∷ [])
staying-last_of room pushed sent some = go (nat_lt (length (last_of room pushed)) room) refl
  where
    go : (b : Bool) → nat_lt (length (last_of room pushed)) room ≡ b
        → (if b then last_of room pushed else drop 1 (last_of room pushed)) ++ sent ∷ [] ≡ last_of room (pushed ++ sent ∷ [])
    go true e =
        let short : length (last_of room pushed) < room = ltb-true (length (last_of room pushed)) room e in
        let before : length pushed - room ≡ 0 = omega (arith, length-last_of room pushed) in
        let after : length (pushed ++ sent ∷ []) - room ≡ 0 = omega (arith, length-last_of room pushed, length-append pushed (sent ∷ [])) in
        rw (before, after) refl
    go false e =
        let full : room ≤ length (last_of room pushed) = ltb-false (length (last_of room pushed)) room e in
        let after : length (pushed ++ sent ∷ []) - room ≡ (length pushed - room) + 1 = omega (arith, length-last_of room pushed, length-append pushed (sent ∷ [])) in
        let within : (length pushed - room) + 1 ≤ length pushed = omega (arith, length-last_of room pushed) in
        ap (λ (rest : List SentFrame). rest ++ sent ∷ []) (drop-drop 1 (length pushed - room) pushed)
        ∙ (sym (drop-append-le ((length pushed - room) + 1) pushed (sent ∷ []) within)
        ∙ ap (λ (n : ℕ). drop n (pushed ++ sent ∷ [])) (sym after))

pub push_stands : (shelf : Shelf) (pushed : List SentFrame) (sent : SentFrame) → PushStands shelf pushed sent
push_stands shelf pushed sent some s = record {
  count_is = omega (arith, s.count_is, length-append pushed (sent ∷ []));
  frames_are = rw s.frames_are (staying-last_of shelf.room pushed sent some);
}

pub shelved-last_of : (room b : ℕ) (pushed : List SentFrame) → shelved room (length pushed) (last_of room pushed) b ≡ held_of room pushed b
shelved-last_of room b pushed = go (is_held room (length pushed) b) refl
  where
    go : (t : Bool) → is_held room (length pushed) b ≡ t
        → (if t then slice_get (last_of room pushed) (length (last_of room pushed) - 1 - (length pushed - b)) else None) ≡ (if t then slice_get pushed (b - 1) else None)
    go true e =
        let last = and_parts (nat_le 1 b && nat_le b (length pushed)) (nat_lt (length pushed - b) room) e in
        let ends = and_parts (nat_le 1 b) (nat_le b (length pushed)) last.0 in
        let from_one : 1 ≤ b = leb-true 1 b ends.0 in
        let sent : b ≤ length pushed = leb-true b (length pushed) ends.1 in
        let recent : length pushed - b < room = ltb-true (length pushed - b) room last.1 in
        slice_get-drop pushed (length pushed - room) (length (last_of room pushed) - 1 - (length pushed - b)) (b - 1)
        (omega (arith, length-last_of room pushed))
    go false e = refl

pub oldest_out-last_of : (room : ℕ) (pushed : List SentFrame) → oldest_out room (last_of room pushed) ≡ fallen_of room pushed
oldest_out-last_of room pushed = go (nat_lt (length pushed) room) refl
  where
    go : (t : Bool) → nat_lt (length pushed) room ≡ t → oldest_out room (last_of room pushed) ≡ (if t then None else slice_get pushed (length pushed - room))
    go true e =
        let short : length pushed < room = ltb-true (length pushed) room e in
        let fits : length (last_of room pushed) < room = omega (arith, length-last_of room pushed) in
        rw (lt-ltb (length (last_of room pushed)) room fits) refl
    go false e =
        let full : room ≤ length pushed = ltb-false (length pushed) room e in
        let fills : room ≤ length (last_of room pushed) = omega (arith, length-last_of room pushed) in
        rw (le-ltb (length (last_of room pushed)) room fills) (slice_get-drop pushed (length pushed - room) 0 (length pushed - room) (omega arith))

pub store_answers : (shelf : Shelf) (pushed : List SentFrame) → StoreAnswers shelf pushed
store_answers shelf pushed some s =
    let held : (b : ℕ) → shelved shelf.room shelf.count shelf.frames b ≡ held_of shelf.room pushed b =
    λ b. rw (s.count_is, s.frames_are) (shelved-last_of shelf.room b pushed) in
    record {
      held = held;
      fallen = rw s.frames_are (oldest_out-last_of shelf.room pushed);
      reply = λ first last b. rw (held b, s.count_is) refl;
    }
