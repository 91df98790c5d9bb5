-- A push keeps what each store keeps.
use Rattle.std.proofs.Common.{◌≡◌, ℕ, suc, ◌+◌, ◌<◌, ◌≤◌, Bool, true, false, List, [], ◌∷◌, ◌++◌, length, drop, refl, arith, length-append, length-drop}
use Rattle.std.specs.Prelude.{nat_lt, slice_get, if◌then◌else◌}
use Rattle.std.proofs.lemmas.Bool.{ltb-true, ltb-false}
use Rattle.resend_store.specs.declared.sent.SentFrame.{SentFrame}
use Rattle.resend_store.specs.Sent.{IsSentFrame}
use Rattle.resend_store.specs.Shelf.{IsShelf, IsShelved, staying}
use Rattle.resend_store.proofs.Places.{AllAt, AllAt-push, AllAt-rest, IfSome-map}

-- one more at the end of those that stay
pub members_pushed : (count : ℕ) (kept : List SentFrame) (sent : SentFrame) → AllAt (IsShelved (length kept + 1) (count + 1)) kept
    → IsSentFrame sent → sent.frame.block ≡ count + 1 → AllAt (IsShelved (length (kept ++ sent ∷ [])) (count + 1)) (kept ++ sent ∷ [])
members_pushed count kept sent all good next =
    let longer : length (kept ++ sent ∷ []) ≡ length kept + 1 = length-append kept (sent ∷ []) in
    rw longer (AllAt-push (IsShelved (length kept + 1) (count + 1)) kept sent all (record { good = good; numbered = omega arith }))

-- where nothing falls out
pub members_stay : (count : ℕ) (frames : List SentFrame) → AllAt (IsShelved (length frames) count) frames
    → AllAt (IsShelved (length frames + 1) (count + 1)) frames
members_stay count frames all place =
    IfSome-map (slice_get frames place) (IsShelved (length frames) count place) (IsShelved (length frames + 1) (count + 1) place)
    (λ x h. record { good = h.good; numbered = omega (arith, h.numbered) }) (all place)

-- where the oldest falls out
pub members_rest : (count : ℕ) (frames : List SentFrame) → 1 ≤ length frames → AllAt (IsShelved (length frames) count) frames
    → AllAt (IsShelved (length (drop 1 frames) + 1) (count + 1)) (drop 1 frames)
members_rest count frames some all place =
    let shorter : length (drop 1 frames) + 1 ≡ length frames = omega (arith, length-drop 1 frames) in
    rw shorter (IfSome-map (slice_get (drop 1 frames) place) (IsShelved (length frames) count (suc place)) (IsShelved (length frames) (count + 1) place)
    (λ x h. record { good = h.good; numbered = omega (arith, h.numbered) }) (AllAt-rest (IsShelved (length frames) count) frames all place))

pub shelf_pushed : (room count : ℕ) (frames : List SentFrame) (sent : SentFrame) → IsShelf room count frames → IsSentFrame sent
    → sent.frame.block ≡ count + 1 → IsShelf room (count + 1) (staying room frames ++ sent ∷ [])
shelf_pushed room count frames sent s good next = go (nat_lt (length frames) room) refl
  where
    go : (b : Bool) → nat_lt (length frames) room ≡ b → IsShelf room (count + 1) ((if b then frames else drop 1 frames) ++ sent ∷ [])
    go true e =
        let short : length frames < room = ltb-true (length frames) room e in
        record {
          some = s.some;
          few = s.few;
          filled = omega (arith, s.filled, length-append frames (sent ∷ []));
          members = members_pushed count frames sent (members_stay count frames s.members) good next;
        }
    go false e =
        let full : room ≤ length frames = ltb-false (length frames) room e in
        record {
          some = s.some;
          few = s.few;
          filled = omega (arith, s.filled, s.some, length-append (drop 1 frames) (sent ∷ []), length-drop 1 frames);
          members = members_pushed count (drop 1 frames) sent (members_rest count frames (omega (arith, s.some)) s.members) good next;
        }
