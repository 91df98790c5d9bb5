-- Kept packets of a list that grows at its end.
use Rattle.std.proofs.Common.{◌≡◌, ℕ, List, [], ◌∷◌, ◌++◌, true, false, refl, sym}
use Rattle.std.specs.Prelude.{◌+◌, ◌&&◌, ◌||◌, ◌==◌, nat_lt, length, Some, None}
use Rattle.stream_packets.specs.declared.fields.Head.{Head}
use Rattle.stream_packets.specs.declared.fields.LeaderInfo.{LeaderInfo}
use Rattle.stream_packets.specs.Packets.{StreamPacket, leader, payload, trailer, notice, head_of, is_trailer}
use Rattle.block_image.specs.Kept.{kept, kept_after, keep, takes, has_id, has_trailer}
use Rattle.stream_packets.specs.FramePackets.{payload_start}
use Rattle.block_image.specs.Image.{leader_in, has_trailer_at, has_payload, is_long_enough, reaches_past}
use Rattle.block_image.specs.KeptFacts.{AreLeadersFirst}
use Rattle.std.proofs.lemmas.Bool.{eqb-false, or_parts}
use Rattle.block_image.proofs.Bools.{or_assoc, or_false, first_some, first_some-none}

pub kept_after-append : (p b : ℕ) (before xs ys : List StreamPacket) → kept_after p b before (xs ++ ys) ≡ kept_after p b (kept_after p b before xs) ys
kept_after-append p b before [] ys = refl
kept_after-append p b before (x ∷ xs) ys = kept_after-append p b (keep p b before x) xs ys

pub kept-append : (p b : ℕ) (xs ys : List StreamPacket) → kept p b (xs ++ ys) ≡ kept_after p b (kept p b xs) ys
kept-append p b xs ys = kept_after-append p b [] xs ys

pub kept-push : (p b : ℕ) (xs : List StreamPacket) (x : StreamPacket) → kept p b (xs ++ x ∷ []) ≡ keep p b (kept p b xs) x
kept-push p b xs x = kept_after-append p b [] xs (x ∷ [])

pub keep-taken : (p b : ℕ) (ks : List StreamPacket) (x : StreamPacket) → takes p b ks x ≡ true → keep p b ks x ≡ ks ++ x ∷ []
keep-taken p b ks x h = rw h

pub keep-left : (p b : ℕ) (ks : List StreamPacket) (x : StreamPacket) → takes p b ks x ≡ false → keep p b ks x ≡ ks
keep-left p b ks x h = rw h

pub has_id-append : (k : ℕ) (xs ys : List StreamPacket) → has_id k (xs ++ ys) ≡ (has_id k xs || has_id k ys)
has_id-append k [] ys = refl
has_id-append k (x ∷ xs) ys = rw (has_id-append k xs ys) (sym (or_assoc ((head_of x).id == k) (has_id k xs) (has_id k ys)))

pub has_id-push : (k : ℕ) (xs : List StreamPacket) (x : StreamPacket) → has_id k (xs ++ x ∷ []) ≡ (has_id k xs || (head_of x).id == k)
has_id-push k xs x = rw (has_id-append k xs (x ∷ []), or_false ((head_of x).id == k))

pub has_trailer-append : (xs ys : List StreamPacket) → has_trailer (xs ++ ys) ≡ (has_trailer xs || has_trailer ys)
has_trailer-append [] ys = refl
has_trailer-append (x ∷ xs) ys = rw (has_trailer-append xs ys) (sym (or_assoc (is_trailer x) (has_trailer xs) (has_trailer ys)))

pub has_trailer-push : (xs : List StreamPacket) (x : StreamPacket) → has_trailer (xs ++ x ∷ []) ≡ (has_trailer xs || is_trailer x)
has_trailer-push xs x = rw (has_trailer-append xs (x ∷ []), or_false (is_trailer x))

pub has_trailer_at-append : (k : ℕ) (xs ys : List StreamPacket) → has_trailer_at k (xs ++ ys) ≡ (has_trailer_at k xs || has_trailer_at k ys)
has_trailer_at-append k [] ys = refl
has_trailer_at-append k (x ∷ xs) ys =
    rw (has_trailer_at-append k xs ys) (sym (or_assoc (is_trailer x && (head_of x).id == k) (has_trailer_at k xs) (has_trailer_at k ys)))

pub has_trailer_at-push : (k : ℕ) (xs : List StreamPacket) (x : StreamPacket) → has_trailer_at k (xs ++ x ∷ []) ≡ (has_trailer_at k xs || (is_trailer x && (head_of x).id == k))
has_trailer_at-push k xs x = rw (has_trailer_at-append k xs (x ∷ []), or_false (is_trailer x && (head_of x).id == k))

pub has_payload-append : (p len k : ℕ) (xs ys : List StreamPacket) → has_payload p len k (xs ++ ys) ≡ (has_payload p len k xs || has_payload p len k ys)
has_payload-append p len k [] ys = refl
has_payload-append p len k (leader h i ∷ xs) ys = has_payload-append p len k xs ys
has_payload-append p len k (payload h d ∷ xs) ys =
    rw (has_payload-append p len k xs ys)
    (sym (or_assoc (h.id == k && is_long_enough p len k (length d)) (has_payload p len k xs) (has_payload p len k ys)))
has_payload-append p len k (trailer h y ∷ xs) ys = has_payload-append p len k xs ys
has_payload-append p len k (notice h ∷ xs) ys = has_payload-append p len k xs ys

pub reaches_past-append : (p size : ℕ) (xs ys : List StreamPacket) → reaches_past p size (xs ++ ys) ≡ (reaches_past p size xs || reaches_past p size ys)
reaches_past-append p size [] ys = refl
reaches_past-append p size (leader h i ∷ xs) ys = reaches_past-append p size xs ys
reaches_past-append p size (payload h d ∷ xs) ys =
    rw (reaches_past-append p size xs ys)
    (sym (or_assoc (nat_lt size (payload_start p h.id + length d)) (reaches_past p size xs) (reaches_past p size ys)))
reaches_past-append p size (trailer h y ∷ xs) ys = reaches_past-append p size xs ys
reaches_past-append p size (notice h ∷ xs) ys = reaches_past-append p size xs ys

-- after one more payload
pub reaches_past-push : (p size : ℕ) (xs : List StreamPacket) (h : Head) (d : List ℕ) → reaches_past p size (xs ++ payload h d ∷ []) ≡ (reaches_past p size xs || nat_lt size (payload_start p h.id + length d))
reaches_past-push p size xs h d =
    rw (reaches_past-append p size xs (payload h d ∷ []), or_false (nat_lt size (payload_start p h.id + length d)))

pub has_payload-push : (p len k : ℕ) (xs : List StreamPacket) (h : Head) (d : List ℕ) → has_payload p len k (xs ++ payload h d ∷ []) ≡ (has_payload p len k xs || (h.id == k && is_long_enough p len k (length d)))
has_payload-push p len k xs h d =
    rw (has_payload-append p len k xs (payload h d ∷ []), or_false (h.id == k && is_long_enough p len k (length d)))

-- the first kept leader counts
pub leader_in-append : (xs ys : List StreamPacket) → leader_in (xs ++ ys) ≡ first_some (leader_in xs) (leader_in ys)
leader_in-append [] ys = refl
leader_in-append (leader h i ∷ xs) ys = refl
leader_in-append (payload h d ∷ xs) ys = leader_in-append xs ys
leader_in-append (trailer h y ∷ xs) ys = leader_in-append xs ys
leader_in-append (notice h ∷ xs) ys = leader_in-append xs ys

pub leader_in-push_first : (xs : List StreamPacket) (h : Head) (i : LeaderInfo) → leader_in xs ≡ None → leader_in (xs ++ leader h i ∷ []) ≡ Some i
leader_in-push_first xs h i e = rw (leader_in-append xs (leader h i ∷ []), e)

pub leader_in-push_payload : (xs : List StreamPacket) (h : Head) (d : List ℕ) → leader_in (xs ++ payload h d ∷ []) ≡ leader_in xs
leader_in-push_payload xs h d = rw (leader_in-append xs (payload h d ∷ []), first_some-none (leader_in xs))

pub leader_in-push_trailer : (xs : List StreamPacket) (h : Head) (y : ℕ) → leader_in (xs ++ trailer h y ∷ []) ≡ leader_in xs
leader_in-push_trailer xs h y = rw (leader_in-append xs (trailer h y ∷ []), first_some-none (leader_in xs))

-- A leader is there wherever its id is: each parsed packet with id 0 is a leader, and only those.
pub leader_in-none : (xs : List StreamPacket) → AreLeadersFirst xs → has_id 0 xs ≡ false → leader_in xs ≡ None
leader_in-none [] first none = refl
leader_in-none (leader h i ∷ xs) first none = absurd (eqb-false h.id 0 (or_parts (h.id == 0) (has_id 0 xs) none).0 first.0)
leader_in-none (payload h d ∷ xs) first none = leader_in-none xs first.1 (or_parts (h.id == 0) (has_id 0 xs) none).1
leader_in-none (trailer h y ∷ xs) first none = leader_in-none xs first.1 (or_parts (h.id == 0) (has_id 0 xs) none).1
leader_in-none (notice h ∷ xs) first none = leader_in-none xs first.1 (or_parts (h.id == 0) (has_id 0 xs) none).1
