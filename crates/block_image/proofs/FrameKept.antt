-- Kept packets that are all of one frame.
use Rattle.std.proofs.Common.{◌≡◌, ◌⊎◌, inl, inr, subst, ℕ, zero, suc, ◌+◌, ◌<◌, ◌≤◌, List, [], ◌∷◌, length, true, false, refl, ap, sym, ◌∙◌, arith}
use Rattle.std.specs.Prelude.{◌&&◌, ◌==◌, Option, Some}
use Rattle.std.specs.List.{AllByRecursion}
use Rattle.std.proofs.lemmas.Bool.{and_parts, and_from, or_cases, or_left, or_right, eqb-true, eq-eqb, cases_lt, false_from_ne_true, false≢true}
use Rattle.gev_types.specs.declared.frame.Frame.{Frame}
use Rattle.stream_packets.specs.declared.fields.Head.{Head}
use Rattle.stream_packets.specs.declared.fields.LeaderInfo.{LeaderInfo}
use Rattle.stream_packets.specs.Packets.{StreamPacket, leader, payload, trailer, notice, head_of}
use Rattle.stream_packets.specs.FramePackets.{payload_count, payload_bytes, leader_info, IsPacketOf}
use Rattle.stream_packets.specs.Sent.{CarriesFrame, IsSent}
use Rattle.block_image.specs.Kept.{has_id, has_trailer}
use Rattle.block_image.specs.Image.{leader_in, has_trailer_at, is_long_enough, has_payload, has_payloads}
use Rattle.block_image.specs.KeptFacts.{may_keep}
use Rattle.block_image.proofs.IsKept.{may_keep_parts}
use Rattle.block_image.proofs.Members.{SomeByRecursion, Has}
use Rattle.block_image.proofs.FramePieces.{is_long_enough-payload_bytes}

-- the kept packets are all of this frame
abbrev pub AreOfFrame : Frame → ℕ → List StreamPacket → Type 0
AreOfFrame f p ks = AllByRecursion (IsPacketOf f p) ks

-- a sent packet that its block may keep carries that block's frame
pub carries_frame : (frames : ℕ → Option Frame) (p b : ℕ) (x : StreamPacket) → may_keep p b x ≡ true → IsSent frames p x → CarriesFrame frames p x
carries_frame frames p b (leader h i) may sent = sent
carries_frame frames p b (payload h d) may sent = sent
carries_frame frames p b (trailer h y) may sent = sent
carries_frame frames p b (notice h) may sent = cc (may_keep_parts p b (notice h) may).no_notice

pub frame_of_block : (frames : ℕ → Option Frame) (p b : ℕ) (x : StreamPacket) (may : may_keep p b x ≡ true) (c : CarriesFrame frames p x) → frames b ≡ Some c.frame
frame_of_block frames p b x may c =
    ap frames (sym (eqb-true (head_of x).block b (may_keep_parts p b x may).block)) ∙ c.of_block

pub some_same : {T : Type 0} (a b : T) → Some a ≡ Some b → a ≡ b
some_same a b e = cc

pub of_frame_from_sent : (frames : ℕ → Option Frame) (p b : ℕ) (f : Frame) (x : StreamPacket) → frames b ≡ Some f → may_keep p b x ≡ true → IsSent frames p x → IsPacketOf f p x
of_frame_from_sent frames p b f x is may sent =
    let c = carries_frame frames p b x may sent in
    let same : c.frame ≡ f = some_same c.frame f (sym (frame_of_block frames p b x may c) ∙ is) in
    subst (λ g. IsPacketOf g p x) same c.packet

-- members by their ids

has_id-member : (k : ℕ) (ks : List StreamPacket) → has_id k ks ≡ true → SomeByRecursion (λ x. (head_of x).id ≡ k) ks
has_id-member k [] has = cc
has_id-member k (x ∷ xs) has = go (has_id-member k xs) (or_cases ((head_of x).id == k) (has_id k xs) has) where
  go : (has_id k xs ≡ true → SomeByRecursion (λ y. (head_of y).id ≡ k) xs) → (((head_of x).id == k) ≡ true) ⊎ (has_id k xs ≡ true) → SomeByRecursion (λ y. (head_of y).id ≡ k) (x ∷ xs)
  go rest (inl here) = inl (eqb-true (head_of x).id k here)
  go rest (inr later) = inr (rest later)

pub member-has_id : (ks : List StreamPacket) (x : StreamPacket) → Has ks x → has_id (head_of x).id ks ≡ true
member-has_id [] x has = absurd has
member-has_id (y ∷ ys) x (inl e) = or_left ((head_of y).id == (head_of x).id) (has_id (head_of x).id ys) (eq-eqb (head_of y).id (head_of x).id (ap (λ z. (head_of z).id) e))
member-has_id (y ∷ ys) x (inr has) = or_right ((head_of y).id == (head_of x).id) (has_id (head_of x).id ys) (member-has_id ys x has)

-- the leader

leader_by_id : (f : Frame) (p : ℕ) (x : StreamPacket) → IsPacketOf f p x → (head_of x).id ≡ 0 → leader_in (x ∷ []) ≡ Some (leader_info f)
leader_by_id f p (leader h i) is zeroth = ap Some is.2
leader_by_id f p (payload h d) is zeroth = absurd (omega (arith, is.1))
leader_by_id f p (trailer h y) is zeroth = absurd (omega (arith, is.1))
leader_by_id f p (notice h) is zeroth = absurd is

-- whatever leader was kept says what the frame is
pub leader_in-of_frame : (f : Frame) (p : ℕ) (ks : List StreamPacket) (i : LeaderInfo) → AreOfFrame f p ks → leader_in ks ≡ Some i → i ≡ leader_info f
leader_in-of_frame f p [] i all e = cc
leader_in-of_frame f p (leader h j ∷ xs) i all e = sym (some_same j i e) ∙ all.0.2
leader_in-of_frame f p (payload h d ∷ xs) i all e = leader_in-of_frame f p xs i all.1 e
leader_in-of_frame f p (trailer h y ∷ xs) i all e = leader_in-of_frame f p xs i all.1 e
leader_in-of_frame f p (notice h ∷ xs) i all e = leader_in-of_frame f p xs i all.1 e

pub leader_in-by_id : (f : Frame) (p : ℕ) (ks : List StreamPacket) → AreOfFrame f p ks → has_id 0 ks ≡ true → leader_in ks ≡ Some (leader_info f)
leader_in-by_id f p [] all has = cc
leader_in-by_id f p (leader h j ∷ xs) all has = ap Some all.0.2
leader_in-by_id f p (payload h d ∷ xs) all has = go (leader_in-by_id f p xs all.1) (or_cases (h.id == 0) (has_id 0 xs) has) where
  go : (has_id 0 xs ≡ true → leader_in xs ≡ Some (leader_info f)) → ((h.id == 0) ≡ true) ⊎ (has_id 0 xs ≡ true) → leader_in xs ≡ Some (leader_info f)
  go rest (inl here) = absurd (omega (arith, eqb-true h.id 0 here, all.0.1))
  go rest (inr later) = rest later
leader_in-by_id f p (trailer h y ∷ xs) all has = go (leader_in-by_id f p xs all.1) (or_cases (h.id == 0) (has_id 0 xs) has) where
  go : (has_id 0 xs ≡ true → leader_in xs ≡ Some (leader_info f)) → ((h.id == 0) ≡ true) ⊎ (has_id 0 xs ≡ true) → leader_in xs ≡ Some (leader_info f)
  go rest (inl here) = absurd (omega (arith, eqb-true h.id 0 here, all.0.1))
  go rest (inr later) = rest later
leader_in-by_id f p (notice h ∷ xs) all has = absurd all.0

-- the trailer

pub has_trailer_at-by_kind : (f : Frame) (p : ℕ) (ks : List StreamPacket) → AreOfFrame f p ks → has_trailer ks ≡ true → has_trailer_at (payload_count p (length f.pixels) + 1) ks ≡ true
has_trailer_at-by_kind f p [] all has = cc
has_trailer_at-by_kind f p (leader h i ∷ xs) all has = has_trailer_at-by_kind f p xs all.1 has
has_trailer_at-by_kind f p (payload h d ∷ xs) all has = has_trailer_at-by_kind f p xs all.1 has
has_trailer_at-by_kind f p (trailer h y ∷ xs) all has =
    or_left (h.id == payload_count p (length f.pixels) + 1) (has_trailer_at (payload_count p (length f.pixels) + 1) xs)
    (eq-eqb h.id (payload_count p (length f.pixels) + 1) all.0.1)
has_trailer_at-by_kind f p (notice h ∷ xs) all has = has_trailer_at-by_kind f p xs all.1 has

-- a packet with the last id is the trailer
pub has_trailer-by_id : (f : Frame) (p : ℕ) (ks : List StreamPacket) → AreOfFrame f p ks → has_id (payload_count p (length f.pixels) + 1) ks ≡ true → has_trailer ks ≡ true
has_trailer-by_id f p [] all has = cc
has_trailer-by_id f p (leader h i ∷ xs) all has = go (has_trailer-by_id f p xs all.1) (or_cases (h.id == payload_count p (length f.pixels) + 1) (has_id (payload_count p (length f.pixels) + 1) xs) has) where
  go : (has_id (payload_count p (length f.pixels) + 1) xs ≡ true → has_trailer xs ≡ true) → ((h.id == payload_count p (length f.pixels) + 1) ≡ true) ⊎ (has_id (payload_count p (length f.pixels) + 1) xs ≡ true) → has_trailer xs ≡ true
  go rest (inl here) = absurd (omega (arith, eqb-true h.id (payload_count p (length f.pixels) + 1) here, all.0.1))
  go rest (inr later) = rest later
has_trailer-by_id f p (payload h d ∷ xs) all has = go (has_trailer-by_id f p xs all.1) (or_cases (h.id == payload_count p (length f.pixels) + 1) (has_id (payload_count p (length f.pixels) + 1) xs) has) where
  go : (has_id (payload_count p (length f.pixels) + 1) xs ≡ true → has_trailer xs ≡ true) → ((h.id == payload_count p (length f.pixels) + 1) ≡ true) ⊎ (has_id (payload_count p (length f.pixels) + 1) xs ≡ true) → has_trailer xs ≡ true
  go rest (inl here) = absurd (omega (arith, eqb-true h.id (payload_count p (length f.pixels) + 1) here, all.0.2))
  go rest (inr later) = rest later
has_trailer-by_id f p (trailer h y ∷ xs) all has = refl
has_trailer-by_id f p (notice h ∷ xs) all has = absurd all.0

-- the payloads

pub has_payload-by_id : (f : Frame) (p k : ℕ) (ks : List StreamPacket) → 1 ≤ p → 1 ≤ k → k ≤ payload_count p (length f.pixels) → AreOfFrame f p ks → has_id k ks ≡ true → has_payload p (length f.pixels) k ks ≡ true
has_payload-by_id f p k [] some one top all has = cc
has_payload-by_id f p k (leader h i ∷ xs) some one top all has = go (has_payload-by_id f p k xs some one top all.1) (or_cases (h.id == k) (has_id k xs) has) where
  go : (has_id k xs ≡ true → has_payload p (length f.pixels) k xs ≡ true) → ((h.id == k) ≡ true) ⊎ (has_id k xs ≡ true) → has_payload p (length f.pixels) k xs ≡ true
  go rest (inl here) = absurd (omega (arith, eqb-true h.id k here, all.0.1))
  go rest (inr later) = rest later
has_payload-by_id f p k (payload h d ∷ xs) some one top all has = go (has_payload-by_id f p k xs some one top all.1) (or_cases (h.id == k) (has_id k xs) has) where
  go : (has_id k xs ≡ true → has_payload p (length f.pixels) k xs ≡ true) → ((h.id == k) ≡ true) ⊎ (has_id k xs ≡ true) → has_payload p (length f.pixels) k (payload h d ∷ xs) ≡ true
  go rest (inl here) =
      let same : h.id ≡ k = eqb-true h.id k here in
      let bytes : d ≡ payload_bytes p f.pixels k = all.0.3 ∙ ap (payload_bytes p f.pixels) same in
      or_left (h.id == k && is_long_enough p (length f.pixels) k (length d)) (has_payload p (length f.pixels) k xs)
      (and_from (h.id == k) (is_long_enough p (length f.pixels) k (length d)) here
      (ap (λ e. is_long_enough p (length f.pixels) k (length e)) bytes ∙ is_long_enough-payload_bytes p f.pixels k some one))
  go rest (inr later) = or_right (h.id == k && is_long_enough p (length f.pixels) k (length d)) (has_payload p (length f.pixels) k xs) (rest later)
has_payload-by_id f p k (trailer h y ∷ xs) some one top all has = go (has_payload-by_id f p k xs some one top all.1) (or_cases (h.id == k) (has_id k xs) has) where
  go : (has_id k xs ≡ true → has_payload p (length f.pixels) k xs ≡ true) → ((h.id == k) ≡ true) ⊎ (has_id k xs ≡ true) → has_payload p (length f.pixels) k xs ≡ true
  go rest (inl here) = absurd (omega (arith, eqb-true h.id k here, all.0.1))
  go rest (inr later) = rest later
has_payload-by_id f p k (notice h ∷ xs) some one top all has = absurd all.0

pub has_payloads-from_each : (p len n : ℕ) (ks : List StreamPacket) → ((k : ℕ) → 1 ≤ k → k ≤ n → has_payload p len k ks ≡ true) → has_payloads p len n ks ≡ true
has_payloads-from_each p len zero ks each = refl
has_payloads-from_each p len (suc n) ks each =
    and_from (has_payloads p len n ks) (has_payload p len (suc n) ks)
    (has_payloads-from_each p len n ks (λ k one top. each k one (omega arith))) (each (suc n) (omega arith) (omega arith))

pub has_payloads-each : (p len n : ℕ) (ks : List StreamPacket) (k : ℕ) → has_payloads p len n ks ≡ true → 1 ≤ k → k ≤ n → has_payload p len k ks ≡ true
has_payloads-each p len zero ks k all one top = absurd (omega arith)
has_payloads-each p len (suc n) ks k all one top = go (has_payloads-each p len n ks k) (cases_lt n k) where
  parts : (has_payloads p len n ks ≡ true) × (has_payload p len (suc n) ks ≡ true)
  parts = and_parts (has_payloads p len n ks) (has_payload p len (suc n) ks) all

  go : (has_payloads p len n ks ≡ true → 1 ≤ k → k ≤ n → has_payload p len k ks ≡ true) → (n < k) ⊎ (k ≤ n) → has_payload p len k ks ≡ true
  go rest (inl last) = let same : suc n ≡ k = omega arith in subst (λ m. has_payload p len m ks ≡ true) same parts.1
  go rest (inr lower) = rest parts.0 one lower

pub has_payloads-missing : (p len n : ℕ) (ks : List StreamPacket) (k : ℕ) → has_payload p len k ks ≡ false → 1 ≤ k → k ≤ n → has_payloads p len n ks ≡ false
has_payloads-missing p len n ks k missing one top =
    false_from_ne_true (has_payloads p len n ks) (λ all. false≢true (sym missing ∙ has_payloads-each p len n ks k all one top))

-- a kept payload with this id
pub record PayloadAt (k : ℕ) (ks : List StreamPacket) : Type 0 where
  pub head : Head
  pub bytes : List ℕ
  pub id : head.id ≡ k
  pub inside : Has ks (payload head bytes)

later_payload : {k : ℕ} {ks : List StreamPacket} (x : StreamPacket) → PayloadAt k ks → PayloadAt k (x ∷ ks)
later_payload x at = record { head = at.head; bytes = at.bytes; id = at.id; inside = inr at.inside }

pub payload_at_id : (p len k : ℕ) (ks : List StreamPacket) → has_payload p len k ks ≡ true → PayloadAt k ks
payload_at_id p len k [] has = cc
payload_at_id p len k (leader h i ∷ xs) has = later_payload (leader h i) (payload_at_id p len k xs has)
payload_at_id p len k (payload h d ∷ xs) has = go (payload_at_id p len k xs) (or_cases (h.id == k && is_long_enough p len k (length d)) (has_payload p len k xs) has) where
  go : (has_payload p len k xs ≡ true → PayloadAt k xs) → ((h.id == k && is_long_enough p len k (length d)) ≡ true) ⊎ (has_payload p len k xs ≡ true) → PayloadAt k (payload h d ∷ xs)
  go rest (inl here) =
      record { head = h; bytes = d; id = eqb-true h.id k (and_parts (h.id == k) (is_long_enough p len k (length d)) here).0; inside = inl refl }
  go rest (inr later) = later_payload (payload h d) (rest later)
payload_at_id p len k (trailer h y ∷ xs) has = later_payload (trailer h y) (payload_at_id p len k xs has)
payload_at_id p len k (notice h ∷ xs) has = later_payload (notice h) (payload_at_id p len k xs has)
