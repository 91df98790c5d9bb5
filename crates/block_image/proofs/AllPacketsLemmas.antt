-- The two ways to say that a packet is a frame's, and that all of them have come.
use Rattle.std.proofs.Common.{◌≡◌, ◌⊎◌, inl, inr, subst, ℕ, zero, suc, ◌+◌, ◌<◌, ◌≤◌, List, [], ◌∷◌, ◌++◌, length, refl, ap, sym, ◌∙◌, arith}
use Rattle.std.specs.List.{AllByRecursion}
use Rattle.std.proofs.lemmas.List.Elements.{All-from_recursion, recursion_from_All}
use Rattle.std.proofs.lemmas.Bool.{cases_lt}
use Rattle.gev_types.specs.declared.frame.Frame.{Frame}
use Rattle.stream_packets.specs.Packets.{StreamPacket, leader, payload, trailer, notice}
use Rattle.stream_packets.specs.FramePackets.{payload_count, payload_bytes, sent_head, leader_info, payloads_of, packets_of, IsPacketOf}
use Rattle.block_image.specs.AllPackets.{AreAlike, HasCome, HasAllPackets, PacketsAgree, AllPacketsAgree}
use Rattle.block_image.proofs.Members.{SomeByRecursion, some_from_Any, Any-from_some, some-append_left, some-append_right, some-append_cases}

-- payload k of a frame
abbrev payload_of : Frame → ℕ → ℕ → StreamPacket
payload_of f p k = payload (sent_head f k) (payload_bytes p f.pixels k)

-- the end of a frame's list, from the payloads on
abbrev rest_of : Frame → ℕ → List StreamPacket
rest_of f p =
    payloads_of f p (payload_count p (length f.pixels)) ++ trailer (sent_head f (payload_count p (length f.pixels) + 1)) f.rows ∷ []

-- in the list

some_payload : (P : StreamPacket → Type 0) (f : Frame) (p n k : ℕ) → 1 ≤ k → k ≤ n → P (payload_of f p k) → SomeByRecursion P (payloads_of f p n)
some_payload P f p zero k one top holds = absurd (omega arith)
some_payload P f p (suc n) k one top holds = go (some_payload P f p n k one) (cases_lt n k) where
  go : (k ≤ n → P (payload_of f p k) → SomeByRecursion P (payloads_of f p n)) → (n < k) ⊎ (k ≤ n) → SomeByRecursion P (payloads_of f p (suc n))
  go rest (inl last) =
      let same : k ≡ suc n = omega arith in
      some-append_right P (payloads_of f p n) (payload_of f p (suc n) ∷ []) (inl (subst (λ m. P (payload_of f p m)) same holds))
  go rest (inr lower) = some-append_left P (payloads_of f p n) (payload_of f p (suc n) ∷ []) (rest lower holds)

-- a payload of the list at which P holds
record SomePayload (P : StreamPacket → Type 0) (f : Frame) (p n : ℕ) : Type 0 where
  k : ℕ
  one : 1 ≤ k
  top : k ≤ n
  holds : P (payload_of f p k)

payload_from_some : (P : StreamPacket → Type 0) (f : Frame) (p n : ℕ) → SomeByRecursion P (payloads_of f p n) → SomePayload P f p n
payload_from_some P f p zero s = absurd s
payload_from_some P f p (suc n) s = go (payload_from_some P f p n) (some-append_cases P (payloads_of f p n) (payload_of f p (suc n) ∷ []) s) where
  go : (SomeByRecursion P (payloads_of f p n) → SomePayload P f p n) → SomeByRecursion P (payloads_of f p n) ⊎ SomeByRecursion P (payload_of f p (suc n) ∷ []) → SomePayload P f p (suc n)
  go rest (inl early) = let m = rest early in record { k = m.k; one = m.one; top = omega (arith, m.top); holds = m.holds }
  go rest (inr (inl last)) = record { k = suc n; one = omega arith; top = omega arith; holds = last }
  go rest (inr (inr none)) = absurd none

-- from the relation to the list
listed : (f : Frame) (p : ℕ) (x : StreamPacket) → IsPacketOf f p x → SomeByRecursion (λ y. AreAlike y x) (packets_of f p)
listed f p (leader h i) is = inl ((sym is.0, sym is.1), sym is.2)
listed f p (payload h d) is =
    inr (some-append_left (λ y. AreAlike y (payload h d)) (payloads_of f p (payload_count p (length f.pixels))) (trailer (sent_head f (payload_count p (length f.pixels) + 1)) f.rows ∷ [])
    (some_payload (λ y. AreAlike y (payload h d)) f p (payload_count p (length f.pixels)) h.id is.1 is.2 ((sym is.0, refl), sym is.3)))
listed f p (trailer h y) is =
    inr (some-append_right (λ z. AreAlike z (trailer h y)) (payloads_of f p (payload_count p (length f.pixels))) (trailer (sent_head f (payload_count p (length f.pixels) + 1)) f.rows ∷ [])
    (inl ((sym is.0, sym is.1), sym is.2)))
listed f p (notice h) is = absurd is

-- and back
alike_leader : (f : Frame) (p : ℕ) (x : StreamPacket) → AreAlike (leader (sent_head f 0) (leader_info f)) x → IsPacketOf f p x
alike_leader f p (leader h i) a = (sym a.0.0, sym a.0.1, sym a.1)
alike_leader f p (payload h d) a = absurd a
alike_leader f p (trailer h y) a = absurd a
alike_leader f p (notice h) a = absurd a

alike_payload : (f : Frame) (p k : ℕ) (x : StreamPacket) → 1 ≤ k → k ≤ payload_count p (length f.pixels) → AreAlike (payload_of f p k) x → IsPacketOf f p x
alike_payload f p k (leader h i) one top a = absurd a
alike_payload f p k (payload h d) one top a =
    (sym a.0.0, omega (arith, a.0.1), omega (arith, a.0.1), sym a.1 ∙ ap (payload_bytes p f.pixels) a.0.1)
alike_payload f p k (trailer h y) one top a = absurd a
alike_payload f p k (notice h) one top a = absurd a

alike_trailer : (f : Frame) (p : ℕ) (x : StreamPacket) → AreAlike (trailer (sent_head f (payload_count p (length f.pixels) + 1)) f.rows) x → IsPacketOf f p x
alike_trailer f p (leader h i) a = absurd a
alike_trailer f p (payload h d) a = absurd a
alike_trailer f p (trailer h y) a = (sym a.0.0, sym a.0.1, sym a.1)
alike_trailer f p (notice h) a = absurd a

unlisted : (f : Frame) (p : ℕ) (x : StreamPacket) → SomeByRecursion (λ y. AreAlike y x) (packets_of f p) → IsPacketOf f p x
unlisted f p x (inl a) = alike_leader f p x a
unlisted f p x (inr s) = go (some-append_cases (λ y. AreAlike y x) (payloads_of f p (payload_count p (length f.pixels))) (trailer (sent_head f (payload_count p (length f.pixels) + 1)) f.rows ∷ []) s) where
  go : SomeByRecursion (λ y. AreAlike y x) (payloads_of f p (payload_count p (length f.pixels))) ⊎ SomeByRecursion (λ y. AreAlike y x) (trailer (sent_head f (payload_count p (length f.pixels) + 1)) f.rows ∷ []) → IsPacketOf f p x
  go (inl early) =
      let m = payload_from_some (λ y. AreAlike y x) f p (payload_count p (length f.pixels)) early in
      alike_payload f p m.k x m.one m.top m.holds
  go (inr (inl last)) = alike_trailer f p x last
  go (inr (inr none)) = absurd none

pub packets_agree : PacketsAgree
packets_agree f p x = (
  λ is. Any-from_some (λ y. AreAlike y x) (packets_of f p) (listed f p x is),
  λ a. unlisted f p x (some_from_Any (λ y. AreAlike y x) (packets_of f p) a),
)

-- all of them

all-append : (P : StreamPacket → Type 0) (xs ys : List StreamPacket) → AllByRecursion P xs → AllByRecursion P ys → AllByRecursion P (xs ++ ys)
all-append P [] ys left right = right
all-append P (x ∷ xs) ys left right = (left.0, all-append P xs ys left.1 right)

all-append_parts : (P : StreamPacket → Type 0) (xs ys : List StreamPacket) → AllByRecursion P (xs ++ ys) → AllByRecursion P xs × AllByRecursion P ys
all-append_parts P [] ys all = (tt, all)
all-append_parts P (x ∷ xs) ys all = let rest = all-append_parts P xs ys all.1 in ((all.0, rest.0), rest.1)

all_payloads : (P : StreamPacket → Type 0) (f : Frame) (p n : ℕ) → ((k : ℕ) → 1 ≤ k → k ≤ n → P (payload_of f p k)) → AllByRecursion P (payloads_of f p n)
all_payloads P f p zero each = tt
all_payloads P f p (suc n) each =
    all-append P (payloads_of f p n) (payload_of f p (suc n) ∷ [])
    (all_payloads P f p n (λ k one top. each k one (omega arith))) (each (suc n) (omega arith) (omega arith), tt)

each_payload : (P : StreamPacket → Type 0) (f : Frame) (p n k : ℕ) → AllByRecursion P (payloads_of f p n) → 1 ≤ k → k ≤ n → P (payload_of f p k)
each_payload P f p zero k all one top = absurd (omega arith)
each_payload P f p (suc n) k all one top = go (each_payload P f p n k) (cases_lt n k) where
  parts : AllByRecursion P (payloads_of f p n) × AllByRecursion P (payload_of f p (suc n) ∷ [])
  parts = all-append_parts P (payloads_of f p n) (payload_of f p (suc n) ∷ []) all

  go : (AllByRecursion P (payloads_of f p n) → 1 ≤ k → k ≤ n → P (payload_of f p k)) → (n < k) ⊎ (k ≤ n) → P (payload_of f p k)
  go rest (inl last) = let same : suc n ≡ k = omega arith in subst (λ m. P (payload_of f p m)) same parts.1.0
  go rest (inr lower) = rest parts.0 one lower

all_came : (f : Frame) (p : ℕ) (xs : List StreamPacket) → HasAllPackets f p xs → AllByRecursion (λ x. HasCome x xs) (packets_of f p)
all_came f p xs all = (
  all.the_leader,
  all-append (λ x. HasCome x xs) (payloads_of f p (payload_count p (length f.pixels))) (trailer (sent_head f (payload_count p (length f.pixels) + 1)) f.rows ∷ [])
      (all_payloads (λ x. HasCome x xs) f p (payload_count p (length f.pixels)) all.payloads) (all.the_trailer, tt),
)

has_all : (f : Frame) (p : ℕ) (xs : List StreamPacket) → AllByRecursion (λ x. HasCome x xs) (packets_of f p) → HasAllPackets f p xs
has_all f p xs all =
    let rest = all-append_parts (λ x. HasCome x xs) (payloads_of f p (payload_count p (length f.pixels))) (trailer (sent_head f (payload_count p (length f.pixels) + 1)) f.rows ∷ []) all.1 in
    record {
      the_leader = all.0;
      payloads = λ k one top. each_payload (λ x. HasCome x xs) f p (payload_count p (length f.pixels)) k rest.0 one top;
      the_trailer = rest.1.0;
    }

pub all_packets_agree : AllPacketsAgree
all_packets_agree f p xs = (
  λ all. All-from_recursion (λ x. HasCome x xs) (packets_of f p) (all_came f p xs all),
  λ all. has_all f p xs (recursion_from_All (λ x. HasCome x xs) (packets_of f p) all),
)
