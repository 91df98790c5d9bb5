-- The bytes and counts of a list of kept packets, as it grows at its end.
use Rattle.std.proofs.Common.{◌≡◌, ◌⊎◌, inl, inr, ℕ, zero, suc, ◌+◌, ◌-◌, ◌<◌, ◌≤◌, List, [], ◌∷◌, ◌++◌, length, get_or, replicate, true, false, refl, ap, sym, ◌∙◌, arith, add-one}
use Rattle.std.specs.Prelude.{◌==◌, Some, None, is_some, unwrap_or}
use Rattle.std.specs.List.{AllByRecursion}
use Rattle.std.proofs.lemmas.Bool.{or_parts, eq-eqb, cond-true, cond-false, cases_Bool, cases_lt, false≢true}
use Rattle.std.proofs.lemmas.List.{length_push, replicate_more, get_or_append_left, get_or_push, ext_get_or}
use Rattle.gev_types.specs.Placing.{put_at}
use Rattle.stream_packets.specs.declared.fields.Head.{Head}
use Rattle.stream_packets.specs.declared.fields.LeaderInfo.{LeaderInfo}
use Rattle.stream_packets.specs.Packets.{StreamPacket, leader, payload, trailer, notice}
use Rattle.stream_packets.specs.FramePackets.{payload_start}
use Rattle.block_image.specs.Kept.{takes, has_id}
use Rattle.block_image.specs.Image.{covers, byte_from, placed, image_bytes}
use Rattle.block_image.specs.KeptFacts.{may_keep, IsKept, ArePayloadsNumbered}
use Rattle.block_image.proofs.Bools.{first_some, first_some-none, first_some_assoc, first_some_if}
use Rattle.block_image.proofs.Lists.{length-put_at, get_or-put_at_inside, get_or-put_at_before, get_or-put_at_after}
use Rattle.block_image.proofs.Covering.{Covers, covers_parts, covers-false, same_id}
use Rattle.block_image.proofs.IsKept.{may_keep-payload, takes_parts}

-- the bytes

pub length-image_bytes : (p : ℕ) (ks : List StreamPacket) (n : ℕ) → length (image_bytes p ks n) ≡ n
length-image_bytes p ks zero = refl
length-image_bytes p ks (suc n) = length_push (image_bytes p ks n) (unwrap_or (placed p ks n) 0) ∙ ap (λ m. m + 1) (length-image_bytes p ks n) ∙ add-one n

pub image_bytes-nil : (p n : ℕ) → image_bytes p [] n ≡ replicate n 0
image_bytes-nil p zero = refl
image_bytes-nil p (suc n) = ap (λ bs. bs ++ 0 ∷ []) (image_bytes-nil p n) ∙ replicate_more n 0 ∙ ap (λ m. replicate m 0) (add-one n)

pub get_or-image_bytes : (p : ℕ) (ks : List StreamPacket) (n j : ℕ) → j < n → get_or (image_bytes p ks n) j 0 ≡ unwrap_or (placed p ks j) 0
get_or-image_bytes p ks zero j below = absurd (omega arith)
get_or-image_bytes p ks (suc n) j below = go (get_or-image_bytes p ks n j) (cases_lt j n) where
  go : (j < n → get_or (image_bytes p ks n) j 0 ≡ unwrap_or (placed p ks j) 0) → (j < n) ⊎ (n ≤ j) → get_or (image_bytes p ks n ++ unwrap_or (placed p ks n) 0 ∷ []) j 0 ≡ unwrap_or (placed p ks j) 0
  go lower (inl less) =
      let inside : j < length (image_bytes p ks n) = omega (arith, length-image_bytes p ks n) in
      get_or_append_left (image_bytes p ks n) (unwrap_or (placed p ks n) 0 ∷ []) 0 j inside ∙ lower less
  go lower (inr above) =
      let same : j ≡ n = omega arith in
      let at_end : length (image_bytes p ks n) ≡ j = length-image_bytes p ks n ∙ sym same in
      get_or_push (image_bytes p ks n) (unwrap_or (placed p ks n) 0) 0 j at_end ∙ ap (λ i. unwrap_or (placed p ks i) 0) (sym same)

-- two lists of packets that place the same bytes give the same image
pub image_bytes-same : (p : ℕ) (ks ls : List StreamPacket) (n : ℕ) → ((j : ℕ) → placed p ks j ≡ placed p ls j) → image_bytes p ks n ≡ image_bytes p ls n
image_bytes-same p ks ls zero same = refl
image_bytes-same p ks ls (suc n) same = rw (image_bytes-same p ks ls n same, same n)

-- what is placed

pub placed-append : (p : ℕ) (xs ys : List StreamPacket) (j : ℕ) → placed p (xs ++ ys) j ≡ first_some (placed p xs j) (placed p ys j)
placed-append p [] ys j = refl
placed-append p (x ∷ xs) ys j =
    first_some_if (byte_from p x j) (placed p (xs ++ ys) j)
    ∙ ap (first_some (byte_from p x j)) (placed-append p xs ys j)
    ∙ sym (first_some_assoc (byte_from p x j) (placed p xs j) (placed p ys j))
    ∙ ap (λ o. first_some o (placed p ys j)) (sym (first_some_if (byte_from p x j) (placed p xs j)))

pub placed-one : (p : ℕ) (x : StreamPacket) (j : ℕ) → placed p (x ∷ []) j ≡ byte_from p x j
placed-one p x j = first_some_if (byte_from p x j) None ∙ first_some-none (byte_from p x j)

pub placed-push : (p : ℕ) (ks : List StreamPacket) (x : StreamPacket) (j : ℕ) → placed p (ks ++ x ∷ []) j ≡ first_some (placed p ks j) (byte_from p x j)
placed-push p ks x j = placed-append p ks (x ∷ []) j ∙ ap (first_some (placed p ks j)) (placed-one p x j)

pub placed-push_none : (p : ℕ) (ks : List StreamPacket) (x : StreamPacket) (j : ℕ) → byte_from p x j ≡ None → placed p (ks ++ x ∷ []) j ≡ placed p ks j
placed-push_none p ks x j none = placed-push p ks x j ∙ ap (first_some (placed p ks j)) none ∙ first_some-none (placed p ks j)

-- the byte of a payload at a position that it covers, and at another
pub byte_from-inside : (p : ℕ) (h : Head) (d : List ℕ) (j : ℕ) → covers (payload_start p h.id) (length d) j ≡ true → byte_from p (payload h d) j ≡ Some (get_or d (j - payload_start p h.id) 0)
byte_from-inside p h d j c = cond-true (covers (payload_start p h.id) (length d) j) (Some (get_or d (j - payload_start p h.id) 0)) None c

pub byte_from-outside : (p : ℕ) (h : Head) (d : List ℕ) (j : ℕ) → covers (payload_start p h.id) (length d) j ≡ false → byte_from p (payload h d) j ≡ None
byte_from-outside p h d j c = cond-false (covers (payload_start p h.id) (length d) j) (Some (get_or d (j - payload_start p h.id) 0)) None c

pub is_some-byte_from : (p : ℕ) (h : Head) (d : List ℕ) (j : ℕ) → is_some (byte_from p (payload h d) j) ≡ covers (payload_start p h.id) (length d) j
is_some-byte_from p h d j = go (cases_Bool (covers (payload_start p h.id) (length d) j)) where
  go : (covers (payload_start p h.id) (length d) j ≡ true) ⊎ (covers (payload_start p h.id) (length d) j ≡ false) → is_some (byte_from p (payload h d) j) ≡ covers (payload_start p h.id) (length d) j
  go (inl c) = ap is_some (byte_from-inside p h d j c) ∙ sym c
  go (inr c) = ap is_some (byte_from-outside p h d j c) ∙ sym c

-- A new payload finds its place empty: no kept one has its id.
pub placed-free : (p b : ℕ) (ks : List StreamPacket) (k j : ℕ) → AllByRecursion (λ x. may_keep p b x ≡ true) ks → ArePayloadsNumbered ks → has_id k ks ≡ false → 1 ≤ k → Covers (payload_start p k) p j → placed p ks j ≡ None
placed-free p b [] k j may numbered none one c = refl
placed-free p b (leader h i ∷ xs) k j may numbered none one c = placed-free p b xs k j may.1 numbered.1 (or_parts (h.id == k) (has_id k xs) none).1 one c
placed-free p b (payload h d ∷ xs) k j may numbered none one c =
    first_some_if (byte_from p (payload h d) j) (placed p xs j)
    ∙ ap (λ o. first_some o (placed p xs j)) (byte_from-outside p h d j (go (cases_Bool (covers (payload_start p h.id) (length d) j))))
    ∙ placed-free p b xs k j may.1 numbered.1 (or_parts (h.id == k) (has_id k xs) none).1 one c where
      go : (covers (payload_start p h.id) (length d) j ≡ true) ⊎ (covers (payload_start p h.id) (length d) j ≡ false) → covers (payload_start p h.id) (length d) j ≡ false
      go (inr apart) = apart
      go (inl both) =
          let meets = covers_parts (payload_start p h.id) (length d) j both in
          let fits : length d ≤ p = may_keep-payload p b h d may.0 in
          let same = same_id p h.id (length d) k p j numbered.0 one fits (omega arith) meets c in
          absurd (false≢true (sym (or_parts (h.id == k) (has_id k xs) none).0 ∙ eq-eqb h.id k same))
placed-free p b (trailer h y ∷ xs) k j may numbered none one c = placed-free p b xs k j may.1 numbered.1 (or_parts (h.id == k) (has_id k xs) none).1 one c
placed-free p b (notice h ∷ xs) k j may numbered none one c = placed-free p b xs k j may.1 numbered.1 (or_parts (h.id == k) (has_id k xs) none).1 one c

-- What a payload needs to be placed beside those that are kept.
pub record Fresh (p b : ℕ) (ks : List StreamPacket) (h : Head) (d : List ℕ) : Type 0 where
  pub may : AllByRecursion (λ x. may_keep p b x ≡ true) ks
  pub numbered : ArePayloadsNumbered ks
  pub new_id : has_id h.id ks ≡ false
  pub one : 1 ≤ h.id
  pub fits : length d ≤ p

pub fresh : (p b : ℕ) (ks : List StreamPacket) (h : Head) (d : List ℕ) → IsKept p b ks → ArePayloadsNumbered ks → 1 ≤ h.id → takes p b ks (payload h d) ≡ true → Fresh p b ks h d
fresh p b ks h d is numbered one taken =
    let t = takes_parts p b ks (payload h d) taken in
    record { may = is.of_block; numbered = numbered; new_id = t.new_id; one = one; fits = may_keep-payload p b h d t.may }

pub placed-fresh : (p b : ℕ) (ks : List StreamPacket) (h : Head) (d : List ℕ) (j : ℕ) → Fresh p b ks h d → covers (payload_start p h.id) (length d) j ≡ true → placed p ks j ≡ None
placed-fresh p b ks h d j f c =
    let parts = covers_parts (payload_start p h.id) (length d) j c in
    let wide : Covers (payload_start p h.id) p j = record { low = parts.low; high = omega (arith, parts.high, f.fits) } in
    placed-free p b ks h.id j f.may f.numbered f.new_id f.one wide

-- one more payload

push_byte : (p b : ℕ) (ks : List StreamPacket) (h : Head) (d : List ℕ) (size j : ℕ) → Fresh p b ks h d → j < size → unwrap_or (placed p (ks ++ payload h d ∷ []) j) 0 ≡ get_or (put_at (image_bytes p ks size) (payload_start p h.id) d) j 0
push_byte p b ks h d size j f below = go (cases_Bool (covers (payload_start p h.id) (length d) j)) where
  within : j < length (image_bytes p ks size)
  within = omega (arith, length-image_bytes p ks size)

  outside : (j < payload_start p h.id) ⊎ (payload_start p h.id + length d ≤ j) → get_or (put_at (image_bytes p ks size) (payload_start p h.id) d) j 0 ≡ get_or (image_bytes p ks size) j 0
  outside (inl low) = get_or-put_at_before (image_bytes p ks size) (payload_start p h.id) d j low within
  outside (inr high) = get_or-put_at_after (image_bytes p ks size) (payload_start p h.id) d j high within

  go : (covers (payload_start p h.id) (length d) j ≡ true) ⊎ (covers (payload_start p h.id) (length d) j ≡ false) → unwrap_or (placed p (ks ++ payload h d ∷ []) j) 0 ≡ get_or (put_at (image_bytes p ks size) (payload_start p h.id) d) j 0
  go (inl c) =
      let parts = covers_parts (payload_start p h.id) (length d) j c in
      ap (λ o. unwrap_or o 0) (placed-push p ks (payload h d) j
      ∙ ap (λ o. first_some o (byte_from p (payload h d) j)) (placed-fresh p b ks h d j f c)
      ∙ byte_from-inside p h d j c)
      ∙ sym (get_or-put_at_inside (image_bytes p ks size) (payload_start p h.id) d j parts.low parts.high within)
  go (inr c) =
      ap (λ o. unwrap_or o 0) (placed-push_none p ks (payload h d) j (byte_from-outside p h d j c))
      ∙ sym (outside (covers-false (payload_start p h.id) (length d) j c) ∙ get_or-image_bytes p ks size j below)

image_bytes-fresh : (p b : ℕ) (ks : List StreamPacket) (h : Head) (d : List ℕ) (size : ℕ) → Fresh p b ks h d → image_bytes p (ks ++ payload h d ∷ []) size ≡ put_at (image_bytes p ks size) (payload_start p h.id) d
image_bytes-fresh p b ks h d size f =
    let lengths = length-image_bytes p (ks ++ payload h d ∷ []) size in
    ext_get_or 0 (image_bytes p (ks ++ payload h d ∷ []) size) (put_at (image_bytes p ks size) (payload_start p h.id) d)
    (lengths ∙ sym (length-put_at (image_bytes p ks size) (payload_start p h.id) d ∙ length-image_bytes p ks size))
    (λ j inside.
    let below : j < size = omega (arith, lengths) in
    get_or-image_bytes p (ks ++ payload h d ∷ []) size j below ∙ push_byte p b ks h d size j f below)

pub image_bytes-push_payload : (p b : ℕ) (ks : List StreamPacket) (h : Head) (d : List ℕ) (size : ℕ) → IsKept p b ks → ArePayloadsNumbered ks → 1 ≤ h.id → takes p b ks (payload h d) ≡ true → image_bytes p (ks ++ payload h d ∷ []) size ≡ put_at (image_bytes p ks size) (payload_start p h.id) d
image_bytes-push_payload p b ks h d size is numbered one taken = image_bytes-fresh p b ks h d size (fresh p b ks h d is numbered one taken)

pub image_bytes-push_leader : (p : ℕ) (ks : List StreamPacket) (h : Head) (i : LeaderInfo) (size : ℕ) → image_bytes p (ks ++ leader h i ∷ []) size ≡ image_bytes p ks size
image_bytes-push_leader p ks h i size = image_bytes-same p (ks ++ leader h i ∷ []) ks size (λ j. placed-push_none p ks (leader h i) j refl)

pub image_bytes-push_trailer : (p : ℕ) (ks : List StreamPacket) (h : Head) (y : ℕ) (size : ℕ) → image_bytes p (ks ++ trailer h y ∷ []) size ≡ image_bytes p ks size
image_bytes-push_trailer p ks h y size = image_bytes-same p (ks ++ trailer h y ∷ []) ks size (λ j. placed-push_none p ks (trailer h y) j refl)
