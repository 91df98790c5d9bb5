-- The law of one block.
use Rattle.std.proofs.Common.{◌≡◌, ◌⊎◌, inl, inr, subst, ℕ, ◌+◌, ◌-◌, ◌/◌, ◌<◌, ◌≤◌, List, [], ◌∷◌, length, get_or, take, Bool, true, false, refl, ap, sym, ◌∙◌, arith}
use Rattle.std.specs.Prelude.{◌&&◌, ◌==◌, nat_le, Option, Some, None, unwrap_or}
use Rattle.std.specs.List.{AllByRecursion}
use Rattle.std.proofs.lemmas.List.{ext_get_or, get_or-take, length-take-le}
use Rattle.std.proofs.lemmas.List.Elements.{recursion_from_All}
use Rattle.std.proofs.lemmas.Bool.{and_parts, and_from, or_left, or_right, eq-eqb, le-leb, leb-true, cases_Bool, false≢true}
use Rattle.gev_types.specs.declared.frame.Frame.{Frame}
use Rattle.stream_packets.specs.declared.fields.Head.{Head}
use Rattle.stream_packets.specs.declared.fields.LeaderInfo.{LeaderInfo}
use Rattle.stream_packets.specs.Packets.{StreamPacket, leader, payload, trailer, notice, head_of, is_trailer, is_notice}
use Rattle.stream_packets.specs.FramePackets.{payload_count, payload_start, payload_bytes, sent_head, leader_info, IsPacketOf}
use Rattle.stream_packets.specs.Sent.{CarriesFrame, IsSent}
use Rattle.block_image.specs.Extent.{extent_of}
use Rattle.block_image.specs.Kept.{kept, is_good_status, fits_payload, has_id, has_trailer}
use Rattle.block_image.specs.Image.{covers, byte_from, placed, image_bytes, leader_in, lines_in, extent_in, has_trailer_at, has_payload, has_payloads, is_complete, image_len, image}
use Rattle.block_image.specs.KeptFacts.{may_keep, HasDistinctIds, IsKept, IsNumbered, ArePayloadsNumbered}
use Rattle.block_image.specs.AllPackets.{AreAlike, HasCome, HasAllPackets}
use Rattle.block_image.specs.OneBlock.{AreSent, HoldsFrame, IsPieceOfFrame, CompleteIsFrame, BytesAreInPlace, AllPacketsComplete}
use Rattle.block_image.specs.InfoLaws.{RecordsTellTheirFrame}
use Rattle.block_image.proofs.Bools.{first_some, first_some_if}
use Rattle.block_image.proofs.Covering.{Covers, covers_parts, covers_from, same_id}
use Rattle.block_image.proofs.IsKept.{may_keep_from, may_keep-payload, IsKept-kept, kept-all}
use Rattle.block_image.proofs.ImageLemmas.{length-image_bytes, get_or-image_bytes, byte_from-inside, byte_from-outside}
use Rattle.block_image.proofs.Members.{Has, all-has, all_with, member_from_some, some_from_Any, has_from_Contains, Contains-from_has}
use Rattle.block_image.proofs.KeptLawLemmas.{IsAnswered, IsAnswered-has}
use Rattle.block_image.proofs.FramePieces.{payload_at, start_at, start_within, length-payload_bytes, get_or-payload_bytes, count_fits}
use Rattle.block_image.proofs.FewerLines.{has_trailer-at, extent_in-of_frame}
use Rattle.block_image.proofs.Infos.{info-of_ends, info_of_frame}
use Rattle.block_image.proofs.FrameKept.{AreOfFrame, some_same, frame_of_block, of_frame_from_sent, member-has_id, leader_in-by_id, has_trailer_at-by_kind, has_trailer-by_id, has_payload-by_id, has_payloads-from_each, has_payloads-each, payload_at_id}

-- what is placed

-- a packet with another id puts nothing there
other_byte : (p b : ℕ) (x : StreamPacket) (xs : List StreamPacket) (h : Head) (d : List ℕ) (j : ℕ) → has_id (head_of x).id xs ≡ false → may_keep p b x ≡ true → IsNumbered x → Has xs (payload h d) → length d ≤ p → 1 ≤ h.id → Covers (payload_start p h.id) (length d) j → byte_from p x j ≡ None
other_byte p b (leader k i) xs h d j apart may numbered has fits one c = refl
other_byte p b (payload k e) xs h d j apart may numbered has fits one c = go (cases_Bool (covers (payload_start p k.id) (length e) j)) where
  go : (covers (payload_start p k.id) (length e) j ≡ true) ⊎ (covers (payload_start p k.id) (length e) j ≡ false) → byte_from p (payload k e) j ≡ None
  go (inl both) =
      let same : h.id ≡ k.id = same_id p h.id (length d) k.id (length e) j one numbered fits (may_keep-payload p b k e may) c (covers_parts (payload_start p k.id) (length e) j both) in
      absurd (false≢true (sym apart ∙ ap (λ i. has_id i xs) (sym same) ∙ member-has_id xs (payload h d) has))
  go (inr none) = byte_from-outside p k e j none
other_byte p b (trailer k y) xs h d j apart may numbered has fits one c = refl
other_byte p b (notice k) xs h d j apart may numbered has fits one c = refl

-- a kept payload's byte stands where the payload has its place
pub placed-has : (p b : ℕ) (ks : List StreamPacket) (h : Head) (d : List ℕ) (j : ℕ) → HasDistinctIds ks → AllByRecursion (λ x. may_keep p b x ≡ true) ks → ArePayloadsNumbered ks → Has ks (payload h d) → length d ≤ p → 1 ≤ h.id → Covers (payload_start p h.id) (length d) j → placed p ks j ≡ Some (get_or d (j - payload_start p h.id) 0)
placed-has p b [] h d j distinct may numbered has fits one c = absurd has
placed-has p b (x ∷ xs) h d j distinct may numbered (inl e) fits one c =
    first_some_if (byte_from p x j) (placed p xs j)
    ∙ ap (λ o. first_some o (placed p xs j))
    (ap (λ y. byte_from p y j) e ∙ byte_from-inside p h d j (covers_from (payload_start p h.id) (length d) j c.low c.high))
placed-has p b (x ∷ xs) h d j distinct may numbered (inr has) fits one c =
    first_some_if (byte_from p x j) (placed p xs j)
    ∙ ap (λ o. first_some o (placed p xs j)) (other_byte p b x xs h d j distinct.0 may.0 numbered.0 has fits one c)
    ∙ placed-has p b xs h d j distinct.1 may.1 numbered.1 has fits one c

-- where no kept payload has a place, nothing is placed
pub placed-none : (p : ℕ) (ks : List StreamPacket) (j : ℕ) → ((h : Head) (d : List ℕ) → Has ks (payload h d) → covers (payload_start p h.id) (length d) j ≡ false) → placed p ks j ≡ None
placed-none p [] j free = refl
placed-none p (leader h i ∷ xs) j free = placed-none p xs j (λ k e has. free k e (inr has))
placed-none p (payload h d ∷ xs) j free =
    first_some_if (byte_from p (payload h d) j) (placed p xs j)
    ∙ ap (λ o. first_some o (placed p xs j)) (byte_from-outside p h d j (free h d (inl refl)))
    ∙ placed-none p xs j (λ k e has. free k e (inr has))
placed-none p (trailer h y ∷ xs) j free = placed-none p xs j (λ k e has. free k e (inr has))
placed-none p (notice h ∷ xs) j free = placed-none p xs j (λ k e has. free k e (inr has))

-- what is known of the packets that were kept

numbered_from_sent : (frames : ℕ → Option Frame) (p b : ℕ) (x : StreamPacket) → may_keep p b x ≡ true → IsSent frames p x → IsNumbered x
numbered_from_sent frames p b (leader h i) may sent = tt
numbered_from_sent frames p b (payload h d) may sent = sent.packet.1
numbered_from_sent frames p b (trailer h y) may sent = tt
numbered_from_sent frames p b (notice h) may sent = tt

kept_sent : (frames : ℕ → Option Frame) (p b : ℕ) (xs : List StreamPacket) → AreSent frames p xs → AllByRecursion (IsSent frames p) (kept p b xs)
kept_sent frames p b xs s = kept-all p b (IsSent frames p) xs (recursion_from_All (IsSent frames p) xs s.sent)

pub kept_numbered : (frames : ℕ → Option Frame) (p b : ℕ) (xs : List StreamPacket) → AreSent frames p xs → ArePayloadsNumbered (kept p b xs)
kept_numbered frames p b xs s =
    all_with (λ x. may_keep p b x ≡ true) (IsSent frames p) IsNumbered (kept p b xs) (numbered_from_sent frames p b) (IsKept-kept p b xs).of_block (kept_sent frames p b xs s)

pub kept_of_frame : (frames : ℕ → Option Frame) (p b : ℕ) (f : Frame) (xs : List StreamPacket) → AreSent frames p xs → frames b ≡ Some f → AreOfFrame f p (kept p b xs)
kept_of_frame frames p b f xs s is =
    all_with (λ x. may_keep p b x ≡ true) (IsSent frames p) (IsPacketOf f p) (kept p b xs) (λ x may sent. of_frame_from_sent frames p b f x is may sent) (IsKept-kept p b xs).of_block (kept_sent frames p b xs s)

-- bytes in place

payload_in_place : (frames : ℕ → Option Frame) (p b size : ℕ) (xs : List StreamPacket) → AreSent frames p xs → (h : Head) (d : List ℕ) (i : ℕ) → Has (kept p b xs) (payload h d) → i < length d → payload_start p h.id + i < size → get_or (image_bytes p (kept p b xs) size) (payload_start p h.id + i) 0 ≡ get_or d i 0
payload_in_place frames p b size xs s h d i has inside below =
    let is = IsKept-kept p b xs in
    let numbered = kept_numbered frames p b xs s in
    let may = all-has (λ x. may_keep p b x ≡ true) (kept p b xs) (payload h d) is.of_block has in
    let one : 1 ≤ h.id = all-has IsNumbered (kept p b xs) (payload h d) numbered has in
    let c : Covers (payload_start p h.id) (length d) (payload_start p h.id + i) = record { low = omega arith; high = omega arith } in
    let back : payload_start p h.id + i - payload_start p h.id ≡ i = omega arith in
    get_or-image_bytes p (kept p b xs) size (payload_start p h.id + i) below
    ∙ ap (λ o. unwrap_or o 0) (placed-has p b (kept p b xs) h d (payload_start p h.id + i) is.distinct is.of_block numbered has (may_keep-payload p b h d may) one c)
    ∙ ap (λ k. get_or d k 0) back

piece_of_frame : (frames : ℕ → Option Frame) (p b : ℕ) (h : Head) (d : List ℕ) → may_keep p b (payload h d) ≡ true → CarriesFrame frames p (payload h d) → 1 ≤ p → IsPieceOfFrame frames p b h d
piece_of_frame frames p b h d may c some = record {
  frame = c.frame;
  of_block = frame_of_block frames p b (payload h d) may c;
  within =
      let e : d ≡ payload_bytes p c.frame.pixels h.id = c.packet.3 in
      omega (arith, ap length e, length-payload_bytes p c.frame.pixels h.id, start_within p (length c.frame.pixels) h.id some c.packet.1 c.packet.2);
  bytes = λ i inside.
      let e : d ≡ payload_bytes p c.frame.pixels h.id = c.packet.3 in
      let here : i < length (payload_bytes p c.frame.pixels h.id) = omega (arith, ap length e) in
      ap (λ bs. get_or bs i 0) e ∙ get_or-payload_bytes p c.frame.pixels h.id i here;
}

pub bytes_are_in_place : BytesAreInPlace
bytes_are_in_place frames p b size xs s = record {
  len = length-image_bytes p (kept p b xs) size;
  in_place = λ h d i contains inside below.
      payload_in_place frames p b size xs s h d i (has_from_Contains (kept p b xs) (payload h d) contains) inside below;
  of_frame = λ h d contains.
      let has = has_from_Contains (kept p b xs) (payload h d) contains in
      let may = all-has (λ x. may_keep p b x ≡ true) (kept p b xs) (payload h d) (IsKept-kept p b xs).of_block has in
      let sent = all-has (IsSent frames p) (kept p b xs) (payload h d) (kept_sent frames p b xs s) has in
      piece_of_frame frames p b h d may sent (omega (arith, s.payload_size.at_least));
  elsewhere = λ j below free.
      get_or-image_bytes p (kept p b xs) size j below
      ∙ ap (λ o. unwrap_or o 0) (placed-none p (kept p b xs) j (λ h d has. free h d (Contains-from_has (kept p b xs) (payload h d) has)));
}

-- a complete image is the frame

record Complete (p size : ℕ) (ks : List StreamPacket) : Type 0 where
  len : ℕ
  extent : extent_in ks ≡ Some len
  goes_in : len ≤ size
  ended : has_trailer ks ≡ true
  payloads : has_payloads p len (payload_count p len) ks ≡ true

complete_parts : (p size : ℕ) (ks : List StreamPacket) (o : Option ℕ) → extent_in ks ≡ o → is_complete p size ks o ≡ true → Complete p size ks
complete_parts p size ks None e is = cc
complete_parts p size ks (Some len) e is =
    let whole = and_parts (nat_le len size && has_trailer_at (payload_count p len + 1) ks) (has_payloads p len (payload_count p len) ks) is in
    let ends = and_parts (nat_le len size) (has_trailer_at (payload_count p len + 1) ks) whole.0 in
    record {
      len = len;
      extent = e;
      goes_in = leb-true len size ends.0;
      ended = has_trailer-at (payload_count p len + 1) ks ends.1;
      payloads = whole.1;
    }

-- the extent is known by a leader alone
record HasLeader (ks : List StreamPacket) : Type 0 where
  info : LeaderInfo
  first : leader_in ks ≡ Some info

has_leader : (ks : List StreamPacket) (len : ℕ) → extent_in ks ≡ Some len → HasLeader ks
has_leader ks len e = go (leader_in ks) refl where
  go : (o : Option LeaderInfo) → leader_in ks ≡ o → HasLeader ks
  go None none = let known : extent_in ks ≡ None = ap (λ (o : Option LeaderInfo). extent_of o (lines_in ks)) none in absurd cc
  go (Some i) there = record { info = i; first = there }

-- the kept leader
record LeaderAt (i : LeaderInfo) (ks : List StreamPacket) : Type 0 where
  head : Head
  inside : Has ks (leader head i)

later_leader : {i : LeaderInfo} {ks : List StreamPacket} (x : StreamPacket) → LeaderAt i ks → LeaderAt i (x ∷ ks)
later_leader x at = record { head = at.head; inside = inr at.inside }

leader_at : (ks : List StreamPacket) (i : LeaderInfo) → leader_in ks ≡ Some i → LeaderAt i ks
leader_at [] i e = cc
leader_at (leader h j ∷ xs) i e = record { head = h; inside = inl (ap (leader h) (some_same j i e)) }
leader_at (payload h d ∷ xs) i e = later_leader (payload h d) (leader_at xs i e)
leader_at (trailer h y ∷ xs) i e = later_leader (trailer h y) (leader_at xs i e)
leader_at (notice h ∷ xs) i e = later_leader (notice h) (leader_at xs i e)

-- with all payloads there, each byte of the frame is in the buffer
frame_byte : (f : Frame) (p b size : ℕ) (ks : List StreamPacket) (j : ℕ) → 1 ≤ p → IsKept p b ks → ArePayloadsNumbered ks → AreOfFrame f p ks → has_payloads p (length f.pixels) (payload_count p (length f.pixels)) ks ≡ true → j < length f.pixels → j < size → get_or (image_bytes p ks size) j 0 ≡ get_or f.pixels j 0
frame_byte f p b size ks j some is numbered of_frame all inside below =
    let k : ℕ = j / p + 1 in
    let top : k ≤ payload_count p (length f.pixels) = payload_at p (length f.pixels) j some inside in
    let at = payload_at_id p (length f.pixels) k ks (has_payloads-each p (length f.pixels) (payload_count p (length f.pixels)) ks k all (omega arith) top) in
    let of = all-has (IsPacketOf f p) ks (payload at.head at.bytes) of_frame at.inside in
    let may = all-has (λ x. may_keep p b x ≡ true) ks (payload at.head at.bytes) is.of_block at.inside in
    let bytes : at.bytes ≡ payload_bytes p f.pixels at.head.id = of.3 in
    let start : payload_start p at.head.id ≡ payload_start p k = ap (payload_start p) at.id in
    let near = start_at p j some in
    let c : Covers (payload_start p at.head.id) (length at.bytes) j =
    record { low = omega (arith, start, near.0); high = omega (arith, start, near.0, near.1, ap length bytes, length-payload_bytes p f.pixels at.head.id) } in
    let back : payload_start p at.head.id + (j - payload_start p at.head.id) ≡ j = omega (arith, c.low) in
    let short : j - payload_start p at.head.id < length (payload_bytes p f.pixels at.head.id) = omega (arith, c.low, c.high, ap length bytes) in
    get_or-image_bytes p ks size j below
    ∙ ap (λ o. unwrap_or o 0) (placed-has p b ks at.head at.bytes j is.distinct is.of_block numbered at.inside (may_keep-payload p b at.head at.bytes may) of.1 c)
    ∙ ap (λ bs. get_or bs (j - payload_start p at.head.id) 0) bytes
    ∙ get_or-payload_bytes p f.pixels at.head.id (j - payload_start p at.head.id) short
    ∙ ap (λ m. get_or f.pixels m 0) back

frame_bytes : (f : Frame) (p b size : ℕ) (ks : List StreamPacket) → 1 ≤ p → IsKept p b ks → ArePayloadsNumbered ks → AreOfFrame f p ks → has_payloads p (length f.pixels) (payload_count p (length f.pixels)) ks ≡ true → length f.pixels ≤ size → take (length f.pixels) (image_bytes p ks size) ≡ f.pixels
frame_bytes f p b size ks some is numbered of_frame all goes_in =
    let room : length f.pixels ≤ length (image_bytes p ks size) = omega (arith, length-image_bytes p ks size) in
    let same : length (take (length f.pixels) (image_bytes p ks size)) ≡ length f.pixels = length-take-le (length f.pixels) (image_bytes p ks size) room in
    ext_get_or 0 (take (length f.pixels) (image_bytes p ks size)) f.pixels same
    (λ j inside.
    let low : j < length f.pixels = omega (arith, same) in
    get_or-take (length f.pixels) (image_bytes p ks size) j 0 low
    ∙ frame_byte f p b size ks j some is numbered of_frame all low (omega arith))

holds_frame : (frames : ℕ → Option Frame) (p b size : ℕ) (xs : List StreamPacket) → AreSent frames p xs → Complete p size (kept p b xs) → HoldsFrame frames b (image p b size xs)
holds_frame frames p b size xs s c =
    let ks : List StreamPacket = kept p b xs in
    let is = IsKept-kept p b xs in
    let l = has_leader ks c.len c.extent in
    let at = leader_at ks l.info l.first in
    let may = all-has (λ x. may_keep p b x ≡ true) ks (leader at.head l.info) is.of_block at.inside in
    let sent = all-has (IsSent frames p) ks (leader at.head l.info) (kept_sent frames p b xs s) at.inside in
    let f : Frame = sent.frame in
    let of_block : frames b ≡ Some f = frame_of_block frames p b (leader at.head l.info) may sent in
    let of_frame = kept_of_frame frames p b f xs s of_block in
    let first : leader_in ks ≡ Some (leader_info f) = l.first ∙ ap Some sent.packet.2 in
    let size_is : c.len ≡ length f.pixels =
    some_same c.len (length f.pixels) (sym c.extent ∙ extent_in-of_frame f p ks (s.are_frames.valid b f of_block) of_frame first c.ended) in
    let goes_in : length f.pixels ≤ size = omega (arith, size_is, c.goes_in) in
    let all : has_payloads p (length f.pixels) (payload_count p (length f.pixels)) ks ≡ true = subst (λ n. has_payloads p n (payload_count p n) ks ≡ true) size_is c.payloads in
    let data_len : image_len p size ks (extent_in ks) ≡ length f.pixels = ap (image_len p size ks) c.extent ∙ omega (arith, size_is, goes_in) in
    let some : 1 ≤ p = omega (arith, s.payload_size.at_least) in
    record {
      frame = f;
      of_block = of_block;
      data_len = data_len;
      pixels = ap (λ n. take n (image_bytes p ks size)) data_len
          ∙ frame_bytes f p b size ks some is (kept_numbered frames p b xs s) of_frame all goes_in;
      image = info-of_ends f p ks (s.are_frames.valid b f of_block) of_frame first c.ended;
    }

pub complete_is_frame : CompleteIsFrame
complete_is_frame frames p b size xs s complete =
    holds_frame frames p b size xs s (complete_parts p size (kept p b xs) (extent_in (kept p b xs)) refl complete)

-- the image that a record tells is the frame's

pub records_tell_their_frame : RecordsTellTheirFrame
records_tell_their_frame frames p b size xs f info s is tells =
    info_of_frame f p (kept p b xs) info (kept_of_frame frames p b f xs s is) tells

-- all packets make it complete

-- a packet that came and is the frame's may be kept
good_status : (n : ℕ) → (n ≡ 0) ⊎ (n ≡ 0x0100) → is_good_status n ≡ true
good_status n (inl first) = or_left (n == 0) (n == 0x0100) (eq-eqb n 0 first)
good_status n (inr again) = or_right (n == 0) (n == 0x0100) (eq-eqb n 0x0100 again)

may_keep_frame : (frames : ℕ → Option Frame) (p b : ℕ) (f : Frame) (x : StreamPacket) → (is_notice x ≡ false) → (head_of x).block ≡ b → CarriesFrame frames p x → (head_of x).id ≤ 131073 → fits_payload p x ≡ true → may_keep p b x ≡ true
may_keep_frame frames p b f x kind block c id fits =
    may_keep_from p b x record {
      block = eq-eqb (head_of x).block b block;
      no_notice = kind;
      status = good_status (head_of x).status c.status;
      id = le-leb (head_of x).id 131073 id;
      payload = fits;
    }

-- a packet of the frame that has come, with its id
record Came (frames : ℕ → Option Frame) (p b k : ℕ) (last : Bool) (xs : List StreamPacket) : Type 0 where
  packet : StreamPacket
  inside : Has xs packet
  id : (head_of packet).id ≡ k
  kind : is_trailer packet ≡ last
  may : may_keep p b packet ≡ true

came_from_alike : (frames : ℕ → Option Frame) (p b : ℕ) (f : Frame) (xs : List StreamPacket) (y x : StreamPacket) → AreSent frames p xs → (head_of y).block ≡ b → (head_of y).id ≤ 131073 → is_notice y ≡ false → fits_payload p y ≡ true → Has xs x → IsSent frames p x → AreAlike y x → Came frames p b (head_of y).id (is_trailer y) xs
came_from_alike frames p b f xs (leader h i) (leader k j) s block id kind fits has sent alike =
    record {
      packet = leader k j;
      inside = has;
      id = sym alike.0.1;
      kind = refl;
      may = may_keep_frame frames p b f (leader k j) refl (sym alike.0.0 ∙ block) sent (omega (arith, alike.0.1)) refl;
    }
came_from_alike frames p b f xs (leader h i) (payload k e) s block id kind fits has sent alike = absurd alike
came_from_alike frames p b f xs (leader h i) (trailer k z) s block id kind fits has sent alike = absurd alike
came_from_alike frames p b f xs (leader h i) (notice k) s block id kind fits has sent alike = absurd alike
came_from_alike frames p b f xs (payload h d) (leader k j) s block id kind fits has sent alike = absurd alike
came_from_alike frames p b f xs (payload h d) (payload k e) s block id kind fits has sent alike =
    record {
      packet = payload k e;
      inside = has;
      id = sym alike.0.1;
      kind = refl;
      may = may_keep_frame frames p b f (payload k e) refl (sym alike.0.0 ∙ block) sent (omega (arith, alike.0.1))
          (ap (λ ds. nat_le (length ds) p) (sym alike.1) ∙ fits);
    }
came_from_alike frames p b f xs (payload h d) (trailer k z) s block id kind fits has sent alike = absurd alike
came_from_alike frames p b f xs (payload h d) (notice k) s block id kind fits has sent alike = absurd alike
came_from_alike frames p b f xs (trailer h y) (leader k j) s block id kind fits has sent alike = absurd alike
came_from_alike frames p b f xs (trailer h y) (payload k e) s block id kind fits has sent alike = absurd alike
came_from_alike frames p b f xs (trailer h y) (trailer k z) s block id kind fits has sent alike =
    record {
      packet = trailer k z;
      inside = has;
      id = sym alike.0.1;
      kind = refl;
      may = may_keep_frame frames p b f (trailer k z) refl (sym alike.0.0 ∙ block) sent (omega (arith, alike.0.1)) refl;
    }
came_from_alike frames p b f xs (trailer h y) (notice k) s block id kind fits has sent alike = absurd alike
came_from_alike frames p b f xs (notice h) x s block id kind fits has sent alike = cc

came : (frames : ℕ → Option Frame) (p b : ℕ) (f : Frame) (xs : List StreamPacket) (y : StreamPacket) → AreSent frames p xs → (head_of y).block ≡ b → (head_of y).id ≤ 131073 → is_notice y ≡ false → fits_payload p y ≡ true → HasCome y xs → Came frames p b (head_of y).id (is_trailer y) xs
came frames p b f xs y s block id kind fits come =
    let m = member_from_some (AreAlike y) xs (some_from_Any (AreAlike y) xs come) in
    came_from_alike frames p b f xs y m.item s block id kind fits m.inside
    (all-has (IsSent frames p) xs m.item (recursion_from_All (IsSent frames p) xs s.sent) m.inside) m.holds

-- so its id is kept, or, where it is the trailer, a trailer is
answered : (frames : ℕ → Option Frame) (p b k : ℕ) (xs : List StreamPacket) → Came frames p b k false xs → has_id k (kept p b xs) ≡ true
answered frames p b k xs c = go (IsAnswered-has p b [] xs c.packet c.inside c.may) where
  go : IsAnswered (kept p b xs) c.packet → has_id k (kept p b xs) ≡ true
  go (inl by_id) = ap (λ i. has_id i (kept p b xs)) (sym c.id) ∙ by_id
  go (inr by_kind) = absurd (false≢true (sym c.kind ∙ by_kind.0))

answered_last : (frames : ℕ → Option Frame) (p b k : ℕ) (xs : List StreamPacket) → Came frames p b k true xs → (has_id k (kept p b xs) ≡ true) ⊎ (has_trailer (kept p b xs) ≡ true)
answered_last frames p b k xs c = go (IsAnswered-has p b [] xs c.packet c.inside c.may) where
  go : IsAnswered (kept p b xs) c.packet → (has_id k (kept p b xs) ≡ true) ⊎ (has_trailer (kept p b xs) ≡ true)
  go (inl by_id) = inl (ap (λ i. has_id i (kept p b xs)) (sym c.id) ∙ by_id)
  go (inr by_kind) = inr by_kind.1

module _ (frames : ℕ → Option Frame) (p b : ℕ) (xs : List StreamPacket) (f : Frame) (s : AreSent frames p xs) (is : frames b ≡ Some f) (all : HasAllPackets f p xs) where
  last_fits : payload_count p (length f.pixels) + 1 ≤ 131073
  last_fits = count_fits p (length f.pixels) s.payload_size.at_least (s.are_frames.valid b f is).in_limits.1

  leader_kept : leader_in (kept p b xs) ≡ Some (leader_info f)
  leader_kept =
      leader_in-by_id f p (kept p b xs) (kept_of_frame frames p b f xs s is)
      (answered frames p b 0 xs (came frames p b f xs (leader (sent_head f 0) (leader_info f)) s (s.are_frames.own_id b f is) (omega arith) refl refl all.the_leader))

  payload_kept : (k : ℕ) → 1 ≤ k → k ≤ payload_count p (length f.pixels) → has_payload p (length f.pixels) k (kept p b xs) ≡ true
  payload_kept k one top =
      let small : length (payload_bytes p f.pixels k) ≤ p = omega (arith, length-payload_bytes p f.pixels k) in
      has_payload-by_id f p k (kept p b xs) (omega (arith, s.payload_size.at_least)) one top (kept_of_frame frames p b f xs s is)
      (answered frames p b k xs
      (came frames p b f xs (payload (sent_head f k) (payload_bytes p f.pixels k)) s (s.are_frames.own_id b f is) (omega (arith, last_fits)) refl
      (le-leb (length (payload_bytes p f.pixels k)) p small) (all.payloads k one top)))

  trailer_kept : has_trailer_at (payload_count p (length f.pixels) + 1) (kept p b xs) ≡ true
  trailer_kept =
      let of = kept_of_frame frames p b f xs s is in
      has_trailer_at-by_kind f p (kept p b xs) of (go of
      (answered_last frames p b (payload_count p (length f.pixels) + 1) xs
      (came frames p b f xs (trailer (sent_head f (payload_count p (length f.pixels) + 1)) f.rows) s (s.are_frames.own_id b f is) last_fits refl refl all.the_trailer))) where
        go : AreOfFrame f p (kept p b xs) → (has_id (payload_count p (length f.pixels) + 1) (kept p b xs) ≡ true) ⊎ (has_trailer (kept p b xs) ≡ true) → has_trailer (kept p b xs) ≡ true
        go of (inl by_id) = has_trailer-by_id f p (kept p b xs) of by_id
        go of (inr by_kind) = by_kind

pub all_packets_complete : AllPacketsComplete
all_packets_complete frames p b size xs f s is goes_in all =
    let ks : List StreamPacket = kept p b xs in
    let n : ℕ = payload_count p (length f.pixels) in
    let ended : has_trailer ks ≡ true = has_trailer-at (n + 1) ks (trailer_kept frames p b xs f s is all) in
    ap (is_complete p size ks)
    (extent_in-of_frame f p ks (s.are_frames.valid b f is) (kept_of_frame frames p b f xs s is) (leader_kept frames p b xs f s is all) ended)
    ∙ and_from (nat_le (length f.pixels) size && has_trailer_at (n + 1) ks) (has_payloads p (length f.pixels) n ks)
    (and_from (nat_le (length f.pixels) size) (has_trailer_at (n + 1) ks) (le-leb (length f.pixels) size goes_in) (trailer_kept frames p b xs f s is all))
    (has_payloads-from_each p (length f.pixels) n ks (payload_kept frames p b xs f s is all))
