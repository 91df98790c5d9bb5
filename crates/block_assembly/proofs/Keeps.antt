-- What an assembly keeps along stays right with one more kept packet.
use Rattle.std.proofs.Common.{◌≡◌, ℕ, ◌+◌, ◌-◌, ◌<◌, ◌≤◌, true, false, min, max, List, [], ◌∷◌, ◌++◌, length, take, drop, replicate, set, Some, None, refl, ap, sym, ◌∙◌, arith, subst}
use Rattle.std.specs.Prelude.{◌==◌, ◌||◌, nat_le, nat_lt, Bool, is_some}
use Rattle.std.proofs.lemmas.Bool.{leb-true}
use Rattle.std.proofs.lemmas.List.{append-nil, take-append-drop, length-set, length-replicate}
use Rattle.std.proofs.Math.ListN.{drop_of_length-le}
use native.Mathlib.Decide.{dec_le}
use Rattle.gev_types.specs.Placing.{put_at}
use Rattle.stream_packets.specs.declared.fields.Head.{Head}
use Rattle.stream_packets.specs.declared.fields.LeaderInfo.{LeaderInfo}
use Rattle.stream_packets.specs.Packets.{StreamPacket, leader, payload, trailer, notice, head_of}
use Rattle.stream_packets.specs.FramePackets.{payload_start}
use Rattle.block_image.specs.Kept.{takes, has_id, has_trailer}
use Rattle.block_image.specs.KeptFacts.{IsNumbered, IsLeaderFirst}
use Rattle.block_image.specs.Image.{reaches_past, leader_in, has_trailer_at}
use Rattle.block_image.specs.Sizes.{IsPayloadSize, IsBufferSize}
use Rattle.block_image.specs.Extent.{TellsSizeIfLeader}
use Rattle.block_image.proofs.FewerLines.{lines_in-push_leader, lines_in-push_payload, lines_in-push_trailer}
use Rattle.block_image.proofs.Bools.{or_false}
use Rattle.block_image.proofs.KeptLemmas.{has_id-push, has_trailer-push, has_trailer_at-push, reaches_past-push, reaches_past-append, leader_in-push_first, leader_in-push_payload, leader_in-push_trailer, leader_in-none}
use Rattle.block_image.proofs.IsKept.{AllByRecursion-push, IsKept-push, IsKept-nil, takes_parts, may_keep_parts}
use Rattle.block_image.proofs.ImageLemmas.{fresh}
use Rattle.block_image.proofs.CountLemmas.{placed_count-nil, placed_end-nil, placed_count-push_payload, placed_count-push_leader, placed_count-push_trailer, placed_end-push_payload, placed_end-push_leader, placed_end-push_trailer}
use Rattle.missing_ranges.specs.Missing.{higher}
use Rattle.packet_bitmap.specs.Bits.{has}
use Rattle.block_assembly.specs.declared.progress.Progress.{Progress}
use Rattle.block_assembly.specs.PacketIds.{packet_ids}
use Rattle.block_assembly.specs.Shortest.{IsShortest}
use Rattle.block_assembly.specs.Assembly.{IsAssembly, is_trailer_id, lines_of}
use Rattle.block_assembly.specs.Steps.{with_leader, with_trailer, with_payload, zeros_put, emptied_in, end_inside}
use Rattle.block_assembly.specs.Verdicts.{IsRead}
use Rattle.block_assembly.proofs.Zeros.{length-zeros_put, length-placed_in, places_none, places_leader, places_trailer, places_payload}
use Rattle.block_assembly.proofs.Marks.{has-set, has-clear, count-push, highest-push}
use Rattle.block_assembly.proofs.Shorts.{shortest-push_full, shortest-push}

-- the id of a packet that is kept has a bit
pub id_fits : (a : Progress) (ks : List StreamPacket) (x : StreamPacket) → IsAssembly a ks → takes a.payload_size a.block ks x ≡ true → (head_of x).id < length a.kept
id_fits a ks x s t =
    let parts = may_keep_parts a.payload_size a.block x (takes_parts a.payload_size a.block ks x t).may in
    omega (arith, s.wide, leb-true (head_of x).id 131073 parts.id)

ids-push : (a : Progress) (ks : List StreamPacket) (x : StreamPacket) (k : ℕ) → IsAssembly a ks → takes a.payload_size a.block ks x ≡ true → has (set a.kept (head_of x).id true) k ≡ has_id k (ks ++ x ∷ [])
ids-push a ks x k s t =
    has-set a.kept (head_of x).id k (id_fits a ks x s t)
    ∙ ap (λ b. b || ((head_of x).id == k)) (s.ids k) ∙ sym (has_id-push k ks x)

-- no trailer, and so none with this id
no_trailer_at : (k : ℕ) (ks : List StreamPacket) → has_trailer ks ≡ false → has_trailer_at k ks ≡ false
no_trailer_at k [] h = refl
no_trailer_at k (leader g i ∷ ks) h = no_trailer_at k ks h
no_trailer_at k (payload g d ∷ ks) h = no_trailer_at k ks h
no_trailer_at k (trailer g y ∷ ks) h = absurd (cc)
no_trailer_at k (notice g ∷ ks) h = no_trailer_at k ks h

-- a packet that is no trailer
trailer_stays : (a : Progress) (ks : List StreamPacket) (x : StreamPacket) (k : ℕ) → IsAssembly a ks → has_trailer_at k (ks ++ x ∷ []) ≡ (has_trailer_at k ks || false) → has_trailer_at k (ks ++ x ∷ []) ≡ is_trailer_id a.trailer k
trailer_stays a ks x k s e = e ∙ or_false (has_trailer_at k ks) ∙ s.trailer k

ended_stays : (a : Progress) (ks : List StreamPacket) (x : StreamPacket) → IsAssembly a ks → has_trailer (ks ++ x ∷ []) ≡ (has_trailer ks || false) → is_some a.trailer ≡ has_trailer (ks ++ x ∷ [])
ended_stays a ks x s e = s.ended ∙ sym (or_false (has_trailer ks)) ∙ sym e

-- a packet that is no payload
past_stays : (a : Progress) (ks : List StreamPacket) (x : StreamPacket) → IsAssembly a ks → reaches_past a.payload_size a.size (x ∷ []) ≡ false → a.past ≡ reaches_past a.payload_size a.size (ks ++ x ∷ [])
past_stays a ks x s f =
    s.past ∙ sym (or_false (reaches_past a.payload_size a.size ks))
    ∙ ap (λ r. reaches_past a.payload_size a.size ks || r) (sym f)
    ∙ sym (reaches_past-append a.payload_size a.size ks (x ∷ []))

pub leader_kept : (a : Progress) (ks : List StreamPacket) (h : Head) (i : LeaderInfo) → IsAssembly a ks → takes a.payload_size a.block ks (leader h i) ≡ true
    → IsRead (leader h i) → IsAssembly (with_leader a h i) (ks ++ leader h i ∷ [])
leader_kept a ks h i s t read =
    let p = a.payload_size in
    let x = leader h i in
    let none : leader_in ks ≡ None = leader_in-none ks s.leaders (subst (λ k. has_id k ks ≡ false) read.0 (takes_parts p a.block ks x t).new_id) in
    record {
      payload_size = s.payload_size;
      size = s.size;
      are_kept = IsKept-push p a.block ks x s.are_kept t;
      numbered = AllByRecursion-push IsNumbered ks x s.numbered tt;
      leaders = AllByRecursion-push IsLeaderFirst ks x s.leaders read.0;
      buffer = s.buffer;
      bytes = places_leader p a.size ks h i a.buf.bytes read.0 s.bytes;
      wide = length-set a.kept h.id true ∙ s.wide;
      ids = λ k. ids-push a ks x k s t;
      leader = sym (leader_in-push_first ks h i none);
      told = read.1;
      trailer = λ k. trailer_stays a ks x k s (has_trailer_at-push k ks x);
      lines = s.lines ∙ sym (lines_in-push_leader ks h i);
      ended = ended_stays a ks x s (has_trailer-push ks x);
      count = count-push ks x a.count s.count;
      highest = ap (λ o. Some (higher h.id o)) s.highest ∙ sym (highest-push ks x);
      shortest = shortest-push_full p ks x a.shortest tt (λ low. tt) s.shortest;
      placed = s.placed ∙ sym (placed_count-push_leader p ks h i a.size);
      end = s.end ∙ sym (placed_end-push_leader p ks h i a.size);
      past = past_stays a ks x s refl;
    }

emptied_length : (bytes : List ℕ) (p k size : ℕ) (has_place : Bool) → nat_le 1 k ≡ has_place → length (emptied_in bytes p k size) ≡ length bytes
emptied_length bytes p k size true is = rw is (length-zeros_put bytes (payload_start p k) p size)
emptied_length bytes p k size false is = rw is refl

pub trailer_kept : (a : Progress) (ks : List StreamPacket) (h : Head) (y : ℕ) → IsAssembly a ks → takes a.payload_size a.block ks (trailer h y) ≡ true
    → IsAssembly (with_trailer a h y) (ks ++ trailer h y ∷ [])
trailer_kept a ks h y s t =
    let p = a.payload_size in
    let x = trailer h y in
    let none : has_trailer ks ≡ false = (takes_parts p a.block ks x t).one_trailer in
    record {
      payload_size = s.payload_size;
      size = s.size;
      are_kept = IsKept-push p a.block ks x s.are_kept t;
      numbered = AllByRecursion-push IsNumbered ks x s.numbered tt;
      leaders = AllByRecursion-push IsLeaderFirst ks x s.leaders tt;
      buffer = emptied_length a.buf.bytes p h.id a.size (nat_le 1 h.id) refl ∙ s.buffer;
      bytes = places_trailer p a.block a.size ks h y a.buf.bytes s.are_kept s.numbered (takes_parts p a.block ks x t).new_id s.buffer s.bytes;
      wide = length-set a.kept h.id true ∙ s.wide;
      ids = λ k. ids-push a ks x k s t;
      leader = s.leader ∙ sym (leader_in-push_trailer ks h y);
      told = s.told;
      trailer = λ k. has_trailer_at-push k ks x ∙ ap (λ r. r || (h.id == k)) (no_trailer_at k ks none);
      lines = sym (lines_in-push_trailer ks h y none);
      ended = sym (has_trailer-push ks x ∙ ap (λ r. r || true) none);
      count = count-push ks x a.count s.count;
      highest = ap (λ o. Some (higher h.id o)) s.highest ∙ sym (highest-push ks x);
      shortest = shortest-push_full p ks x a.shortest tt (λ low. tt) s.shortest;
      placed = s.placed ∙ sym (placed_count-push_trailer p ks h y a.size);
      end = s.end ∙ sym (placed_end-push_trailer p ks h y a.size);
      past = past_stays a ks x s refl;
    }

pub payload_kept : (a : Progress) (ks : List StreamPacket) (h : Head) (d : List ℕ) → IsAssembly a ks → takes a.payload_size a.block ks (payload h d) ≡ true
    → IsRead (payload h d) → IsAssembly (with_payload a h d) (ks ++ payload h d ∷ [])
payload_kept a ks h d s t read =
    let p = a.payload_size in
    let x = payload h d in
    let start = payload_start p h.id in
    record {
      payload_size = s.payload_size;
      size = s.size;
      are_kept = IsKept-push p a.block ks x s.are_kept t;
      numbered = AllByRecursion-push IsNumbered ks x s.numbered read.0;
      leaders = AllByRecursion-push IsLeaderFirst ks x s.leaders tt;
      buffer = length-placed_in a.buf.bytes p a.size start d ∙ s.buffer;
      bytes = places_payload p a.block a.size ks h d a.buf.bytes (fresh p a.block ks h d s.are_kept s.numbered read.0 t) s.buffer s.bytes;
      wide = length-set a.kept h.id true ∙ s.wide;
      ids = λ k. ids-push a ks x k s t;
      leader = s.leader ∙ sym (leader_in-push_payload ks h d);
      told = s.told;
      trailer = λ k. trailer_stays a ks x k s (has_trailer_at-push k ks x);
      lines = s.lines ∙ sym (lines_in-push_payload ks h d);
      ended = ended_stays a ks x s (has_trailer-push ks x);
      count = count-push ks x a.count s.count;
      highest = ap (λ o. Some (higher h.id o)) s.highest ∙ sym (highest-push ks x);
      shortest = shortest-push p ks h d a.shortest s.shortest;
      placed =
          ap (λ n. n + (min a.size (start + length d) - min a.size start)) s.placed
          ∙ sym (placed_count-push_payload p a.block ks h d a.size s.are_kept s.numbered read.0 t);
      end =
          ap (λ n. max n (end_inside start (length d) a.size)) s.end
          ∙ sym (placed_end-push_payload p ks h d a.size);
      past =
          ap (λ r. r || nat_lt a.size (start + length d)) s.past
          ∙ sym (reaches_past-push p a.size ks h d);
    }

-- nothing kept, whatever lies in the buffer
pub nothing_kept : (a : Progress) → IsPayloadSize a.payload_size → IsBufferSize a.size → length a.buf.bytes ≡ a.size → a.kept ≡ replicate packet_ids false
    → a.leader ≡ None → a.trailer ≡ None → a.count ≡ 0 → a.highest ≡ None → a.shortest ≡ None → a.placed ≡ 0 → a.end ≡ 0 → a.past ≡ false → IsAssembly a []
nothing_kept a p n buffer clear lead trail count high short placed end past = record {
  payload_size = p;
  size = n;
  are_kept = IsKept-nil a.payload_size a.block;
  numbered = tt;
  leaders = tt;
  buffer = buffer;
  bytes = places_none a.payload_size a.size a.buf.bytes;
  wide = ap length clear ∙ length-replicate packet_ids false;
  ids = λ k. ap (λ bits. has bits k) clear ∙ has-clear packet_ids k;
  leader = lead;
  told = subst TellsSizeIfLeader (sym lead) tt;
  trailer = λ k. ap (λ o. is_trailer_id o k) (sym trail);
  lines = ap lines_of trail;
  ended = ap is_some trail;
  count = count ∙ omega arith;
  highest = high;
  shortest = subst (IsShortest a.payload_size []) (sym short) tt;
  placed = placed ∙ sym (placed_count-nil a.payload_size a.size);
  end = end ∙ sym (placed_end-nil a.payload_size a.size);
  past = past;
}
