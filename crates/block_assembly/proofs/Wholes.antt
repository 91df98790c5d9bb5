-- What an assembly says of the image, by what it keeps along.
use Rattle.std.proofs.Common.{◌≡◌, ℕ, ◌+◌, ◌-◌, ◌<◌, ◌≤◌, List, [], ◌∷◌, Bool, true, false, Option, Some, None, refl, ap, sym, ◌∙◌, arith, subst}
use Rattle.std.specs.Prelude.{◌==◌, IfSome}
use Rattle.std.specs.List.{AllByRecursion}
use Rattle.std.proofs.lemmas.Bool.{leb-true, eq-eqb, or_left, or_right}
use Rattle.stream_packets.specs.declared.fields.LeaderInfo.{LeaderInfo}
use Rattle.stream_packets.specs.Packets.{StreamPacket, leader, payload, trailer, notice, head_of}
use Rattle.stream_packets.specs.FramePackets.{payload_count, payload_start}
use Rattle.block_image.specs.Extent.{extent_of}
use Rattle.block_image.specs.Kept.{has_id}
use Rattle.block_image.specs.KeptFacts.{AreLeadersFirst, may_keep}
use Rattle.block_image.specs.Image.{is_complete, has_image, has_payloads, has_trailer_at, leader_in, lines_in, extent_in}
use Rattle.block_image.proofs.IsKept.{may_keep_parts}
use Rattle.missing_ranges.specs.Missing.{higher, highest}
use Rattle.packet_bitmap.specs.Bits.{has, HasClear}
use Rattle.block_assembly.specs.declared.progress.Progress.{Progress}
use Rattle.block_assembly.specs.Assembly.{IsAssembly, lines_of}
use Rattle.block_assembly.specs.Shortest.{are_long}
use Rattle.block_assembly.proofs.Covers.{Ends, rest_of, covered_is, uncovered_is, few_is}

ends : (a : Progress) (len last : ℕ) (ks : List StreamPacket) → IsAssembly a ks → last ≡ payload_count a.payload_size len → has_id 0 ks ≡ true → has_trailer_at (last + 1) ks ≡ true → Ends a.payload_size a.block len ks a.shortest
ends a len last ks s e leads trails = record {
  some = omega (arith, s.payload_size.at_least);
  are_kept = s.are_kept;
  numbered = s.numbered;
  leaders = s.leaders;
  shortest = s.shortest;
  leader = leads;
  trailer = subst (λ (n : ℕ). has_trailer_at (n + 1) ks ≡ true) e trails;
}

-- each id has a bit
pub all_there : (a : Progress) (len last rest : ℕ) (long : Bool) (ks : List StreamPacket) → IsAssembly a ks → last ≡ payload_count a.payload_size len → has_id 0 ks ≡ true → has_trailer_at (last + 1) ks ≡ true
    → rest ≡ len - payload_start a.payload_size last → long ≡ are_long last rest a.shortest → ((id : ℕ) → id ≤ last + 1 → has a.kept id ≡ true) → long ≡ has_payloads a.payload_size len last ks
all_there a len last rest long ks s e leads trails remains tells covered =
    let p = a.payload_size in
    let left : rest ≡ rest_of p len = remains ∙ ap (λ (n : ℕ). len - payload_start p n) e in
    let all : (k : ℕ) → k ≤ payload_count p len + 1 → has_id k ks ≡ true = λ k top. sym (s.ids k) ∙ covered k (omega (arith, e)) in
    tells ∙ ap (λ (n : ℕ). are_long n rest a.shortest) e ∙ ap (λ (n : ℕ). are_long (payload_count p len) n a.shortest) left
    ∙ covered_is p a.block len ks a.shortest (ends a len last ks s e leads trails) all
    ∙ ap (λ (n : ℕ). has_payloads p len n ks) (sym e)

-- some id has none
pub one_misses : (a : Progress) (len last : ℕ) (ks : List StreamPacket) → IsAssembly a ks → last ≡ payload_count a.payload_size len → has_id 0 ks ≡ true → has_trailer_at (last + 1) ks ≡ true
    → HasClear a.kept (last + 1) → false ≡ has_payloads a.payload_size len last ks
one_misses a len last ks s e leads trails clear =
    let p = a.payload_size in
    let none : has_id clear.id ks ≡ false = sym (s.ids clear.id) ∙ clear.clear in
    sym (ap (λ (n : ℕ). has_payloads p len n ks) e ∙ uncovered_is p a.block len clear.id ks a.shortest (ends a len last ks s e leads trails) (omega (arith, e, clear.within)) none)

-- there are too few packets
pub too_few : (a : Progress) (len last : ℕ) (ks : List StreamPacket) → IsAssembly a ks → last ≡ payload_count a.payload_size len → has_id 0 ks ≡ true → has_trailer_at (last + 1) ks ≡ true
    → last + 1 ≤ 131073 → a.count < last + 2 → false ≡ has_payloads a.payload_size len last ks
too_few a len last ks s e leads trails small few =
    let p = a.payload_size in
    sym (ap (λ (n : ℕ). has_payloads p len n ks) e ∙ few_is p a.block len ks a.shortest (ends a len last ks s e leads trails) (omega (arith, e, s.count)))

-- a kept leader has the id 0
pub leader_has_id : (ks : List StreamPacket) (i : LeaderInfo) → AreLeadersFirst ks → leader_in ks ≡ Some i → has_id 0 ks ≡ true
leader_has_id [] i first e = absurd (cc)
leader_has_id (leader h j ∷ xs) i first e = or_left (h.id == 0) (has_id 0 xs) (eq-eqb h.id 0 first.0)
leader_has_id (payload h d ∷ xs) i first e = or_right (h.id == 0) (has_id 0 xs) (leader_has_id xs i first.1 e)
leader_has_id (trailer h y ∷ xs) i first e = or_right (h.id == 0) (has_id 0 xs) (leader_has_id xs i first.1 e)
leader_has_id (notice h ∷ xs) i first e = or_right (h.id == 0) (has_id 0 xs) (leader_has_id xs i first.1 e)

-- what the extent tells, which is known with a leader alone
pub record Leads (a : Progress) (len : ℕ) (ks : List StreamPacket) : Type 0 where
  pub leads : has_id 0 ks ≡ true
  pub complete : has_image a.payload_size a.size len ks ≡ is_complete a.payload_size a.size ks (extent_in ks)

pub extent_is : (a : Progress) (ks : List StreamPacket) → IsAssembly a ks → extent_of a.leader (lines_of a.trailer) ≡ extent_in ks
extent_is a ks s =
    ap (λ (o : Option LeaderInfo). extent_of o (lines_of a.trailer)) s.leader ∙ ap (extent_of (leader_in ks)) s.lines

pub leads_with : (a : Progress) (len : ℕ) (ks : List StreamPacket) → IsAssembly a ks → Some len ≡ extent_of a.leader (lines_of a.trailer) → Leads a len ks
leads_with a len ks s e = go (leader_in ks) refl where
  known : Some len ≡ extent_in ks
  known = e ∙ extent_is a ks s

  go : (o : Option LeaderInfo) → leader_in ks ≡ o → Leads a len ks
  go None none = absurd (differs (known ∙ ap (λ (o : Option LeaderInfo). extent_of o (lines_in ks)) none))
    where
      differs : Some len ≡ None → ⊥
      differs same = cc
  go (Some i) there = record {
    leads = leader_has_id ks i s.leaders there;
    complete = ap (is_complete a.payload_size a.size ks) known;
  }

-- the highest id fits
higher_fits : (id : ℕ) (o : Option ℕ) → id ≤ 131073 → IfSome o (λ top. top ≤ 131073) → higher id o ≤ 131073
higher_fits id None fits rest = fits
higher_fits id (Some most) fits rest = omega arith

highest_fits : (p b : ℕ) (ks : List StreamPacket) → AllByRecursion (λ x. may_keep p b x ≡ true) ks → IfSome (highest ks) (λ top. top ≤ 131073)
highest_fits p b [] may = tt
highest_fits p b (x ∷ xs) may =
    higher_fits (head_of x).id (highest xs) (leb-true (head_of x).id 131073 (may_keep_parts p b x may.0).id) (highest_fits p b xs may.1)

pub top_fits : (a : Progress) (ks : List StreamPacket) → IsAssembly a ks → IfSome a.highest (λ top. top ≤ 131073)
top_fits a ks s = subst (λ o. IfSome o (λ top. top ≤ 131073)) (sym s.highest) (highest_fits a.payload_size a.block ks s.are_kept.of_block)
