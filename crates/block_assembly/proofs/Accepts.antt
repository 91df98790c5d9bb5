-- What an assembly stands for after one more packet.
use Rattle.std.proofs.Common.{◌≡◌, ◌⊎◌, inl, inr, ℕ, ◌+◌, ◌<◌, Bool, true, false, List, [], ◌∷◌, ◌++◌, length, set, replicate, None, refl, ap, sym, ◌∙◌, arith, subst}
use Rattle.std.specs.Prelude.{◌==◌, ◌||◌, ◌&&◌, not, nat_le, if◌then◌else◌}
use Rattle.std.proofs.lemmas.Bool.{false≢true, leb-true, leb-false, eq-eqb, ne_eqb, and_parts, and_cases, and_left, and_right}
use Rattle.std.proofs.lemmas.List.{length-set, length-replicate}
use Rattle.gev_types.specs.declared.block_record.Record.{Record}
use Rattle.gev_types.specs.declared.block_account.Cause.{Cause}
use Rattle.gev_types.specs.Filling.{Filling}
use Rattle.block_image.specs.Image.{image_bytes}
use Rattle.stream_packets.specs.declared.fields.Head.{Head}
use Rattle.stream_packets.specs.Packets.{StreamPacket, leader, payload, trailer, notice, head_of, is_notice}
use Rattle.block_image.specs.Kept.{takes, kept, fits}
use Rattle.block_image.specs.Sizes.{IsPayloadSize, IsBufferSize}
use Rattle.block_image.proofs.Bools.{and_false, or_false}
use Rattle.block_image.proofs.KeptLemmas.{kept-push, keep-taken, keep-left}
use Rattle.stream_packets.specs.FramePackets.{payload_count}
use Rattle.block_image.proofs.CountLemmas.{placed_count-le, placed_end-le}
use Rattle.missing_ranges.specs.Accounts.{retired_record, retired_image}
use Rattle.missing_ranges.specs.Missing.{is_gone, has_gone}
use Rattle.packet_bitmap.specs.Bits.{has}
use Rattle.block_assembly.specs.declared.progress.Progress.{Progress}
use Rattle.block_assembly.specs.PacketIds.{packet_ids}
use Rattle.block_assembly.specs.declared.verdict.Verdict.{Verdict}
use Rattle.block_assembly.specs.declared.verdict.Verdict.TheVariants.{Kept, Repeat, Misfit, Notice}
use Rattle.block_assembly.specs.Assembly.{IsAssembly, AssemblyStands, StandsForSome, IsSound}
use Rattle.block_assembly.specs.Steps.{with_packet, noted, acted}
use Rattle.block_assembly.specs.Verdicts.{IsRead, is_new, verdict_in, verdict_of}
use Rattle.block_assembly.specs.Zeroed.{Zeroes}
use Rattle.block_assembly.proofs.Zeros.{image_left}
use Rattle.block_assembly.proofs.Marks.{has-set, has-clear, has_gone-push}
use Rattle.block_assembly.proofs.Keeps.{leader_kept, trailer_kept, payload_kept, nothing_kept}

-- no notice is kept
pub takes-notice : (p b : ℕ) (ks : List StreamPacket) (x : StreamPacket) → is_notice x ≡ true → takes p b ks x ≡ false
takes-notice p b ks x e = rw (e, and_false ((head_of x).block == b)) refl

-- nor is what doesn't fit
pub takes-misfit : (p b : ℕ) (ks : List StreamPacket) (x : StreamPacket) → fits p x ≡ false → takes p b ks x ≡ false
takes-misfit p b ks x e = rw (e, and_false ((head_of x).block == b && not (is_notice x))) refl

-- what the assembly keeps along tells which packets are kept
takes-new : (a : Progress) (ks : List StreamPacket) (x : StreamPacket) → IsAssembly a ks → (head_of x).block ≡ a.block → is_notice x ≡ false → fits a.payload_size x ≡ true → takes a.payload_size a.block ks x ≡ is_new a x
takes-new a ks x s of_block no_notice fit =
    let here : ((head_of x).block == a.block) ≡ true = eq-eqb (head_of x).block a.block of_block in
    rw (here, no_notice, fit, s.ids (head_of x).id, s.ended) refl

-- the notices are kept apart
with_refused : (a : Progress) (r : List Bool) (ks : List StreamPacket) → IsAssembly a ks → IsAssembly (record a { refused = r }) ks
with_refused a r ks s = record {
  payload_size = s.payload_size;
  size = s.size;
  are_kept = s.are_kept;
  numbered = s.numbered;
  leaders = s.leaders;
  buffer = s.buffer;
  bytes = s.bytes;
  wide = s.wide;
  ids = s.ids;
  leader = s.leader;
  told = s.told;
  trailer = s.trailer;
  lines = s.lines;
  ended = s.ended;
  count = s.count;
  highest = s.highest;
  shortest = s.shortest;
  placed = s.placed;
  end = s.end;
  past = s.past;
}

left_out : (p b : ℕ) (heard : List StreamPacket) (x : StreamPacket) → takes p b (kept p b heard) x ≡ false → kept p b heard ≡ kept p b (heard ++ x ∷ [])
left_out p b heard x none = sym (kept-push p b heard x ∙ keep-left p b (kept p b heard) x none)

taken_in : (p b : ℕ) (heard : List StreamPacket) (x : StreamPacket) → takes p b (kept p b heard) x ≡ true → kept p b heard ++ x ∷ [] ≡ kept p b (heard ++ x ∷ [])
taken_in p b heard x taken = sym (kept-push p b heard x ∙ keep-taken p b (kept p b heard) x taken)

-- only a notice says that a packet is gone
not_gone : (k : ℕ) (x : StreamPacket) → is_notice x ≡ false → is_gone k x ≡ false
not_gone k (leader h i) no_notice = refl
not_gone k (payload h d) no_notice = refl
not_gone k (trailer h y) no_notice = refl
not_gone k (notice h) no_notice = absurd (false≢true (sym no_notice))

gone_stays : (k : ℕ) (heard : List StreamPacket) (x : StreamPacket) → is_gone k x ≡ false → has_gone k heard ≡ has_gone k (heard ++ x ∷ [])
gone_stays k heard x none =
    sym (has_gone-push k heard x ∙ ap (λ b. has_gone k heard || b) none ∙ or_false (has_gone k heard))

and_true : (x : Bool) → (x && true) ≡ x
and_true true = refl
and_true false = refl

stands_noted : (a : Progress) (p b size : ℕ) (heard : List StreamPacket) (h : Head) → AssemblyStands a p b size heard → AssemblyStands (noted a h) p b size (heard ++ notice h ∷ [])
stands_noted a p b size heard h s = go (not (h.status == 0x8010) && nat_le h.id 131073) refl where
  x : StreamPacket
  x = notice h

  same : kept a.payload_size a.block heard ≡ kept a.payload_size a.block (heard ++ notice h ∷ [])
  same = left_out a.payload_size a.block heard (notice h) (takes-notice a.payload_size a.block (kept a.payload_size a.block heard) (notice h) refl)

  go : (v : Bool) → (not (h.status == 0x8010) && nat_le h.id 131073) ≡ v → AssemblyStands (if v then record a { refused = set a.refused h.id true } else a) p b size (heard ++ notice h ∷ [])
  go true e =
      let parts = and_parts (not (h.status == 0x8010)) (nat_le h.id 131073) e in
      record {
        payload_size = s.payload_size;
        block = s.block;
        buffer_size = s.buffer_size;
        assembly = with_refused a (set a.refused h.id true) (kept a.payload_size a.block (heard ++ notice h ∷ [])) (subst (IsAssembly a) same s.assembly);
        wide = length-set a.refused h.id true ∙ s.wide;
        gone = λ k low.
            has-set a.refused h.id k (omega (arith, s.wide, leb-true h.id 131073 parts.1))
            ∙ ap (λ b. b || (h.id == k)) (s.gone k low)
            ∙ sym (has_gone-push k heard (notice h) ∙ ap (λ b. has_gone k heard || ((h.id == k) && b)) parts.0 ∙ ap (λ b. has_gone k heard || b) (and_true (h.id == k)));
      }
  go false e = record {
    payload_size = s.payload_size;
    block = s.block;
    buffer_size = s.buffer_size;
    assembly = subst (IsAssembly a) same s.assembly;
    wide = s.wide;
    gone = λ k low. s.gone k low ∙ gone_stays k heard (notice h) (none k low (and_cases (not (h.status == 0x8010)) (nat_le h.id 131073) e));
  } where
    none : (k : ℕ) → k < packet_ids → (not (h.status == 0x8010) ≡ false) ⊎ (nat_le h.id 131073 ≡ false) → is_gone k (notice h) ≡ false
    none k low (inl later) = and_right (h.id == k) (not (h.status == 0x8010)) later
    none k low (inr high) = and_left (h.id == k) (not (h.status == 0x8010)) (ne_eqb h.id k (λ same. omega (arith, leb-false h.id 131073 high)))

stands_notice : (a : Progress) (p b size : ℕ) (heard : List StreamPacket) (x : StreamPacket) → AssemblyStands a p b size heard → is_notice x ≡ true → AssemblyStands (noted a (head_of x)) p b size (heard ++ x ∷ [])
stands_notice a p b size heard (leader h i) s e = absurd (false≢true e)
stands_notice a p b size heard (payload h d) s e = absurd (false≢true e)
stands_notice a p b size heard (trailer h y) s e = absurd (false≢true e)
stands_notice a p b size heard (notice h) s e = stands_noted a p b size heard h s

-- a packet that isn't kept, and no notice
stands_same : (a : Progress) (p b size : ℕ) (heard : List StreamPacket) (x : StreamPacket) → AssemblyStands a p b size heard → is_notice x ≡ false → takes a.payload_size a.block (kept a.payload_size a.block heard) x ≡ false → AssemblyStands a p b size (heard ++ x ∷ [])
stands_same a p b size heard x s no_notice none = record {
  payload_size = s.payload_size;
  block = s.block;
  buffer_size = s.buffer_size;
  assembly = subst (IsAssembly a) (left_out a.payload_size a.block heard x none) s.assembly;
  wide = s.wide;
  gone = λ k low. s.gone k low ∙ gone_stays k heard x (not_gone k x no_notice);
}

stands_kept : (a : Progress) (p b size : ℕ) (heard : List StreamPacket) (x : StreamPacket) → AssemblyStands a p b size heard → IsRead x → takes a.payload_size a.block (kept a.payload_size a.block heard) x ≡ true → AssemblyStands (with_packet a x) p b size (heard ++ x ∷ [])
stands_kept a p b size heard (leader h i) s read taken = record {
  payload_size = s.payload_size;
  block = s.block;
  buffer_size = s.buffer_size;
  assembly = subst (IsAssembly (with_packet a (leader h i))) (taken_in a.payload_size a.block heard (leader h i) taken) (leader_kept a (kept a.payload_size a.block heard) h i s.assembly taken read);
  wide = s.wide;
  gone = λ k low. s.gone k low ∙ gone_stays k heard (leader h i) refl;
}
stands_kept a p b size heard (payload h d) s read taken = record {
  payload_size = s.payload_size;
  block = s.block;
  buffer_size = s.buffer_size;
  assembly = subst (IsAssembly (with_packet a (payload h d))) (taken_in a.payload_size a.block heard (payload h d) taken) (payload_kept a (kept a.payload_size a.block heard) h d s.assembly taken read);
  wide = s.wide;
  gone = λ k low. s.gone k low ∙ gone_stays k heard (payload h d) refl;
}
stands_kept a p b size heard (trailer h y) s read taken = record {
  payload_size = s.payload_size;
  block = s.block;
  buffer_size = s.buffer_size;
  assembly = subst (IsAssembly (with_packet a (trailer h y))) (taken_in a.payload_size a.block heard (trailer h y) taken) (trailer_kept a (kept a.payload_size a.block heard) h y s.assembly taken);
  wide = s.wide;
  gone = λ k low. s.gone k low ∙ gone_stays k heard (trailer h y) refl;
}
stands_kept a p b size heard (notice h) s read taken =
    absurd (false≢true (sym (takes-notice a.payload_size a.block (kept a.payload_size a.block heard) (notice h) refl) ∙ taken))

-- the verdict by three tests
abbrev pub verdict_by : Bool → Bool → Bool → Verdict
verdict_by is_note does_fit is_fresh = if is_note then Notice else if not does_fit then Misfit else if is_fresh then Kept else Repeat

pub stands_after : (a : Progress) (p b size : ℕ) (heard : List StreamPacket) (x : StreamPacket) → AssemblyStands a p b size heard → IsRead x → (head_of x).block ≡ a.block → AssemblyStands (acted (verdict_in a x) a x) p b size (heard ++ x ∷ [])
stands_after a p b size heard x s read of_block = go (is_notice x) (fits a.payload_size x) (is_new a x) refl refl refl where
  go : (n f w : Bool) → is_notice x ≡ n → fits a.payload_size x ≡ f → is_new a x ≡ w → AssemblyStands (acted (verdict_by n f w) a x) p b size (heard ++ x ∷ [])
  go true f w en ef ew = stands_notice a p b size heard x s en
  go false false w en ef ew = stands_same a p b size heard x s en (takes-misfit a.payload_size a.block (kept a.payload_size a.block heard) x ef)
  go false true true en ef ew = stands_kept a p b size heard x s read (takes-new a (kept a.payload_size a.block heard) x s.assembly of_block en ef ∙ ew)
  go false true false en ef ew = stands_same a p b size heard x s en (takes-new a (kept a.payload_size a.block heard) x s.assembly of_block en ef ∙ ew)

same_verdict : (n f w t : Bool) → (n ≡ false → f ≡ true → t ≡ w) → verdict_by n f w ≡ verdict_by n f t
same_verdict true f w t e = refl
same_verdict false false w t e = refl
same_verdict false true w t e = ap (λ b. verdict_by false true b) (sym (e refl refl))

pub verdict_is : (a : Progress) (p b size : ℕ) (heard : List StreamPacket) (x : StreamPacket) → AssemblyStands a p b size heard → (head_of x).block ≡ a.block → verdict_in a x ≡ verdict_of p b heard x
verdict_is a p b size heard x s of_block =
    same_verdict (is_notice x) (fits a.payload_size x) (is_new a x) (takes a.payload_size a.block (kept a.payload_size a.block heard) x)
    (λ en ef. takes-new a (kept a.payload_size a.block heard) x s.assembly of_block en ef)
    ∙ ap (λ q. verdict_of q a.block heard x) s.payload_size ∙ ap (λ c. verdict_of p c heard x) s.block

-- what is kept fits
fits_by : (n f w : Bool) → verdict_by n f w ≡ Kept → f ≡ true
fits_by n true w e = refl
fits_by true false w e = absurd (cc)
fits_by false false w e = absurd (cc)

pub kept_fits : (a : Progress) (x : StreamPacket) → verdict_in a x ≡ Kept → fits a.payload_size x ≡ true
kept_fits a x e = fits_by (is_notice x) (fits a.payload_size x) (is_new a x) e

pub sound : (a : Progress) → StandsForSome a → IsSound a
sound a some =
    let s = some.stands.assembly in
    let ks = kept a.payload_size a.block some.heard in
    record {
      payload_size = s.payload_size;
      size = s.size;
      wide = s.wide;
      wide_refused = some.stands.wide;
      told = s.told;
      buffer = s.buffer;
      placed = omega (arith, s.placed, placed_count-le a.payload_size ks a.size);
      end = omega (arith, s.end, placed_end-le a.payload_size ks a.size);
    }

-- what the acted assembly stands for, as the calls tell it
pub acts : (a new : Progress) (v : Verdict) (x : StreamPacket) (p b size : ℕ) (heard : List StreamPacket) → v ≡ verdict_in a x → new ≡ acted v a x → IsRead x → (head_of x).block ≡ a.block → AssemblyStands a p b size heard → AssemblyStands new p b size (heard ++ x ∷ [])
acts a new v x p b size heard told done read of_block s =
    subst (λ n. AssemblyStands n p b size (heard ++ x ∷ [])) (sym (done ∙ ap (λ w. acted w a x) told))
    (stands_after a p b size heard x s read of_block)

pub acts_for_some : (a new : Progress) (v : Verdict) (x : StreamPacket) → v ≡ verdict_in a x → new ≡ acted v a x → IsRead x → (head_of x).block ≡ a.block → StandsForSome a → StandsForSome new
acts_for_some a new v x told done read of_block some = record {
  p = some.p;
  b = some.b;
  size = some.size;
  heard = some.heard ++ x ∷ [];
  stands = acts a new v x some.p some.b some.size some.heard told done read of_block some.stands;
}

-- an assembly that has taken nothing
pub started : (a : Progress) → IsPayloadSize a.payload_size → IsBufferSize a.size → length a.buf.bytes ≡ a.size → a.kept ≡ replicate packet_ids false → a.refused ≡ replicate packet_ids false
    → a.leader ≡ None → a.trailer ≡ None → a.count ≡ 0 → a.highest ≡ None → a.shortest ≡ None → a.placed ≡ 0 → a.end ≡ 0 → a.past ≡ false → AssemblyStands a a.payload_size a.block a.size []
started a p n buffer clear none lead trail count high short placed end past = record {
  payload_size = refl;
  block = refl;
  buffer_size = refl;
  assembly = nothing_kept a p n buffer clear lead trail count high short placed end past;
  wide = ap length none ∙ length-replicate packet_ids false;
  gone = λ k low. ap (λ bits. has bits k) none ∙ has-clear packet_ids k;
}

abbrev same_filling : List ℕ → Record → Filling
same_filling bs r = record { bytes = bs; rec = r }

-- the buffer in the end
pub finished : (cause : Cause) (a : Progress) (f : Filling) (rec : Record) (p b size : ℕ) (heard : List StreamPacket) → AssemblyStands a p b size heard
    → Zeroes (has a.kept) a.payload_size (payload_count a.payload_size (length a.buf.bytes) + 1) a.buf.bytes f.bytes → f.rec ≡ rec
    → rec ≡ retired_record cause a.payload_size a.block a.size (kept a.payload_size a.block heard) → f ≡ retired_image cause p b size heard
finished cause a f rec p b size heard s zeroed same is_record =
    let k = s.assembly in
    ap (λ (bs : List ℕ). same_filling bs f.rec)
    (image_left a.payload_size a.block a.size (kept a.payload_size a.block heard) a.buf.bytes f.bytes (has a.kept) k.payload_size k.are_kept k.numbered k.ids k.buffer k.bytes zeroed)
    ∙ ap (λ (r : Record). same_filling (image_bytes a.payload_size (kept a.payload_size a.block heard) a.size) r) (same ∙ is_record)
    ∙ ap (λ q. retired_image cause q a.block a.size heard) s.payload_size
    ∙ ap (λ c. retired_image cause p c a.size heard) s.block
    ∙ ap (λ n. retired_image cause p b n heard) s.buffer_size
