-- Any bytes are a capture in exactly one way.
use Rattle.std.proofs.Common.{◌≡◌, inl, inr, ℕ, zero, suc, ◌+◌, ◌≤◌, List, [], ◌∷◌, ◌++◌, length, drop, Bool, true, false, Option, Some, None, refl, ap, sym, ◌∙◌, arith, subst}
use Rattle.std.proofs.lemmas.List.{length-drop}
use Rattle.gev_capture.specs.declared.kind.CaptureKind.{CaptureKind}
use Rattle.gev_capture.specs.declared.kind.CaptureKind.TheVariants.{Cut}
use Rattle.gev_capture.specs.Files.{Packet, Format, fresh, classic, section, Told, wants, refused, given, told}
use Rattle.gev_capture.specs.Captures.{Read, Refusal, may_begin, IsOpen, IsAtEnd, IsRefused, EndsAs, AreRecords, packets_in}
use Rattle.gev_capture.specs.Laws.{Stays, CapturesAreOne}
use Rattle.gev_capture.proofs.Pieces.{pieces_tell}

-- some

pub record Ends (format : Format) (n : ℕ) (bytes : List ℕ) : Type 0 where
  pub records : List Read
  pub refusal : Option Refusal
  pub are : AreRecords format n bytes records refusal

abbrev refusal_at : ℕ → CaptureKind → Refusal
refusal_at n kind = record { number = n; kind = kind }

-- bytes that tell of no record yet are at their end, or cut off
opens : (format : Format) (n k : ℕ) (bytes : List ℕ) → told format bytes ≡ wants k → Ends format n bytes
opens format n k [] e = go (may_begin format) refl where
  go : (b : Bool) → may_begin format ≡ b → Ends format n []
  go true may = record { records = []; refusal = None; are = (refl, may) }
  go false may = record { records = []; refusal = Some (refusal_at (n + 1) Cut); are = (refl, inr (refl, (k, e), λ at_end. let same : true ≡ false = sym at_end.1 ∙ may in cc)) }
opens format n k (b ∷ bs) e =
    record { records = []; refusal = Some (refusal_at (n + 1) Cut); are = (refl, inr (refl, (k, e), λ at_end. let same : b ∷ bs ≡ [] = at_end.0 in cc)) }

-- by what is told, where what comes behind a record ends
ended_by : (format : Format) (n : ℕ) (bytes : List ℕ) → ((k : ℕ) (next : Format) → 1 ≤ k → k ≤ length bytes → Ends next (n + 1) (drop k bytes))
    → (t : Told) → told format bytes ≡ t → Stays (length bytes) t (told format (bytes ++ [])) → Ends format n bytes
ended_by format n bytes rest (wants k) e stays = opens format n k bytes e
ended_by format n bytes rest (refused kind) e stays = record { records = []; refusal = Some (refusal_at (n + 1) kind); are = (refl, inl e) }
ended_by format n bytes rest (given k next packet) e stays =
    let behind = rest k next stays.1 stays.2 in
    record {
      records = record { size = k; format = next; packet = packet } ∷ behind.records;
      refusal = behind.refusal;
      are = (e, behind.are);
    }

some_ends : (fuel : ℕ) (format : Format) (n : ℕ) (bytes : List ℕ) → length bytes ≤ fuel → Ends format n bytes
some_ends zero format n bytes small =
    ended_by format n bytes (λ k next some within. absurd (omega arith)) (told format bytes) refl (pieces_tell format bytes [])
some_ends (suc more) format n bytes small =
    ended_by format n bytes (λ k next some within. some_ends more next (n + 1) (drop k bytes) (omega (arith, length-drop k bytes)))
    (told format bytes) refl (pieces_tell format bytes [])

-- one

open_at_end : (format : Format) (bytes : List ℕ) → IsAtEnd format bytes → IsOpen format bytes
open_at_end fresh bytes at_end = let may : false ≡ true = at_end.1 in absurd (cc)
open_at_end (classic order parts link) bytes at_end = (16, ap (λ (bs : List ℕ). told (classic order parts link) bs) at_end.0)
open_at_end (section order interfaces time) bytes at_end = (8, ap (λ (bs : List ℕ). told (section order interfaces time) bs) at_end.0)

-- what is told is one thing
not_both : (t : Told) (k : ℕ) (kind : CaptureKind) → t ≡ wants k → t ≡ refused kind → ⊥
not_both t k kind e f = cc

not_given : (t : Told) (k j : ℕ) (next : Format) (packet : Option Packet) → t ≡ wants k → t ≡ given j next packet → ⊥
not_given t k j next packet e f = cc

not_refused : (t : Told) (kind : CaptureKind) (j : ℕ) (next : Format) (packet : Option Packet) → t ≡ refused kind → t ≡ given j next packet → ⊥
not_refused t kind j next packet e f = cc

at_end_or_refused : (format : Format) (bytes : List ℕ) (kind : CaptureKind) → IsAtEnd format bytes → IsRefused kind format bytes → ⊥
at_end_or_refused format bytes kind at_end (inl e) =
    let opened = open_at_end format bytes at_end in not_both (told format bytes) opened.0 kind opened.1 e
at_end_or_refused format bytes kind at_end (inr cut) = cut.2 at_end

same_kind : (format : Format) (bytes : List ℕ) (kind other : CaptureKind) → IsRefused kind format bytes → IsRefused other format bytes → kind ≡ other
same_kind format bytes kind other (inl e) (inl f) = let both : refused kind ≡ refused other = sym e ∙ f in cc
same_kind format bytes kind other (inl e) (inr cut) = absurd (not_both (told format bytes) cut.1.0 kind cut.1.1 e)
same_kind format bytes kind other (inr cut) (inl f) = absurd (not_both (told format bytes) cut.1.0 other cut.1.1 f)
same_kind format bytes kind other (inr cut) (inr also) = cut.0 ∙ sym also.0

same_refusal : (a b : Refusal) → a.number ≡ b.number → a.kind ≡ b.kind → a ≡ b
same_refusal a b e f = ap (λ (n : ℕ). refusal_at n a.kind) e ∙ ap (λ (k : CaptureKind). refusal_at b.number k) f

same_end : (format : Format) (n : ℕ) (bytes : List ℕ) (end other : Option Refusal) → EndsAs format n bytes end → EndsAs format n bytes other → end ≡ other
same_end format n bytes None None a b = refl
same_end format n bytes None (Some refusal) a b = absurd (at_end_or_refused format bytes refusal.kind a b.1)
same_end format n bytes (Some refusal) None a b = absurd (at_end_or_refused format bytes refusal.kind b a.1)
same_end format n bytes (Some refusal) (Some other) a b =
    ap Some (same_refusal refusal other (a.0 ∙ sym b.0) (same_kind format bytes refusal.kind other.kind a.1 b.1))

-- bytes that end don't begin with a record
no_record : (format : Format) (n : ℕ) (bytes : List ℕ) (end : Option Refusal) (r : Read) → EndsAs format n bytes end → told format bytes ≡ given r.size r.format r.packet → ⊥
no_record format n bytes None r ends e =
    let opened = open_at_end format bytes ends in not_given (told format bytes) opened.0 r.size r.format r.packet opened.1 e
no_record format n bytes (Some refusal) r ends e = go ends.1 where
  go : IsRefused refusal.kind format bytes → ⊥
  go (inl f) = not_refused (told format bytes) refusal.kind r.size r.format r.packet f e
  go (inr cut) = not_given (told format bytes) cut.1.0 r.size r.format r.packet cut.1.1 e

abbrev read_as : ℕ → Format → Option Packet → Read
read_as size format packet = record { size = size; format = format; packet = packet }

record SameRead (r q : Read) : Type 0 where
  size : r.size ≡ q.size
  format : r.format ≡ q.format
  packet : r.packet ≡ q.packet

same_read : (t : Told) (r q : Read) → t ≡ given r.size r.format r.packet → t ≡ given q.size q.format q.packet → SameRead r q
same_read t r q e f =
    let both : given r.size r.format r.packet ≡ given q.size q.format q.packet = sym e ∙ f in
    record { size = cc; format = cc; packet = cc }

record SameCapture (rs qs : List Read) (end other : Option Refusal) : Type 0 where
  records : rs ≡ qs
  refusal : end ≡ other

same_records : (format : Format) (n : ℕ) (bytes : List ℕ) (rs qs : List Read) (end other : Option Refusal) → AreRecords format n bytes rs end → AreRecords format n bytes qs other → SameCapture rs qs end other
same_records format n bytes [] [] end other a b = record { records = refl; refusal = same_end format n bytes end other a b }
same_records format n bytes [] (q ∷ qs) end other a b = absurd (no_record format n bytes end q a b.0)
same_records format n bytes (r ∷ rs) [] end other a b = absurd (no_record format n bytes other r b a.0)
same_records format n bytes (r ∷ rs) (q ∷ qs) end other a b =
    let s = same_read (told format bytes) r q a.0 b.0 in
    let moved = subst (λ (f : Format). AreRecords f (n + 1) (drop q.size bytes) qs other) (sym s.format) b.1 in
    let behind = subst (λ (k : ℕ). AreRecords r.format (n + 1) (drop k bytes) qs other) (sym s.size) moved in
    let rest = same_records r.format (n + 1) (drop r.size bytes) rs qs end other a.1 behind in
    let first : r ≡ q =
    ap (λ (k : ℕ). read_as k r.format r.packet) s.size ∙ ap (λ (f : Format). read_as q.size f r.packet) s.format
    ∙ ap (λ (p : Option Packet). read_as q.size q.format p) s.packet in
    record { records = ap (λ (x : Read). x ∷ rs) first ∙ ap (λ (xs : List Read). q ∷ xs) rest.records; refusal = rest.refusal }

pub captures_are_one : CapturesAreOne
captures_are_one = record {
  some = λ bytes.
      let e = some_ends (length bytes) fresh 0 bytes (omega arith) in
      record { packets = packets_in e.records; refusal = e.refusal; captured = record { records = e.records; are = e.are; packets_are = refl } };
  one = λ bytes packets others end other a b.
      let s = same_records fresh 0 bytes a.records b.records end other a.are b.are in
      (a.packets_are ∙ ap packets_in s.records ∙ sym b.packets_are, s.refusal);
}
