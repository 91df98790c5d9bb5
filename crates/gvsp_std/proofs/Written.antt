-- What is written part by part.
use Rattle.std.proofs.Common.{◌≡◌, ◌≢◌, ℕ, ◌+◌, ◌%◌, ◌^◌, ◌≤◌, false, List, [], ◌++◌, length, take, drop, slice_index, Some, Ok, refl, sym, ap, ◌∙◌, append_assoc, arith}
use Rattle.std.specs.Prelude.{max, Bool}
use Rattle.std.proofs.lemmas.Bool.{le-ltb, ne_eqb}
use Rattle.std.proofs.lemmas.List.{take_at, drop_at, drop_all, append-nil, length-append, length-drop, length-take, drop-drop}
use Rattle.wire_fields.specs.Fields.{number_at}
use Rattle.wire_fields.proofs.Spellings.{length-spelled}
use Rattle.stream_packets.specs.declared.fields.Head.{Head}
use Rattle.gvsp_wire.specs.Wire.{header_fields}
use Rattle.gvsp_wire.specs.Reading.{is_extended}
use Rattle.gvsp_wire.specs.Plain.{AreBytes}
use Rattle.gvsp_std.specs.Blocks.{cycle, chosen}
use Rattle.gvsp_std.specs.Widening.{head_in, wide_header, wide_in, widened, IsWidened}
use Rattle.gvsp_std.proofs.OnePacket.{taken, taken_block, widened_packet}

-- A slice with these bytes in front is lent for the n bytes from place k on, and others are written
-- there.
pub joined : (old front body out part : List ℕ) (k n : ℕ) → length front ≡ k → out ≡ front ++ drop k old → part ≡ body
    → take k out ++ (part ++ drop n (drop k out)) ≡ front ++ body ++ drop (k + n) old
joined old front body out part k n is_k is_out is_part =
    let left : take k out ≡ front = ap (take k) is_out ∙ take_at front (drop k old) k is_k in
    let right : drop k out ≡ drop k old = ap (drop k) is_out ∙ drop_at front (drop k old) k is_k in
    let after : drop n (drop k out) ≡ drop (k + n) old = ap (drop n) right ∙ drop-drop n k old in
    rw (left, after, is_part) (sym (append_assoc front body (drop (k + n) old)))

-- The same where what is written fills a slice of n bytes whole.
pub joined_whole : (old front body out part : List ℕ) (k n : ℕ) → length front ≡ k → length old ≡ k + n → out ≡ front ++ drop k old
    → part ≡ body ++ drop n (take n (drop k out)) → take k out ++ (part ++ drop n (drop k out)) ≡ front ++ body
joined_whole old front body out part k n is_k room is_out is_part =
    let short : length (take n (drop k out)) ≤ n = omega (arith, length-take n (drop k out)) in
    let none : drop n (take n (drop k out)) ≡ [] = drop_all n (take n (drop k out)) short in
    let whole : part ≡ body = is_part ∙ ap (λ (l : List ℕ). body ++ l) none ∙ append-nil body in
    let rest : drop (k + n) old ≡ [] = drop_all (k + n) old (omega arith) in
    joined old front body out part k n is_k is_out whole ∙ ap (λ (l : List ℕ). front ++ body ++ l) rest ∙ append-nil (front ++ body)

pub header_long : (h : Head) (format_byte : ℕ) → length (wide_header h format_byte) ≡ 20
unfolding wide_header
header_long h format_byte = length-spelled (header_fields h (2 ^ 7 + format_byte % 2 ^ 4) 0)

pub wide_long : (b : ℕ) (bytes : List ℕ) → 8 ≤ length bytes → length (wide_in b bytes) ≡ length bytes + 12
wide_long b bytes long =
    let header = wide_header (head_in b bytes) (slice_index bytes 4) in
    omega (arith, long, length-append header (drop 8 bytes), header_long (head_in b bytes) (slice_index bytes 4), length-drop 8 bytes)

pub widened_longer : (top : ℕ) (bytes : List ℕ) (b : ℕ) (wide : List ℕ) → widened top bytes ≡ Ok (b, wide) → length wide ≡ length bytes + 12
widened_longer top bytes b wide e = let t = taken top bytes b wide e in ap length t.wide_is ∙ wide_long b bytes t.len

-- a slice that has room for 12 bytes more has it for what is written
pub widened_fits : (top : ℕ) (bytes : List ℕ) (n : ℕ) → length bytes + 12 ≤ n → (x : ℕ × List ℕ) → widened top bytes ≡ Ok x → length x.1 ≤ n
widened_fits top bytes n room (b, wide) e = omega (arith, room, widened_longer top bytes b wide e)

pub widened_slow : (top : ℕ) (bytes : List ℕ) (b top_new : ℕ) (wide : List ℕ) → AreBytes bytes → widened top bytes ≡ Ok (b, wide) → top_new ≡ max top b
    → top_new ≤ top + cycle
widened_slow top bytes b top_new wide are e top_is =
    let near = (taken_block top bytes b wide are (taken top bytes b wide e)).near in
    omega (arith, near, top_is)

pub parts_written : (old out body part : List ℕ) (h : Head) (format_byte n : ℕ) → n ≡ length body → out ≡ wide_header h format_byte ++ drop 20 old → part ≡ body
    → take 20 out ++ (part ++ drop n (drop 20 out)) ≡ wide_header h format_byte ++ body ++ drop (20 + length body) old
parts_written old out body part h format_byte n is_n is_out is_part =
    rw is_n (joined old (wide_header h format_byte) body out part 20 (length body) (header_long h format_byte) is_out is_part)

-- none of the refusals holds
pub widened_ok : (top : ℕ) (bytes : List ℕ) (b : ℕ) → 8 ≤ length bytes → is_extended (slice_index bytes 4) ≡ false → number_at 2 2 bytes ≢ 0
    → chosen top (number_at 2 2 bytes) ≡ Some b → widened top bytes ≡ Ok (b, wide_in b bytes)
widened_ok top bytes b len standard some chosen_is =
    rw (le-ltb (length bytes) 8 len, standard, ne_eqb (number_at 2 2 bytes) 0 some, chosen_is) refl

-- the same from what each test of a call says
pub widened_so : (top inside : ℕ) (bytes : List ℕ) (id b : ℕ) (extended : Bool) → 8 ≤ length bytes → extended ≡ is_extended (slice_index bytes 4)
    → extended ≡ false → id ≡ number_at 2 2 bytes → id ≢ 0 → top ≡ inside → chosen inside id ≡ Some b → widened top bytes ≡ Ok (b, wide_in b bytes)
widened_so top inside bytes id b extended len extended_is standard id_is some top_is chosen_is =
    let block : chosen top (number_at 2 2 bytes) ≡ Some b = ap (λ (n : ℕ). chosen n (number_at 2 2 bytes)) top_is ∙ ap (chosen inside) (sym id_is) ∙ chosen_is in
    widened_ok top bytes b len (sym extended_is ∙ standard) (λ e. some (id_is ∙ e)) block

pub call_widened : (top : ℕ) (bytes out : List ℕ) (b len top_new : ℕ) (out_new : List ℕ) → top ≤ 2 ^ 63 → AreBytes bytes → 8 ≤ length bytes
    → widened top bytes ≡ Ok (b, wide_in b bytes) → top_new ≡ max top b → len ≡ length bytes + 12
    → out_new ≡ wide_in b bytes ++ drop (length bytes + 12) out → IsWidened top bytes out len top_new out_new
call_widened top bytes out b len top_new out_new room are long is top_is len_is written = record {
  block = b;
  wide = wide_in b bytes;
  is = is;
  top_is = top_is;
  len_is = len_is ∙ sym (wide_long b bytes long);
  longer = len_is;
  written = written ∙ ap (λ (n : ℕ). wide_in b bytes ++ drop n out) (sym len_is);
  packet = widened_packet top bytes b (wide_in b bytes) room are is;
}
