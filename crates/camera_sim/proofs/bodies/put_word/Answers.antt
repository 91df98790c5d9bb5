-- The front of the body after a word was written behind it.
use Rattle.std.proofs.Common.{◌≡◌, ℕ, ◌+◌, ◌≤◌, List, [], ◌∷◌, ◌++◌, length, take, refl, ap, ◌∙◌, arith, length-append}
use borrow.Rule.Slice.PartMut.{put_mid}
use Rattle.std.proofs.lemmas.List.{append-nil, length-take}
use Rattle.std.proofs.Common.{length-drop}
use Rattle.std.proofs.lemmas.Slice.{take-put_mid}
use Rattle.byteorder.specs.Endian.{big_bytes}
use Rattle.camera_sim.proofs.bodies.put_word.Goals as goal

no_rest : (rest : List ℕ) → length rest ≡ 0 → rest ≡ []
no_rest [] e = refl
no_rest (x ∷ rest) e = absurd (omega arith)

word_front : (place k : ℕ) (out word rest buf : List ℕ) → buf ≡ word ++ rest → length word ≡ 4 → length buf ≡ 4 → place + 4 ≤ length out
    → take (place + 4) (put_mid place k out buf) ≡ take place out ++ word
word_front place k out word rest buf is wide size within =
    let all : length buf ≡ length word + length rest = ap length is ∙ length-append word rest in
    let none : rest ≡ [] = no_rest rest (omega arith) in
    let same : buf ≡ word = is ∙ ap (λ (r : List ℕ). word ++ r) none ∙ append-nil word in
    take-put_mid place k out buf (place + 4) (omega arith) (omega arith) ∙ ap (λ (b : List ℕ). take place out ++ b) same

pub returns : goal.returns
returns c =
    word_front c.args.place _ c.args.out.now (big_bytes 4 c.args.value) _ c.write_u32.new.buf c.write_u32.ensures refl
    (first_of (omega arith, omega (arith, length-take {A = ℕ}, length-drop {A = ℕ})))
    (omega arith)
