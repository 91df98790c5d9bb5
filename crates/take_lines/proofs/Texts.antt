-- Texts that are written part by part.
use Rattle.std.proofs.Common.{◌≡◌, ℕ, zero, suc, ◌+◌, List, [], ◌∷◌, ◌++◌, length, map, refl, ap, sym, ◌∙◌, append_assoc, add-one}
use Rattle.gev_script.specs.Lines as line
use Rattle.gev_script.specs.Lines.{ScriptLine}
use Rattle.gev_script.specs.Spelling.{spelling}
use Rattle.take_lines.specs.Texts.{text_of, take_lines}

pub text_of-append : (ls ms : List ScriptLine) → text_of (ls ++ ms) ≡ text_of ls ++ text_of ms
text_of-append [] ms = refl
text_of-append (l ∷ ls) ms =
    ap (λ (t : List ℕ). spelling l ++ 10 ∷ t) (text_of-append ls ms) ∙ sym (append_assoc (spelling l) (10 ∷ text_of ls) (text_of ms))

-- lines behind lines
pub added_both : (ls ms : List ScriptLine) (t0 t1 t2 : List ℕ) → t1 ≡ t0 ++ text_of ls → t2 ≡ t1 ++ text_of ms → t2 ≡ t0 ++ text_of (ls ++ ms)
added_both ls ms t0 t1 t2 e f =
    f ∙ ap (λ (t : List ℕ). t ++ text_of ms) e ∙ append_assoc t0 (text_of ls) (text_of ms)
    ∙ ap (λ (t : List ℕ). t0 ++ t) (sym (text_of-append ls ms))

one_more : (n : ℕ) → take_lines n ++ line.take ∷ [] ≡ take_lines (n + 1)
one_more zero = refl
one_more (suc n) = rw add-one (ap (λ (ls : List ScriptLine). line.take ∷ ls) (one_more n ∙ rw add-one refl))

-- one more take
pub taken_one : (n : ℕ) (t0 t1 t2 : List ℕ) → t1 ≡ t0 ++ text_of (take_lines n) → t2 ≡ t1 ++ text_of (line.take ∷ []) → t2 ≡ t0 ++ text_of (take_lines (n + 1))
taken_one n t0 t1 t2 e f = added_both (take_lines n) (line.take ∷ []) t0 t1 t2 e f ∙ ap (λ (ls : List ScriptLine). t0 ++ text_of ls) (one_more n)

-- a take for each of a list
pub take_for_each : {A : Type 0} (xs : List A) → take_lines (length xs) ≡ map (λ x. line.take) xs
take_for_each [] = refl
take_for_each (x ∷ xs) = ap (λ (ls : List ScriptLine). line.take ∷ ls) (take_for_each xs)
