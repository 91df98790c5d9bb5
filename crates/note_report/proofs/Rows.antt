-- The words of a block that retired are those of its note.
use Rattle.std.proofs.Common.{◌≡◌, ℕ, ◌-◌, List, [], ◌∷◌, ◌++◌, length, map, take, Bool, true, false, refl, sym, ap, ◌∙◌, append_assoc, arith}
use Rattle.std.specs.Prelude.{min, nat_lt, replicate, codes, if◌then◌else◌}
use Rattle.std.proofs.Math.Seq.{take-append_seam}
use Rattle.std.proofs.lemmas.List.{append-nil, length-take}
use Rattle.missing_ranges.specs.Accounts.{first_eight, lost_of}
use Rattle.acquisition_machine.specs.Blocks.{complete, old, displaced, stopped}
use Rattle.acquisition_machine.specs.Blocks.{Cause as Reason}
use Rattle.acquisition_machine.specs.Blocks.{cause_of}
use Rattle.gev_report.specs.AccountTexts.{behind_commas, listed, span_text, cause_word, further_text, lost_text}
use Rattle.script_trace.specs.Texts.{ids_text, cause_text}
use Rattle.note_report.specs.Ended.{EndedWordsAreOutcomes}

cause_is : (cause : Reason) → cause_word (cause_of cause) ≡ cause_text cause
cause_is complete = refl
cause_is old = refl
cause_is displaced = refl
cause_is stopped = refl

named : (rs : List (ℕ × ℕ)) → take (min (length rs) 8) (first_eight rs) ≡ take 8 rs
named rs =
    ap (λ k. take k (first_eight rs)) (omega (arith, length-take 8 rs))
    ∙ take-append_seam (take 8 rs) (replicate (8 - length rs) (0, 0))

commas_last : (xs : List (List ℕ)) → behind_commas xs ++ codes ",.." ≡ behind_commas (xs ++ codes ".." ∷ [])
commas_last [] = refl
commas_last (x ∷ xs) = ap (λ l. codes "," ++ l) (append_assoc x (behind_commas xs) (codes ",..") ∙ ap (λ l. x ++ l) (commas_last xs))

further : (more : Bool) (x : List ℕ) (xs : List (List ℕ)) → listed (x ∷ xs) ++ (if more then codes ",.." else []) ≡ listed ((x ∷ xs) ++ (if more then codes ".." ∷ [] else []))
further true x xs = append_assoc x (behind_commas xs) (codes ",..") ∙ ap (λ l. x ++ l) (commas_last xs)
further false x xs = append-nil (x ++ behind_commas xs) ∙ ap (λ l. x ++ behind_commas l) (sym (append-nil xs))

listed_is : (rs : List (ℕ × ℕ)) → listed (map span_text (take 8 rs)) ++ further_text (length rs) ≡ ids_text rs
listed_is [] = refl
listed_is (r ∷ rs) = further (nat_lt 8 (length (r ∷ rs))) (span_text r) (map span_text (take 7 rs))

lost_is : (rs : List (ℕ × ℕ)) → lost_text (lost_of rs) ≡ ids_text rs
lost_is rs = ap (λ l. listed (map span_text l) ++ further_text (length rs)) (named rs) ∙ listed_is rs

pub ended_words_are_outcomes : EndedWordsAreOutcomes
ended_words_are_outcomes = record {
  done = λ c b o cause g. rw (cause_is cause, lost_is) refl;
  unbuffered = λ block cause. rw (cause_is cause) refl;
}
