-- A tape is printed and counted from its front.
use Rattle.std.proofs.Common.{◌≡◌, ℕ, ◌+◌, ◌<◌, List, [], ◌∷◌, ◌++◌, length, drop, get_or, refl, sym, ap, subst, ◌∙◌, append_assoc, append-nil}
use Rattle.std.proofs.lemmas.List.{drop_more}
use Rattle.script_trace.specs.Notes.{Note}
use Rattle.script_trace.specs.Texts.{note_line, notes_text}
use Rattle.note_report.specs.declared.block_counts.BlockCounts.{BlockCounts}
use Rattle.note_tape.specs.declared.told.Told.{Told}
use Rattle.note_tape.specs.Telling.{IsNoted, AreNoted}
use Rattle.note_tape.specs.Counting.{with_note, with_notes}

-- What is left to be printed, behind what was.
pub record PrintsOn (n moment : ℕ) (left : List Told) (start now : List ℕ) (a b : BlockCounts) (ns : List Note) : Type 0 where
  pub rest : List Note
  pub noted : AreNoted left rest
  pub text : now ++ notes_text n moment rest ≡ start ++ notes_text n moment ns
  pub counted : with_notes rest b ≡ with_notes ns a

pub prints_begin : (n moment : ℕ) (tape : List Told) (start : List ℕ) (a : BlockCounts) (ns : List Note) → AreNoted tape ns → PrintsOn n moment tape start start a a ns
prints_begin n moment tape start a ns noted = record { rest = ns; noted = noted; text = refl; counted = refl }

prints_one : (n moment : ℕ) (x : Told) (left : List Told) (start now next : List ℕ) (a b c : BlockCounts) (ns rest : List Note) → AreNoted (x ∷ left) rest → now ++ notes_text n moment rest ≡ start ++ notes_text n moment ns → with_notes rest b ≡ with_notes ns a
    → ((note : Note) → IsNoted x note → next ≡ now ++ note_line n moment note) → ((note : Note) → IsNoted x note → c ≡ with_note note b) → PrintsOn n moment left start next a c ns
prints_one n moment x left start now next a b c ns [] noted text counted told counts = absurd noted
prints_one n moment x left start now next a b c ns (m ∷ rest) noted text counted told counts = record {
  rest = rest;
  noted = noted.1;
  text = ap (λ t. t ++ notes_text n moment rest) (told m noted.0) ∙ (append_assoc now (note_line n moment m) (notes_text n moment rest) ∙ text);
  counted = ap (with_notes rest) (counts m noted.0) ∙ counted;
}

pub prints_more : (n moment i : ℕ) (tape : List Told) (d : Told) (start now next : List ℕ) (a b c : BlockCounts) (ns : List Note) → i < length tape → PrintsOn n moment (drop i tape) start now a b ns
    → ((note : Note) → IsNoted (get_or tape i d) note → next ≡ now ++ note_line n moment note) → ((note : Note) → IsNoted (get_or tape i d) note → c ≡ with_note note b)
    → PrintsOn n moment (drop (i + 1) tape) start next a c ns
prints_more n moment i tape d start now next a b c ns less on told counts =
    prints_one n moment (get_or tape i d) (drop (i + 1) tape) start now next a b c ns on.rest (subst (λ (xs : List Told). AreNoted xs on.rest) (drop_more tape i d less) on.noted) on.text on.counted told counts

none_left : (ns : List Note) → AreNoted [] ns → ns ≡ []
none_left [] noted = refl
none_left (m ∷ ns) noted = absurd noted

-- all was printed
pub all_printed : (n moment : ℕ) (left : List Told) (start now : List ℕ) (a b : BlockCounts) (ns : List Note) → left ≡ [] → PrintsOn n moment left start now a b ns → (now ≡ start ++ notes_text n moment ns) × (b ≡ with_notes ns a)
all_printed n moment left start now a b ns none on =
    let end : on.rest ≡ [] = none_left on.rest (subst (λ (xs : List Told). AreNoted xs on.rest) none on.noted) in (
      sym (append-nil now) ∙ (ap (λ (ms : List Note). now ++ notes_text n moment ms) (sym end) ∙ on.text),
      ap (λ (ms : List Note). with_notes ms b) (sym end) ∙ on.counted,
    )
