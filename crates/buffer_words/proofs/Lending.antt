-- Loans: what a lend leaves of the pass, and that a loan stays its pass's.
use Rattle.std.proofs.Common.{◌≡◌, ℕ, length, sym, ap, subst, ◌∙◌}
use Rattle.gev_types.specs.Filling.{Filling}
use Rattle.gentl_types.specs.declared.word.Word.{Word}
use Rattle.board_machine.specs.Machine.{word_at}
use Rattle.board_machine.specs.Histories.{Run, After}
use Rattle.buffer_words.specs.Passes.{Token, lifted, IsDown, IsWhole, size_at, GrowsTo, Stays, SamePlace, SameHands, Has}
use Rattle.buffer_words.specs.Loans.{Lent, IsLoanOf}

pub loans_stay : (s t : Token) (l : Lent) → IsLoanOf s l → SamePlace l.id.place s t → IsLoanOf t l
loans_stay s t l loan same =
    let kept = same.buffer (λ q. let there = loan.lifted in cc) in record {
      lifted = same.slot ∙ loan.lifted;
      generation = loan.generation ∙ sym kept.generation;
      size = loan.size ∙ sym kept.size;
    }

pub whole_same : (s t : Token) (i : ℕ) → SameHands s t → IsWhole s i → IsWhole t i
whole_same s t i same whole = record { filling = whole.filling; is = (same i).slot ∙ whole.is }

pub down_before : (s t : Token) (i : ℕ) (f : Filling) → SameHands s t → IsDown t i f → IsDown s i f
down_before s t i f same there = sym (same i).slot ∙ there

pub grows_stays : (s t u : Token) → GrowsTo s t → Stays t u → GrowsTo s u
grows_stays s t u first second = record {
  table = second.table ∙ first.table;
  number = second.number ∙ first.number;
  between = first.between;
  seen = second.seen ∙ first.seen;
  grew = first.grew;
}

pub run_stays : (s t : Token) → Run s.seen → Stays s t → Run t.seen
run_stays s t run stays = subst (λ l. Run l) (sym stays.seen) run

-- the buffer that was lifted, with the word that was read before
pub lent : (t u : Token) (i g : ℕ) (f : Filling) (w : Word) → w ≡ word_at (After t.seen) i → g ≡ w.generation → length f.bytes ≡ size_at t i → Stays t u → Has i lifted t u
    → IsLoanOf u (record { id = record { place = i; generation = g }; filling = f })
lent t u i g f w is same size stays has = record {
  lifted = has.here;
  generation = same ∙ ap (λ (v : Word). v.generation) is ∙ ap (λ l. (word_at (After l) i).generation) (sym stays.seen);
  size = size ∙ ap (λ l. (word_at (After l) i).size) (sym stays.seen);
}
