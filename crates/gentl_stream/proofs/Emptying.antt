-- The flush of the pool to the output: what each fill has, and the entries of all of them.
use Rattle.std.proofs.Common.{◌≡◌, ℕ, ◌+◌, ◌<◌, ◌≤◌, true, false, List, [], ◌∷◌, ◌++◌, length, take, get_or, refl, sym, ap, subst, ◌∙◌, append_assoc, append-nil}
use Rattle.std.proofs.lemmas.List.{take_more, take_all}
use Rattle.gev_types.specs.declared.block_record.Record.{Record}
use Rattle.gev_types.specs.Filling.{Filling, empty_record}
use Rattle.board_machine.specs.declared.events.Event.{Event}
use Rattle.board_machine.specs.declared.events.Event.TheVariants.{Fill, Lay, SweepPool}
use Rattle.board_calls.specs.Rounds.{FillsEach}
use Rattle.board_calls.specs.Calls.{FlushesToOutput}
use Rattle.buffer_words.specs.Passes.{Token, IsDown, Enters, Stays, SamePlace}
use Rattle.buffer_words.specs.Swept.{GetsAll}
use Rattle.buffer_words.specs.Several.{EntersOf}
use Rattle.buffer_words.proofs.Partings.{stays_enters}
use Rattle.buffer_words.proofs.Several.{each_two, of_kind, of_one, of_first, of_then}
use Rattle.gentl_stream.specs.Several.{AreWhole, Leaves}
use Rattle.gentl_stream.specs.Emptied.{emptied, FillsEmptied, FillAllEmptied, EmptiesPool}
use Rattle.gentl_stream.proofs.Giving.{next_same}

emptied_is : (f g : Filling) → g.bytes ≡ f.bytes → g.rec ≡ empty_record → g ≡ emptied f
emptied_is f g bytes rec =
    let first : g ≡ record { bytes = f.bytes; rec = g.rec } = ap (λ (bs : List ℕ). record { bytes = bs; rec = g.rec }) bytes in
    first ∙ ap (λ (r : Record). record { bytes = f.bytes; rec = r }) rec

pub filled_one : (s t u : Token) (i : ℕ) (f g : Filling) → IsDown s i f → g.bytes ≡ f.bytes → g.rec ≡ empty_record → Stays s t → Enters t (Fill i g true) u → EntersOf s (FillsEmptied s i) u
filled_one s t u i f g there bytes rec stays fill =
    of_one s u (FillsEmptied s i) (Fill i g true)
    (record { filling = f; lay_there = there; filled = true; is = ap (λ (h : Filling). Fill i h true ∷ []) (emptied_is f g bytes rec) }) refl
    (stays_enters s t u (Fill i g true) stays fill)

pub laid_one : (s t mid down u : Token) (i : ℕ) (f g : Filling) → IsDown s i f → g.bytes ≡ f.bytes → g.rec ≡ empty_record
    → Stays s t → Enters t (Fill i g false) mid → Stays mid down → Enters down (Lay i) u → EntersOf s (FillsEmptied s i) u
laid_one s t mid down u i f g there bytes rec stays fill put lay =
    of_kind s u (FillsEmptied s i) (Fill i g false ∷ Lay i ∷ [])
    (record { filling = f; lay_there = there; filled = false; is = ap (λ (h : Filling). Fill i h false ∷ Lay i ∷ []) (emptied_is f g bytes rec) })
    (each_two s mid u (Fill i g false) (Lay i) (stays_enters s t mid (Fill i g false) stays fill) (stays_enters mid down u (Lay i) put lay) refl refl)

-- one more place
fills_push : (s : Token) (is : List ℕ) (i : ℕ) (es fs : List Event) → FillAllEmptied s is es → FillsEmptied s i fs → FillAllEmptied s (is ++ i ∷ []) (es ++ fs)
fills_push s [] i es fs all one = (fs, [], one, ap (λ gs. gs ++ fs) all ∙ sym (append-nil fs), refl)
fills_push s (j ∷ is) i es fs all one =
    (all.0, all.1 ++ fs, all.2, ap (λ gs. gs ++ fs) all.3 ∙ append_assoc all.0 all.1 fs, fills_push s is i all.1 fs all.4 one)

-- what lies there once others were given away, lay there before
lay_before : (s t : Token) (i : ℕ) (es : List Event) → SamePlace i s t → FillsEmptied t i es → FillsEmptied s i es
lay_before s t i es same one = record { filling = one.filling; lay_there = sym same.slot ∙ one.lay_there; filled = one.filled; is = one.is }

pub fills_more : (s t u : Token) (n : ℕ) (is : List ℕ) → n < length is → AreWhole s is → Leaves (take n is) s t
    → EntersOf s (FillAllEmptied s (take n is)) t → EntersOf t (FillsEmptied t (get_or is n 0)) u → EntersOf s (FillAllEmptied s (take (n + 1) is)) u
fills_more s t u n is within whole left before one =
    subst (λ (js : List ℕ). EntersOf s (FillAllEmptied s js) u) (sym (take_more is n 0 within))
    (of_then s t u (FillAllEmptied s (take n is)) (FillsEmptied t (get_or is n 0)) (FillAllEmptied s (take n is ++ get_or is n 0 ∷ []))
    (λ es fs first second. fills_push s (take n is) (get_or is n 0) es fs first (lay_before s t (get_or is n 0) fs (next_same s t n is within whole left) second)) before one)

-- after the last place
pub fills_whole : (s t : Token) (n : ℕ) (is : List ℕ) → length is ≤ n → EntersOf s (FillAllEmptied s (take n is)) t → EntersOf s (FillAllEmptied s is) t
fills_whole s t n is past enters = subst (λ (js : List ℕ). EntersOf s (FillAllEmptied s js) t) (take_all n is past) enters

pub empties : (s t u : Token) (is js : List ℕ) → js ≡ is → Enters s (SweepPool is) t → GetsAll is s t → EntersOf t (FillAllEmptied t js) u → EmptiesPool s u
empties s t u is js e swept gets fills = record {
  pooled = is;
  swept = t;
  sweeps = swept;
  gets = gets;
  fills = subst (λ (ks : List ℕ). EntersOf t (FillAllEmptied t ks) u) e fills;
}

-- the events of the flush, without what lay there
fills_each : (s : Token) (is : List ℕ) (es : List Event) → FillAllEmptied s is es → FillsEach is es
fills_each s [] es kind = kind
fills_each s (i ∷ is) es kind =
    (emptied kind.2.filling, kind.2.filled, kind.1, refl, kind.3 ∙ ap (λ gs. gs ++ kind.1) kind.2.is, fills_each s is kind.1 kind.4)

pub flushes_to_output : (s t : Token) → EmptiesPool s t → EntersOf s FlushesToOutput t
flushes_to_output s t empty =
    of_first s empty.swept t (FillAllEmptied empty.swept empty.pooled) FlushesToOutput (SweepPool empty.pooled)
    (λ es kind. record { pooled = empty.pooled; rest = es; is = refl; fills = fills_each empty.swept empty.pooled es kind }) refl empty.sweeps empty.fills
