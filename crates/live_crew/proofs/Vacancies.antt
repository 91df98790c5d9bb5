-- What an announce finds and leaves on a board that has its buffers at the lowest places.
use Rattle.std.proofs.Common.{◌≡◌, ◌≢◌, ◌⊎◌, inl, inr, ℕ, zero, suc, ◌+◌, ◌<◌, ◌≤◌, List, [], ◌∷◌, ◌++◌, length, set, get_or, Ok, refl, sym, ap, subst, ◌∙◌, arith, length-set}
use Rattle.std.proofs.lemmas.List.{get_or-set_same, get_or-set_other}
use Rattle.std.proofs.lemmas.Bool.{cases_eq, cases_lt}
use Rattle.gev_types.specs.Limits.{place_count}
use Rattle.gentl_types.specs.declared.word.Word.{Word}
use Rattle.gentl_types.specs.declared.word.State.TheVariants.{Vacant, Away}
use Rattle.board_machine.specs.declared.events.Event.{Event}
use Rattle.board_machine.specs.declared.events.Event.TheVariants.{Enrol}
use Rattle.board_machine.specs.Machine.{Board, word_at, vacant, CanEnrol}
use Rattle.board_machine.specs.Histories.{after_from, RunsFrom}
use Rattle.board_machine.specs.Adding.{entries_of}
use Rattle.board_calls.specs.Rounds.{refused_from}
use Rattle.live_crew.specs.Prepared.{HasBuffers}

-- refused enrols leave the board
pub skip_refused : (b : Board) (k i size : ℕ) (words : List Word) (rest : List Event) → RunsFrom b (entries_of k (refused_from i size words ++ rest)) → RunsFrom b (entries_of k rest)
skip_refused b k i size [] rest runs = runs
skip_refused b k i size (w ∷ words) rest runs = skip_refused b k (i + 1) size words rest runs.1

pub after_refused : (b : Board) (k i size : ℕ) (words : List Word) (rest : List Event) → after_from b (entries_of k (refused_from i size words ++ rest)) ≡ after_from b (entries_of k rest)
after_refused b k i size [] rest = refl
after_refused b k i size (w ∷ words) rest = after_refused b k (i + 1) size words rest

-- each was refused by a word that can't take a buffer
refused_at : (b : Board) (k i size j n : ℕ) (words : List Word) (rest : List Event) → RunsFrom b (entries_of k (refused_from i size words ++ rest)) → j < length words → n ≡ i + j → CanEnrol (word_at b n) → ⊥
refused_at b k i size j n [] rest runs within at can = absurd (omega arith)
refused_at b k i size zero n (w ∷ words) rest runs within at can =
    let here : w ≡ word_at b i = runs.0.meets.3 in
    let same_place : n ≡ i = omega arith in
    runs.0.meets.4 (subst (λ v. CanEnrol v) (ap (λ m. word_at b m) same_place ∙ sym here) can)
refused_at b k i size (suc j) n (w ∷ words) rest runs within at can =
    refused_at b k (i + 1) size j n words rest runs.1 (omega arith) (omega arith) can

-- so the lowest free place isn't among them
vacant_can : CanEnrol vacant
vacant_can = (refl, omega arith)

pub not_free : (n : ℕ) (b : Board) (k size : ℕ) (words : List Word) (rest : List Event) → HasBuffers n b → n < place_count → RunsFrom b (entries_of k (refused_from 0 size words ++ rest)) → length words ≤ n
not_free n b k size words rest has below runs = go (cases_lt n (length words))
  where
    go : (n < length words) ⊎ (length words ≤ n) → length words ≤ n
    go (inl within) = absurd (refused_at b k 0 size n n words rest runs within (omega arith) (subst (λ w. CanEnrol w) (sym (has.free n (omega arith) below)) vacant_can))
    go (inr few) = few

-- the place that took the buffer is the lowest free one
pub takes_lowest : (n : ℕ) (b : Board) (k size place g : ℕ) (words : List Word) (rest : List Event) → HasBuffers n b → n < place_count → length words ≡ place
    → RunsFrom b (entries_of k (refused_from 0 size words ++ Enrol place size (Ok g) ∷ rest)) → place ≡ n
takes_lowest n b k size place g words rest has below number runs = go (cases_lt place n)
  where
    few : length words ≤ n
    few = not_free n b k size words (Enrol place size (Ok g) ∷ rest) has below runs

    enrols : CanEnrol (word_at b place)
    enrols = (skip_refused b k 0 size words (Enrol place size (Ok g) ∷ rest) runs).0.meets.3

    go : (place < n) ⊎ (n ≤ place) → place ≡ n
    go (inl less) = absurd (has.taken place less enrols.0)
    go (inr more) = omega (arith, few, number, more)

-- ---- the words after it

three_sets : (ws : List Word) (n i : ℕ) (x y z : Word) → i ≢ n → get_or (set (set (set ws n x) n y) n z) i vacant ≡ get_or ws i vacant
three_sets ws n i x y z apart =
    get_or-set_other (set (set ws n x) n y) n i z vacant apart
    ∙ (get_or-set_other (set ws n x) n i y vacant apart ∙ get_or-set_other ws n i x vacant apart)

wide_sets : (ws : List Word) (n : ℕ) (x y z : Word) → length (set (set (set ws n x) n y) n z) ≡ length ws
wide_sets ws n x y z = length-set (set (set ws n x) n y) n z ∙ (length-set (set ws n x) n y ∙ length-set ws n x)

away_not_vacant : (w : Word) → w.state ≡ Away → w.state ≢ Vacant
away_not_vacant w away empty = cc

-- one more place has a buffer
pub has_more : (n : ℕ) (b c : Board) (x y z : Word) → HasBuffers n b → n < place_count → c.words ≡ set (set (set b.words n x) n y) n z → z.state ≡ Away → c.closed ≡ b.closed → c.run ≡ b.run
    → HasBuffers (n + 1) c
has_more n b c x y z has below words away closed run = record {
  unclosed = closed ∙ has.unclosed;
  idle = run ∙ has.idle;
  wide = ap length words ∙ (wide_sets b.words n x y z ∙ has.wide);
  taken = λ i less. taken i less (cases_eq i n);
  free = λ i more within. other i (omega (arith, more)) ∙ has.free i (omega (arith, more)) within;
}
  where
    other : (i : ℕ) → i ≢ n → word_at c i ≡ word_at b i
    other i apart = ap (λ l. get_or l i vacant) words ∙ three_sets b.words n i x y z apart

    there : word_at c n ≡ z
    there = ap (λ l. get_or l n vacant) words
        ∙ get_or-set_same (set (set b.words n x) n y) n z vacant
        (omega (arith, length-set (set b.words n x) n y, length-set b.words n x, has.wide, below))

    taken : (i : ℕ) → i < n + 1 → (i ≡ n) ⊎ (i ≢ n) → (word_at c i).state ≢ Vacant
    taken i less (inl e) = subst (λ j. (word_at c j).state ≢ Vacant) (sym e) (away_not_vacant (word_at c n) (ap (λ (w : Word). w.state) there ∙ away))
    taken i less (inr apart) = subst (λ w. w.state ≢ Vacant) (sym (other i apart)) (has.taken i (omega arith))
