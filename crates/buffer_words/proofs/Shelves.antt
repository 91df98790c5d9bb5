-- Words and slots after a change of one place's word and slot.
use Rattle.std.proofs.Common.{◌≡◌, ◌≢◌, ◌⊎◌, ℕ, ◌<◌, List, length, set, get_or, Option, Some, sym, ap, subst, ◌∙◌, inl, inr, arith}
use Rattle.std.proofs.lemmas.List.{length-set, get_or-set_same, get_or-set_other}
use Rattle.std.proofs.lemmas.Bool.{cases_eq}
use mathlib.Core.Option as opt
use lib.ListN.{get_elem?}
use Rattle.atomic_table.proofs.Lists.{set_here, set_else}
use Rattle.gev_types.specs.Filling.{Filling}
use Rattle.gentl_types.specs.declared.word.Word.{Word}
use Rattle.gentl_types.specs.declared.word.State.TheVariants.{Vacant, Held}
use Rattle.board_machine.specs.Places.{times}
use Rattle.board_machine.specs.Machine.{Board, vacant, word_at, places, InHand}
use Rattle.board_machine.specs.Owners.{due, IsCounted}
use Rattle.board_machine.proofs.Boards.{in_hand_of-le}
use Rattle.board_machine.proofs.Counts.{due_le, in_places}
use Rattle.buffer_words.specs.Codes.{code, IsPool}
use Rattle.buffer_words.specs.Rule.{Slot, Homes, nothing, Shows, Stored, Shelved}

-- the board with another word at a place, and other hands
abbrev pub with_word : Board → List (Option (List ℕ)) → ℕ → Word → Board
with_word b hands i w = record b { words = set b.words i w; hands = hands }

pub shows_word : (b : Board) (hands : List (Option (List ℕ))) (words : List ℕ) (i : ℕ) (w : Word) (n : ℕ) → i < 15 → length b.words ≡ 15 → n ≡ code w
    → Shows b words → Shows (with_word b hands i w) (set words i n)
shows_word b hands words i w n below wide is shows = record {
  wide = length-set words i n ∙ shows.wide;
  own = λ j lt. at j lt (cases_eq j i);
  pool = subst (λ m. IsPool m b.pool) (sym (get_or-set_other words i 15 n 0 (λ e. absurd (omega arith)))) shows.pool;
  out = get_or-set_other words i 16 n 0 (λ e. absurd (omega arith)) ∙ shows.out;
  kill = get_or-set_other words i 17 n 0 (λ e. absurd (omega arith)) ∙ shows.kill;
  run = get_or-set_other words i 18 n 0 (λ e. absurd (omega arith)) ∙ shows.run;
}
  where
    at : (j : ℕ) → j < 15 → (j ≡ i) ⊎ (j ≢ i) → get_or (set words i n) j 0 ≡ code (get_or (set b.words i w) j vacant)
    at j lt (inl e) =
        let here : get_or (set words i n) i 0 ≡ code (get_or (set b.words i w) i vacant) =
        get_or-set_same words i n 0 (omega (arith, shows.wide)) ∙ (is ∙ ap code (sym (get_or-set_same b.words i w vacant (omega (arith, wide))))) in
        subst (λ m. get_or (set words i n) m 0 ≡ code (get_or (set b.words i w) m vacant)) (sym e) here
    at j lt (inr ne) = get_or-set_other words i j n 0 ne ∙ (shows.own j lt ∙ ap code (sym (get_or-set_other b.words i j w vacant ne)))

-- a buffer of this word's size
pub record HasBuffer (x : opt.Option Slot) (w : Word) : Type 0 where
  pub filling : Filling
  pub is : x ≡ opt.some (Some filling)
  pub size : length filling.bytes ≡ w.size

pub shelved_word : (b : Board) (hands : List (Option (List ℕ))) (homes : Homes) (i : ℕ) (w : Word) (x : opt.Option Slot) → i < 15 → length b.words ≡ 15
    → times i b.pool ≡ 0 → times i (places b.out) ≡ 0
    → (w.state ≡ Vacant → x ≡ opt.some nothing) → (w.state ≡ Held → HasBuffer x w)
    → Shelved b homes → Shelved (with_word b hands i w) (set homes i x)
shelved_word b hands homes i w x below wide unpooled unqueued empty has sh = record {
  wide = length-set homes i x ∙ sh.wide;
  vacant = λ j lt v. at_vacant j lt v (cases_eq j i);
  laid = λ j h. at_laid j h (cases_eq j i);
  pooled = λ j more. stays j (λ e. absurd (omega (arith, ap (λ m. times m b.pool) e))) (sh.pooled j more);
  filled = λ n y e. set_else homes i y.place x (λ q. absurd (omega (arith, in_places b.out n y e, ap (λ m. times m (places b.out)) q))) ∙ sh.filled n y e;
}
  where
    here : get_elem? (set homes i x) i ≡ opt.some x
    here = set_here homes i x (omega (arith, sh.wide))

    word_here : get_or (set b.words i w) i vacant ≡ w
    word_here = get_or-set_same b.words i w vacant (omega (arith, wide))

    word_else : (j : ℕ) → j ≢ i → get_or (set b.words i w) j vacant ≡ word_at b j
    word_else j ne = get_or-set_other b.words i j w vacant ne

    stays : (j : ℕ) → j ≢ i → Stored b homes j → Stored (with_word b hands i w) (set homes i x) j
    stays j ne st = record {
      filling = st.filling;
      is = set_else homes i j x ne ∙ st.is;
      size = st.size ∙ ap (λ v. v.size) (sym (word_else j ne));
    }

    at_vacant : (j : ℕ) → j < 15 → (get_or (set b.words i w) j vacant).state ≡ Vacant → (j ≡ i) ⊎ (j ≢ i) → get_elem? (set homes i x) j ≡ opt.some (opt.some nothing)
    at_vacant j lt v (inl e) =
        let state : w.state ≡ Vacant = ap (λ u. u.state) (sym word_here) ∙ (ap (λ m. (get_or (set b.words i w) m vacant).state) (sym e) ∙ v) in
        ap (λ m. get_elem? (set homes i x) m) e ∙ (here ∙ ap (λ y. opt.some y) (empty state))
    at_vacant j lt v (inr ne) = set_else homes i j x ne ∙ sh.vacant j lt (ap (λ u. u.state) (sym (word_else j ne)) ∙ v)

    at_laid : (j : ℕ) → (get_or (set b.words i w) j vacant).state ≡ Held → (j ≡ i) ⊎ (j ≢ i) → Stored (with_word b hands i w) (set homes i x) j
    at_laid j h (inl e) =
        let state : w.state ≡ Held = ap (λ u. u.state) (sym word_here) ∙ (ap (λ m. (get_or (set b.words i w) m vacant).state) (sym e) ∙ h) in
        let buffer = has state in
        subst (λ m. Stored (with_word b hands i w) (set homes i x) m) (sym e) (record {
          filling = buffer.filling;
          is = here ∙ ap (λ y. opt.some y) buffer.is;
          size = buffer.size ∙ ap (λ u. u.size) (sym word_here);
        })
    at_laid j h (inr ne) = stays j ne (sh.laid j (ap (λ u. u.state) (sym (word_else j ne)) ∙ h))

-- a place that stands nowhere, or in a hand, is neither in the pool nor in the output
pub record IsApart (b : Board) (i : ℕ) : Type 0 where
  pub pool : times i b.pool ≡ 0
  pub out : times i (places b.out) ≡ 0

pub apart_by_state : (b : Board) (i : ℕ) → IsCounted b → due (word_at b i).state ≡ 0 → IsApart b i
apart_by_state b i owned none = record { pool = omega (arith, owned.once i); out = omega (arith, owned.once i) }

pub apart_in_hand : (b : Board) (k i : ℕ) → IsCounted b → InHand b k i → IsApart b i
apart_in_hand b k i owned mine = record {
  pool = omega (arith, in_hand_of-le i b.hands k, owned.once i, due_le (word_at b i).state);
  out = omega (arith, in_hand_of-le i b.hands k, owned.once i, due_le (word_at b i).state);
}
