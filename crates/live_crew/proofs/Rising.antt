-- The numbers of passes that are split off one after another rise.
use Rattle.std.proofs.Common.{◌≡◌, ◌≢◌, ◌⊎◌, inl, inr, ℕ, ◌+◌, ◌≤◌, List, [], ◌∷◌, ◌++◌, length, refl, ap, ◌∙◌, arith, length-append}
use Rattle.std.proofs.lemmas.Bool.{cases_eq}
use Rattle.board_machine.specs.declared.events.Event.TheVariants.{Split}
use Rattle.board_machine.specs.Places.{times}
use Rattle.board_machine.specs.Machine.{Board, empty_board, empty_hands}
use Rattle.board_machine.specs.Histories.{After, splits}
use Rattle.board_machine.proofs.Places.{same_le, same_other}
use Rattle.board_machine.proofs.Runs.{after-append}
use Rattle.board_machine.proofs.Ended.{splits_from}
use Rattle.buffer_words.specs.Passes.{Token, Enters}
use Rattle.buffer_words.proofs.Several.{enters_may, enters_after}
use Rattle.live_crew.specs.HomeLaws.{SplitsEach, SplitNumbersAreApart}

-- how many actors there are in what a pass has seen
abbrev actors : Token → ℕ
actors s = length (After s.seen).hands

split_number : (s t : Token) (a : ℕ) → Enters s (Split a) t → a + 1 ≡ actors t
split_number s t a split =
    let before : Board = After (s.seen ++ split.between) in
    let one : a ≡ length before.hands = (enters_may s t (Split a) split).meets in
    let more : length (After t.seen).hands ≡ length before.hands + 1 =
    ap (λ (c : Board). length c.hands) (enters_after s t (Split a) split) ∙ length-append before.hands (empty_hands ∷ []) in
    omega (arith, one, more)

split_above : (s t : Token) (a : ℕ) → Enters s (Split a) t → actors s ≤ a
split_above s t a split =
    let one : a ≡ length (After (s.seen ++ split.between)).hands = (enters_may s t (Split a) split).meets in
    let later : length (After (s.seen ++ split.between)).hands ≡ length (After s.seen).hands + splits split.between =
    ap (λ (c : Board). length c.hands) (after-append empty_board s.seen split.between) ∙ splits_from (After s.seen) split.between in
    omega (arith, one, later)

-- who is below the first of them isn't among them
none_below : (s u : Token) (ns : List ℕ) (i : ℕ) → SplitsEach s ns u → i + 1 ≤ actors s → times i ns ≡ 0
none_below s u [] i none low = refl
none_below s u (n ∷ ns) i each low =
    let above : actors s ≤ n = split_above s each.0 n each.1 in
    let next : n + 1 ≡ actors each.0 = split_number s each.0 n each.1 in
    omega (arith, same_other i n (λ e. absurd (omega (arith, e, above, low))), none_below each.0 u ns i each.2 (omega (arith, above, next, low)))

pub numbers_apart : SplitNumbersAreApart
numbers_apart s u [] i none = omega arith
numbers_apart s u (n ∷ ns) i each = go (cases_eq i n) (numbers_apart each.0 u ns i each.2)
  where
    go : (i ≡ n) ⊎ (i ≢ n) → times i ns ≤ 1 → times i (n ∷ ns) ≤ 1
    go (inl e) rest = omega (arith, same_le i n, none_below each.0 u ns i each.2 (omega (arith, split_number s each.0 n each.1, e)))
    go (inr e) rest = omega (arith, same_other i n e, rest)
