use Rattle.std.proofs.Common.{◌≡◌, ℕ, zero, suc, ◌+◌, ◌≤◌, [], ◌∷◌, ◌++◌, replicate, refl, ap, ◌∙◌, arith}
use Rattle.gev_types.specs.Limits.{place_count}
use Rattle.board_model.specs.Plain.{nothing}
use Rattle.board_model.proofs.Keeps.{plain_empty}
use Rattle.board_model.proofs.board.PlainBoard.new.Goals as goal

one_more : (n : ℕ) → replicate n nothing ++ nothing ∷ [] ≡ replicate (suc n) nothing
one_more zero = refl
one_more (suc n) = ap (λ xs. nothing ∷ xs) (one_more n)

counted : (n : ℕ) → suc n ≡ n + 1
counted n = omega arith

all_places : (n : ℕ) → n ≤ place_count → place_count ≤ n → n ≡ place_count
all_places n most least = omega arith

pub loop-place-init : goal.loop-place-init
loop-place-init c = c.in_ok-bufs.ensures.items

pub loop-place-preserved : goal.loop-place-preserved
loop-place-preserved c =
    c.in_ok-push.ensures.items ∙ ap (λ xs. xs ++ nothing ∷ []) c.loop-place.invariant ∙ one_more c.loop-place._place ∙ ap (λ n. replicate n nothing) (counted c.loop-place._place)

pub invariant_of-result : goal.invariant_of-result
invariant_of-result c =
    let all : c.loop-place._place ≡ place_count = all_places c.loop-place._place c.loop-place.auto._place-end c.loop-place-test.false in
    rw (c.new.ensures, c.new-2.ensures, c.new-3.ensures, c.loop-place.invariant ∙ ap (λ (n : ℕ). replicate n nothing) all) plain_empty

pub returns-clause-board : goal.returns-clause-board
returns-clause-board c = rw (c.new.ensures, c.new-2.ensures, c.new-3.ensures)

pub returns-clause-contents : goal.returns-clause-contents
returns-clause-contents c = c.loop-place.invariant ∙ ap (λ (n : ℕ). replicate n nothing) (all_places c.loop-place._place c.loop-place.auto._place-end c.loop-place-test.false)
