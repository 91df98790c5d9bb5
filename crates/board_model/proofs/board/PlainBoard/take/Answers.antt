use Rattle.std.proofs.Common.{slice_get, ◌≡◌, ℕ, ◌+◌, ◌≤◌, ◌<◌, ◌==◌, false, length, [], ◌∷◌, List, sym, ap, subst, ◌∙◌, arith}
use Rattle.board_machine.specs.Places.{same, times, tail}
use Rattle.board_machine.proofs.Places.{same_self}
use Rattle.board_machine.specs.Machine.{Board, IsActor}
use Rattle.board_model.specs.Plain.{lying, filling_of, items_of}
use Rattle.board_model.specs.contracts.board.PlainBoard.{the_view}
use Rattle.board_model.proofs.Items.{places_items, head_of, first_items, tail_items, remove_first}
use Rattle.board_model.proofs.Keeps.{at_board, output_has, plain_take, out_missing, out_below, first_missing}
use Rattle.board_model.proofs.CallsHands.{picked_in}
use Rattle.board_machine.specs.Machine.{Item, item}
use Rattle.board_model.proofs.board.PlainBoard.take.Goals as goal

some_there : (xs : List ℕ) → false ≡ (length xs == 0) → 0 < length xs
some_there [] e = absurd (cc)
some_there (x ∷ xs) e = omega arith

stands_first : (i : ℕ) (is rest : List ℕ) → is ≡ i ∷ rest → 1 ≤ times i is
stands_first i is rest e = let n : times i is ≡ same i i + times i rest = ap (times i) e in omega (arith, n, same_self i)

pub put-requires-clause-actor : goal.put-requires-clause-actor
put-requires-clause-actor c = at_board (λ (b : Board). IsActor b c.args.actor) _ _ c.self.view_is c.requires.actor

pub put-requires-clause-in_range : goal.put-requires-clause-in_range
put-requires-clause-in_range c =
    let first : c.self.inside.out.items ≡ c.remove-place.result ∷ tail c.self.inside.out.items = head_of c.remove-place.result c.self.inside.out.items (some_there c.self.inside.out.items c.if-is_empty.ensures) c.remove-place.ensures.value in
    out_below (the_view c.self.inside).board c.self.inside.out.items (sym (places_items c.self.inside.bufs.items c.self.inside.out.items)) c.self.invariant.owned c.remove-place.result
    (stands_first c.remove-place.result c.self.inside.out.items (tail c.self.inside.out.items) first)

pub put-requires-clause-missing : goal.put-requires-clause-missing
put-requires-clause-missing c =
    let b : Board = (the_view c.self.inside).board in
    let first : c.self.inside.out.items ≡ c.remove-place.result ∷ tail c.self.inside.out.items = head_of c.remove-place.result c.self.inside.out.items (some_there c.self.inside.out.items c.if-is_empty.ensures) c.remove-place.ensures.value in
    first_missing b c.args.actor c.remove-place.result c.self.inside.out.items (tail c.self.inside.out.items) first
    (out_missing b c.args.actor c.self.inside.out.items (sym (places_items c.self.inside.bufs.items c.self.inside.out.items)) c.self.invariant.owned)

pub invariant_of-self : goal.invariant_of-self
invariant_of-self c =
    let first : c.self.inside.out.items ≡ c.remove-place.result ∷ tail c.self.inside.out.items = head_of c.remove-place.result c.self.inside.out.items (some_there c.self.inside.out.items c.if-is_empty.ensures) c.remove-place.ensures.value in
    let shorter : c.remove-place.new.self.items ≡ tail c.self.inside.out.items = c.remove-place.ensures.items ∙ remove_first c.self.inside.out.items in
    rw (c.put.ensures, shorter, ← tail_items c.self.inside.bufs.items c.self.inside.out.items)
    (plain_take _ _ c.args.actor c.remove-place.result
    (filling_of (lying c.self.inside.bufs.items c.remove-place.result))
    (items_of c.self.inside.bufs.items (tail c.self.inside.out.items))
    c.self.invariant
    (at_board (λ (b : Board). IsActor b c.args.actor) _ _ c.self.view_is c.requires.actor)
    c.if-self.false
    (ap (λ (is : List ℕ). items_of c.self.inside.bufs.items is) first))

pub returns-clause-step : goal.returns-clause-step
returns-clause-step c =
    let first : c.self.inside.out.items ≡ c.remove-place.result ∷ tail c.self.inside.out.items = head_of c.remove-place.result c.self.inside.out.items (some_there c.self.inside.out.items c.if-is_empty.ensures) c.remove-place.ensures.value in
    let shorter : c.remove-place.new.self.items ≡ tail c.self.inside.out.items = c.remove-place.ensures.items ∙ remove_first c.self.inside.out.items in
    record {
      may = rw (← c.self.view_is)
          (record {
            actor = (at_board (λ (b : Board). IsActor b c.args.actor) _ _ c.self.view_is c.requires.actor);
            meets = (
              c.if-self.false,
              (
                filling_of (lying c.self.inside.bufs.items c.remove-place.result),
                items_of c.self.inside.bufs.items (tail c.self.inside.out.items),
                ap (λ (is : List ℕ). items_of c.self.inside.bufs.items is) first,
              ),
            );
          });
      after = rw (← c.self.view_is, c.put.ensures, shorter, ← tail_items c.self.inside.bufs.items c.self.inside.out.items);
    }

pub returns-clause-in_hand : goal.returns-clause-in_hand
returns-clause-in_hand c =
    rw c.put.ensures (picked_in (the_view c.self.inside).board c.args.actor c.remove-place.result (at_board (λ (b : Board). IsActor b c.args.actor) _ _ c.self.view_is c.requires.actor))

pub returns-clause-set_down : goal.returns-clause-set_down
returns-clause-set_down c =
    let first : c.self.inside.out.items ≡ c.remove-place.result ∷ tail c.self.inside.out.items = head_of c.remove-place.result c.self.inside.out.items (some_there c.self.inside.out.items c.if-is_empty.ensures) c.remove-place.ensures.value in
    output_has (the_view c.self.inside).board c.self.inside.bufs.items c.remove-place.result c.self.invariant
    (subst (λ is. 1 ≤ times c.remove-place.result is) (sym (places_items c.self.inside.bufs.items c.self.inside.out.items)) (stands_first c.remove-place.result c.self.inside.out.items (tail c.self.inside.out.items) first))

pub returns-clause-first : goal.returns-clause-first
returns-clause-first c =
    let first : c.self.inside.out.items ≡ c.remove-place.result ∷ tail c.self.inside.out.items = head_of c.remove-place.result c.self.inside.out.items (some_there c.self.inside.out.items c.if-is_empty.ensures) c.remove-place.ensures.value in
    let place : ℕ = c.remove-place.result in
    let whole : items_of c.self.inside.bufs.items c.self.inside.out.items ≡ item place (filling_of (lying c.self.inside.bufs.items place)) ∷ tail (items_of c.self.inside.bufs.items c.self.inside.out.items) = first_items c.self.inside.bufs.items place c.self.inside.out.items first in
    rw (← c.self.view_is)
    (record {
      filling = filling_of (lying c.self.inside.bufs.items place);
      first = whole;
      lies = c.self.invariant.kept 0 (item place (filling_of (lying c.self.inside.bufs.items place))) (ap (λ (xs : List Item). slice_get xs 0) whole);
    })
