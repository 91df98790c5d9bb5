-- Lists that begin with another one.
use Rattle.std.proofs.Common.{◌≤◌, List, [], ◌++◌, length, refl, sym, ap, ◌∙◌, arith, append_assoc, append-nil, length-append}
use Rattle.board_machine.specs.Places.{IsPrefix}

pub prefix_self : {A : Type 0} (xs : List A) → IsPrefix xs xs
prefix_self xs = record { rest = []; is = sym (append-nil xs) }

pub prefix_append : {A : Type 0} (xs ys : List A) → IsPrefix xs (xs ++ ys)
prefix_append xs ys = record { rest = ys; is = refl }

pub prefix_then : {A : Type 0} (xs ys zs : List A) → IsPrefix xs ys → IsPrefix ys zs → IsPrefix xs zs
prefix_then xs ys zs first second = record {
  rest = first.rest ++ second.rest;
  is = second.is ∙ (ap (λ us. us ++ second.rest) first.is ∙ append_assoc xs first.rest second.rest);
}

pub prefix_length : {A : Type 0} (xs ys : List A) → IsPrefix xs ys → length xs ≤ length ys
prefix_length xs ys front = omega (arith, ap length front.is, length-append xs front.rest)
