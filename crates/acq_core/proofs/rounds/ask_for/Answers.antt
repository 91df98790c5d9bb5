-- Each turn adds the request for its own range.
use Rattle.std.proofs.Common.{◌≡◌, ℕ, ◌+◌, ◌<◌, List, [], ◌∷◌, ◌++◌, length, get_or, map, drop, sym, ap, ◌∙◌, append_assoc, arith}
use Rattle.std.proofs.lemmas.List.{drop_more}
use Rattle.acquisition_machine.specs.Machine.{next_number, number_after, requests_for, resend_of}
use Rattle.acq_core.specs.declared.asked.Asked.{Asked}
use Rattle.acq_core.specs.Standing.{asked_of}
use Rattle.acq_core.proofs.rounds.ask_for.Goals as goal

asks_more : (items more all : List Asked) (number after block n : ℕ) (ranges : List (ℕ × ℕ)) (d : ℕ × ℕ) → n < length ranges
    → more ≡ items ++ record { number = number; resend = resend_of block (get_or ranges n d) } ∷ [] → after ≡ next_number number
    → items ++ map asked_of (requests_for number block (drop n ranges)) ≡ all → more ++ map asked_of (requests_for after block (drop (n + 1) ranges)) ≡ all
asks_more items more all number after block n ranges d l is e so_far =
    let one : Asked = record { number = number; resend = resend_of block (get_or ranges n d) } in
    let rest : List Asked = map asked_of (requests_for (next_number number) block (drop (n + 1) ranges)) in
    rw (is, e) (append_assoc items (one ∷ []) rest ∙ ap (λ rs. items ++ map asked_of (requests_for number block rs)) (sym (drop_more ranges n d l)) ∙ so_far)

numbers_more : (number after last n : ℕ) (ranges : List (ℕ × ℕ)) → n < length ranges → after ≡ next_number number → number_after number (drop n ranges) ≡ last
    → number_after after (drop (n + 1) ranges) ≡ last
numbers_more number after last n ranges l e so_far = rw e (sym (ap (number_after number) (drop_more ranges n (0, 0) l)) ∙ so_far)

pub loop-range-preserved : goal.loop-range-preserved
loop-range-preserved c = record {
  requests = asks_more c.loop-range.requests.items _ _ c.loop-range.number _ c.args.block c.loop-range.range-index c.args.ranges.now _ c.loop-range-test.true
      c.push_reserved.ensures.items c.next-number.ensures c.loop-range.invariant.requests;
  number = numbers_more c.loop-range.number _ _ c.loop-range.range-index c.args.ranges.now c.loop-range-test.true c.next-number.ensures c.loop-range.invariant.number;
  more = omega (arith, c.push_reserved.ensures.len, c.loop-range.invariant.more);
  capacity = c.push_reserved.ensures.capacity ∙ c.loop-range.invariant.capacity;
}
