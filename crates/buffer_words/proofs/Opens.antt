-- The table at the start keeps the rule.
use Rattle.std.proofs.Common.{◌≡◌, ℕ, zero, suc, ◌<◌, [], ◌∷◌, map, replicate, refl, sym, ap, subst, ◌∙◌, arith}
use Rattle.std.proofs.lemmas.List.{get_or-replicate, length-replicate, length-map}
use Rattle.std.proofs.lemmas.Nat.Bits.{bit_at-zero}
use mathlib.Core.Option as opt
use lib.ListN.{get_elem?}
use Rattle.atomic_table.specs.Table.{opening}
use Rattle.atomic_table.proofs.Lists.{at_map}
use Rattle.gentl_types.specs.declared.word.State.TheVariants.{Vacant}
use Rattle.board_machine.specs.Machine.{empty_board, word_at, IsActor}
use Rattle.board_machine.proofs.Keeps.{empty_words}
use Rattle.buffer_words.specs.declared.view.View.{View}
use Rattle.buffer_words.specs.Codes.{code}
use Rattle.buffer_words.specs.Rule.{Slot, nothing, idle, Shows, Shelved, Kept, Knows}
use Rattle.buffer_words.proofs.Frames.{follows_all}

at_copy : {A : Type 0} (n i : ℕ) (x : A) → i < n → get_elem? (replicate n x) i ≡ opt.some x
at_copy zero i x h = absurd (omega arith)
at_copy (suc n) zero x h = refl
at_copy (suc n) (suc i) x h = at_copy n i x (omega arith)

opens_shows : Shows empty_board (replicate 19 0)
opens_shows = record {
  wide = length-replicate {A = ℕ} 19 0;
  own = λ i below. get_or-replicate 19 i 0 0 (omega arith) ∙ sym (ap code (empty_words 15 i));
  pool = (omega arith, λ i. bit_at-zero i);
  out = refl;
  kill = refl;
  run = refl;
}

opens_shelved : Shelved empty_board (map opt.some (replicate 15 nothing))
opens_shelved = record {
  wide = length-map {A = Slot} {B = opt.Option Slot} (replicate 15 nothing) (λ x. opt.some x) ∙ length-replicate 15 nothing;
  vacant = λ i below empty. at_map opt.some (replicate 15 nothing) i nothing (at_copy 15 i nothing below);
  laid = λ i is_held. let none : (word_at empty_board i).state ≡ Vacant = ap (λ w. w.state) (empty_words 15 i) in absurd (cc);
  pooled = λ i more. absurd (omega arith);
  filled = λ n x e. absurd (cc);
}

one_seat : (views : View) (i : ℕ) (v : View) → get_elem? (views ∷ []) i ≡ opt.some v → (i ≡ 0) × (views ≡ v)
one_seat u zero v e = (refl, opt.some-injective u v e)
one_seat u (suc i) v e = absurd (opt.some-ne-none v (sym e))

first_actor : IsActor empty_board 0
first_actor gone = cc

pub opens : Kept (opening (replicate 19 0) (replicate 15 nothing) (idle 0 []))
opens = record {
  history = [];
  run = tt;
  shows = opens_shows;
  shelved = opens_shelved;
  seats = record {
    knows = λ id v at. subst (λ (x : View). Knows [] x.number x.seen x.stage) (one_seat (idle 0 []) id v at).1 (follows_all [] 0 first_actor);
    apart = λ i j k v w ne vi wj mine theirs. ne ((one_seat (idle 0 []) i v vi).0 ∙ sym (one_seat (idle 0 []) j w wj).0);
  };
}
