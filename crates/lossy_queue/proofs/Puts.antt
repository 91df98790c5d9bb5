-- Lemmas on what becomes of a datagram.
use Rattle.std.proofs.Common.{◌≡◌, ◌⊎◌, inl, inr, ℕ, ◌+◌, ◌<◌, ◌≤◌, Bool, true, false, cond, List, [], ◌∷◌, ◌++◌, length, refl, arith, lit≤}
use Rattle.std.specs.Prelude.{if◌then◌else◌}
use Rattle.std.specs.List.{Contains}
use Rattle.std.proofs.lemmas.Bool.Decides.{nat_tests}
use Rattle.gev_frames.specs.Generator.{next, draw, after_draws}
use Rattle.lossy_queue.specs.declared.datagram.Datagram.{Datagram}
use Rattle.lossy_queue.specs.declared.fate.Fate.{Fate}
use Rattle.lossy_queue.specs.declared.fate.Fate.TheVariants.{Lost, Once, Twice}
use Rattle.lossy_queue.specs.declared.rates.Rates.{Rates}
use Rattle.lossy_queue.specs.Lossy.{happens, fate_of, after_put, placed, put_as, put_lossy}
use Rattle.lossy_queue.specs.Laws.{IsPut, DrawsThree, PutsOneDatagram, KeepsOrder, LosesAll}
use Rattle.lossy_queue.proofs.Places.{placed_only, length-placed}

pub draws_three : DrawsThree
unfolding after_put after_draws
draws_three x = refl

put_as_is : (fate : Fate) (d : Datagram) (queue : List Datagram) → IsPut d queue (put_as fate d queue)
put_as_is Lost d queue = record { kept = omega arith; few = omega arith; only = λ e c. inr c }
put_as_is (Once s) d queue = record {
  kept = omega (arith, length-placed s d queue);
  few = omega (arith, length-placed s d queue);
  only = placed_only s d queue;
}
put_as_is (Twice s) d queue =
    let once = length-placed s d queue in
    let twice = length-placed s d (placed s d queue) in record {
      kept = omega arith;
      few = omega arith;
      only = λ e c. elim (placed_only s d (placed s d queue) e c) [ inl same ↦ inl same | inr there ↦ placed_only s d queue e there ];
    }

pub puts_one : PutsOneDatagram
unfolding put_lossy
puts_one rates x d queue = put_as_is (fate_of rates x) d queue

never : (rate x : ℕ) → rate ≡ 0 → happens rate x ≡ false
never rate x h = grind (arith, nat_tests)

always : (rate x : ℕ) → 1000 ≤ rate → happens rate x ≡ true
always rate x h = grind (arith, nat_tests)

kept_in_order : (lost repeated swapped : Bool) (d : Datagram) (queue : List Datagram) → lost ≡ false → repeated ≡ false → swapped ≡ false
    → put_as (if lost then Lost else if repeated then Twice swapped else Once swapped) d queue ≡ queue ++ d ∷ []
kept_in_order false false false d queue l r s = refl
kept_in_order true repeated swapped d queue l r s = absurd (cc)
kept_in_order false true swapped d queue l r s = absurd (cc)
kept_in_order false false true d queue l r s = absurd (cc)

pub in_order : KeepsOrder
unfolding put_lossy
in_order rates x d queue l r s =
    kept_in_order (happens rates.loss x) (happens rates.repeat (next x)) (happens rates.swap (next (next x))) d queue
    (never rates.loss x l) (never rates.repeat (next x) r) (never rates.swap (next (next x)) s)

all_lost : (lost : Bool) (other : Fate) (d : Datagram) (queue : List Datagram) → lost ≡ true → put_as (if lost then Lost else other) d queue ≡ queue
all_lost true other d queue h = refl
all_lost false other d queue h = absurd (cc)

pub none_comes : LosesAll
unfolding put_lossy
none_comes rates x d queue h = all_lost (happens rates.loss x) _ d queue (always rates.loss x h)
