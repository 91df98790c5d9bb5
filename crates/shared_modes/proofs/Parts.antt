-- How the entries of claims and fills are made up of those of their parts, and what stays in hand.
use Rattle.std.proofs.Common.{◌≡◌, ◌≢◌, ◌⊎◌, ℕ, ◌+◌, ◌<◌, Bool, true, false, List, [], ◌∷◌, ◌++◌, Some, None, refl, sym, ap, subst, ◌∙◌, inl, inr, arith, length, length-append}
use Rattle.std.specs.Prelude.{Option}
use Rattle.std.proofs.lemmas.Bool.{cases_eq}
use Rattle.gev_types.specs.Filling.{Filling}
use Rattle.gev_types.specs.Limits.{place_count}
use Rattle.board_machine.specs.declared.events.Event.{Event}
use Rattle.board_machine.specs.declared.events.Event.TheVariants.{Claim, Take, Pool, Fill}
use Rattle.board_machine.specs.declared.events.TakeEnd.{TakeEnd}
use Rattle.board_machine.specs.declared.events.TakeEnd.TheVariants.{Taken}
use Rattle.buffer_words.specs.Passes.{Token, gone, lifted, slot_at, IsLifted, IsWhole, Enters, Stays, SamePlace, SameHands, Has, Gets, size_at}
use Rattle.buffer_words.specs.Handing.{AfterFill, HandsOver}
use Rattle.buffer_words.specs.Several.{EntersOf}
use Rattle.buffer_words.proofs.Hands.{hands_then, same_has, gets_gone}
use Rattle.buffer_words.proofs.Several.{each_two, of_kind, of_none, of_one, of_as, of_then, of_push, of_first}
use Rattle.board_calls.specs.declared.mode.Mode.{Mode}
use Rattle.board_calls.specs.declared.mode.Mode.TheVariants.{OldestFirst, OldestFirstOverwrite, NewestOnly}
use Rattle.board_calls.specs.Modes.{GotNothing, ClaimsOrTakes, ClaimsFor, takes_and_pools, FillsDropping}
use Rattle.board_model.specs.Steps.{TakesOne, DropsOne, DropsSome, Drops}

-- ---- hands

-- a taken buffer is in hand
pub got_taken : (i : ℕ) (s t : Token) → HandsOver i s t → Gets i s t
got_taken i s t over = record { below = over.below; new = over.new; filling = over.filling; has = over.has; size = over.size }

pub taken_whole : (i : ℕ) (s t : Token) → HandsOver i s t → IsWhole t i
taken_whole i s t over = record { filling = over.filling; is = over.has.here }

pub same_then_gets : (i : ℕ) (s t u : Token) → SameHands s t → Gets i t u → Gets i s u
same_then_gets i s t u first second = record {
  below = second.below;
  new = sym (first i).slot ∙ second.new;
  filling = second.filling;
  has = same_has i (Some (Some second.filling)) s t u first second.has;
  size = second.size;
}

pub dropped_again : (i : ℕ) (s t u : Token) → HandsOver i s t → Has i gone t u → SameHands s u
dropped_again i s t u over back = gets_gone i s t u (got_taken i s t over) back

pub still_lifted : (i : ℕ) (s t : Token) → SameHands s t → IsLifted s i → IsLifted t i
still_lifted i s t same mine = (same i).slot ∙ mine

lifted_is_there : (s : Token) (i : ℕ) → IsLifted s i → slot_at s i ≢ gone
lifted_is_there s i mine never = apart (sym mine ∙ never)
  where
    apart : lifted ≢ gone
    apart e = cc

pub still_sized : (n i : ℕ) (s t : Token) → SameHands s t → IsLifted s i → n ≡ size_at s i → n ≡ size_at t i
still_sized n i s t same mine size = size ∙ sym ((same i).buffer (lifted_is_there s i mine)).size

pub then_after_fill : (filled : Bool) (i : ℕ) (s t u : Token) → SameHands s t → AfterFill filled i t u → AfterFill filled i s u
then_after_fill true i s t u first second = same_has i gone s t u first second
then_after_fill false i s t u first second = hands_then s t u first second

-- ---- claims

abbrev no_place : Option ℕ
no_place = None

-- a claim that got a place
pub claim_got : (mode : Mode) (s t : Token) (i : ℕ) → Enters s (Claim (Some i)) t → EntersOf s (ClaimsFor mode (Some (i, false))) t
claim_got OldestFirst s t i enters = of_one s t (ClaimsFor OldestFirst (Some (i, false))) (Claim (Some i)) refl refl enters
claim_got OldestFirstOverwrite s t i enters = of_one s t (ClaimsFor OldestFirstOverwrite (Some (i, false))) (Claim (Some i)) refl refl enters
claim_got NewestOnly s t i enters = of_one s t (ClaimsFor NewestOnly (Some (i, false))) (Claim (Some i)) refl refl enters

-- a claim that got nothing, and no more
pub claim_alone : (mode : Mode) (s t : Token) → mode ≡ OldestFirst → Enters s (Claim no_place) t → EntersOf s (ClaimsFor mode None) t
claim_alone mode s t is enters =
    subst (λ (m : Mode). EntersOf s (ClaimsFor m None) t) (sym is) (of_one s t (ClaimsFor OldestFirst None) (Claim no_place) refl refl enters)

-- a take that got a place, or nothing
pub takes_some : (s t : Token) (i : ℕ) → Enters s (Take (Taken i)) t → EntersOf s (TakesOne (Some (i, true))) t
takes_some s t i enters = of_one s t (TakesOne (Some (i, true))) (Take (Taken i)) refl refl enters

pub takes_none : (s t : Token) (end : TakeEnd) → GotNothing end → Enters s (Take end) t → EntersOf s (TakesOne None) t
takes_none s t end got enters = of_one s t (TakesOne None) (Take end) (end, got, refl) refl enters

-- a claim that got nothing, and then a take
claim_takes : (s t u : Token) (answer : Option (ℕ × Bool)) → Enters s (Claim no_place) t → EntersOf t (TakesOne answer) u → EntersOf s (ClaimsOrTakes answer) u
claim_takes s t u answer claim took = of_first s t u (TakesOne answer) (ClaimsOrTakes answer) (Claim no_place) (λ es kind. go answer es kind) refl claim took
  where
    go : (answer : Option (ℕ × Bool)) (es : List Event) → TakesOne answer es → ClaimsOrTakes answer (Claim no_place ∷ es)
    go None es kind = (kind.0, kind.1, ap (λ fs. Claim no_place ∷ fs) kind.2)
    go (Some (i, true)) es kind = ap (λ fs. Claim no_place ∷ fs) kind
    go (Some (i, false)) es never = absurd never

pub claim_overwrites : (mode : Mode) (s t u : Token) (answer : Option (ℕ × Bool)) → mode ≡ OldestFirstOverwrite
    → Enters s (Claim no_place) t → EntersOf t (TakesOne answer) u → EntersOf s (ClaimsFor mode answer) u
claim_overwrites mode s t u answer is claim took =
    subst (λ (m : Mode). EntersOf s (ClaimsFor m answer) u) (sym is) (claim_takes s t u answer claim took)

pub claim_newest : (mode : Mode) (s t u : Token) (answer : Option (ℕ × Bool)) → mode ≡ NewestOnly
    → Enters s (Claim no_place) t → EntersOf t (TakesOne answer) u → EntersOf s (ClaimsFor mode answer) u
claim_newest mode s t u answer is claim took =
    subst (λ (m : Mode). EntersOf s (ClaimsFor m answer) u) (sym is) (claim_takes s t u answer claim took)

-- ---- drops

pub drops_one : (s t u : Token) (i : ℕ) → Enters s (Take (Taken i)) t → Enters t (Pool i) u → EntersOf s (DropsOne true) u
drops_one s t u i take pool =
    of_kind s u (DropsOne true) (Take (Taken i) ∷ Pool i ∷ []) (i, refl) (each_two s t u (Take (Taken i)) (Pool i) take pool refl refl)

pub drops_none : (s t : Token) (end : TakeEnd) → GotNothing end → Enters s (Take end) t → EntersOf s (DropsOne false) t
drops_none s t end got enters = of_one s t (DropsOne false) (Take end) (end, got, refl) refl enters

self : (s : Token) → Stays s s
self s = record { table = refl; number = refl; seen = refl }

pub begins : (s : Token) → EntersOf s (DropsSome 0) s
begins s = of_none s s (DropsSome 0) (record { dropped = []; counted = refl; is = refl }) (self s)

takes-append : (is js : List ℕ) → takes_and_pools (is ++ js) ≡ takes_and_pools is ++ takes_and_pools js
takes-append [] js = refl
takes-append (i ∷ is) js = ap (λ es. Take (Taken i) ∷ Pool i ∷ es) (takes-append is js)

pub drops_more : (s t u : Token) (n : ℕ) → EntersOf s (DropsSome n) t → EntersOf t (DropsOne true) u → EntersOf s (DropsSome (n + 1)) u
drops_more s t u n before one =
    of_then s t u (DropsSome n) (DropsOne true) (DropsSome (n + 1))
    (λ es fs first second. record {
      dropped = first.dropped ++ second.0 ∷ [];
      counted = let counted = first.counted in omega (arith, counted, length-append first.dropped (second.0 ∷ []));
      is = ap (λ gs. gs ++ fs) first.is ∙ ap (λ gs. takes_and_pools first.dropped ++ gs) second.1 ∙ sym (takes-append first.dropped (second.0 ∷ []));
    }) before one

pub drops_end : (s t u : Token) (n : ℕ) → n < place_count → EntersOf s (DropsSome n) t → EntersOf t (DropsOne false) u → EntersOf s (Drops NewestOnly n) u
drops_end s t u n few before none =
    of_then s t u (DropsSome n) (DropsOne false) (Drops NewestOnly n)
    (λ es fs first second. record {
      dropped = first.dropped;
      counted = first.counted;
      drops = inl (record {
        end = second.0;
        nothing = second.1;
        few = let counted = first.counted in omega arith;
        is = ap (λ gs. gs ++ fs) first.is ∙ ap (λ gs. takes_and_pools first.dropped ++ gs) second.2;
      });
    }) before none

-- what one of several drops told
pub dropped_one : (s t : Token) (answer told : Bool) → told ≡ answer → EntersOf s (DropsOne told) t → EntersOf s (DropsOne answer) t
dropped_one s t answer told is drops = subst (λ (x : Bool). EntersOf s (DropsOne x) t) is drops

pub drops_whole : (s t : Token) (n : ℕ) → n ≡ place_count → EntersOf s (DropsSome n) t → EntersOf s (Drops NewestOnly place_count) t
drops_whole s t n all before =
    of_as s t (DropsSome n) (Drops NewestOnly place_count)
    (λ es kind. record { dropped = kind.dropped; counted = kind.counted ∙ all; drops = inr (record { all = kind.counted ∙ all; is = kind.is }) }) before

pub drops_nothing : (s : Token) → EntersOf s (Drops OldestFirst 0) s
drops_nothing s = of_none s s (Drops OldestFirst 0) (record { dropped = []; counted = refl; drops = (refl, refl) }) (self s)

pub drops_nothing_too : (s : Token) → EntersOf s (Drops OldestFirstOverwrite 0) s
drops_nothing_too s = of_none s s (Drops OldestFirstOverwrite 0) (record { dropped = []; counted = refl; drops = (refl, refl) }) (self s)

-- ---- fills

pub fills : (s t u : Token) (n i : ℕ) (mode : Mode) (f : Filling) (filled : Bool) → EntersOf s (Drops mode n) t → Enters t (Fill i f filled) u
    → EntersOf s (FillsDropping mode n i f filled) u
fills s t u n i mode f filled drops enters =
    of_push s t u (Drops mode n) (FillsDropping mode n i f filled) (Fill i f filled)
    (λ es first. record {
      dropped = first.dropped;
      counted = first.counted;
      fills = record { front = es; drops = first.drops; is = refl };
    }) refl drops enters
