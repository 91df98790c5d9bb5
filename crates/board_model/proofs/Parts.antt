-- How the events of claims and fills are made up of those of their parts.
use Rattle.std.proofs.Common.{◌≡◌, ℕ, suc, ◌+◌, ◌<◌, Bool, true, false, List, [], ◌∷◌, ◌++◌, map, take, Some, None, refl, sym, ap, subst, ◌∙◌, inl, inr, arith, length-append, append-nil, append_assoc}
use Rattle.std.specs.Prelude.{Option, slice_index_or}
use Rattle.board_machine.specs.Machine.{Item, item}
use Rattle.board_machine.specs.Places.{tail}
use Rattle.board_model.specs.Plain.{PlainState, content_at}
use Rattle.board_model.specs.Holdings.{WasFirst}
use Rattle.board_model.specs.declared.gone.Gone.{Gone}
use Rattle.board_model.specs.Gone.{gone_of, WasGone}
use Rattle.gev_types.specs.Filling.{Filling}
use Rattle.gev_types.specs.Limits.{place_count}
use Rattle.gentl_types.specs.declared.word.Word.{Word}
use Rattle.board_machine.specs.declared.events.Event.{Event}
use Rattle.board_machine.specs.declared.events.Event.TheVariants.{Claim, Take, Pool, Fill}
use Rattle.board_machine.specs.declared.events.TakeEnd.{TakeEnd}
use Rattle.board_machine.specs.declared.events.TakeEnd.TheVariants.{Taken}
use Rattle.board_machine.specs.Places.{same, times, put_in}
use Rattle.board_machine.specs.Machine.{Board, hand, word_at, vacant, InHand, after_event}
use Rattle.board_machine.specs.Adding.{AddsEntry, AddsOf}
use Rattle.board_machine.proofs.Places.{times-put}
use Rattle.board_machine.proofs.Adding.{EndsNobody, adds_more, adds_as, adds_nothing, adds_kind, adds_first, adds_step}
use Rattle.board_model.proofs.CallsHands.{times_set, pooled}
use Rattle.board_calls.specs.declared.mode.Mode.{Mode}
use Rattle.board_calls.specs.declared.mode.Mode.TheVariants.{OldestFirst, OldestFirstOverwrite, NewestOnly}
use Rattle.board_calls.specs.Modes.{GotNothing, ClaimsOrTakes, ClaimsFor, takes_and_pools, FillsDropping}
use Rattle.board_model.specs.Steps.{TakesOne, DropsOne, DropsSome, Drops, KeepsHeld}

-- ---- claims

abbrev no_place : Option ℕ
no_place = None

-- a claim that got a place
pub claim_got : (mode : Mode) (b new : Board) (k i : ℕ) → AddsEntry b k (Claim (Some i)) new → AddsOf b k (ClaimsFor mode (Some (i, false))) new
claim_got OldestFirst b new k i step = adds_step b new k (Claim (Some i)) tt step
claim_got OldestFirstOverwrite b new k i step = adds_step b new k (Claim (Some i)) tt step
claim_got NewestOnly b new k i step = adds_step b new k (Claim (Some i)) tt step

-- a claim that got nothing, and no more
pub claim_alone : (mode : Mode) (b new : Board) (k : ℕ) → mode ≡ OldestFirst → AddsEntry b k (Claim no_place) new → AddsOf b k (ClaimsFor mode None) new
claim_alone mode b new k is step =
    subst (λ (m : Mode). AddsOf b k (ClaimsFor m None) new) (sym is) (adds_step b new k (Claim no_place) tt step)

-- a take that got nothing
pub takes_none : (b new : Board) (k : ℕ) (end : TakeEnd) → GotNothing end → AddsEntry b k (Take end) new → AddsOf b k (TakesOne None) new
takes_none b new k end got step = adds_kind b new k (Take end) (TakesOne None) tt (end, got, refl) step

-- a claim that got nothing, and then a take
claim_takes : (b mid new : Board) (k : ℕ) (answer : Option (ℕ × Bool)) → AddsEntry b k (Claim no_place) mid → AddsOf mid k (TakesOne answer) new
    → AddsOf b k (ClaimsOrTakes answer) new
claim_takes b mid new k answer claim took =
    adds_first b mid new k (Claim no_place) (TakesOne answer) (ClaimsOrTakes answer) tt (λ es kind. go answer es kind) claim took
  where
    go : (answer : Option (ℕ × Bool)) (es : List Event) → TakesOne answer es → ClaimsOrTakes answer (Claim no_place ∷ es)
    go None es kind = (kind.0, kind.1, ap (λ fs. Claim no_place ∷ fs) kind.2)
    go (Some (i, true)) es kind = ap (λ fs. Claim no_place ∷ fs) kind
    go (Some (i, false)) es never = absurd never

pub claim_overwrites : (mode : Mode) (b mid new : Board) (k : ℕ) (answer : Option (ℕ × Bool)) → mode ≡ OldestFirstOverwrite
    → AddsEntry b k (Claim no_place) mid → AddsOf mid k (TakesOne answer) new → AddsOf b k (ClaimsFor mode answer) new
claim_overwrites mode b mid new k answer is claim took =
    subst (λ (m : Mode). AddsOf b k (ClaimsFor m answer) new) (sym is) (claim_takes b mid new k answer claim took)

pub claim_newest : (mode : Mode) (b mid new : Board) (k : ℕ) (answer : Option (ℕ × Bool)) → mode ≡ NewestOnly
    → AddsEntry b k (Claim no_place) mid → AddsOf mid k (TakesOne answer) new → AddsOf b k (ClaimsFor mode answer) new
claim_newest mode b mid new k answer is claim took =
    subst (λ (m : Mode). AddsOf b k (ClaimsFor m answer) new) (sym is) (claim_takes b mid new k answer claim took)

-- ---- what stays in hand

keeps_self : (b : Board) (k : ℕ) → KeepsHeld b k b
keeps_self b k = record { hands = λ i. refl; words = refl }

pub keeps_same : (b new : Board) (k : ℕ) → new ≡ b → KeepsHeld b k new
keeps_same b new k e = subst (λ (c : Board). KeepsHeld b k c) (sym e) (keeps_self b k)

pub keeps_then : (b mid new : Board) (k : ℕ) → KeepsHeld b k mid → KeepsHeld mid k new → KeepsHeld b k new
keeps_then b mid new k first second = record { hands = λ i. second.hands i ∙ first.hands i; words = second.words ∙ first.words }

taken : (b new : Board) (k i j : ℕ) → AddsEntry b k (Take (Taken i)) new → times j (hand new k) ≡ same j i + times j (hand b k)
taken b new k i j step =
    ap (λ (c : Board). times j (hand c k)) step.after ∙ (times_set b k j (put_in i (hand b k)) step.may.actor ∙ times-put j i (hand b k))

-- a place that was taken and pooled is in hand as often as before
pub keeps_dropped : (b mid new : Board) (k i : ℕ) → AddsEntry b k (Take (Taken i)) mid → AddsEntry mid k (Pool i) new → KeepsHeld b k new
keeps_dropped b mid new k i take pool = record {
  hands = λ j. omega (arith, taken b mid k i j take, pooled mid new k i j pool);
  words = ap (λ (c : Board). c.words) pool.after ∙ ap (λ (c : Board). c.words) take.after;
}

-- ---- drops

pub drops_one : (b mid new : Board) (k i : ℕ) → AddsEntry b k (Take (Taken i)) mid → AddsEntry mid k (Pool i) new → AddsOf b k (DropsOne true) new
drops_one b mid new k i take pool =
    adds_first b mid new k (Take (Taken i)) (λ es. es ≡ Pool i ∷ []) (DropsOne true) tt
    (λ es kind. (i, ap (λ fs. Take (Taken i) ∷ fs) kind)) take (adds_step mid new k (Pool i) tt pool)

pub drops_none : (b new : Board) (k : ℕ) (end : TakeEnd) → GotNothing end → AddsEntry b k (Take end) new → AddsOf b k (DropsOne false) new
drops_none b new k end got step = adds_kind b new k (Take end) (DropsOne false) tt (end, got, refl) step

pub begins : (b : Board) (k : ℕ) → AddsOf b k (DropsSome 0) b
begins b k = adds_nothing b k (DropsSome 0) (record { dropped = []; counted = refl; is = refl })

takes-append : (is js : List ℕ) → takes_and_pools (is ++ js) ≡ takes_and_pools is ++ takes_and_pools js
takes-append [] js = refl
takes-append (i ∷ is) js = ap (λ es. Take (Taken i) ∷ Pool i ∷ es) (takes-append is js)

pub drops_more : (b mid new : Board) (k n : ℕ) → AddsOf b k (DropsSome n) mid → AddsOf mid k (DropsOne true) new → AddsOf b k (DropsSome (n + 1)) new
drops_more b mid new k n before one =
    adds_more b mid new k (DropsSome n) (DropsOne true) (DropsSome (n + 1))
    (λ es fs first second. record {
      dropped = first.dropped ++ second.0 ∷ [];
      counted = let counted = first.counted in omega (arith, counted, length-append first.dropped (second.0 ∷ []));
      is = ap (λ gs. gs ++ fs) first.is ∙ ap (λ gs. takes_and_pools first.dropped ++ gs) second.1 ∙ sym (takes-append first.dropped (second.0 ∷ []));
    }) before one

pub drops_end : (b mid new : Board) (k n : ℕ) → n < place_count → AddsOf b k (DropsSome n) mid → AddsOf mid k (DropsOne false) new
    → AddsOf b k (Drops NewestOnly n) new
drops_end b mid new k n few before none =
    adds_more b mid new k (DropsSome n) (DropsOne false) (Drops NewestOnly n)
    (λ es fs first second. record {
      dropped = first.dropped;
      counted = first.counted;
      drops = inl (record {
        end = second.0;
        nothing = second.1;
        few = let counted = first.counted in omega arith;
        is = ap (λ gs. gs ++ fs) first.is ∙ ap (λ gs. takes_and_pools first.dropped ++ gs) second.2;
      });
    }) before none

-- what one of several drops told
pub dropped_one : (b new : Board) (k : ℕ) (answer told : Bool) → told ≡ answer → AddsOf b k (DropsOne told) new → AddsOf b k (DropsOne answer) new
dropped_one b new k answer told is drops = subst (λ (x : Bool). AddsOf b k (DropsOne x) new) is drops

pub drops_whole : (b new : Board) (k n : ℕ) → n ≡ place_count → AddsOf b k (DropsSome n) new → AddsOf b k (Drops NewestOnly place_count) new
drops_whole b new k n all before =
    adds_as b new k (DropsSome n) (Drops NewestOnly place_count)
    (λ es kind. record { dropped = kind.dropped; counted = kind.counted ∙ all; drops = inr (record { all = kind.counted ∙ all; is = kind.is }) }) before

pub drops_nothing : (b : Board) (k : ℕ) → AddsOf b k (Drops OldestFirst 0) b
drops_nothing b k = adds_nothing b k (Drops OldestFirst 0) (record { dropped = []; counted = refl; drops = (refl, refl) })

pub drops_nothing_too : (b : Board) (k : ℕ) → AddsOf b k (Drops OldestFirstOverwrite 0) b
drops_nothing_too b k = adds_nothing b k (Drops OldestFirstOverwrite 0) (record { dropped = []; counted = refl; drops = (refl, refl) })

-- ---- fills

ends_nobody : (i : ℕ) (f : Filling) (filled : Bool) → EndsNobody (Fill i f filled)
ends_nobody i f filled = tt

pub fills : (b mid new : Board) (k n i : ℕ) (mode : Mode) (f : Filling) (filled : Bool) → AddsOf b k (Drops mode n) mid → AddsEntry mid k (Fill i f filled) new
    → AddsOf b k (FillsDropping mode n i f filled) new
fills b mid new k n i mode f filled drops step =
    adds_more b mid new k (Drops mode n) (λ es. es ≡ Fill i f filled ∷ []) (FillsDropping mode n i f filled)
    (λ es fs first second. record {
      dropped = first.dropped;
      counted = first.counted;
      fills = record { front = es; drops = first.drops; is = ap (λ gs. es ++ gs) second };
    }) drops (adds_step mid new k (Fill i f filled) (ends_nobody i f filled) step)

pub still_in_hand : (b mid : Board) (k i : ℕ) → KeepsHeld b k mid → InHand b k i → InHand mid k i
still_in_hand b mid k i held mine = omega (arith, held.hands i, mine)

pub still_sized : (b mid : Board) (k i n : ℕ) → KeepsHeld b k mid → n ≡ (word_at b i).size → n ≡ (word_at mid i).size
still_sized b mid k i n held size = size ∙ ap (λ (ws : List Word). (slice_index_or ws i vacant).size) (sym held.words)

-- a fill leaves the words
fill_words : (b : Board) (k i : ℕ) (f : Filling) (filled : Bool) → (after_event b k (Fill i f filled)).words ≡ b.words
fill_words b k i f true = refl
fill_words b k i f false = refl

pub words_stay : (b mid new : Board) (k i : ℕ) (f : Filling) (filled : Bool) → KeepsHeld b k mid → AddsEntry mid k (Fill i f filled) new → new.words ≡ b.words
words_stay b mid new k i f filled held step = ap (λ (c : Board). c.words) step.after ∙ fill_words mid k i f filled ∙ held.words

-- ---- what is gone

some_same : (f g : Filling) → Some f ≡ Some g → f ≡ g
some_same f g e = cc

same_filling : (x : Option Filling) (f g : Filling) → x ≡ Some f → x ≡ Some g → f ≡ g
same_filling x f g e d = some_same f g (sym e ∙ d)

-- what was taken and pooled is gone from the output
pub was_gone : (s mid : PlainState) (new : Board) (k i : ℕ) (buf : Filling) (gone : Gone) → WasFirst s i mid → AddsEntry s.board k (Take (Taken i)) mid.board → AddsEntry mid.board k (Pool i) new
    → content_at mid i ≡ Some buf → gone ≡ record { place = i; block = buf.rec.block } → WasGone s.board.out gone new.out
was_gone s mid new k i buf gone first took pool lies is =
    let out : new.out ≡ tail s.board.out = ap (λ (b : Board). b.out) pool.after ∙ ap (λ (b : Board). b.out) took.after in
    record {
      entry = item i first.filling;
      first = first.first ∙ ap (λ xs. item i first.filling ∷ xs) (sym out);
      is = is ∙ ap (λ (f : Filling). record { place = i; block = f.rec.block }) (same_filling (content_at mid i) buf first.filling lies first.lies);
    }

-- what is gone so far, and what goes next: so many of the first
pub gone_more : (before mid after : List Item) (now : List Gone) (one : Gone) (n : ℕ) → ((m : ℕ) → now ++ map gone_of (take m mid) ≡ map gone_of (take (n + m) before)) → WasGone mid one after
    → (m : ℕ) → (now ++ one ∷ []) ++ map gone_of (take m after) ≡ map gone_of (take ((n + 1) + m) before)
gone_more before mid after now one n so_far was m =
    append_assoc now (one ∷ []) (map gone_of (take m after))
    ∙ (ap (λ x. now ++ x ∷ map gone_of (take m after)) was.is
    ∙ (ap (λ xs. now ++ map gone_of (take (suc m) xs)) (sym was.first)
    ∙ (so_far (suc m) ∙ ap (λ k. map gone_of (take k before)) (plus n m))))
  where
    plus : (n m : ℕ) → n + suc m ≡ (n + 1) + m
    plus n m = omega arith

-- where no more goes
pub gone_all : (before mid : List Item) (now : List Gone) (n : ℕ) → ((m : ℕ) → now ++ map gone_of (take m mid) ≡ map gone_of (take (n + m) before)) → now ≡ map gone_of (take n before)
gone_all before mid now n so_far = sym (append-nil now) ∙ (ap (λ xs. now ++ map gone_of xs) (take_zero mid) ∙ (so_far 0 ∙ ap (λ k. map gone_of (take k before)) (plus n)))
  where
    plus : (n : ℕ) → n + 0 ≡ n
    plus n = omega arith

    take_zero : (xs : List Item) → [] ≡ take 0 xs
    take_zero xs = refl
