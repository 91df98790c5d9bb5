-- The flush of the input pool into the output: each buffer keeps its bytes and gets the empty record.
use Rattle.std.proofs.Common.{◌≡◌, ◌≢◌, ◌⊎◌, ℕ, Bool, true, false, List, [], ◌∷◌, ◌++◌, length, set, Option, Some, None, Result, Ok, Err, refl, sym, ap, subst, ◌∙◌, inl, inr, arith}
use Rattle.std.proofs.lemmas.Bool.{cases_eq}
use Rattle.gev_types.specs.Filling.{Filling, empty_record}
use Rattle.gentl_types.specs.declared.errors.GcError.{GcError}
use Rattle.gentl_types.specs.declared.errors.GcError.TheVariants.{InvalidParameter}
use Rattle.board_machine.specs.declared.events.Entry.{Entry}
use Rattle.board_machine.specs.declared.events.Event.{Event}
use Rattle.board_machine.specs.declared.events.Event.TheVariants.{SweepPool}
use Rattle.board_machine.specs.Machine.{Board}
use Rattle.board_machine.specs.Adding.{entries_of, AddsOf}
use Rattle.board_machine.specs.Histories.{RunsFrom}
use Rattle.board_machine.specs.Handout.{handed}
use Rattle.board_calls.specs.Rounds.{filled_or_laid, FillsEach}
use Rattle.board_calls.specs.Calls.{Flushes}
use Rattle.board_model.specs.Plain.{PlainState, lying, filling_of}
use Rattle.board_model.specs.Holdings.{emptied, with_empty_records, FillsAsLying, FlushesAsLying}
use Rattle.script_trace.specs.Contents.{contents_of, contents_from, FillsFrom}
use Rattle.script_replay.specs.Boards.{LiesAsTold, IsLeftBy}
use Rattle.script_replay.proofs.Places.{set_lies, set_apart, lies_set}
use Rattle.script_replay.proofs.Lines.{left_by, lies_after, caller_apart}

pub some_of : (x : Option Filling) (f : Filling) → Some f ≡ emptied x → (g : Filling) × (x ≡ Some g)
some_of None f is = absurd cc
some_of (Some g) f is = (g, refl)

empty_of : (x : Option Filling) (f : Filling) → Some f ≡ emptied x → f.rec ≡ empty_record
empty_of None f is = absurd cc
empty_of (Some g) f is = ap (λ o. (filling_of o).rec) is

empty_twice : (x : Option Filling) → emptied (emptied x) ≡ emptied x
empty_twice None = refl
empty_twice (Some g) = refl

pub emptied_told : (b : Board) (now told : List (Option Filling)) (i : ℕ) (f : Filling) → LiesAsTold b now told i → Some f ≡ emptied (lying now i) → Some f ≡ emptied (lying told i)
emptied_told b now told i f (inl e) is = is ∙ ap emptied e
emptied_told b now told i f (inr lifted) is =
    let none : Some f ≡ None = is ∙ ap emptied lifted.0 in
    absurd cc

-- such fills have the empty record
fills_empty : (c : List (Option Filling)) (is : List ℕ) (es : List Event) → FillsAsLying c is es → FillsEach is es
fills_empty c [] es fills = fills
fills_empty c (i ∷ is) es fills =
    (fills.0, fills.1, fills.2, empty_of (lying c i) fills.0 fills.3, fills.4, fills_empty c is fills.2 fills.5)

one_told : (told : List (Option Filling)) (k i : ℕ) (f : Filling) (filled : Bool) (rest : List Event) → Some f ≡ emptied (lying told i) → FillsFrom told (entries_of k rest) → FillsFrom told (entries_of k (filled_or_laid i f filled ++ rest))
one_told told k i f true rest is more = (inr is, more)
one_told told k i f false rest is more = (inr is, (tt, more))

fills_told : (b : Board) (now told : List (Option Filling)) (k : ℕ) (is : List ℕ) (es : List Event) → ((i : ℕ) → LiesAsTold b now told i) → FillsAsLying now is es → FillsFrom told (entries_of k es)
fills_told b now told k [] es lies fills = subst (λ (fs : List Event). FillsFrom told (entries_of k fs)) (sym fills) tt
fills_told b now told k (i ∷ is) es lies fills =
    subst (λ (fs : List Event). FillsFrom told (entries_of k fs)) (sym fills.4)
    (one_told told k i fills.0 fills.1 fills.2 (emptied_told b now told i fills.0 (lies i) fills.3) (fills_told b now told k is fills.2 lies fills.5))

one_hands : (k i : ℕ) (f : Filling) (filled : Bool) (rest : List Event) → handed (entries_of k rest) ≡ [] → handed (entries_of k (filled_or_laid i f filled ++ rest)) ≡ []
one_hands k i f true rest none = none
one_hands k i f false rest none = none

fills_hand : (c : List (Option Filling)) (k : ℕ) (is : List ℕ) (es : List Event) → FillsAsLying c is es → handed (entries_of k es) ≡ []
fills_hand c k [] es fills = ap (λ fs. handed (entries_of k fs)) fills
fills_hand c k (i ∷ is) es fills =
    ap (λ fs. handed (entries_of k fs)) fills.4 ∙ one_hands k i fills.0 fills.1 fills.2 (fills_hand c k is fills.2 fills.5)

one_after : (told : List (Option Filling)) (k i : ℕ) (f : Filling) (filled : Bool) (rest : List Event) → contents_from told (entries_of k (filled_or_laid i f filled ++ rest)) ≡ contents_from (set told i (Some f)) (entries_of k rest)
one_after told k i f true rest = refl
one_after told k i f false rest = refl

-- what lies at the places then is what the fills tell
filled_lies : (b : Board) (base now told : List (Option Filling)) (k : ℕ) (is : List ℕ) (es : List Event) → ((i : ℕ) → emptied (lying now i) ≡ emptied (lying base i)) → ((i : ℕ) → LiesAsTold b now told i)
    → FillsAsLying base is es → (j : ℕ) → LiesAsTold b (with_empty_records is now) (contents_from told (entries_of k es)) j
filled_lies b base now told k [] es same lies fills j = subst (λ (fs : List Event). LiesAsTold b now (contents_from told (entries_of k fs)) j) (sym fills) (lies j)
filled_lies b base now told k (i ∷ is) es same lies fills j =
    subst (λ (c : List (Option Filling)). LiesAsTold b (with_empty_records is (set now i (emptied (lying now i)))) c j)
    (sym (ap (λ fs. contents_from told (entries_of k fs)) fills.4 ∙ one_after told k i fills.0 fills.1 fills.2))
    (subst (λ (x : Option Filling). LiesAsTold b (with_empty_records is (set now i x)) (contents_from (set told i (Some fills.0)) (entries_of k fills.2)) j) has
    (filled_lies b base (set now i (Some fills.0)) (set told i (Some fills.0)) k is fills.2 same_now lies_now fills.5 j))
  where
    has : Some fills.0 ≡ emptied (lying now i)
    has = fills.3 ∙ sym (same i)

    there : lying (set now i (Some fills.0)) i ≡ lying (set told i (Some fills.0)) i
    there =
        let some = some_of (lying now i) fills.0 has in
        let as_told = some_of (lying told i) fills.0 (emptied_told b now told i fills.0 (lies i) has) in
        set_lies now i fills.0 some.0 some.1 ∙ sym (set_lies told i fills.0 as_told.0 as_told.1)

    lies_now : (n : ℕ) → LiesAsTold b (set now i (Some fills.0)) (set told i (Some fills.0)) n
    lies_now n = lies_set b now told i n (Some fills.0) there (lies n)

    same_now : (n : ℕ) → emptied (lying (set now i (Some fills.0)) n) ≡ emptied (lying base n)
    same_now n = go (cases_eq n i)
      where
        some : (g : Filling) × (lying now i ≡ Some g)
        some = some_of (lying now i) fills.0 has

        go : (n ≡ i) ⊎ (n ≢ i) → emptied (lying (set now i (Some fills.0)) n) ≡ emptied (lying base n)
        go (inl e) =
            subst (λ m. emptied (lying (set now i (Some fills.0)) m) ≡ emptied (lying base m)) (sym e)
            (ap emptied (set_lies now i fills.0 some.0 some.1) ∙ ap emptied fills.3 ∙ empty_twice (lying base i))
        go (inr apart) = ap emptied (set_apart now i n (Some fills.0) apart) ∙ same n

-- ---- the call

pub flushes_lying : (c : List (Option Filling)) (operation : ℕ) (answer : Result (Unit {0}) GcError) (es fs : List Event) → operation ≡ 0 → Flushes operation answer es → FlushesAsLying c fs → Flushes operation answer fs
flushes_lying c operation (Ok done) es fs none kind lying_so = record {
  in_range = omega (arith, none);
  to_output = λ e. record { pooled = lying_so.pooled; rest = lying_so.rest; is = lying_so.is; fills = fills_empty c lying_so.pooled lying_so.rest lying_so.fills };
  discards_output = λ e. absurd (omega (arith, none, e));
  to_input = λ e. absurd (omega (arith, none, e));
  unqueued_to_input = λ e. absurd (omega (arith, none, e));
  discards_all = λ e. absurd (omega (arith, none, e));
}
flushes_lying c operation (Err (InvalidParameter n)) es fs none kind lying_so = absurd (omega (arith, none, kind.1))
flushes_lying c operation (Err error) es fs none kind lying_so = absurd kind

pub flush_fills : (s : PlainState) (new : Board) (h : List Entry) (called : AddsOf s.board 0 (FlushesAsLying s.contents) new) → IsLeftBy s h → FillsFrom (contents_of h) (entries_of 0 called.events)
flush_fills s new h called left =
    subst (λ (fs : List Event). FillsFrom (contents_of h) (entries_of 0 fs)) (sym called.kind.is)
    (tt, fills_told s.board s.contents (contents_of h) 0 called.kind.pooled called.kind.rest left.lies called.kind.fills)

pub flush_hands : (s : PlainState) (new : Board) (called : AddsOf s.board 0 (FlushesAsLying s.contents) new) → length (handed (entries_of 0 called.events)) ≡ 0
flush_hands s new called =
    ap (λ fs. length (handed (entries_of 0 fs))) called.kind.is ∙ ap length (fills_hand s.contents 0 called.kind.pooled called.kind.rest called.kind.fills)

pub flush_leaves : (s new : PlainState) (h : List Entry) (called : AddsOf s.board 0 (FlushesAsLying s.contents) new.board) → new.contents ≡ with_empty_records s.board.pool s.contents → IsLeftBy s h → IsLeftBy new (h ++ entries_of 0 called.events)
flush_leaves s new h called emptied_pool left = left_by s new 0 (FlushesAsLying s.contents) h called lies left
  where
    first : RunsFrom s.board (entries_of 0 (SweepPool called.kind.pooled ∷ called.kind.rest))
    first = subst (λ (fs : List Event). RunsFrom s.board (entries_of 0 fs)) called.kind.is called.adds.runs

    contents : new.contents ≡ with_empty_records called.kind.pooled s.contents
    contents = emptied_pool ∙ ap (λ is. with_empty_records is s.contents) (sym first.0.meets)

    lies : (i : ℕ) → LiesAsTold new.board new.contents (contents_from (contents_of h) (entries_of 0 called.events)) i
    lies i =
        subst (λ (fs : List Event). LiesAsTold new.board new.contents (contents_from (contents_of h) (entries_of 0 fs)) i) (sym called.kind.is)
        (subst (λ (c : List (Option Filling)). LiesAsTold new.board c (contents_from (contents_of h) (entries_of 0 called.kind.rest)) i) (sym contents)
        (filled_lies new.board s.contents s.contents (contents_of h) 0 called.kind.pooled called.kind.rest (λ n. refl)
        (λ n. lies_after s new.board 0 (FlushesAsLying s.contents) (contents_of h) n caller_apart called (left.lies n)) called.kind.fills i))
