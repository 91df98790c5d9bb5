-- What claims and drops by a mode leave: hands, words, and what lies at the places.
use Rattle.std.proofs.Common.{◌≡◌, ◌≢◌, ◌⊎◌, inl, inr, ℕ, ◌≤◌, Bool, true, false, List, [], ◌∷◌, ◌++◌, length, get_or, Option, Some, None, refl, sym, ap, subst, ◌∙◌, arith}
use Rattle.std.specs.Prelude.{⊤}
use Rattle.std.specs.List.{AllByRecursion}
use Rattle.gev_types.specs.Filling.{Filling}
use Rattle.gentl_types.specs.declared.word.Word.{Word}
use Rattle.board_machine.specs.declared.events.Entry.{Entry}
use Rattle.board_machine.specs.declared.events.Event.{Event}
use Rattle.board_machine.specs.declared.events.Event.TheVariants.{Claim, Take, Pool}
use Rattle.board_machine.specs.declared.events.TakeEnd.{TakeEnd}
use Rattle.board_machine.specs.declared.events.TakeEnd.TheVariants as taken
use Rattle.board_machine.specs.Places.{times, same, put_in}
use Rattle.board_machine.specs.Machine.{Board, Item, item, IsActor, InHand, hand, word_at, vacant, places, entry, next}
use Rattle.board_machine.specs.Adding.{entries_of, Adds, KeepsActors}
use Rattle.board_machine.specs.Histories.{RunsFrom, after_from}
use Rattle.board_machine.specs.Owners.{IsCounted}
use Rattle.board_machine.proofs.Adding.{EndNobody, list_keeps}
use Rattle.board_machine.proofs.Boards.{in_hand_of-le}
use Rattle.board_machine.proofs.Counts.{due_le}
use Rattle.board_machine.proofs.Places.{same_self, times-put}
use Rattle.board_machine.proofs.Runs.{stands_lists}
use Rattle.board_model.specs.Plain.{PlainState}
use Rattle.board_model.proofs.CallsHands.{times_set}
use Rattle.board_model.specs.Steps.{KeepsHeld}
use Rattle.board_model.proofs.Parts.{keeps_same, keeps_then, keeps_dropped}
use Rattle.acquisition_machine.specs.Blocks.{Given}
use Rattle.board_calls.specs.declared.mode.Mode.{Mode}
use Rattle.board_calls.specs.declared.mode.Mode.TheVariants.{OldestFirst, OldestFirstOverwrite, NewestOnly}
use Rattle.board_calls.specs.Modes.{GotNothing, ClaimsOnly, ClaimsOrTakes, ClaimsFor, takes_and_pools, DropsUntilNothing, DropsAll, DropsFor}
use Rattle.script_trace.specs.Trace.{acquirer}
use Rattle.script_trace.specs.Contents.{content_after, contents_of, contents_from}
use Rattle.script_trace.specs.Modes.{dropped}
use Rattle.script_trace.proofs.Quiet.{IsQuiet, AreQuiet, drops_quiet}
use Rattle.script_replay.specs.declared.fill_counts.FillCounts.{FillCounts}
use Rattle.script_replay.specs.Boards.{LiesAsTold, IsLeftBy}
use Rattle.script_replay.specs.Acquiring.{IsAway, AreAway, with_board}
use Rattle.script_replay.specs.Counting.{with_dropped, counted_claim, counted_on, blocks_in, counted_in}
use Rattle.script_replay.proofs.Lines.{contents-append}

-- ---- what lies at the places stays

one_stays : (c : List (Option Filling)) (e : Event) → IsQuiet e → content_after c e ≡ c
one_stays c (Claim answer) h = refl
one_stays c (Take end) h = refl
one_stays c (Pool i) h = refl
one_stays c _ h = absurd h

pub contents_quiet : (c : List (Option Filling)) (k : ℕ) (es : List Event) → AreQuiet es → contents_from c (entries_of k es) ≡ c
contents_quiet c k [] h = refl
contents_quiet c k (e ∷ es) h = ap (λ d. contents_from d (entries_of k es)) (one_stays c e h.0) ∙ contents_quiet c k es h.1

-- ---- claims and takes

abbrev IsGetting : Event → Type 0
IsGetting (Claim answer) = ⊤
IsGetting (Take end) = ⊤
IsGetting _ = ⊥

abbrev AreGetting : List Event → Type 0
AreGetting es = AllByRecursion IsGetting es

-- The words stay, and the acquisition has in hand what it had.
pub record Keeps (b new : Board) : Type 0 where
  pub words : new.words ≡ b.words
  pub hands : (i : ℕ) → times i (hand b acquirer) ≤ times i (hand new acquirer)

keeps_all : (b : Board) → Keeps b b
keeps_all b = record { words = refl; hands = λ i. omega arith }

pub keeps_as : (b new : Board) → new ≡ b → Keeps b new
keeps_as b new is = subst (Keeps b) (sym is) (keeps_all b)

one_gets : (b : Board) (e : Event) → IsActor b acquirer → IsGetting e → Keeps b (next b (entry acquirer e))
one_gets b (Claim None) actor h = keeps_all b
one_gets b (Claim (Some j)) actor h = record {
  words = refl;
  hands = λ i. omega (arith, times_set b acquirer i (put_in j (hand b acquirer)) actor, times-put i j (hand b acquirer));
}
one_gets b (Take taken.Empty) actor h = keeps_all b
one_gets b (Take taken.Closed) actor h = keeps_all b
one_gets b (Take (taken.Taken j)) actor h = record {
  words = refl;
  hands = λ i. omega (arith, times_set b acquirer i (put_in j (hand b acquirer)) actor, times-put i j (hand b acquirer));
}
one_gets b _ actor h = absurd h

all_get : (b : Board) (es : List Event) → AreGetting es → RunsFrom b (entries_of acquirer es) → Keeps b (after_from b (entries_of acquirer es))
all_get b [] h runs = keeps_all b
all_get b (e ∷ es) h runs =
    let one : Keeps b (next b (entry acquirer e)) = one_gets b e runs.0.actor h.0 in
    let more : Keeps (next b (entry acquirer e)) (after_from b (entries_of acquirer (e ∷ es))) = all_get (next b (entry acquirer e)) es h.1 runs.1 in
    record { words = more.words ∙ one.words; hands = λ i. omega (arith, one.hands i, more.hands i) }

only_gets : (claim : Option (ℕ × Bool)) (es : List Event) → ClaimsOnly claim es → AreGetting es
only_gets None es is = subst AreGetting (sym is) (tt, tt)
only_gets (Some (i, false)) es is = subst AreGetting (sym is) (tt, tt)
only_gets (Some (i, true)) es is = absurd is

takes_get : (claim : Option (ℕ × Bool)) (es : List Event) → ClaimsOrTakes claim es → AreGetting es
takes_get None es (end, nothing, is) = subst AreGetting (sym is) (tt, (tt, tt))
takes_get (Some (i, false)) es is = subst AreGetting (sym is) (tt, tt)
takes_get (Some (i, true)) es is = subst AreGetting (sym is) (tt, (tt, tt))

claims_get : (mode : Mode) (claim : Option (ℕ × Bool)) (es : List Event) → ClaimsFor mode claim es → AreGetting es
claims_get OldestFirst claim es claims = only_gets claim es claims
claims_get OldestFirstOverwrite claim es claims = takes_get claim es claims
claims_get NewestOnly claim es claims = takes_get claim es claims

pub claims_keep : (mode : Mode) (claim : Option (ℕ × Bool)) (es : List Event) (b new : Board) → ClaimsFor mode claim es → Adds b acquirer es new → Keeps b new
claims_keep mode claim es b new claims adds = subst (Keeps b) (sym adds.after) (all_get b es (claims_get mode claim es claims) adds.runs)

getting_ends : (es : List Event) → AreGetting es → EndNobody es
getting_ends [] h = tt
getting_ends (Claim answer ∷ es) h = (tt, getting_ends es h.1)
getting_ends (Take end ∷ es) h = (tt, getting_ends es h.1)
getting_ends (_ ∷ es) h = absurd h.0

pub claims_actors : (mode : Mode) (claim : Option (ℕ × Bool)) (es : List Event) (b new : Board) → ClaimsFor mode claim es → Adds b acquirer es new → KeepsActors b new
claims_actors mode claim es b new claims adds = list_keeps b new acquirer es (getting_ends es (claims_get mode claim es claims)) adds

-- a place that stands in the pool or in the output is in no hand
pool_apart : (b : Board) (i j : ℕ) (rest : List ℕ) → IsCounted b → b.pool ≡ j ∷ rest → InHand b acquirer i → i ≢ j
pool_apart b i j rest owned is has e =
    let pooled : 1 ≤ times j b.pool = subst (λ (is : List ℕ). 1 ≤ times j is) (sym is) (let one : same j j ≡ 1 = same_self j in omega (arith, one)) in
    let mine : 1 ≤ times j (hand b acquirer) = subst (λ n. 1 ≤ times n (hand b acquirer)) e has in
    omega (arith, pooled, mine, in_hand_of-le j b.hands acquirer, owned.once j, due_le (word_at b j).state)

out_apart : (b : Board) (i j : ℕ) (f : Filling) (rest : List Item) → IsCounted b → b.out ≡ item j f ∷ rest → InHand b acquirer i → i ≢ j
out_apart b i j f rest owned is has e =
    let waits : 1 ≤ times j (places b.out) = subst (λ (xs : List Item). 1 ≤ times j (places xs)) (sym is) (let one : same j j ≡ 1 = same_self j in omega (arith, one)) in
    let mine : 1 ≤ times j (hand b acquirer) = subst (λ n. 1 ≤ times n (hand b acquirer)) e has in
    omega (arith, waits, mine, in_hand_of-le j b.hands acquirer, owned.once j, due_le (word_at b j).state)

from_pool : (b : Board) (i j : ℕ) (es : List Event) → IsCounted b → es ≡ Claim (Some j) ∷ [] → RunsFrom b (entries_of acquirer es) → InHand b acquirer i → i ≢ j
from_pool b i j es owned is runs has =
    let first : RunsFrom b (entries_of acquirer (Claim (Some j) ∷ [])) = subst (λ fs. RunsFrom b (entries_of acquirer fs)) is runs in
    pool_apart b i j first.0.meets.0 owned first.0.meets.1 has

from_output : (b : Board) (i j : ℕ) (es : List Event) → IsCounted b → es ≡ Claim None ∷ Take (taken.Taken j) ∷ [] → RunsFrom b (entries_of acquirer es) → InHand b acquirer i → i ≢ j
from_output b i j es owned is runs has =
    let both : RunsFrom b (entries_of acquirer (Claim None ∷ Take (taken.Taken j) ∷ [])) = subst (λ fs. RunsFrom b (entries_of acquirer fs)) is runs in
    let out = both.1.0.meets.1 in
    out_apart b i j out.0 out.1 owned out.2 has

only_apart : (b : Board) (i j : ℕ) (was_dropped : Bool) (es : List Event) → IsCounted b → ClaimsOnly (Some (j, was_dropped)) es → RunsFrom b (entries_of acquirer es) → InHand b acquirer i → i ≢ j
only_apart b i j false es owned is runs has = from_pool b i j es owned is runs has
only_apart b i j true es owned is runs has = absurd is

takes_apart : (b : Board) (i j : ℕ) (was_dropped : Bool) (es : List Event) → IsCounted b → ClaimsOrTakes (Some (j, was_dropped)) es → RunsFrom b (entries_of acquirer es) → InHand b acquirer i → i ≢ j
takes_apart b i j false es owned is runs has = from_pool b i j es owned is runs has
takes_apart b i j true es owned is runs has = from_output b i j es owned is runs has

-- a claimed place was in no hand
pub claims_apart : (mode : Mode) (b : Board) (i j : ℕ) (was_dropped : Bool) (es : List Event) → IsCounted b → ClaimsFor mode (Some (j, was_dropped)) es → RunsFrom b (entries_of acquirer es) → InHand b acquirer i → i ≢ j
claims_apart OldestFirst b i j was_dropped es owned claims runs has = only_apart b i j was_dropped es owned claims runs has
claims_apart OldestFirstOverwrite b i j was_dropped es owned claims runs has = takes_apart b i j was_dropped es owned claims runs has
claims_apart NewestOnly b i j was_dropped es owned claims runs has = takes_apart b i j was_dropped es owned claims runs has

-- ---- how many a claim drops

abbrev claimed : Option (ℕ × Bool) → Bool
claimed None = false
claimed (Some got) = got.1

abbrev CountsAs : FillCounts → Bool → List Event → Type 0
CountsAs a was_dropped es = counted_in a (entries_of acquirer es) ≡ counted_claim a was_dropped

counts_along : (a : FillCounts) (was_dropped : Bool) (es fs : List Event) → es ≡ fs → CountsAs a was_dropped fs → CountsAs a was_dropped es
counts_along a was_dropped es fs is h = subst (CountsAs a was_dropped) (sym is) h

counts_none : (a : FillCounts) (end : TakeEnd) → GotNothing end → CountsAs a false (Claim None ∷ Take end ∷ [])
counts_none a (taken.Taken i) nothing = absurd nothing
counts_none a taken.Empty nothing = refl
counts_none a taken.Closed nothing = refl

only_counts : (a : FillCounts) (claim : Option (ℕ × Bool)) (es : List Event) → ClaimsOnly claim es → CountsAs a (claimed claim) es
only_counts a None es is = counts_along a false es (Claim None ∷ []) is refl
only_counts a (Some (i, false)) es is = counts_along a false es (Claim (Some i) ∷ []) is refl
only_counts a (Some (i, true)) es is = absurd is

takes_count : (a : FillCounts) (claim : Option (ℕ × Bool)) (es : List Event) → ClaimsOrTakes claim es → CountsAs a (claimed claim) es
takes_count a None es (end, nothing, is) = counts_along a false es (Claim None ∷ Take end ∷ []) is (counts_none a end nothing)
takes_count a (Some (i, false)) es is = counts_along a false es (Claim (Some i) ∷ []) is refl
takes_count a (Some (i, true)) es is = counts_along a true es (Claim None ∷ Take (taken.Taken i) ∷ []) is refl

claims_count : (mode : Mode) (a : FillCounts) (claim : Option (ℕ × Bool)) (es : List Event) → ClaimsFor mode claim es → CountsAs a (claimed claim) es
claims_count OldestFirst a claim es claims = only_counts a claim es claims
claims_count OldestFirstOverwrite a claim es claims = takes_count a claim es claims
claims_count NewestOnly a claim es claims = takes_count a claim es claims

pub none_counted : (mode : Mode) (a : FillCounts) (es : List Event) → ClaimsFor mode None es → a ≡ counted_in a (entries_of acquirer es)
none_counted mode a es claims = sym (claims_count mode a None es claims)

pub some_counted : (mode : Mode) (a b : FillCounts) (i : ℕ) (was_dropped : Bool) (es : List Event) → ClaimsFor mode (Some (i, was_dropped)) es → b ≡ counted_claim a was_dropped → b ≡ counted_in a (entries_of acquirer es)
some_counted mode a b i was_dropped es claims is = is ∙ sym (claims_count mode a (Some (i, was_dropped)) es claims)

-- ---- drops

end_keeps : (b new : Board) (end : TakeEnd) → GotNothing end → Adds b acquirer (Take end ∷ []) new → KeepsHeld b acquirer new
end_keeps b new (taken.Taken i) nothing adds = absurd nothing
end_keeps b new taken.Empty nothing adds = keeps_same b new acquirer adds.after
end_keeps b new taken.Closed nothing adds = keeps_same b new acquirer adds.after

places_keep : (b new : Board) (is : List ℕ) (tail : List Event) → ((c : Board) → Adds c acquirer tail new → KeepsHeld c acquirer new) → Adds b acquirer (takes_and_pools is ++ tail) new → KeepsHeld b acquirer new
places_keep b new [] tail last adds = last b adds
places_keep b new (i ∷ is) tail last adds =
    let first : Board = next b (entry acquirer (Take (taken.Taken i))) in
    let second : Board = next first (entry acquirer (Pool i)) in
    keeps_then b second new acquirer
    (keeps_dropped b first second acquirer i (record { may = adds.runs.0; after = refl }) (record { may = adds.runs.1.0; after = refl }))
    (places_keep second new is tail last (record { runs = adds.runs.1.1; after = adds.after }))

newest_keep : (b new : Board) (is : List ℕ) (es : List Event) → DropsUntilNothing is es ⊎ DropsAll is es → Adds b acquirer es new → KeepsHeld b acquirer new
newest_keep b new is es (inl d) adds =
    places_keep b new is (Take d.end ∷ []) (λ c last. end_keeps c new d.end d.nothing last) (subst (λ fs. Adds b acquirer fs new) d.is adds)
newest_keep b new is es (inr d) adds =
    places_keep b new is [] (λ c last. keeps_same c new acquirer last.after) (subst (λ fs. Adds b acquirer fs new) (d.is ∙ sym (all_of (takes_and_pools is))) adds)
  where
    all_of : (fs : List Event) → fs ++ [] ≡ fs
    all_of [] = refl
    all_of (f ∷ fs) = ap (λ l. f ∷ l) (all_of fs)

pub drops_keep : (mode : Mode) (b new : Board) (is : List ℕ) (es : List Event) → DropsFor mode is es → Adds b acquirer es new → KeepsHeld b acquirer new
drops_keep OldestFirst b new is es (none, no_events) adds = keeps_same b new acquirer (adds.after ∙ ap (λ fs. after_from b (entries_of acquirer fs)) no_events)
drops_keep OldestFirstOverwrite b new is es (none, no_events) adds = keeps_same b new acquirer (adds.after ∙ ap (λ fs. after_from b (entries_of acquirer fs)) no_events)
drops_keep NewestOnly b new is es drops adds = newest_keep b new is es drops adds

quiet_ends : (es : List Event) → AreQuiet es → EndNobody es
quiet_ends [] h = tt
quiet_ends (Claim answer ∷ es) h = (tt, quiet_ends es h.1)
quiet_ends (Take end ∷ es) h = (tt, quiet_ends es h.1)
quiet_ends (Pool i ∷ es) h = (tt, quiet_ends es h.1)
quiet_ends (_ ∷ es) h = absurd h.0

pub drops_actors : (mode : Mode) (b new : Board) (is : List ℕ) (es : List Event) → DropsFor mode is es → Adds b acquirer es new → KeepsActors b new
drops_actors mode b new is es drops adds = list_keeps b new acquirer es (quiet_ends es (drops_quiet mode is es drops)) adds

end_drops : (end : TakeEnd) → GotNothing end → dropped (entries_of acquirer (Take end ∷ [])) ≡ []
end_drops (taken.Taken i) nothing = absurd nothing
end_drops taken.Empty nothing = refl
end_drops taken.Closed nothing = refl

places_dropped : (is : List ℕ) (tail : List Event) → dropped (entries_of acquirer tail) ≡ [] → dropped (entries_of acquirer (takes_and_pools is ++ tail)) ≡ is
places_dropped [] tail none = none
places_dropped (i ∷ is) tail none = ap (λ js. i ∷ js) (places_dropped is tail none)

newest_dropped : (is : List ℕ) (es : List Event) → DropsUntilNothing is es ⊎ DropsAll is es → dropped (entries_of acquirer es) ≡ is
newest_dropped is es (inl d) = ap (λ fs. dropped (entries_of acquirer fs)) d.is ∙ places_dropped is (Take d.end ∷ []) (end_drops d.end d.nothing)
newest_dropped is es (inr d) = ap (λ fs. dropped (entries_of acquirer fs)) d.is ∙ none_behind is
  where
    none_behind : (js : List ℕ) → dropped (entries_of acquirer (takes_and_pools js)) ≡ js
    none_behind [] = refl
    none_behind (j ∷ js) = ap (λ ks. j ∷ ks) (none_behind js)

drops_told : (mode : Mode) (is : List ℕ) (es : List Event) → DropsFor mode is es → dropped (entries_of acquirer es) ≡ is
drops_told OldestFirst is es (none, no_events) = ap (λ fs. dropped (entries_of acquirer fs)) no_events ∙ sym none
drops_told OldestFirstOverwrite is es (none, no_events) = ap (λ fs. dropped (entries_of acquirer fs)) no_events ∙ sym none
drops_told NewestOnly is es drops = newest_dropped is es drops

no_blocks : (es : List Event) → AreQuiet es → blocks_in (entries_of acquirer es) ≡ []
no_blocks [] h = refl
no_blocks (Claim answer ∷ es) h = no_blocks es h.1
no_blocks (Take end ∷ es) h = no_blocks es h.1
no_blocks (Pool i ∷ es) h = no_blocks es h.1
no_blocks (_ ∷ es) h = absurd h.0

pub drops_count : (mode : Mode) (a : FillCounts) (is : List ℕ) (es : List Event) → DropsFor mode is es → counted_in a (entries_of acquirer es) ≡ with_dropped a (length is)
drops_count mode a is es drops =
    let quiet : AreQuiet es = drops_quiet mode is es drops in
    ap (λ xs. with_dropped (counted_on a xs) (length (dropped (entries_of acquirer es)))) (no_blocks es quiet) ∙ ap (λ js. with_dropped a (length js)) (drops_told mode is es drops)

-- ---- the acquisition's buffers

away_one : (s : PlainState) (mid : Board) (g : Given) → KeepsHeld s.board acquirer mid → IsAway s g → IsAway (with_board s mid) g
away_one s mid g held away = record {
  in_hand = omega (arith, held.hands g.place, away.in_hand);
  lifted = away.lifted;
  size = away.size ∙ ap (λ (ws : List Word). (get_or ws g.place vacant).size) (sym held.words);
  within = away.within;
}

pub away_held : (s : PlainState) (mid : Board) (gs : List Given) → KeepsHeld s.board acquirer mid → AreAway s gs → AreAway (with_board s mid) gs
away_held s mid [] held away = away
away_held s mid (g ∷ gs) held away = (away_one s mid g held away.0, away.1, away_held s mid gs held away.2)

pub left_held : (mode : Mode) (s : PlainState) (mid : Board) (h : List Entry) (is : List ℕ) (es : List Event) → DropsFor mode is es → Adds s.board acquirer es mid → IsLeftBy s h → IsLeftBy (with_board s mid) (h ++ entries_of acquirer es)
left_held mode s mid h is es drops adds left =
    let held : KeepsHeld s.board acquirer mid = drops_keep mode s.board mid is es drops adds in
    record {
      board = stands_lists s.board mid h acquirer es left.board adds;
      lies = λ i. subst (λ (told : List (Option Filling)). LiesAsTold mid s.contents told i)
          (sym (contents-append _ h (entries_of acquirer es) ∙ contents_quiet (contents_of h) acquirer es (drops_quiet mode is es drops)))
          (stays i held (left.lies i));
    }
  where
    stays : (i : ℕ) → KeepsHeld s.board acquirer mid → LiesAsTold s.board s.contents (contents_of h) i → LiesAsTold mid s.contents (contents_of h) i
    stays i held (inl e) = inl e
    stays i held (inr lifted) = let mine = lifted.1 in inr (lifted.0, omega (arith, held.hands i, mine))
