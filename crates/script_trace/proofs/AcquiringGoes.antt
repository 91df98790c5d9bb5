-- What the acquisition does can be done on the board: the buffers of its open blocks are in its hands.
use Rattle.std.proofs.Common.{◌≡◌, ◌⊎◌, inl, inr, ℕ, zero, suc, ◌+◌, ◌≤◌, Bool, true, false, List, [], ◌∷◌, ◌++◌, map, Option, Some, None, refl, sym, ap, subst, ◌∙◌, append-nil, arith}
use Rattle.std.specs.List.{AllByRecursion}
use Rattle.std.proofs.lemmas.Bool.{cases_Bool}
use Rattle.gev_types.specs.Filling.{Filling}
use Rattle.gev_types.specs.Limits.{place_count}
use Rattle.board_machine.specs.declared.events.Entry.{Entry}
use Rattle.board_machine.specs.declared.events.Event.{Event}
use Rattle.board_machine.specs.declared.events.Event.TheVariants.{Claim, Take, Pool}
use Rattle.board_machine.specs.declared.events.TakeEnd.{TakeEnd}
use Rattle.board_machine.specs.declared.events.TakeEnd.TheVariants as end
use Rattle.board_machine.specs.Places.{same, times}
use Rattle.board_machine.specs.Machine.{Board, Item, word_at, hand, IsActor, InHand, after_event}
use Rattle.board_machine.specs.Histories.{RunsFrom, after_from, own_of}
use Rattle.board_machine.specs.Owners.{IsCounted}
use Rattle.board_machine.proofs.Others.{others_run}
use Rattle.board_calls.specs.Rounds.{filled_or_laid}
use Rattle.acquisition_machine.specs.declared.retired.Retired.{Retired}
use Rattle.acquisition_machine.specs.Blocks.{Given}
use Rattle.acquisition_machine.specs.TurnLaws.{given_of, HasOneMore, TakesGiven}
use Rattle.board_calls.specs.declared.mode.Mode.{Mode}
use Rattle.board_calls.specs.declared.mode.Mode.TheVariants.{OldestFirst, OldestFirstOverwrite, NewestOnly}
use Rattle.board_calls.specs.Modes.{takes_and_pools, DropsFor, ClaimsFor}
use Rattle.script_trace.specs.Trace.{acquirer}
use Rattle.script_trace.specs.Modes.{FillsInMode, place_of}
use Rattle.script_trace.specs.StreamLines.{outcome}
use Rattle.script_trace.proofs.Doing.{Goes, Has, after_events, after_both, goes_none, goes_first, goes_last, goes_both, has_first, has_rest, picked, dropped, just_picked}
use Rattle.script_trace.proofs.Trees.{EndsDrops}
use Rattle.script_trace.proofs.Quiet.{fills_block}
use Rattle.script_trace.proofs.FlushesGo.{FillsSo, fill_can}

abbrev pub places_of : List Given → List ℕ
places_of [] = []
places_of (g ∷ gs) = g.place ∷ places_of gs

-- its size is its word's
abbrev IsSized : Board → Given → Type 0
IsSized b g = g.size ≡ (word_at b g.place).size

-- These buffers are in the hands of the acquisition, with the sizes that their words have.
pub record Holds (b : Board) (gs : List Given) : Type 0 where
  pub there : Has b acquirer (places_of gs)
  pub sized : AllByRecursion (IsSized b) gs

pub holds_none : (b : Board) → Holds b []
holds_none b = record { there = λ j. omega arith; sized = tt }

same_sizes : (b new : Board) (gs : List Given) → ((j : ℕ) → (word_at new j).size ≡ (word_at b j).size) → AllByRecursion (IsSized b) gs → AllByRecursion (IsSized new) gs
same_sizes b new [] same sized = tt
same_sizes b new (g ∷ gs) same sized = (sized.0 ∙ sym (same g.place), same_sizes b new gs same sized.1)

-- ---- what others do

hold_each : (b new : Board) (gs : List Given) → ((i : ℕ) → InHand b acquirer i → word_at new i ≡ word_at b i) → Has b acquirer (places_of gs)
    → AllByRecursion (IsSized b) gs → AllByRecursion (IsSized new) gs
hold_each b new [] same there sized = tt
hold_each b new (g ∷ gs) same there sized = (
  sized.0 ∙ sym (ap (λ w. w.size) (same g.place (has_first b acquirer g.place (places_of gs) there))),
  hold_each b new gs same (λ j. omega (arith, there j)) sized.1,
)

pub others_hold : (b : Board) (h : List Entry) (gs : List Given) → IsCounted b → RunsFrom b h → own_of acquirer h ≡ [] → Holds b gs → Holds (after_from b h) gs
others_hold b h gs owned runs none holds =
    let kept = others_run b acquirer h owned runs none in
    record {
      there = λ j. let moved : times j (hand (after_from b h) acquirer) ≡ times j (hand b acquirer) = ap (times j) kept.0 in omega (arith, moved, holds.there j);
      sized = hold_each b (after_from b h) gs kept.1 holds.there holds.sized;
    }

-- ---- drops

-- the board from which these events went, with the same hands and words
pub record Passes (c : List (Option Filling)) (b : Board) (events : List Event) : Type 0 where
  pub goes : Goes c b acquirer events
  pub hands : (j : ℕ) → times j (hand (after_events b acquirer events) acquirer) ≡ times j (hand b acquirer)
  pub words : (after_events b acquirer events).words ≡ b.words
  pub actor : IsActor (after_events b acquirer events) acquirer

passes_none : (c : List (Option Filling)) (b : Board) → IsActor b acquirer → Passes c b []
passes_none c b actor = record { goes = goes_none c b acquirer; hands = λ j. refl; words = refl; actor = actor }

passes_both : (c : List (Option Filling)) (b : Board) (es fs : List Event) → Passes c b es → Passes c (after_events b acquirer es) fs → Passes c b (es ++ fs)
passes_both c b es fs first more =
    let last : after_events b acquirer (es ++ fs) ≡ after_events (after_events b acquirer es) acquirer fs = after_both b acquirer es fs in
    record {
      goes = goes_both c b acquirer es fs first.goes more.goes;
      hands = λ j. ap (λ u. times j (hand u acquirer)) last ∙ (more.hands j ∙ first.hands j);
      words = ap (λ u. u.words) last ∙ (more.words ∙ first.words);
      actor = subst (λ u. IsActor u acquirer) (sym last) more.actor;
    }

-- at most so many places are dropped
record DropsSo (c : List (Option Filling)) (b : Board) (n : ℕ) : Type 0 where
  places : List ℕ
  tail : List Event
  ends : EndsDrops n places tail
  passes : Passes c b (takes_and_pools places ++ tail)

one_dropped : (c : List (Option Filling)) (b : Board) (x : Item) (rest : List Item) → IsActor b acquirer → b.closed ≡ false → b.out ≡ x ∷ rest
    → Passes c b (Take (end.Taken x.place) ∷ Pool x.place ∷ [])
one_dropped c b x rest actor opened is =
    let i : ℕ = x.place in
    let mid : Board = after_event b acquirer (Take (end.Taken i)) in
    let stays : IsActor mid acquirer = (goes_last c b acquirer (Take (end.Taken i)) actor (opened, (x.filling, rest, is)) tt tt).actors acquirer actor in
    let mine : InHand mid acquirer i = just_picked b acquirer i actor in
    let goes : Goes c b acquirer (Take (end.Taken i) ∷ Pool i ∷ []) =
    goes_first c b acquirer (Take (end.Taken i)) (Pool i ∷ []) actor (opened, (x.filling, rest, is)) tt tt
    (λ now. goes_last c mid acquirer (Pool i) now mine tt tt) in
    record {
      goes = goes;
      hands = λ j. omega (arith, picked b acquirer i j actor, dropped mid acquirer i j stays mine);
      words = refl;
      actor = goes.actors acquirer actor;
    }

one_more : (n i : ℕ) (is : List ℕ) (tail : List Event) → EndsDrops n is tail → EndsDrops (suc n) (i ∷ is) tail
one_more n i is tail (inl (end, nothing, few, is_tail)) = inl (end, nothing, omega (arith, few), is_tail)
one_more n i is tail (inr (all, is_tail)) = inr (omega (arith, all), is_tail)

drops_none : (c : List (Option Filling)) (b : Board) (n : ℕ) (end : TakeEnd) → IsActor b acquirer → Goes c b acquirer (Take end ∷ []) → EndsDrops (suc n) [] (Take end ∷ [])
    → ((j : ℕ) → times j (hand (after_events b acquirer (Take end ∷ [])) acquirer) ≡ times j (hand b acquirer))
    → (after_events b acquirer (Take end ∷ [])).words ≡ b.words → DropsSo c b (suc n)
drops_none c b n end actor goes ends hands words = record {
  places = [];
  tail = Take end ∷ [];
  ends = ends;
  passes = record { goes = goes; hands = hands; words = words; actor = goes.actors acquirer actor };
}

drops_can : (c : List (Option Filling)) (n : ℕ) (b : Board) → IsActor b acquirer → DropsSo c b n
drops_can c zero b actor = record { places = []; tail = []; ends = inr (refl, refl); passes = passes_none c b actor }
drops_can c (suc n) b actor = go (cases_Bool b.closed) b.out refl (λ new stays. drops_can c n new stays)
  where
    go : (b.closed ≡ true) ⊎ (b.closed ≡ false) → (out : List Item) → b.out ≡ out → ((new : Board) → IsActor new acquirer → DropsSo c new n) → DropsSo c b (suc n)
    go (inl closed) out is later =
        drops_none c b n end.Closed actor (goes_last c b acquirer (Take end.Closed) actor closed tt tt) (inl (end.Closed, tt, omega arith, refl)) (λ j. refl) refl
    go (inr opened) [] is later =
        drops_none c b n end.Empty actor (goes_last c b acquirer (Take end.Empty) actor (opened, is) tt tt) (inl (end.Empty, tt, omega arith, refl)) (λ j. refl) refl
    go (inr opened) (x ∷ rest) is later =
        let two : List Event = Take (end.Taken x.place) ∷ Pool x.place ∷ [] in
        let first : Passes c b two = one_dropped c b x rest actor opened is in
        let more : DropsSo c (after_events b acquirer two) n = later (after_events b acquirer two) first.actor in
        record {
          places = x.place ∷ more.places;
          tail = more.tail;
          ends = one_more n x.place more.places more.tail more.ends;
          passes = passes_both c b two (takes_and_pools more.places ++ more.tail) first more.passes;
        }

-- what the mode drops before a fill can be dropped
record DropsByMode (c : List (Option Filling)) (b : Board) (mode : Mode) : Type 0 where
  places : List ℕ
  front : List Event
  drops : DropsFor mode places front
  passes : Passes c b front

newest_drops : (c : List (Option Filling)) (b : Board) (places : List ℕ) (tail : List Event) → EndsDrops place_count places tail
    → Passes c b (takes_and_pools places ++ tail) → DropsByMode c b NewestOnly
newest_drops c b places tail (inl (end, nothing, few, is)) passes = record {
  places = places;
  front = takes_and_pools places ++ tail;
  drops = inl (record { end = end; nothing = nothing; few = few; is = ap (λ l. takes_and_pools places ++ l) is });
  passes = passes;
}
newest_drops c b places tail (inr (all, is)) passes = record {
  places = places;
  front = takes_and_pools places ++ tail;
  drops = inr (record { all = all; is = ap (λ l. takes_and_pools places ++ l) is ∙ append-nil (takes_and_pools places) });
  passes = passes;
}

mode_drops : (c : List (Option Filling)) (b : Board) (mode : Mode) → IsActor b acquirer → DropsByMode c b mode
mode_drops c b OldestFirst actor = record { places = []; front = []; drops = (refl, refl); passes = passes_none c b actor }
mode_drops c b OldestFirstOverwrite actor = record { places = []; front = []; drops = (refl, refl); passes = passes_none c b actor }
mode_drops c b NewestOnly actor =
    let so : DropsSo c b place_count = drops_can c place_count b actor in
    newest_drops c b so.places so.tail so.ends so.passes

-- ---- fills

-- What retires is filled by the mode, and the rest is held.
pub record FillsAll (c : List (Option Filling)) (mode : Mode) (b : Board) (xs : List Retired) (rest : List Given) : Type 0 where
  pub events : List Event
  pub filled : FillsInMode mode xs events
  pub goes : Goes c b acquirer events
  pub holds : Holds (after_events b acquirer events) rest
  pub sizes : (j : ℕ) → (word_at (after_events b acquirer events) j).size ≡ (word_at b j).size
  pub actor : IsActor (after_events b acquirer events) acquirer

still_held : (b new : Board) (gs hs : List Given) → new.words ≡ b.words → ((j : ℕ) → times j (hand b acquirer) ≤ times j (hand new acquirer)) → hs ≡ gs → Holds b gs → Holds new hs
still_held b new gs hs words hands is holds =
    subst (Holds new) (sym is) (record {
      there = λ j. omega (arith, hands j, holds.there j);
      sized = same_sizes b new gs (λ j. ap (λ ws. (word_at (record b { words = ws }) j).size) words) holds.sized;
    })

pub fills_all : (c : List (Option Filling)) (mode : Mode) (xs : List Retired) (b : Board) (rest : List Given) → IsActor b acquirer → Holds b (map given_of xs ++ rest)
    → FillsAll c mode b xs rest
fills_all c mode [] b rest actor holds = record {
  events = [];
  filled = refl;
  goes = goes_none c b acquirer;
  holds = holds;
  sizes = λ j. refl;
  actor = actor;
}
fills_all c mode (x ∷ xs) b rest actor holds =
    let gs : List Given = map given_of xs ++ rest in
    let so : DropsByMode c b mode = mode_drops c b mode actor in
    let bare : Board = after_events b acquirer so.front in
    let held : Holds bare (given_of x ∷ gs) =
    still_held b bare (given_of x ∷ gs) (given_of x ∷ gs) so.passes.words (λ j. omega (arith, so.passes.hands j)) refl holds in
    let first : FillsSo c bare acquirer x.place x.buf =
    fill_can c bare acquirer x.place x.buf so.passes.actor (has_first bare acquirer x.place (places_of gs) held.there) held.sized.0 (inl refl) in
    let fill : List Event = filled_or_laid x.place x.buf first.filled in
    let es : List Event = so.front ++ fill in
    let mid : Board = after_events bare acquirer fill in
    let more : FillsAll c mode mid xs rest =
    fills_all c mode xs mid rest first.actor (record {
      there = has_rest bare acquirer x.place (places_of gs) _ first.left held.there;
      sized = same_sizes bare mid gs first.sizes held.sized.1;
    }) in
    let both : after_events b acquirer es ≡ mid = after_both b acquirer so.front fill in
    let goes : Goes c b acquirer es = goes_both c b acquirer so.front fill so.passes.goes first.goes in
    let last : after_events b acquirer (es ++ more.events) ≡ after_events mid acquirer more.events =
    after_both b acquirer es more.events ∙ ap (λ u. after_events u acquirer more.events) both in
    record {
      events = es ++ more.events;
      filled = (es, more.events, refl, fills_block mode x so.places so.front first.filled so.drops, more.filled);
      goes = goes_both c b acquirer es more.events goes (subst (λ u. Goes c u acquirer more.events) (sym both) more.goes);
      holds = subst (λ u. Holds u rest) (sym last) more.holds;
      sizes = λ j.
          ap (λ u. (word_at u j).size) last
          ∙ (more.sizes j ∙ (first.sizes j ∙ ap (λ ws. (word_at (record b { words = ws }) j).size) so.passes.words));
      actor = subst (λ u. IsActor u acquirer) (sym last) more.actor;
    }

-- ---- a claim

places-append : (gs hs : List Given) → places_of (gs ++ hs) ≡ places_of gs ++ places_of hs
places-append [] hs = refl
places-append (g ∷ gs) hs = ap (λ is. g.place ∷ is) (places-append gs hs)

sized_both : (b : Board) (front back : List Given) (g : Given) → IsSized b g → AllByRecursion (IsSized b) (front ++ back) → AllByRecursion (IsSized b) (front ++ g ∷ back)
sized_both b [] back g here all = (here, all)
sized_both b (f ∷ front) back g here all = (all.0, sized_both b front back g here all.1)

counted_both : (j : ℕ) (front back : List Given) (g : Given) → times j (places_of (front ++ g ∷ back)) ≡ same j g.place + times j (places_of (front ++ back))
counted_both j [] back g = refl
counted_both j (f ∷ front) back g = omega (arith, counted_both j front back g)

one_more_held : (b new : Board) (g : Given) (gs hs : List Given) → new.words ≡ b.words → ((j : ℕ) → times j (hand new acquirer) ≡ same j g.place + times j (hand b acquirer))
    → IsSized b g → HasOneMore g gs hs → Holds b gs → Holds new hs
one_more_held b new g gs hs words hands here more holds = record {
  there = λ j.
      let was : times j (places_of gs) ≡ times j (places_of (more.front ++ more.back)) = ap (λ l. times j (places_of l)) more.were in
      let are : times j (places_of hs) ≡ times j (places_of (more.front ++ g ∷ more.back)) = ap (λ l. times j (places_of l)) more.are in
      omega (arith, was, are, counted_both j more.front more.back g, hands j, holds.there j);
  sized =
      same_sizes b new hs (λ j. ap (λ ws. (word_at (record b { words = ws }) j).size) words)
      (subst (AllByRecursion (IsSized b)) (sym more.are)
      (sized_both b more.front more.back g here (subst (AllByRecursion (IsSized b)) more.were holds.sized)));
}

-- A place is claimed by the mode, and what is held once the outcome is told, by what the sizes were before.
pub record Claims (c : List (Option Filling)) (mode : Mode) (b : Board) : Type 0 where
  pub claim : Option (ℕ × Bool)
  pub events : List Event
  pub got : ClaimsFor mode claim events
  pub goes : Goes c b acquirer events
  pub actor : IsActor (after_events b acquirer events) acquirer
  pub holds :
      (before : Board) (asked : Option ℕ) (gs hs : List Given) → ((j : ℕ) → (word_at b j).size ≡ (word_at before j).size)
      → TakesGiven (outcome before (place_of claim)) asked gs hs → Holds b gs → Holds (after_events b acquirer events) hs

-- what is held where nothing was got, and where this place came into the hands
none_held : (b new before : Board) → new.words ≡ b.words → ((j : ℕ) → times j (hand b acquirer) ≤ times j (hand new acquirer))
    → (asked : Option ℕ) (gs hs : List Given) → ((j : ℕ) → (word_at b j).size ≡ (word_at before j).size)
    → TakesGiven (outcome before None) asked gs hs → Holds b gs → Holds new hs
none_held b new before words hands asked gs hs sizes took holds = still_held b new gs hs words hands took holds

place_held : (b new before : Board) (i : ℕ) → new.words ≡ b.words → ((j : ℕ) → times j (hand new acquirer) ≡ same j i + times j (hand b acquirer))
    → (asked : Option ℕ) (gs hs : List Given) → ((j : ℕ) → (word_at b j).size ≡ (word_at before j).size)
    → TakesGiven (outcome before (Some i)) asked gs hs → Holds b gs → Holds new hs
place_held b new before i words hands None gs hs sizes took holds = still_held b new gs hs words (λ j. omega (arith, hands j)) took holds
place_held b new before i words hands (Some block) gs hs sizes took holds =
    one_more_held b new (record { place = i; size = (word_at before i).size }) gs hs words hands (sym (sizes i)) took holds

-- ClaimsFor of a mode that takes
abbrev Takes : List (Option Filling) → Board → Type 0
Takes c b = Claims c OldestFirstOverwrite b

pooled : (c : List (Option Filling)) (mode : Mode) (b : Board) (i : ℕ) (rest : List ℕ) → IsActor b acquirer → b.pool ≡ i ∷ rest
    → ClaimsFor mode (Some (i, false)) (Claim (Some i) ∷ []) → Claims c mode b
pooled c mode b i rest actor is got =
    let goes : Goes c b acquirer (Claim (Some i) ∷ []) = goes_last c b acquirer (Claim (Some i)) actor (rest, is) tt tt in
    record {
      claim = Some (i, false);
      events = Claim (Some i) ∷ [];
      got = got;
      goes = goes;
      actor = goes.actors acquirer actor;
      holds = λ before. place_held b (after_events b acquirer (Claim (Some i) ∷ [])) before i refl (λ j. picked b acquirer i j actor);
    }

-- a take that got nothing behind the claim
took_none : (c : List (Option Filling)) (b : Board) (end : TakeEnd) → IsActor b acquirer → Goes c b acquirer (Claim None ∷ Take end ∷ [])
    → ClaimsFor OldestFirstOverwrite None (Claim None ∷ Take end ∷ [])
    → (after_events b acquirer (Claim None ∷ Take end ∷ [])).words ≡ b.words
    → ((j : ℕ) → times j (hand b acquirer) ≤ times j (hand (after_events b acquirer (Claim None ∷ Take end ∷ [])) acquirer)) → Takes c b
took_none c b end actor goes got words hands = record {
  claim = None;
  events = Claim None ∷ Take end ∷ [];
  got = got;
  goes = goes;
  actor = goes.actors acquirer actor;
  holds = λ before. none_held b (after_events b acquirer (Claim None ∷ Take end ∷ [])) before words hands;
}

took : (c : List (Option Filling)) (b : Board) → IsActor b acquirer → b.pool ≡ [] → Takes c b
took c b actor empty = go (cases_Bool b.closed) b.out refl
  where
    go : (b.closed ≡ true) ⊎ (b.closed ≡ false) → (out : List Item) → b.out ≡ out → Takes c b
    go (inl closed) out is =
        took_none c b end.Closed actor
        (goes_first c b acquirer (Claim None) (Take end.Closed ∷ []) actor empty tt tt (λ now. goes_last c b acquirer (Take end.Closed) now closed tt tt))
        (end.Closed, tt, refl) refl (λ j. omega arith)
    go (inr opened) [] is =
        took_none c b end.Empty actor
        (goes_first c b acquirer (Claim None) (Take end.Empty ∷ []) actor empty tt tt (λ now. goes_last c b acquirer (Take end.Empty) now (opened, is) tt tt))
        (end.Empty, tt, refl) refl (λ j. omega arith)
    go (inr opened) (x ∷ rest) is =
        let i : ℕ = x.place in
        let goes : Goes c b acquirer (Claim None ∷ Take (end.Taken i) ∷ []) =
        goes_first c b acquirer (Claim None) (Take (end.Taken i) ∷ []) actor empty tt tt
        (λ now. goes_last c b acquirer (Take (end.Taken i)) now (opened, (x.filling, rest, is)) tt tt) in
        record {
          claim = Some (i, true);
          events = Claim None ∷ Take (end.Taken i) ∷ [];
          got = refl;
          goes = goes;
          actor = goes.actors acquirer actor;
          holds = λ before. place_held b (after_events b acquirer (Claim None ∷ Take (end.Taken i) ∷ [])) before i refl (λ j. picked b acquirer i j actor);
        }

nothing : (c : List (Option Filling)) (mode : Mode) (b : Board) → IsActor b acquirer → b.pool ≡ [] → Claims c mode b
nothing c OldestFirst b actor empty =
    let goes : Goes c b acquirer (Claim None ∷ []) = goes_last c b acquirer (Claim None) actor empty tt tt in
    record {
      claim = None;
      events = Claim None ∷ [];
      got = refl;
      goes = goes;
      actor = goes.actors acquirer actor;
      holds = λ before. none_held b b before refl (λ j. omega arith);
    }
nothing c OldestFirstOverwrite b actor empty = took c b actor empty
nothing c NewestOnly b actor empty =
    let t : Takes c b = took c b actor empty in
    record { claim = t.claim; events = t.events; got = t.got; goes = t.goes; actor = t.actor; holds = t.holds }

pooled_by : (c : List (Option Filling)) (mode : Mode) (b : Board) (i : ℕ) (rest : List ℕ) → IsActor b acquirer → b.pool ≡ i ∷ rest → Claims c mode b
pooled_by c OldestFirst b i rest actor is = pooled c OldestFirst b i rest actor is refl
pooled_by c OldestFirstOverwrite b i rest actor is = pooled c OldestFirstOverwrite b i rest actor is refl
pooled_by c NewestOnly b i rest actor is = pooled c NewestOnly b i rest actor is refl

pub claim_can : (c : List (Option Filling)) (mode : Mode) (b : Board) → IsActor b acquirer → Claims c mode b
claim_can c mode b actor = go b.pool refl
  where
    go : (pool : List ℕ) → b.pool ≡ pool → Claims c mode b
    go [] is = nothing c mode b actor is
    go (i ∷ rest) is = pooled_by c mode b i rest actor is
