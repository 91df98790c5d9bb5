-- What fills and claims by a mode drop, as their entries tell it.
use Rattle.std.proofs.Common.{◌≡◌, ◌⊎◌, inl, inr, ℕ, Bool, true, false, List, [], ◌∷◌, ◌++◌, length, take, Option, Some, None, refl, sym, ap, subst, ◌∙◌, append-nil, append_assoc}
use Rattle.std.specs.Prelude.{⊤}
use Rattle.gev_types.specs.Filling.{Filling}
use Rattle.board_machine.specs.declared.events.Entry.{Entry}
use Rattle.board_machine.specs.declared.events.Event.{Event}
use Rattle.board_machine.specs.declared.events.Event.TheVariants.{Claim, Take, Pool, Fill, Lay}
use Rattle.board_machine.specs.declared.events.TakeEnd.{TakeEnd}
use Rattle.board_machine.specs.declared.events.TakeEnd.TheVariants as ends
use Rattle.board_machine.specs.Places.{tail}
use Rattle.board_machine.specs.Machine.{Board, Item, item, entry, next}
use Rattle.board_machine.specs.Adding.{entries_of, Adds}
use Rattle.board_machine.specs.Histories.{RunsFrom, After}
use Rattle.board_machine.proofs.Adding.{entries_of-append}
use Rattle.board_machine.proofs.Runs.{after-push, runs_front}
use Rattle.board_calls.specs.Rounds.{filled_or_laid}
use Rattle.acquisition_machine.specs.declared.retired.Retired.{Retired}
use Rattle.board_calls.specs.declared.mode.Mode.{Mode}
use Rattle.board_calls.specs.declared.mode.Mode.TheVariants.{OldestFirst, OldestFirstOverwrite, NewestOnly}
use Rattle.board_calls.specs.Modes.{GotNothing, ClaimsOnly, ClaimsOrTakes, ClaimsFor, takes_and_pools, DropsUntilNothing, DropsAll, DropsFor}
use Rattle.script_trace.specs.Trace.{acquirer, caller}
use Rattle.script_trace.specs.Modes.{laid_unless, FillsInMode}
use Rattle.script_trace.specs.Drops.{Doing, drops, fills, gets, seeks, other, doing, first_item, sought, told_at, waits, is_seeking, drops_from}
use Rattle.explain_lines.specs.Dropping.{DropsAs}

-- ---- joining

pub drops_both : (h g k : List Entry) (xs ys : List (List Item)) → DropsAs h g xs → DropsAs (h ++ g) k ys → DropsAs h (g ++ k) (xs ++ ys)
drops_both h g k xs ys first second more =
    ap (drops_from h false []) (append_assoc g k more)
    ∙ (first (k ++ more)
    ∙ (ap (λ l. xs ++ l) (second more)
    ∙ (sym (append_assoc xs ys (drops_from ((h ++ g) ++ k) false [] more))
    ∙ ap (λ e. (xs ++ ys) ++ drops_from e false [] more) (append_assoc h g k))))

pub drops_none : (h : List Entry) → DropsAs h [] []
drops_none h more = ap (λ e. drops_from e false [] more) (sym (append-nil h))

-- all that is told, where nothing comes behind
pub drops_end : (h es : List Entry) (gone : List (List Item)) → DropsAs h es gone → drops_from h false [] es ≡ gone ++ []
drops_end h es gone dropped = ap (drops_from h false []) (sym (append-nil es)) ∙ dropped []

-- the calls of a line drop nothing
pub callers_drop : (h : List Entry) (es : List Event) → DropsAs h (entries_of caller es) []
callers_drop h [] more = drops_none h more
callers_drop h (e ∷ es) more =
    callers_drop (h ++ entry caller e ∷ []) es more
    ∙ ap (λ g. drops_from g false [] more) (append_assoc h (entry caller e ∷ []) (entries_of caller es))

-- ---- fills

-- a take that got nothing
nothing_drops : (h more : List Entry) (before : List Item) (end : TakeEnd) → GotNothing end
    → drops_from h false before (entry acquirer (Take end) ∷ more) ≡ drops_from (h ++ entry acquirer (Take end) ∷ []) false before more
nothing_drops h more before (ends.Taken i) nothing = absurd nothing
nothing_drops h more before ends.Empty nothing = refl
nothing_drops h more before ends.Closed nothing = refl

-- places that are taken and pooled are the output's first ones
places_drop : (b : Board) (h : List Entry) (is : List ℕ) (more : List Entry) (before : List Item) → b ≡ After h → RunsFrom b (entries_of acquirer (takes_and_pools is))
    → drops_from h false before (entries_of acquirer (takes_and_pools is) ++ more) ≡ drops_from (h ++ entries_of acquirer (takes_and_pools is)) false (before ++ take (length is) b.out) more
places_drop b h [] more before is runs =
    ap (λ g. drops_from g false before more) (sym (append-nil h)) ∙ ap (λ xs. drops_from (h ++ []) false xs more) (sym (append-nil before))
places_drop b h (i ∷ is) more before stands runs =
    let one : Entry = entry acquirer (Take (ends.Taken i)) in
    let two : Entry = entry acquirer (Pool i) in
    let rest : List Entry = entries_of acquirer (takes_and_pools is) in
    let h_one : List Entry = h ++ one ∷ [] in
    let h_two : List Entry = h_one ++ two ∷ [] in
    let b_one : Board = next b one in
    let b_two : Board = next b_one two in
    let stands_one : b_one ≡ After h_one = ap (λ (c : Board). next c one) stands ∙ sym (after-push h one) in
    let stands_two : b_two ≡ After h_two = ap (λ (c : Board). next c two) stands_one ∙ sym (after-push h_one two) in
    let out = runs.0.meets.1 in
    let first : first_item h ≡ item i out.0 ∷ [] = ap (λ (c : Board). take 1 c.out) (sym stands) ∙ ap (take 1) out.2 in
    let behind : take (length is) b_two.out ≡ take (length is) out.1 = ap (λ xs. take (length is) xs) (tail_is b i out.0 out.1 out.2) in
    let joined : (before ++ first_item h) ++ take (length is) b_two.out ≡ before ++ take (length (i ∷ is)) b.out
    = append_assoc before (first_item h) (take (length is) b_two.out)
    ∙ ap (λ xs. before ++ xs) (ap (λ xs. xs ++ take (length is) b_two.out) first ∙ ap (λ xs. item i out.0 ∷ xs) behind ∙ sym (ap (take (length (i ∷ is))) out.2)) in
    places_drop b_two h_two is more (before ++ first_item h) stands_two runs.1.1
    ∙ ap (λ xs. drops_from (h_two ++ rest) false xs more) joined
    ∙ ap (λ g. drops_from g false (before ++ take (length (i ∷ is)) b.out) more) (append_assoc h_one (two ∷ []) rest ∙ append_assoc h (one ∷ []) (two ∷ rest))
  where
    tail_is : (c : Board) (j : ℕ) (f : Filling) (back : List Item) → c.out ≡ item j f ∷ back → (next (next c (entry acquirer (Take (ends.Taken j)))) (entry acquirer (Pool j))).out ≡ back
    tail_is c j f back is_so = ap tail is_so

-- what is dropped before a fill
front_drops : (mode : Mode) (b : Board) (h : List Entry) (is : List ℕ) (front : List Event) (more : List Entry) → b ≡ After h → DropsFor mode is front → RunsFrom b (entries_of acquirer front)
    → drops_from h false [] (entries_of acquirer front ++ more) ≡ drops_from (h ++ entries_of acquirer front) false (take (length is) b.out) more
front_drops mode b h is front more stands by runs = go mode by
  where
    none : (is ≡ []) → (front ≡ []) → drops_from h false [] (entries_of acquirer front ++ more) ≡ drops_from (h ++ entries_of acquirer front) false (take (length is) b.out) more
    none no_place no_event =
        ap (λ es. drops_from h false [] (entries_of acquirer es ++ more)) no_event
        ∙ ap (λ g. drops_from g false [] more) (sym (append-nil h))
        ∙ ap (λ es. drops_from (h ++ entries_of acquirer es) false [] more) (sym no_event)
        ∙ ap (λ js. drops_from (h ++ entries_of acquirer front) false (take (length js) b.out) more) (sym no_place)

    until : (end : TakeEnd) → GotNothing end → RunsFrom b (entries_of acquirer (takes_and_pools is ++ Take end ∷ []))
        → drops_from h false [] (entries_of acquirer (takes_and_pools is ++ Take end ∷ []) ++ more) ≡ drops_from (h ++ entries_of acquirer (takes_and_pools is ++ Take end ∷ [])) false (take (length is) b.out) more
    until end nothing runs_so =
        let places : List Entry = entries_of acquirer (takes_and_pools is) in
        let last : List Entry = entry acquirer (Take end) ∷ [] in
        let both : entries_of acquirer (takes_and_pools is ++ Take end ∷ []) ≡ places ++ last = entries_of-append acquirer (takes_and_pools is) (Take end ∷ []) in
        ap (λ es. drops_from h false [] (es ++ more)) both
        ∙ ap (drops_from h false []) (append_assoc places last more)
        ∙ places_drop b h is (last ++ more) [] stands (runs_front b places last (subst (RunsFrom b) both runs_so))
        ∙ nothing_drops (h ++ places) more (take (length is) b.out) end nothing
        ∙ ap (λ g. drops_from g false (take (length is) b.out) more) (append_assoc h places last)
        ∙ ap (λ es. drops_from (h ++ es) false (take (length is) b.out) more) (sym both)

    all_of : RunsFrom b (entries_of acquirer (takes_and_pools is))
        → drops_from h false [] (entries_of acquirer (takes_and_pools is) ++ more) ≡ drops_from (h ++ entries_of acquirer (takes_and_pools is)) false (take (length is) b.out) more
    all_of runs_so = places_drop b h is more [] stands runs_so

    newest : DropsUntilNothing is front ⊎ DropsAll is front → drops_from h false [] (entries_of acquirer front ++ more) ≡ drops_from (h ++ entries_of acquirer front) false (take (length is) b.out) more
    newest (inl d) =
        subst (λ es. drops_from h false [] (entries_of acquirer es ++ more) ≡ drops_from (h ++ entries_of acquirer es) false (take (length is) b.out) more) (sym d.is)
        (until d.end d.nothing (subst (λ es. RunsFrom b (entries_of acquirer es)) d.is runs))
    newest (inr d) =
        subst (λ es. drops_from h false [] (entries_of acquirer es ++ more) ≡ drops_from (h ++ entries_of acquirer es) false (take (length is) b.out) more) (sym d.is)
        (all_of (subst (λ es. RunsFrom b (entries_of acquirer es)) d.is runs))

    go : (m : Mode) → DropsFor m is front → drops_from h false [] (entries_of acquirer front ++ more) ≡ drops_from (h ++ entries_of acquirer front) false (take (length is) b.out) more
    go OldestFirst d = none d.0 d.1
    go OldestFirstOverwrite d = none d.0 d.1
    go NewestOnly d = newest d

fill_takes : (h : List Entry) (before : List Item) (i : ℕ) (f : Filling) (filled : Bool) (more : List Entry)
    → drops_from h false before (entries_of acquirer (filled_or_laid i f filled) ++ more) ≡ before ∷ drops_from (h ++ entries_of acquirer (filled_or_laid i f filled)) false [] more
fill_takes h before i f true more = refl
fill_takes h before i f false more =
    ap (λ g. before ∷ drops_from g false [] more) (append_assoc h (entry acquirer (Fill i f false) ∷ []) (entry acquirer (Lay i) ∷ []))

-- one fill tells what was dropped before it
pub fill_drops : (mode : Mode) (b mid : Board) (h : List Entry) (is : List ℕ) (front : List Event) (i : ℕ) (f : Filling) (filled : Bool) → b ≡ After h → DropsFor mode is front → Adds b acquirer front mid
    → DropsAs h (entries_of acquirer (front ++ filled_or_laid i f filled)) (take (length is) b.out ∷ [])
fill_drops mode b mid h is front i f filled stands by adds more =
    let first : List Entry = entries_of acquirer front in
    let second : List Entry = entries_of acquirer (filled_or_laid i f filled) in
    let both : entries_of acquirer (front ++ filled_or_laid i f filled) ≡ first ++ second = entries_of-append acquirer front (filled_or_laid i f filled) in
    ap (λ es. drops_from h false [] (es ++ more)) both
    ∙ ap (drops_from h false []) (append_assoc first second more)
    ∙ front_drops mode b h is front (second ++ more) stands by adds.runs
    ∙ fill_takes (h ++ first) (take (length is) b.out) i f filled more
    ∙ ap (λ g. take (length is) b.out ∷ drops_from g false [] more) (append_assoc h first second)
    ∙ ap (λ es. take (length is) b.out ∷ drops_from (h ++ es) false [] more) (sym both)

-- ---- claims

-- what a claim dropped
abbrev pub dropped_by : Option (ℕ × Bool) → Board → List Item
dropped_by None b = []
dropped_by (Some (i, false)) b = []
dropped_by (Some (i, true)) b = take 1 b.out

abbrev IsNoDrop : Doing → Type 0
IsNoDrop drops = ⊥
IsNoDrop _ = ⊤

-- these entries don't begin with a drop
abbrev BeginOtherwise : List Entry → Type 0
BeginOtherwise [] = ⊤
BeginOtherwise (e ∷ es) = IsNoDrop (doing e)

-- a claim that sought and dropped nothing
sought_none : (h more : List Entry) → BeginOtherwise more → drops_from h true [] more ≡ [] ∷ drops_from h false [] more
sought_none h [] begins = refl
sought_none h (e ∷ es) begins = go (doing e) begins
  where
    go : (d : Doing) → IsNoDrop d
        → sought true d (first_item h) ++ (told_at d [] ++ drops_from (h ++ e ∷ []) (is_seeking d) (waits true d (first_item h) []) es)
        ≡ [] ∷ (sought false d (first_item h) ++ (told_at d [] ++ drops_from (h ++ e ∷ []) (is_seeking d) (waits false d (first_item h) []) es))
    go drops none = absurd none
    go fills none = refl
    go gets none = refl
    go seeks none = refl
    go other none = refl

abbrev ClaimDrops : Option (ℕ × Bool) → List Event → Board → List Entry → List Entry → Type 0
ClaimDrops claim es b h more = drops_from h false [] (entries_of acquirer es ++ more) ≡ dropped_by claim b ∷ drops_from (h ++ entries_of acquirer es) false [] more

along : (claim : Option (ℕ × Bool)) (es fs : List Event) (b : Board) (h more : List Entry) → es ≡ fs → ClaimDrops claim fs b h more → ClaimDrops claim es b h more
along claim es fs b h more is so = subst (λ gs. ClaimDrops claim gs b h more) (sym is) so

only_drops : (claim : Option (ℕ × Bool)) (es : List Event) (b : Board) (h more : List Entry) → ClaimsOnly claim es → BeginOtherwise more → ClaimDrops claim es b h more
only_drops None es b h more is begins = along None es (Claim None ∷ []) b h more is (sought_none (h ++ entry acquirer (Claim None) ∷ []) more begins)
only_drops (Some (i, false)) es b h more is begins = along (Some (i, false)) es (Claim (Some i) ∷ []) b h more is refl
only_drops (Some (i, true)) es b h more is begins = absurd is

nothing_sought : (end : TakeEnd) (b : Board) (h more : List Entry) → GotNothing end → ClaimDrops None (Claim None ∷ Take end ∷ []) b h more
nothing_sought (ends.Taken i) b h more nothing = absurd nothing
nothing_sought ends.Empty b h more nothing = ap (λ g. [] ∷ drops_from g false [] more) (append_assoc h (entry acquirer (Claim None) ∷ []) (entry acquirer (Take ends.Empty) ∷ []))
nothing_sought ends.Closed b h more nothing = ap (λ g. [] ∷ drops_from g false [] more) (append_assoc h (entry acquirer (Claim None) ∷ []) (entry acquirer (Take ends.Closed) ∷ []))

takes_drop : (claim : Option (ℕ × Bool)) (es : List Event) (b : Board) (h more : List Entry) → b ≡ After h → ClaimsOrTakes claim es → ClaimDrops claim es b h more
takes_drop None es b h more stands (end, nothing, is) = along None es (Claim None ∷ Take end ∷ []) b h more is (nothing_sought end b h more nothing)
takes_drop (Some (i, false)) es b h more stands is = along (Some (i, false)) es (Claim (Some i) ∷ []) b h more is refl
takes_drop (Some (i, true)) es b h more stands is =
    let one : Entry = entry acquirer (Claim None) in
    let two : Entry = entry acquirer (Take (ends.Taken i)) in
    along (Some (i, true)) es (Claim None ∷ Take (ends.Taken i) ∷ []) b h more is
    (ap (λ (c : Board). take 1 c.out ∷ drops_from ((h ++ one ∷ []) ++ two ∷ []) false [] more) (after-push h one ∙ sym stands)
    ∙ ap (λ g. take 1 b.out ∷ drops_from g false [] more) (append_assoc h (one ∷ []) (two ∷ [])))

-- in the mode in which a claim takes nothing, what comes behind begins with no drop
abbrev BeginsIn : Mode → List Entry → Type 0
BeginsIn OldestFirst more = BeginOtherwise more
BeginsIn OldestFirstOverwrite more = ⊤
BeginsIn NewestOnly more = ⊤

pub claim_drops : (mode : Mode) (claim : Option (ℕ × Bool)) (es : List Event) (b : Board) (h more : List Entry) → b ≡ After h → ClaimsFor mode claim es → BeginsIn mode more → ClaimDrops claim es b h more
claim_drops OldestFirst claim es b h more stands claims begins = only_drops claim es b h more claims begins
claim_drops OldestFirstOverwrite claim es b h more stands claims begins = takes_drop claim es b h more stands claims
claim_drops NewestOnly claim es b h more stands claims begins = takes_drop claim es b h more stands claims

-- the fills of that mode begin with a fill
oldest_begins : (xs : List Retired) (es : List Event) → FillsInMode OldestFirst xs es → BeginOtherwise (entries_of acquirer es)
oldest_begins [] es is = subst (λ fs. BeginOtherwise (entries_of acquirer fs)) (sym is) tt
oldest_begins (x ∷ xs) es (first, rest, is, block, more) =
    let fill : List Event = Fill x.place x.buf block.filled ∷ [] in
    let laid : List Event = laid_unless block.filled x.place in
    let call : block.call ≡ fill = block.fills.is ∙ ap (λ fs. fs ++ fill) block.fills.drops.1 in
    let start : es ≡ (fill ++ laid) ++ rest = is ∙ ap (λ fs. fs ++ rest) (block.is ∙ ap (λ fs. fs ++ laid) call) in
    subst (λ fs. BeginOtherwise (entries_of acquirer fs)) (sym start) tt

pub fills_begin : (mode : Mode) (xs : List Retired) (es : List Event) → FillsInMode mode xs es → BeginsIn mode (entries_of acquirer es)
fills_begin OldestFirst xs es fills_so = oldest_begins xs es fills_so
fills_begin OldestFirstOverwrite xs es fills_so = tt
fills_begin NewestOnly xs es fills_so = tt
