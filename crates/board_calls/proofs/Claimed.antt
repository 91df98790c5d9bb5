-- What a claim found.
use Rattle.std.proofs.Common.{◌≡◌, ℕ, Bool, true, false, List, [], ◌∷◌, Some, None, refl, sym, subst, ◌∙◌, inl, inr}
use Rattle.std.specs.Prelude.{◌↔◌, Option}
use Rattle.board_machine.specs.declared.events.Event.{Event}
use Rattle.board_machine.specs.declared.events.Event.TheVariants.{Claim, Take}
use Rattle.board_machine.specs.declared.events.TakeEnd.{TakeEnd}
use Rattle.board_machine.specs.declared.events.TakeEnd.TheVariants.{Taken, Empty, Closed}
use Rattle.board_machine.specs.Machine.{Board}
use Rattle.board_machine.specs.Histories.{RunsFrom}
use Rattle.board_machine.specs.Adding.{entries_of}
use Rattle.board_calls.specs.declared.mode.Mode.{Mode}
use Rattle.board_calls.specs.declared.mode.Mode.TheVariants.{OldestFirst, OldestFirstOverwrite, NewestOnly}
use Rattle.board_calls.specs.Modes.{GotNothing, ClaimsOnly, ClaimsOrTakes, ClaimsFor}
use Rattle.board_calls.specs.Laws.{WasOldest, NoneWaits, HasNothing}

runs_as : (b : Board) (k : ℕ) (es fs : List Event) → es ≡ fs → RunsFrom b (entries_of k es) → RunsFrom b (entries_of k fs)
runs_as b k es fs is runs = subst (λ (gs : List Event). RunsFrom b (entries_of k gs)) is runs

took_oldest : (b : Board) (k i : ℕ) (es : List Event) → ClaimsOrTakes (Some (i, true)) es → RunsFrom b (entries_of k es) → WasOldest b i
took_oldest b k i es is runs =
    let made = runs_as b k es (Claim None ∷ Take (Taken i) ∷ []) is runs in
    let first = made.1.0.meets.1 in
    record { no_pool = made.0.meets; oldest = record { filling = first.0; rest = first.1; first = first.2 } }

pub oldest : (mode : Mode) (b : Board) (k i : ℕ) (es : List Event) → ClaimsFor mode (Some (i, true)) es → RunsFrom b (entries_of k es) → WasOldest b i
oldest OldestFirst b k i es never runs = absurd never
oldest OldestFirstOverwrite b k i es is runs = took_oldest b k i es is runs
oldest NewestOnly b k i es is runs = took_oldest b k i es is runs

-- a pool that a claim took a place from isn't empty
claimed_some : (b : Board) (k i : ℕ) (es : List Event) → es ≡ Claim (Some i) ∷ [] → RunsFrom b (entries_of k es) → b.pool ≡ [] → ⊥
claimed_some b k i es is runs none =
    let made = (runs_as b k es (Claim (Some i) ∷ []) is runs).0.meets in
    let never : i ∷ made.0 ≡ [] = sym made.1 ∙ none in
    cc

-- nor is an output that a take took from empty, or the stream closed
took_some : (b : Board) (k i : ℕ) (es : List Event) → es ≡ Claim None ∷ Take (Taken i) ∷ [] → RunsFrom b (entries_of k es) → NoneWaits b → ⊥
took_some b k i es is runs none =
    let made = (runs_as b k es (Claim None ∷ Take (Taken i) ∷ []) is runs).1.0.meets in
    elim none [
      | inl empty ↦ let never = sym made.1.2 ∙ empty in cc
      | inr closed ↦ let never : false ≡ true = sym made.0 ∙ closed in cc
    ]

nothing_waits : (b : Board) (k : ℕ) (end : TakeEnd) → GotNothing end → RunsFrom b (entries_of k (Take end ∷ [])) → NoneWaits b
nothing_waits b k (Taken i) never runs = absurd never
nothing_waits b k Empty got runs = inl runs.0.meets.1
nothing_waits b k Closed got runs = inr runs.0.meets

claims_nothing : (b : Board) (k : ℕ) (answer : Option (ℕ × Bool)) (es : List Event) → ClaimsOnly answer es → RunsFrom b (entries_of k es)
    → (answer ≡ None) ↔ (b.pool ≡ [])
claims_nothing b k None es is runs = (λ e. (runs_as b k es (Claim None ∷ []) is runs).0.meets, λ e. refl)
claims_nothing b k (Some (i, false)) es is runs = (λ e. absurd (cc), λ none. absurd (claimed_some b k i es is runs none))
claims_nothing b k (Some (i, true)) es never runs = absurd never

takes_nothing : (b : Board) (k : ℕ) (answer : Option (ℕ × Bool)) (es : List Event) → ClaimsOrTakes answer es → RunsFrom b (entries_of k es)
    → (answer ≡ None) ↔ ((b.pool ≡ []) × NoneWaits b)
takes_nothing b k None es is runs =
    let made = runs_as b k es (Claim None ∷ Take is.0 ∷ []) is.2 runs in
    (λ e. (made.0.meets, nothing_waits b k is.0 is.1 made.1), λ e. refl)
takes_nothing b k (Some (i, false)) es is runs = (λ e. absurd (cc), λ none. absurd (claimed_some b k i es is runs none.0))
takes_nothing b k (Some (i, true)) es is runs = (λ e. absurd (cc), λ none. absurd (took_some b k i es is runs none.1))

pub nothing_claimed : (mode : Mode) (b : Board) (k : ℕ) (answer : Option (ℕ × Bool)) (es : List Event) → ClaimsFor mode answer es
    → RunsFrom b (entries_of k es) → (answer ≡ None) ↔ HasNothing mode b
nothing_claimed OldestFirst b k answer es is runs = claims_nothing b k answer es is runs
nothing_claimed OldestFirstOverwrite b k answer es is runs = takes_nothing b k answer es is runs
nothing_claimed NewestOnly b k answer es is runs = takes_nothing b k answer es is runs
