-- The events that serve inputs, kind by kind: claims, fills, lays, and what drops buffers where a mode does.
use Rattle.std.proofs.Common.{◌≡◌, ◌⊎◌, ℕ, Bool, true, false, List, [], ◌∷◌, ◌++◌, Option, Some, None, ap, sym, ◌∙◌, subst, append_assoc, inl, inr}
use Rattle.board_machine.specs.declared.events.Event.{Event}
use Rattle.board_machine.specs.declared.events.Event.TheVariants.{Claim, Take, Pool, Fill}
use Rattle.board_machine.specs.declared.events.TakeEnd.{TakeEnd}
use Rattle.board_machine.specs.declared.events.TakeEnd.TheVariants.{Taken}
use Rattle.acquisition_machine.specs.declared.config.AcqConfig.{AcqConfig}
use Rattle.acquisition_machine.specs.declared.retired.Retired.{Retired}
use Rattle.acquisition_machine.specs.Blocks.{fills}
use Rattle.acquisition_machine.specs.Machine.{Input, datagram, claimed, tick, stop, restart, State, step}
use Rattle.board_calls.specs.declared.mode.Mode.{Mode}
use Rattle.board_calls.specs.declared.mode.Mode.TheVariants.{OldestFirst, OldestFirstOverwrite, NewestOnly}
use Rattle.board_calls.specs.Modes.{ClaimsOnly, ClaimsOrTakes, ClaimsFor, takes_and_pools, DropsUntilNothing, DropsAll, DropsFor}
use Rattle.gev_acq.specs.Filling.{laid_unless, FillsOne, FillsRetiredFor}
use Rattle.gev_acq.specs.Serving.{ClaimsOf, Serves}

-- the mode drops buffers
abbrev pub MayDrop : Mode → Type 0
MayDrop OldestFirst = ⊥
MayDrop OldestFirstOverwrite = Unit {0}
MayDrop NewestOnly = Unit {0}

-- What is true of no events, of lists end to end, and of one drop where the mode drops buffers.
pub record Holds (mode : Mode) (P : List Event → Type 0) : Type 0 where
  pub none : P []
  pub both : (es fs : List Event) → P es → P fs → P (es ++ fs)
  pub take : MayDrop mode → (end : TakeEnd) → P (Take end ∷ [])
  pub pool : MayDrop mode → (i : ℕ) → P (Pool i ∷ [])

along : (P : List Event → Type 0) (es fs : List Event) → es ≡ fs → P fs → P es
along P es fs is h = subst (λ (l : List Event). P l) (sym is) h

pools_hold : (mode : Mode) (P : List Event → Type 0) (is : List ℕ) → Holds mode P → MayDrop mode → P (takes_and_pools is)
pools_hold mode P [] h may = h.none
pools_hold mode P (i ∷ is) h may =
    h.both (Take (Taken i) ∷ []) (Pool i ∷ takes_and_pools is) (h.take may (Taken i))
    (h.both (Pool i ∷ []) (takes_and_pools is) (h.pool may i) (pools_hold mode P is h may))

newest_holds : (mode : Mode) (P : List Event → Type 0) (dropped : List ℕ) (es : List Event) → Holds mode P → MayDrop mode → DropsUntilNothing dropped es ⊎ DropsAll dropped es → P es
newest_holds mode P dropped es h may (inl d) =
    along P es (takes_and_pools dropped ++ Take d.end ∷ []) d.is
    (h.both (takes_and_pools dropped) (Take d.end ∷ []) (pools_hold mode P dropped h may) (h.take may d.end))
newest_holds mode P dropped es h may (inr d) = along P es (takes_and_pools dropped) d.is (pools_hold mode P dropped h may)

pub drops_hold : (mode : Mode) (P : List Event → Type 0) (dropped : List ℕ) (es : List Event) → Holds mode P → DropsFor mode dropped es → P es
drops_hold OldestFirst P dropped es h drops = along P es [] drops.1 h.none
drops_hold OldestFirstOverwrite P dropped es h drops = along P es [] drops.1 h.none
drops_hold NewestOnly P dropped es h drops = newest_holds NewestOnly P dropped es h tt drops

-- ---- claims

only_holds : (mode : Mode) (P : List Event → Type 0) (answer : Option (ℕ × Bool)) (es : List Event) → Holds mode P → ((place : Option ℕ) → P (Claim place ∷ []))
    → ClaimsOnly answer es → P es
only_holds mode P None es h claim is = along P es (Claim None ∷ []) is (claim None)
only_holds mode P (Some (i, false)) es h claim is = along P es (Claim (Some i) ∷ []) is (claim (Some i))
only_holds mode P (Some (i, true)) es h claim never = absurd never

takes_hold : (mode : Mode) (P : List Event → Type 0) (answer : Option (ℕ × Bool)) (es : List Event) → Holds mode P → MayDrop mode → ((place : Option ℕ) → P (Claim place ∷ []))
    → ClaimsOrTakes answer es → P es
takes_hold mode P None es h may claim is =
    along P es (Claim None ∷ Take is.0 ∷ []) is.2 (h.both (Claim None ∷ []) (Take is.0 ∷ []) (claim None) (h.take may is.0))
takes_hold mode P (Some (i, false)) es h may claim is = along P es (Claim (Some i) ∷ []) is (claim (Some i))
takes_hold mode P (Some (i, true)) es h may claim is =
    along P es (Claim None ∷ Take (Taken i) ∷ []) is (h.both (Claim None ∷ []) (Take (Taken i) ∷ []) (claim None) (h.take may (Taken i)))

pub claims_hold : (mode : Mode) (P : List Event → Type 0) (answer : Option (ℕ × Bool)) (es : List Event) → Holds mode P → ((place : Option ℕ) → P (Claim place ∷ []))
    → ClaimsFor mode answer es → P es
claims_hold OldestFirst P answer es h claim claims = only_holds OldestFirst P answer es h claim claims
claims_hold OldestFirstOverwrite P answer es h claim claims = takes_hold OldestFirstOverwrite P answer es h tt claim claims
claims_hold NewestOnly P answer es h claim claims = takes_hold NewestOnly P answer es h tt claim claims

pub claimed_hold : (mode : Mode) (P : List Event → Type 0) (i : Input) (es : List Event) → Holds mode P → ((place : Option ℕ) → P (Claim place ∷ []))
    → ClaimsOf mode i es → P es
claimed_hold mode P (datagram bytes) es h claim is = along P es [] is h.none
claimed_hold mode P (claimed None) es h claim claims = claims_hold mode P None es h claim claims
claimed_hold mode P (claimed (Some g)) es h claim claims = claims_hold mode P (Some (g.place, claims.0)) es h claim claims.1
claimed_hold mode P (tick moment) es h claim is = along P es [] is h.none
claimed_hold mode P stop es h claim is = along P es [] is h.none
claimed_hold mode P restart es h claim is = along P es [] is h.none

-- ---- fills

pub fill_holds : (mode : Mode) (P : List Event → Type 0) (x : Retired) (es : List Event) → Holds mode P
    → ((filled : Bool) → P (Fill x.place x.buf filled ∷ laid_unless filled x.place)) → FillsOne mode x es → P es
fill_holds mode P x es h fill one =
    along P es (one.call ++ laid_unless one.filled x.place) one.is
    (along P (one.call ++ laid_unless one.filled x.place) (one.fills.front ++ Fill x.place x.buf one.filled ∷ laid_unless one.filled x.place)
    (ap (λ l. l ++ laid_unless one.filled x.place) one.fills.is ∙ append_assoc one.fills.front (Fill x.place x.buf one.filled ∷ []) (laid_unless one.filled x.place))
    (h.both one.fills.front (Fill x.place x.buf one.filled ∷ laid_unless one.filled x.place) (drops_hold mode P one.dropped one.fills.front h one.fills.drops) (fill one.filled)))

pub fills_hold : (mode : Mode) (P : List Event → Type 0) (xs : List Retired) (es : List Event) → Holds mode P
    → ((x : Retired) (filled : Bool) → P (Fill x.place x.buf filled ∷ laid_unless filled x.place)) → FillsRetiredFor mode xs es → P es
fills_hold mode P [] es h fill is = along P es [] is h.none
fills_hold mode P (x ∷ xs) es h fill each =
    along P es (each.0 ++ each.1) each.4
    (h.both each.0 each.1 (fill_holds mode P x each.0 h (fill x) each.2) (fills_hold mode P xs each.1 h fill each.3))

pub served_hold : (mode : Mode) (P : List Event → Type 0) (c : AcqConfig) (s : State) (is : List Input) (es : List Event) → Holds mode P
    → ((place : Option ℕ) → P (Claim place ∷ [])) → ((x : Retired) (filled : Bool) → P (Fill x.place x.buf filled ∷ laid_unless filled x.place))
    → Serves mode c s is es → P es
served_hold mode P c s [] es h claim fill none = along P es [] none h.none
served_hold mode P c s (i ∷ is) es h claim fill each =
    along P es (each.0 ++ (each.1 ++ each.2)) each.6
    (h.both each.0 (each.1 ++ each.2) (claimed_hold mode P i each.0 h claim each.3)
    (h.both each.1 each.2 (fills_hold mode P (fills c.p (step c s i).retired) each.1 h fill each.4) (served_hold mode P c (step c s i).after is each.2 h claim fill each.5)))
