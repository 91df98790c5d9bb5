-- With NewestOnly a filled buffer waits alone.
use Rattle.std.proofs.Common.{◌≡◌, ℕ, true, false, List, [], ◌∷◌, ◌++◌, length, refl, sym, ap, subst, ◌∙◌, inl, inr, arith, length-append, append-nil}
use Rattle.std.specs.Prelude.{◌⊎◌}
use Rattle.gev_types.specs.Filling.{Filling}
use Rattle.gev_types.specs.Limits.{place_count}
use Rattle.board_machine.specs.declared.events.Entry.{Entry}
use Rattle.board_machine.specs.declared.events.Event.{Event}
use Rattle.board_machine.specs.declared.events.Event.TheVariants.{Take, Fill}
use Rattle.board_machine.specs.declared.events.TakeEnd.{TakeEnd}
use Rattle.board_machine.specs.declared.events.TakeEnd.TheVariants.{Taken, Empty, Closed}
use Rattle.board_machine.specs.Machine.{Board, Item, item, places, entry, next}
use Rattle.board_machine.specs.Histories.{after_from, RunsFrom}
use Rattle.board_machine.specs.Adding.{entries_of}
use Rattle.board_machine.specs.Owners.{IsOwned}
use Rattle.board_machine.specs.Handout.{filled, removed}
use Rattle.board_machine.proofs.Runs.{after-append, runs_front, runs_rest}
use Rattle.board_machine.proofs.Adding.{entries_of-append}
use Rattle.board_machine.proofs.Handouts.{run_passes, length-places}
use Rattle.board_machine.proofs.Room.{few_length, out_few}
use Rattle.board_machine.proofs.Forms.{cases_owned}
use Rattle.board_calls.specs.declared.mode.Mode.TheVariants.{NewestOnly}
use Rattle.board_calls.specs.Modes.{GotNothing, takes_and_pools, DropsUntilNothing, DropsAll, FillsFor}
use Rattle.board_calls.specs.Laws.{WaitsAlone}

none_filled : (k : ℕ) (is : List ℕ) → filled (entries_of k (takes_and_pools is)) ≡ []
none_filled k [] = refl
none_filled k (i ∷ is) = none_filled k is

all_removed : (k : ℕ) (is : List ℕ) → removed (entries_of k (takes_and_pools is)) ≡ is
all_removed k [] = refl
all_removed k (i ∷ is) = ap (λ js. i ∷ js) (all_removed k is)

-- what these takes took was in front
record IsSplitOff (b : Board) (dropped : List ℕ) (mid : Board) : Type 0 where
  gone : List Item
  are : places gone ≡ dropped
  split : b.out ≡ gone ++ mid.out

split_off : (b : Board) (k : ℕ) (dropped : List ℕ) → RunsFrom b (entries_of k (takes_and_pools dropped))
    → IsSplitOff b dropped (after_from b (entries_of k (takes_and_pools dropped)))
split_off b k dropped runs =
    let passes = run_passes b (entries_of k (takes_and_pools dropped)) runs in
    record {
      gone = passes.gone;
      are = passes.are ∙ all_removed k dropped;
      split = sym (append-nil b.out) ∙ ap (λ xs. b.out ++ xs) (sym (none_filled k dropped)) ∙ passes.split;
    }

-- nothing waits after the drops, and all that waited was dropped
record IsCleared (b : Board) (dropped : List ℕ) (new : Board) : Type 0 where
  all : dropped ≡ places b.out
  none : new.out ≡ []

cleared : (b mid new : Board) (dropped : List ℕ) → IsSplitOff b dropped mid → mid.out ≡ [] → new.out ≡ mid.out → IsCleared b dropped new
cleared b mid new dropped off none same_out = record {
  all = sym off.are ∙ ap places (sym (append-nil off.gone) ∙ ap (λ xs. off.gone ++ xs) (sym none) ∙ sym off.split);
  none = same_out ∙ none;
}

no_items : (xs : List Item) → length xs ≡ 0 → xs ≡ []
no_items [] e = refl
no_items (x ∷ xs) e = absurd (omega arith)

after_nothing : (mid : Board) (k : ℕ) (end : TakeEnd) → GotNothing end → next mid (entry k (Take end)) ≡ mid
after_nothing mid k (Taken i) never = absurd never
after_nothing mid k Empty got = refl
after_nothing mid k Closed got = refl

took_nothing : (mid : Board) (k : ℕ) (end : TakeEnd) → GotNothing end → mid.closed ≡ false → RunsFrom mid (entries_of k (Take end ∷ [])) → mid.out ≡ []
took_nothing mid k (Taken i) never opened runs = absurd never
took_nothing mid k Empty got opened runs = runs.0.meets.1
took_nothing mid k Closed got opened runs = let never : false ≡ true = sym opened ∙ runs.0.meets in absurd (cc)

until_nothing : (b : Board) (k : ℕ) (dropped : List ℕ) (front : List Event) → DropsUntilNothing dropped front → RunsFrom b (entries_of k front)
    → (after_from b (entries_of k front)).closed ≡ false → IsCleared b dropped (after_from b (entries_of k front))
until_nothing b k dropped front d runs opened =
    let drops = entries_of k (takes_and_pools dropped) in
    let end = entries_of k (Take d.end ∷ []) in
    let mid = after_from b drops in
    let parts : entries_of k front ≡ drops ++ end = ap (entries_of k) d.is ∙ entries_of-append k (takes_and_pools dropped) (Take d.end ∷ []) in
    let both : RunsFrom b (drops ++ end) = subst (λ (h : List Entry). RunsFrom b h) parts runs in
    let same_board : after_from b (entries_of k front) ≡ mid =
    ap (after_from b) parts ∙ after-append b drops end ∙ after_nothing mid k d.end d.nothing in
    let none = took_nothing mid k d.end d.nothing (ap (λ (c : Board). c.closed) (sym same_board) ∙ opened) (runs_rest b drops end both) in
    cleared b mid (after_from b (entries_of k front)) dropped (split_off b k dropped (runs_front b drops end both)) none (ap (λ (c : Board). c.out) same_board)

as_many : (b : Board) (k : ℕ) (dropped : List ℕ) (front : List Event) → IsOwned b → DropsAll dropped front → RunsFrom b (entries_of k front)
    → IsCleared b dropped (after_from b (entries_of k front))
as_many b k dropped front owned d runs =
    let drops = entries_of k (takes_and_pools dropped) in
    let mid = after_from b drops in
    let parts : entries_of k front ≡ drops = ap (entries_of k) d.is in
    let off = split_off b k dropped (subst (λ (h : List Entry). RunsFrom b h) parts runs) in
    let few = few_length place_count (places b.out) (out_few b (cases_owned b owned)) in
    let all = d.all in
    let none : length mid.out ≡ 0 =
    omega (arith, few, length-places b.out, ap length off.split, length-append off.gone mid.out, length-places off.gone, ap length off.are, all) in
    cleared b mid (after_from b (entries_of k front)) dropped off (no_items mid.out none) (ap (λ (h : List Entry). (after_from b h).out) parts)

drops_clear : (b : Board) (k : ℕ) (dropped : List ℕ) (front : List Event) → IsOwned b → DropsUntilNothing dropped front ⊎ DropsAll dropped front
    → RunsFrom b (entries_of k front) → (after_from b (entries_of k front)).closed ≡ false → IsCleared b dropped (after_from b (entries_of k front))
drops_clear b k dropped front owned (inl until) runs opened = until_nothing b k dropped front until runs opened
drops_clear b k dropped front owned (inr all) runs opened = as_many b k dropped front owned all runs

pub newest : (b : Board) (k i : ℕ) (f : Filling) (dropped : List ℕ) (es : List Event) → IsOwned b → FillsFor NewestOnly dropped i f true es
    → RunsFrom b (entries_of k es) → WaitsAlone b dropped i f (after_from b (entries_of k es))
newest b k i f dropped es owned fills runs =
    let front = entries_of k fills.front in
    let fill = entries_of k (Fill i f true ∷ []) in
    let mid = after_from b front in
    let parts : entries_of k es ≡ front ++ fill = ap (entries_of k) fills.is ∙ entries_of-append k fills.front (Fill i f true ∷ []) in
    let both : RunsFrom b (front ++ fill) = subst (λ (h : List Entry). RunsFrom b h) parts runs in
    let opened = (runs_rest b front fill both).0.meets.2 in
    let is = drops_clear b k dropped fills.front owned fills.drops (runs_front b front fill both) opened in
    let out : (after_from b (entries_of k es)).out ≡ mid.out ++ item i f ∷ [] =
    ap (λ (h : List Entry). (after_from b h).out) parts ∙ ap (λ (c : Board). c.out) (after-append b front fill) in
    record { dropped_all = is.all; alone = out ∙ ap (λ xs. xs ++ item i f ∷ []) is.none }
