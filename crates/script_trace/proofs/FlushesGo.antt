-- A flush can be made: its fills have what lies at the places.
use Rattle.std.proofs.Common.{◌≡◌, ◌≢◌, ◌⊎◌, inl, inr, ℕ, zero, suc, ◌+◌, ◌<◌, ◌≤◌, Bool, true, false, List, [], ◌∷◌, ◌++◌, length, get_or, set, Option, Some, None, Result, Ok, Err, refl, sym, ap, subst, ◌∙◌, arith}
use Rattle.std.proofs.lemmas.Bool.{cases_Bool, cases_eq, cases_lt}
use Rattle.std.proofs.lemmas.List.{set_past, get_or-set_other, get_or-set_same}
use Rattle.gev_types.specs.Filling.{Filling, empty_record}
use Rattle.gev_types.specs.Limits.{place_count}
use Rattle.gentl_types.specs.declared.errors.GcError.{GcError}
use Rattle.gentl_types.specs.declared.errors.GcError.TheVariants.{InvalidParameter}
use Rattle.gentl_types.specs.declared.word.Word.{Word}
use Rattle.gentl_types.specs.declared.word.State.{State}
use Rattle.gentl_types.specs.declared.word.State.TheVariants.{Vacant, Held, Away}
use Rattle.board_machine.specs.declared.events.Event.{Event}
use Rattle.board_machine.specs.declared.events.Event.TheVariants.{Look, Grab, Lay, Pool, SweepPool, SweepOut, Fill}
use Rattle.board_machine.specs.Places.{same, times}
use Rattle.board_machine.proofs.Places.{same_self}
use Rattle.board_machine.specs.Machine.{Board, word_at, hand, places, vacant, with_state, IsActor, InHand, after_event}
use Rattle.board_calls.specs.Calls.{FlushesToOutput, FlushesToInput, DiscardsOutput, DiscardsAll, Flushes}
use Rattle.board_calls.specs.Rounds.{filled_or_laid, FillsEach, pools, pools_from, Seen, AreGrabbedIfHeld, PoolsHeld}
use Rattle.board_model.specs.Plain.{lying}
use Rattle.board_model.specs.Holdings.{emptied}
use Rattle.script_trace.specs.Trace.{acquirer}
use Rattle.script_trace.proofs.Doing.{Goes, Can, Has, after_events, goes_none, goes_first, goes_last, goes_both, has_first, has_rest, pools_go, just_picked, dropped, has_swept_pool, has_swept_out}
use Rattle.script_trace.proofs.CallsGo.{discard_can, discard_all_can}

-- ---- fills

-- what lies at a place, with as many bytes as its word says
pub record LiesSized (c : List (Option Filling)) (b : Board) (i : ℕ) : Type 0 where
  pub filling : Filling
  pub lies : lying c i ≡ Some filling
  pub sized : length filling.bytes ≡ (word_at b i).size

-- the sizes that words have stay where a state is written
pub size_stays : (ws : List Word) (j : ℕ) (s : State) (i : ℕ) → (get_or (set ws j (with_state (get_or ws j vacant) s)) i vacant).size ≡ (get_or ws i vacant).size
size_stays ws j s i = go (cases_eq i j) (cases_lt j (length ws))
  where
    w : Word
    w = with_state (get_or ws j vacant) s

    go : (i ≡ j) ⊎ (i ≢ j) → (j < length ws) ⊎ (length ws ≤ j) → (get_or (set ws j w) i vacant).size ≡ (get_or ws i vacant).size
    go (inl e) (inl within) =
        let P : ℕ → Type 0 = λ n. (get_or (set ws j w) n vacant).size ≡ (get_or ws n vacant).size in
        subst P (sym e) (ap (λ (v : Word). v.size) (get_or-set_same ws j w vacant within))
    go (inl e) (inr past) = ap (λ vs. (get_or vs i vacant).size) (set_past ws j w past)
    go (inr other) _ = ap (λ (v : Word). v.size) (get_or-set_other ws j i w vacant other)

-- A buffer in hand is filled, or laid where the stream is closed.
pub record FillsSo (c : List (Option Filling)) (b : Board) (k i : ℕ) (f : Filling) : Type 0 where
  pub filled : Bool
  pub goes : Goes c b k (filled_or_laid i f filled)
  -- what is left in hand, and the sizes
  pub left : (j : ℕ) → same j i + times j (hand (after_events b k (filled_or_laid i f filled)) k) ≡ times j (hand b k)
  pub sizes : (j : ℕ) → (word_at (after_events b k (filled_or_laid i f filled)) j).size ≡ (word_at b j).size
  pub pool : (after_events b k (filled_or_laid i f filled)).pool ≡ b.pool
  pub actor : IsActor (after_events b k (filled_or_laid i f filled)) k

pub fill_can : (c : List (Option Filling)) (b : Board) (k i : ℕ) (f : Filling) → IsActor b k → InHand b k i → length f.bytes ≡ (word_at b i).size
    → (k ≡ acquirer) ⊎ (Some f ≡ emptied (lying c i)) → FillsSo c b k i f
fill_can c b k i f actor mine sized lay = go (cases_Bool b.closed)
  where
    go : (b.closed ≡ true) ⊎ (b.closed ≡ false) → FillsSo c b k i f
    go (inl closed) =
        let goes : Goes c b k (Fill i f false ∷ Lay i ∷ []) =
        goes_first c b k (Fill i f false) (Lay i ∷ []) actor (mine, sized, closed) tt lay (λ _. goes_last c b k (Lay i) actor mine tt tt) in
        record {
          filled = false;
          goes = goes;
          left = λ j. dropped b k i j actor mine;
          sizes = λ j. size_stays b.words i Held j;
          pool = refl;
          actor = goes.actors k actor;
        }
    go (inr opened) =
        let goes : Goes c b k (Fill i f true ∷ []) = goes_last c b k (Fill i f true) actor (mine, sized, opened) tt lay in
        record {
          filled = true;
          goes = goes;
          left = λ j. dropped b k i j actor mine;
          sizes = λ j. refl;
          pool = refl;
          actor = goes.actors k actor;
        }

lies_emptied : (c : List (Option Filling)) (i : ℕ) (f : Filling) → lying c i ≡ Some f → Some (record { bytes = f.bytes; rec = empty_record }) ≡ emptied (lying c i)
lies_emptied c i f is = ap emptied (sym is)

fills_each : (c : List (Option Filling)) (is : List ℕ) (b : Board) (k : ℕ) → IsActor b k → Has b k is
    → ((j : ℕ) → 1 ≤ times j is → LiesSized c b j) → (rest : List Event) × FillsEach is rest × Goes c b k rest
fills_each c [] b k actor has lie = ([], refl, goes_none c b k)
fills_each c (i ∷ is) b k actor has lie =
    let there : LiesSized c b i = lie i (omega (arith, one)) in
    let f : Filling = record { bytes = there.filling.bytes; rec = empty_record } in
    let first : FillsSo c b k i f = fill_can c b k i f actor (has_first b k i is has) there.sized (inr (lies_emptied c i there.filling there.lies)) in
    let events : List Event = filled_or_laid i f first.filled in
    let more = fills_each c is (after_events b k events) k first.actor (has_rest b k i is _ first.left has)
    (λ j some. let lies : LiesSized c b j = lie j (omega (arith, some)) in record {
      filling = lies.filling;
      lies = lies.lies;
      sized = lies.sized ∙ sym (first.sizes j);
    }) in (
      events ++ more.0,
      (f, first.filled, more.0, refl, refl, more.1),
      goes_both c b k events more.0 first.goes more.2,
    )
  where
    one : same i i ≡ 1
    one = same_self i

to_output_can : (c : List (Option Filling)) (b : Board) (k : ℕ) → IsActor b k → ((j : ℕ) → 1 ≤ times j b.pool → LiesSized c b j)
    → Can c b k FlushesToOutput
to_output_can c b k actor lie =
    let swept_board : Board = after_event b k (SweepPool b.pool) in
    let first : Goes c b k (SweepPool b.pool ∷ []) = goes_last c b k (SweepPool b.pool) actor refl tt tt in
    let stays : IsActor swept_board k = first.actors k actor in
    let more = fills_each c b.pool swept_board k stays (has_swept_pool b k actor) (λ j some. let l : LiesSized c b j = lie j some in record { filling = l.filling; lies = l.lies; sized = l.sized }) in
    record {
      events = SweepPool b.pool ∷ more.0;
      kind = record { pooled = b.pool; rest = more.0; is = refl; fills = more.1 };
      goes = goes_first c b k (SweepPool b.pool) more.0 actor refl tt tt (λ _. more.2);
    }

-- ---- Held places

pub record PoolsSo (c : List (Option Filling)) (b : Board) (k i n : ℕ) : Type 0 where
  pub seen : List Seen
  pub all : length seen ≡ n
  pub grabbed : AreGrabbedIfHeld seen
  pub goes : Goes c b k (pools_from i seen)

pools_held : (c : List (Option Filling)) (n i : ℕ) (b : Board) (k : ℕ) → IsActor b k → i + n ≡ place_count → PoolsSo c b k i n
pools_held c zero i b k actor all = record { seen = []; all = refl; grabbed = tt; goes = goes_none c b k }
pools_held c (suc n) i b k actor all = go (word_at b i).state refl (λ new stays. pools_held c n (i + 1) new k stays (omega (arith, all)))
  where
    w : Word
    w = word_at b i

    below : i < place_count
    below = omega (arith, all)

    left_there : w.state ≢ Held → ((new : Board) → IsActor new k → PoolsSo c new k (i + 1) n) → PoolsSo c b k i (suc n)
    left_there other later =
        let rest : PoolsSo c b k (i + 1) n = later b actor in
        record {
          seen = record { word = w; grab = None } ∷ rest.seen;
          all = ap suc rest.all;
          grabbed = (other, rest.grabbed);
          goes = goes_first c b k (Look i w) (pools_from (i + 1) rest.seen) actor (below, refl) tt tt (λ _. rest.goes);
        }

    grabbed_there : w.state ≡ Held → ((new : Board) → IsActor new k → PoolsSo c new k (i + 1) n) → PoolsSo c b k i (suc n)
    grabbed_there is later =
        let grab : Event = Grab i w.generation (Ok tt) in
        let taken : Board = after_event b k grab in
        let first : Goes c b k (grab ∷ Pool i ∷ []) =
        goes_first c b k grab (Pool i ∷ []) actor (below, (is, refl)) tt tt
        (λ stays. goes_last c taken k (Pool i) stays (just_picked b k i actor) tt tt) in
        let pooled : Board = after_event taken k (Pool i) in
        let rest : PoolsSo c pooled k (i + 1) n = later pooled (first.actors k actor) in
        record {
          seen = record { word = w; grab = Some (Ok tt) } ∷ rest.seen;
          all = ap suc rest.all;
          grabbed = (is, rest.grabbed);
          goes =
              goes_first c b k (Look i w) (grab ∷ Pool i ∷ pools_from (i + 1) rest.seen) actor (below, refl) tt tt
              (λ _. goes_both c b k (grab ∷ Pool i ∷ []) (pools_from (i + 1) rest.seen) first rest.goes);
        }

    go : (s : State) → w.state ≡ s → ((new : Board) → IsActor new k → PoolsSo c new k (i + 1) n) → PoolsSo c b k i (suc n)
    go Held is = grabbed_there is
    go Vacant is = left_there (λ e. let both : Vacant ≡ Held = sym is ∙ e in cc)
    go Away is = left_there (λ e. let both : Away ≡ Held = sym is ∙ e in cc)

held_can : (c : List (Option Filling)) (b : Board) (k : ℕ) → IsActor b k → Can c b k PoolsHeld
held_can c b k actor =
    let so : PoolsSo c b k 0 place_count = pools_held c place_count 0 b k actor refl in
    record {
      events = pools_from 0 so.seen;
      kind = record { seen = so.seen; all = so.all; grabbed = so.grabbed; is = refl };
      goes = so.goes;
    }

to_input_can : (c : List (Option Filling)) (b : Board) (k : ℕ) → IsActor b k → Can c b k FlushesToInput
to_input_can c b k actor =
    let output : List ℕ = places b.out in
    let swept_board : Board = after_event b k (SweepOut output) in
    let first : Goes c b k (SweepOut output ∷ []) = goes_last c b k (SweepOut output) actor refl tt tt in
    let stays : IsActor swept_board k = first.actors k actor in
    let pooled : Goes c swept_board k (pools output) = pools_go c output swept_board k stays (has_swept_out b k actor) in
    let rest : Can c (after_events swept_board k (pools output)) k PoolsHeld =
    held_can c (after_events swept_board k (pools output)) k (pooled.actors k stays) in
    record {
      events = SweepOut output ∷ pools output ++ rest.events;
      kind = record { output = output; rest = rest.events; is = refl; held = rest.kind };
      goes =
          goes_first c b k (SweepOut output) (pools output ++ rest.events) actor refl tt tt
          (λ _. goes_both c swept_board k (pools output) rest.events pooled rest.goes);
    }

-- ---- the operations

pub flush_can : (c : List (Option Filling)) (b : Board) (k operation : ℕ) → IsActor b k → ((j : ℕ) → 1 ≤ times j b.pool → LiesSized c b j)
    → (answer : Result (Unit {0}) GcError) × Can c b k (Flushes operation answer)
flush_can c b k operation actor lie = go (cases_eq operation 0) (cases_eq operation 1) (cases_eq operation 2) (cases_eq operation 3) (cases_eq operation 4)
  where
    go : (operation ≡ 0) ⊎ (operation ≢ 0) → (operation ≡ 1) ⊎ (operation ≢ 1) → (operation ≡ 2) ⊎ (operation ≢ 2)
        → (operation ≡ 3) ⊎ (operation ≢ 3) → (operation ≡ 4) ⊎ (operation ≢ 4) → (answer : Result (Unit {0}) GcError) × Can c b k (Flushes operation answer)
    go (inl is) _ _ _ _ =
        let can : Can c b k FlushesToOutput = to_output_can c b k actor lie in (
          Ok tt,
          record {
            events = can.events;
            kind = record {
              in_range = omega (arith, is);
              to_output = λ _. can.kind;
              discards_output = λ e. absurd (omega (arith, is, e));
              to_input = λ e. absurd (omega (arith, is, e));
              unqueued_to_input = λ e. absurd (omega (arith, is, e));
              discards_all = λ e. absurd (omega (arith, is, e));
            };
            goes = can.goes;
          },
        )
    go _ (inl is) _ _ _ =
        let can : Can c b k DiscardsOutput = discard_can c b k actor in (
          Ok tt,
          record {
            events = can.events;
            kind = record {
              in_range = omega (arith, is);
              to_output = λ e. absurd (omega (arith, is, e));
              discards_output = λ _. can.kind;
              to_input = λ e. absurd (omega (arith, is, e));
              unqueued_to_input = λ e. absurd (omega (arith, is, e));
              discards_all = λ e. absurd (omega (arith, is, e));
            };
            goes = can.goes;
          },
        )
    go _ _ (inl is) _ _ =
        let can : Can c b k FlushesToInput = to_input_can c b k actor in (
          Ok tt,
          record {
            events = can.events;
            kind = record {
              in_range = omega (arith, is);
              to_output = λ e. absurd (omega (arith, is, e));
              discards_output = λ e. absurd (omega (arith, is, e));
              to_input = λ _. can.kind;
              unqueued_to_input = λ e. absurd (omega (arith, is, e));
              discards_all = λ e. absurd (omega (arith, is, e));
            };
            goes = can.goes;
          },
        )
    go _ _ _ (inl is) _ =
        let can : Can c b k PoolsHeld = held_can c b k actor in (
          Ok tt,
          record {
            events = can.events;
            kind = record {
              in_range = omega (arith, is);
              to_output = λ e. absurd (omega (arith, is, e));
              discards_output = λ e. absurd (omega (arith, is, e));
              to_input = λ e. absurd (omega (arith, is, e));
              unqueued_to_input = λ _. can.kind;
              discards_all = λ e. absurd (omega (arith, is, e));
            };
            goes = can.goes;
          },
        )
    go _ _ _ _ (inl is) =
        let can : Can c b k DiscardsAll = discard_all_can c b k actor in (
          Ok tt,
          record {
            events = can.events;
            kind = record {
              in_range = omega (arith, is);
              to_output = λ e. absurd (omega (arith, is, e));
              discards_output = λ e. absurd (omega (arith, is, e));
              to_input = λ e. absurd (omega (arith, is, e));
              unqueued_to_input = λ e. absurd (omega (arith, is, e));
              discards_all = λ _. can.kind;
            };
            goes = can.goes;
          },
        )
    go (inr n0) (inr n1) (inr n2) (inr n3) (inr n4) = (
      Err (InvalidParameter operation),
      record { events = []; kind = (refl, above (cases_lt 4 operation), refl); goes = goes_none c b k },
    )
      where
        above : (4 < operation) ⊎ (operation ≤ 4) → 4 < operation
        above (inl high) = high
        above (inr low) = omega (arith, n0, n1, n2, n3, n4, low)
