-- Each call on a stream, or on one of its buffers, can be made: with some answer, whatever the board.
use Rattle.std.proofs.Common.{◌≡◌, ◌≢◌, ◌⊎◌, inl, inr, ℕ, zero, suc, ◌+◌, ◌<◌, ◌≤◌, ◌==◌, Bool, true, false, List, [], ◌∷◌, ◌++◌, length, Option, Result, Ok, Err, refl, sym, ap, arith}
use Rattle.std.proofs.lemmas.Bool.{cases_Bool, cases_eq, cases_lt}
use Rattle.gev_types.specs.Filling.{Filling}
use Rattle.gev_types.specs.Limits.{place_count, max_buffer_size}
use Rattle.gentl_types.specs.declared.buffer_id.BufferId.{BufferId}
use Rattle.gentl_types.specs.declared.errors.GcError.{GcError}
use Rattle.gentl_types.specs.declared.errors.GcError.TheVariants.{InvalidHandle, InvalidParameter, ResourceInUse, ResourceExhausted, OutOfMemory, Busy, Timeout, Abort}
use Rattle.gentl_types.specs.declared.errors.Shown.TheVariants as shown
use Rattle.gentl_types.specs.declared.word.Word.{Word}
use Rattle.gentl_types.specs.declared.word.State.{State}
use Rattle.gentl_types.specs.declared.word.State.TheVariants.{Vacant, Held, Away}
use Rattle.board_machine.specs.declared.events.Event.{Event}
use Rattle.board_machine.specs.declared.events.Event.TheVariants.{LookOut, Enrol, Grab, Lay, Vacate, Pool, SweepPool, Take, SweepOut, Close, Post, Unpost, Start, Stop}
use Rattle.board_machine.specs.declared.events.TakeEnd.TheVariants as taken
use Rattle.board_machine.specs.Machine.{Board, Item, word_at, places, IsActor, IsHeldAs, after_event}
use Rattle.board_machine.proofs.Answers.{can_enrol, can_enrol_true, can_enrol_false, is_held_as, held_as_true, held_as_false}
use Rattle.board_calls.specs.Calls.{IsGone, IsAwayAs, IsSize, closed_refusal, run_word, Announces, Queues, Revokes, Starts, Stops, DiscardsOutput, DiscardsAll, Closes, Gets, itself, Kills}
use Rattle.board_calls.specs.Rounds.{refused_from, lays}
use Rattle.script_trace.proofs.Doing.{Goes, Can, goes_none, goes_first, goes_last, lays_go, lays_both_go, just_picked, has_swept_out, swept}

-- ---- the output is looked at first

closed_can : (c : List (Option Filling)) (b : Board) (k : ℕ) (closed : Bool) → IsActor b k → b.closed ≡ closed → Goes c b k (LookOut (places b.out) closed ∷ [])
closed_can c b k closed actor is = goes_last c b k (LookOut (places b.out) closed) actor (refl, sym is) tt tt

opens_can : (c : List (Option Filling)) (b : Board) (k : ℕ) (rest : List Event) → IsActor b k → b.closed ≡ false → Goes c b k rest
    → Goes c b k (LookOut (places b.out) false ∷ rest)
opens_can c b k rest actor open_still goes = goes_first c b k (LookOut (places b.out) false) rest actor (refl, sym open_still) tt tt (λ _. goes)

-- ---- announce

-- no place takes the buffer
record NoneTakes (c : List (Option Filling)) (b : Board) (k size i n : ℕ) : Type 0 where
  words : List Word
  all : length words ≡ n
  goes : Goes c b k (refused_from i size words)

-- a place takes it
record OneTakes (c : List (Option Filling)) (b : Board) (k size i : ℕ) : Type 0 where
  words : List Word
  place : ℕ
  generation : ℕ
  at : place ≡ i + length words
  goes : Goes c b k (refused_from i size words ++ Enrol place size (Ok generation) ∷ Lay place ∷ [])

tries : (c : List (Option Filling)) (b : Board) (k size i n : ℕ) → IsActor b k → IsSize size → i + n ≡ place_count → NoneTakes c b k size i n ⊎ OneTakes c b k size i
tries c b k size i zero actor sized all = inl (record { words = []; all = refl; goes = goes_none c b k })
tries c b k size i (suc n) actor sized all = go (cases_Bool (can_enrol (word_at b i))) (tries c b k size (i + 1) n actor sized (omega (arith, all)))
  where
    w : Word
    w = word_at b i

    below : i < place_count
    below = omega (arith, all)

    refused : can_enrol w ≡ false → (rest : List Event) → Goes c b k rest → Goes c b k (Enrol i size (Err w) ∷ rest)
    refused not rest goes =
        goes_first c b k (Enrol i size (Err w)) rest actor (below, sized.0, sized.1, refl, can_enrol_false w not) tt tt (λ _. goes)

    next_one : can_enrol w ≡ false → NoneTakes c b k size (i + 1) n ⊎ OneTakes c b k size (i + 1) → NoneTakes c b k size i (suc n) ⊎ OneTakes c b k size i
    next_one not (inl none) = inl (record {
      words = w ∷ none.words;
      all = ap suc none.all;
      goes = refused not (refused_from (i + 1) size none.words) none.goes;
    })
    next_one not (inr one) = inr (record {
      words = w ∷ one.words;
      place = one.place;
      generation = one.generation;
      at = omega (arith, one.at);
      goes = refused not (refused_from (i + 1) size one.words ++ Enrol one.place size (Ok one.generation) ∷ Lay one.place ∷ []) one.goes;
    })

    go : (can_enrol w ≡ true) ⊎ (can_enrol w ≡ false) → NoneTakes c b k size (i + 1) n ⊎ OneTakes c b k size (i + 1) → NoneTakes c b k size i (suc n) ⊎ OneTakes c b k size i
    go (inl can) later =
        let e : Event = Enrol i size (Ok (w.generation + 1)) in
        inr (record {
          words = [];
          place = i;
          generation = w.generation + 1;
          at = omega arith;
          goes =
              goes_first c b k e (Lay i ∷ []) actor (below, sized.0, sized.1, can_enrol_true w can, refl) tt tt
              (λ stays. goes_last c (after_event b k e) k (Lay i) stays (just_picked b k i actor) tt tt);
        })
    go (inr not) later = next_one not later

size_cases : (size : ℕ) → IsSize size ⊎ (¬ IsSize size)
size_cases size = go (cases_lt 0 size) (cases_lt max_buffer_size size)
  where
    go : (0 < size) ⊎ (size ≤ 0) → (max_buffer_size < size) ⊎ (size ≤ max_buffer_size) → IsSize size ⊎ (¬ IsSize size)
    go (inl some) (inr few) = inl (omega (arith, some), few)
    go (inr none) _ = inr (λ is. omega (arith, none, is.0))
    go _ (inl many) = inr (λ is. omega (arith, many, is.1))

-- Memory doesn't want.
pub record Announced (c : List (Option Filling)) (b : Board) (k size : ℕ) : Type 0 where
  pub answer : Result BufferId GcError
  pub some : answer ≢ Err OutOfMemory
  pub can : Can c b k (Announces size answer)

pub announce_can : (c : List (Option Filling)) (b : Board) (k size : ℕ) → IsActor b k → Announced c b k size
announce_can c b k size actor = go (cases_Bool b.closed) (size_cases size)
  where
    tried : b.closed ≡ false → IsSize size → NoneTakes c b k size 0 place_count ⊎ OneTakes c b k size 0 → Announced c b k size
    tried opened sized (inl none) = record {
      answer = Err ResourceExhausted;
      some = λ e. cc;
      can = record {
        events = LookOut (places b.out) false ∷ refused_from 0 size none.words;
        kind = (sized, (none.words, none.all, record { output = places b.out; is = refl }));
        goes = opens_can c b k (refused_from 0 size none.words) actor opened none.goes;
      };
    }
    tried opened sized (inr one) =
        let rest : List Event = refused_from 0 size one.words ++ Enrol one.place size (Ok one.generation) ∷ Lay one.place ∷ [] in
        record {
          answer = Ok (record { place = one.place; generation = one.generation });
          some = λ e. cc;
          can = record {
            events = LookOut (places b.out) false ∷ rest;
            kind = (sized, (one.words, omega (arith, one.at), record { output = places b.out; is = refl }));
            goes = opens_can c b k rest actor opened one.goes;
          };
        }

    go : (b.closed ≡ true) ⊎ (b.closed ≡ false) → IsSize size ⊎ (¬ IsSize size) → Announced c b k size
    go (inl closed) _ = record {
      answer = Err closed_refusal;
      some = λ e. cc;
      can = record {
        events = LookOut (places b.out) true ∷ [];
        kind = record { output = places b.out; is = refl };
        goes = closed_can c b k true actor closed;
      };
    }
    go (inr opened) (inr not) = record {
      answer = Err (InvalidParameter size);
      some = λ e. cc;
      can = record {
        events = LookOut (places b.out) false ∷ [];
        kind = (refl, not, record { output = places b.out; is = refl });
        goes = closed_can c b k false actor opened;
      };
    }
    go (inr opened) (inl sized) = tried opened sized (tries c b k size 0 place_count actor sized refl)

-- ---- a grab

-- what a grab of the buffer with this id finds
pub data Finds (b : Board) (id : BufferId) : Type 0 where
  no_place : place_count ≤ id.place → Finds b id
  held_there : id.place < place_count → IsHeldAs (word_at b id.place) id.generation → Finds b id
  gone_there : id.place < place_count → ¬ IsHeldAs (word_at b id.place) id.generation → IsGone (word_at b id.place) id.generation → Finds b id
  away_there : id.place < place_count → ¬ IsHeldAs (word_at b id.place) id.generation → IsAwayAs (word_at b id.place) id.generation → Finds b id

pub finds : (b : Board) (id : BufferId) → Finds b id
finds b id = go (cases_lt id.place place_count) (cases_Bool (is_held_as w id.generation)) (cases_eq w.generation id.generation)
  where
    w : Word
    w = word_at b id.place

    by_state : (s : State) → w.state ≡ s → id.place < place_count → ¬ IsHeldAs w id.generation → (w.generation ≡ id.generation) ⊎ (w.generation ≢ id.generation) → Finds b id
    by_state Vacant is below not same = gone_there below not (inl is)
    by_state Held is below not (inl same) = absurd (not (is, same))
    by_state Held is below not (inr apart) = gone_there below not (inr apart)
    by_state Away is below not (inl same) = away_there below not (is, same)
    by_state Away is below not (inr apart) = gone_there below not (inr apart)

    go : (id.place < place_count) ⊎ (place_count ≤ id.place) → (is_held_as w id.generation ≡ true) ⊎ (is_held_as w id.generation ≡ false)
        → (w.generation ≡ id.generation) ⊎ (w.generation ≢ id.generation) → Finds b id
    go (inr high) _ _ = no_place high
    go (inl below) (inl held_so) _ = held_there below (held_as_true w id.generation held_so)
    go (inl below) (inr not) same = by_state w.state refl below (held_as_false w id.generation not) same

pub grab_goes : (c : List (Option Filling)) (b : Board) (k : ℕ) (id : BufferId) (rest : List Event) → IsActor b k → id.place < place_count
    → IsHeldAs (word_at b id.place) id.generation
    → (IsActor (after_event b k (Grab id.place id.generation (Ok tt))) k → Goes c (after_event b k (Grab id.place id.generation (Ok tt))) k rest)
    → Goes c b k (Grab id.place id.generation (Ok tt) ∷ rest)
grab_goes c b k id rest actor below is goes = goes_first c b k (Grab id.place id.generation (Ok tt)) rest actor (below, is) tt tt goes

pub grab_refused : (c : List (Option Filling)) (b : Board) (k : ℕ) (id : BufferId) → IsActor b k → id.place < place_count
    → ¬ IsHeldAs (word_at b id.place) id.generation → Goes c b k (Grab id.place id.generation (Err (word_at b id.place)) ∷ [])
grab_refused c b k id actor below not =
    goes_last c b k (Grab id.place id.generation (Err (word_at b id.place))) actor (below, refl, not) tt tt

-- ---- queue

pub queue_can : (c : List (Option Filling)) (b : Board) (k : ℕ) (id : BufferId) → IsActor b k
    → (answer : Result (Unit {0}) GcError) × Can c b k (Queues id answer)
queue_can c b k id actor = go (cases_Bool b.closed) (finds b id)
  where
    w : Word
    w = word_at b id.place

    go : (b.closed ≡ true) ⊎ (b.closed ≡ false) → Finds b id → (answer : Result (Unit {0}) GcError) × Can c b k (Queues id answer)
    go (inl closed) _ = (
      Err closed_refusal,
      record {
        events = LookOut (places b.out) true ∷ [];
        kind = record { output = places b.out; is = refl };
        goes = closed_can c b k true actor closed;
      },
    )
    go (inr opened) (no_place high) = (
      Err (InvalidHandle (shown.NoHandle id.place)),
      record {
        events = LookOut (places b.out) false ∷ [];
        kind = ([], (high, refl, refl), record { output = places b.out; is = refl });
        goes = closed_can c b k false actor opened;
      },
    )
    go (inr opened) (held_there below is) = (
      Ok tt,
      record {
        events = LookOut (places b.out) false ∷ Grab id.place id.generation (Ok tt) ∷ Pool id.place ∷ [];
        kind = (below, record { output = places b.out; is = refl });
        goes =
            opens_can c b k (Grab id.place id.generation (Ok tt) ∷ Pool id.place ∷ []) actor opened
            (grab_goes c b k id (Pool id.place ∷ []) actor below is
            (λ stays. goes_last c _ k (Pool id.place) stays (just_picked b k id.place actor) tt tt));
      },
    )
    go (inr opened) (gone_there below not gone) = (
      Err (InvalidHandle (shown.Word w)),
      record {
        events = LookOut (places b.out) false ∷ Grab id.place id.generation (Err w) ∷ [];
        kind = (Grab id.place id.generation (Err w) ∷ [], (below, gone, refl), record { output = places b.out; is = refl });
        goes = opens_can c b k (Grab id.place id.generation (Err w) ∷ []) actor opened (grab_refused c b k id actor below not);
      },
    )
    go (inr opened) (away_there below not away) = (
      Err (ResourceInUse (shown.Word w)),
      record {
        events = LookOut (places b.out) false ∷ Grab id.place id.generation (Err w) ∷ [];
        kind = (Grab id.place id.generation (Err w) ∷ [], (below, away, refl), record { output = places b.out; is = refl });
        goes = opens_can c b k (Grab id.place id.generation (Err w) ∷ []) actor opened (grab_refused c b k id actor below not);
      },
    )

-- ---- revoke

pub revoke_can : (c : List (Option Filling)) (b : Board) (k : ℕ) (id : BufferId) → IsActor b k
    → (answer : Result (Unit {0}) GcError) × Can c b k (Revokes id answer)
revoke_can c b k id actor = go (finds b id)
  where
    w : Word
    w = word_at b id.place

    go : Finds b id → (answer : Result (Unit {0}) GcError) × Can c b k (Revokes id answer)
    go (no_place high) = (
      Err (InvalidHandle (shown.NoHandle id.place)),
      record { events = []; kind = (high, refl, refl); goes = goes_none c b k },
    )
    go (held_there below is) = (
      Ok tt,
      record {
        events = Grab id.place id.generation (Ok tt) ∷ Vacate id.place ∷ [];
        kind = (below, refl);
        goes =
            grab_goes c b k id (Vacate id.place ∷ []) actor below is
            (λ stays. goes_last c _ k (Vacate id.place) stays (just_picked b k id.place actor) tt tt);
      },
    )
    go (gone_there below not gone) = (
      Err (InvalidHandle (shown.Word w)),
      record { events = Grab id.place id.generation (Err w) ∷ []; kind = (below, gone, refl); goes = grab_refused c b k id actor below not },
    )
    go (away_there below not away) = (
      Err (Busy w),
      record { events = Grab id.place id.generation (Err w) ∷ []; kind = (below, away, refl); goes = grab_refused c b k id actor below not },
    )

-- ---- start and stop

pub start_can : (c : List (Option Filling)) (b : Board) (k : ℕ) → IsActor b k → (answer : Result (Unit {0}) GcError) × Can c b k (Starts answer)
start_can c b k actor = go (cases_Bool b.closed) (cases_eq b.run 1)
  where
    go : (b.closed ≡ true) ⊎ (b.closed ≡ false) → (b.run ≡ 1) ⊎ (b.run ≢ 1) → (answer : Result (Unit {0}) GcError) × Can c b k (Starts answer)
    go (inl closed) _ = (
      Err closed_refusal,
      record {
        events = LookOut (places b.out) true ∷ [];
        kind = record { output = places b.out; is = refl };
        goes = closed_can c b k true actor closed;
      },
    )
    go (inr opened) (inl runs) = (
      Err (ResourceInUse (shown.Word (run_word b.run))),
      record {
        events = LookOut (places b.out) false ∷ Start (Err b.run) ∷ [];
        kind = (b.run, refl, record { output = places b.out; is = refl });
        goes = opens_can c b k (Start (Err b.run) ∷ []) actor opened (goes_last c b k (Start (Err b.run)) actor (refl, runs) tt tt);
      },
    )
    go (inr opened) (inr stands) = (
      Ok tt,
      record {
        events = LookOut (places b.out) false ∷ Start (Ok tt) ∷ [];
        kind = record { output = places b.out; is = refl };
        goes = opens_can c b k (Start (Ok tt) ∷ []) actor opened (goes_last c b k (Start (Ok tt)) actor stands tt tt);
      },
    )

pub stop_can : (c : List (Option Filling)) (b : Board) (k flags : ℕ) → IsActor b k
    → (answer : Result (Unit {0}) GcError) × Can c b k (Stops flags answer)
stop_can c b k flags actor = go (cases_lt 1 flags) (cases_eq b.run 1)
  where
    go : (1 < flags) ⊎ (flags ≤ 1) → (b.run ≡ 1) ⊎ (b.run ≢ 1) → (answer : Result (Unit {0}) GcError) × Can c b k (Stops flags answer)
    go (inl many) _ = (Err (InvalidParameter flags), record { events = []; kind = (refl, many, refl); goes = goes_none c b k })
    go (inr few) (inl runs) = (
      Ok tt,
      record {
        events = Stop (flags == 1) (Ok tt) ∷ [];
        kind = (few, refl);
        goes = goes_last c b k (Stop (flags == 1) (Ok tt)) actor runs tt tt;
      },
    )
    go (inr few) (inr stands) = (
      Err (ResourceInUse (shown.Word (run_word b.run))),
      record {
        events = Stop (flags == 1) (Err b.run) ∷ [];
        kind = (few, (b.run, refl, refl));
        goes = goes_last c b k (Stop (flags == 1) (Err b.run)) actor (refl, stands) tt tt;
      },
    )

-- ---- take, kill and close

pub data Got (c : List (Option Filling)) (b : Board) (k : ℕ) : Type 0 where
  got : (x : Item) (rest : List Item) → b.out ≡ x ∷ rest → Goes c b k (Take (taken.Taken x.place) ∷ Lay x.place ∷ []) → Got c b k
  got_none : (refusal : GcError) → Can c b k (Gets {T = ℕ} 0 itself (Err refusal)) → Got c b k

pub get_can : (c : List (Option Filling)) (b : Board) (k : ℕ) → IsActor b k → Got c b k
get_can c b k actor = go (cases_Bool b.closed) b.out refl (cases_Bool b.kill)
  where
    go : (b.closed ≡ true) ⊎ (b.closed ≡ false) → (out : List Item) → b.out ≡ out → (b.kill ≡ true) ⊎ (b.kill ≡ false) → Got c b k
    go (inl closed) out is _ =
        got_none closed_refusal
        (record { events = Take taken.Closed ∷ []; kind = refl; goes = goes_last c b k (Take taken.Closed) actor closed tt tt })
    go (inr opened) [] is (inl killed) =
        got_none Abort (record {
          events = Take taken.Empty ∷ Unpost true ∷ [];
          kind = refl;
          goes =
              goes_first c b k (Take taken.Empty) (Unpost true ∷ []) actor (opened, is) tt tt
              (λ _. goes_last c b k (Unpost true) actor (sym killed) tt tt);
        })
    go (inr opened) [] is (inr spared) =
        got_none (Timeout 0 0) (record {
          events = Take taken.Empty ∷ Unpost false ∷ [];
          kind = (refl, refl, refl);
          goes =
              goes_first c b k (Take taken.Empty) (Unpost false ∷ []) actor (opened, is) tt tt
              (λ _. goes_last c b k (Unpost false) actor (sym spared) tt tt);
        })
    go (inr opened) (x ∷ rest) is _ =
        got x rest is
        (goes_first c b k (Take (taken.Taken x.place)) (Lay x.place ∷ []) actor (opened, (x.filling, rest, is)) tt tt
        (λ stays. goes_last c (after_event b k (Take (taken.Taken x.place))) k (Lay x.place) stays (just_picked b k x.place actor) tt tt))

pub kill_can : (c : List (Option Filling)) (b : Board) (k : ℕ) → IsActor b k → Can c b k Kills
kill_can c b k actor = record { events = Post ∷ []; kind = refl; goes = goes_last c b k Post actor tt tt tt }

pub discard_can : (c : List (Option Filling)) (b : Board) (k : ℕ) → IsActor b k → Can c b k DiscardsOutput
discard_can c b k actor = record {
  events = SweepOut (places b.out) ∷ lays (places b.out);
  kind = record { output = places b.out; is = refl };
  goes =
      goes_first c b k (SweepOut (places b.out)) (lays (places b.out)) actor refl tt tt
      (λ stays. lays_go c (places b.out) (after_event b k (SweepOut (places b.out))) k stays (has_swept_out b k actor));
}

pub discard_all_can : (c : List (Option Filling)) (b : Board) (k : ℕ) → IsActor b k → Can c b k DiscardsAll
discard_all_can c b k actor =
    let first : Board = after_event b k (SweepPool b.pool) in
    record {
      events = SweepPool b.pool ∷ SweepOut (places b.out) ∷ lays b.pool ++ lays (places b.out);
      kind = record { pooled = b.pool; output = places b.out; is = refl };
      goes =
          goes_first c b k (SweepPool b.pool) (SweepOut (places b.out) ∷ lays b.pool ++ lays (places b.out)) actor refl tt tt
          (λ stays. goes_first c first k (SweepOut (places b.out)) (lays b.pool ++ lays (places b.out)) stays refl tt tt
          (λ still. lays_both_go c b.pool (places b.out) (after_event first k (SweepOut (places b.out))) k still
          (λ j. omega (arith, swept first k j (places b.out) stays, swept b k j b.pool actor))));
    }

pub close_can : (c : List (Option Filling)) (b : Board) (k : ℕ) → IsActor b k → Can c b k Closes
close_can c b k actor =
    let first : Board = after_event b k Close in
    let second : Board = after_event first k (SweepOut (places b.out)) in
    record {
      events = Close ∷ SweepOut (places b.out) ∷ SweepPool b.pool ∷ lays (places b.out) ++ lays b.pool;
      kind = record { output = places b.out; pooled = b.pool; is = refl };
      goes =
          goes_first c b k Close (SweepOut (places b.out) ∷ SweepPool b.pool ∷ lays (places b.out) ++ lays b.pool) actor tt tt tt
          (λ one. goes_first c first k (SweepOut (places b.out)) (SweepPool b.pool ∷ lays (places b.out) ++ lays b.pool) one refl tt tt
          (λ two. goes_first c second k (SweepPool b.pool) (lays (places b.out) ++ lays b.pool) two refl tt tt
          (λ three. lays_both_go c (places b.out) b.pool (after_event second k (SweepPool b.pool)) k three
          (λ j. omega (arith, swept second k j b.pool two, swept first k j (places b.out) one)))));
    }
