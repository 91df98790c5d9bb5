-- Each information call can be made, with some answer.
use Rattle.std.proofs.Common.{◌≡◌, ◌≢◌, ◌⊎◌, inl, inr, ℕ, zero, suc, ◌+◌, ◌<◌, ◌≤◌, List, [], ◌∷◌, length, Option, Result, Ok, Err, refl, sym, ap, ◌∙◌, arith}
use Rattle.std.proofs.lemmas.Bool.{cases_eq, cases_lt}
use Rattle.gev_types.specs.Filling.{Filling}
use Rattle.gev_types.specs.Limits.{place_count}
use Rattle.gentl_types.specs.declared.buffer_id.BufferId.{BufferId}
use Rattle.gentl_types.specs.declared.errors.GcError.{GcError}
use Rattle.gentl_types.specs.declared.errors.GcError.TheVariants.{InvalidHandle, NotAvailable}
use Rattle.gentl_types.specs.declared.errors.Shown.TheVariants as shown
use Rattle.gentl_types.specs.declared.word.Word.{Word}
use Rattle.gentl_types.specs.declared.word.State.{State}
use Rattle.gentl_types.specs.declared.word.State.TheVariants.{Vacant, Held, Away}
use Rattle.board_machine.specs.declared.events.Event.TheVariants.{Look, LookPool, LookOut, LookRun}
use Rattle.board_machine.specs.Places.{times}
use Rattle.board_machine.specs.Machine.{Board, word_at, places, IsActor}
use Rattle.board_calls.specs.Calls.{IsGone}
use Rattle.board_calls.specs.Rounds.{looks_from}
use Rattle.board_calls.specs.Infos.{announced, IsOneWhere, Infos, IsLive, BufferInfos}
use Rattle.script_trace.proofs.Doing.{Goes, Can, goes_none, goes_first, goes_last}

-- ---- of a stream

-- each place is looked at
looks : (c : List (Option Filling)) (b : Board) (k i n : ℕ) → IsActor b k → i + n ≡ place_count
    → (words : List Word) × (length words ≡ n) × Goes c b k (looks_from i words)
looks c b k i zero actor all = ([], refl, goes_none c b k)
looks c b k i (suc n) actor all =
    let rest = looks c b k (i + 1) n actor (omega (arith, all)) in (
      word_at b i ∷ rest.0,
      ap suc rest.1,
      goes_first c b k (Look i (word_at b i)) (looks_from (i + 1) rest.0) actor (omega (arith, all), refl) tt tt (λ _. rest.2),
    )

-- 1 or 0, by a number
one_where_eq : (m n : ℕ) → (told : ℕ) × IsOneWhere told (m ≡ n)
one_where_eq m n = go (cases_eq m n)
  where
    go : (m ≡ n) ⊎ (m ≢ n) → (told : ℕ) × IsOneWhere told (m ≡ n)
    go (inl same) = (1, inl (refl, same))
    go (inr apart) = (0, inr (refl, apart))

one_where_some : (n : ℕ) → (told : ℕ) × IsOneWhere told (1 ≤ n)
one_where_some n = go (cases_lt 0 n)
  where
    go : (0 < n) ⊎ (n ≤ 0) → (told : ℕ) × IsOneWhere told (1 ≤ n)
    go (inl some) = (1, inl (refl, omega (arith, some)))
    go (inr none) = (0, inr (refl, λ some. omega (arith, some, none)))

pub info_can : (c : List (Option Filling)) (b : Board) (k which : ℕ) → IsActor b k → (answer : Result ℕ GcError) × Can c b k (Infos which answer)
info_can c b k which actor = go (cases_eq which 3) (cases_eq which 5) (cases_eq which 8) (cases_eq which 1000)
  where
    seen : (words : List Word) × (length words ≡ place_count) × Goes c b k (looks_from 0 words)
    seen = looks c b k 0 place_count actor refl

    running : (told : ℕ) × IsOneWhere told (b.run ≡ 1)
    running = one_where_eq b.run 1

    go : (which ≡ 3) ⊎ (which ≢ 3) → (which ≡ 5) ⊎ (which ≢ 5) → (which ≡ 8) ⊎ (which ≢ 8) → (which ≡ 1000) ⊎ (which ≢ 1000)
        → (answer : Result ℕ GcError) × Can c b k (Infos which answer)
    go (inl is) _ _ _ = (
      Ok (announced seen.0),
      record {
        events = looks_from 0 seen.0;
        kind = record {
          known = inl is;
          announced = λ _. record { words = seen.0; all = seen.1; is = refl; value = refl };
          awaiting = λ e. absurd (omega (arith, is, e));
          grabbing = λ e. absurd (omega (arith, is, e));
          pooled = λ e. absurd (omega (arith, is, e));
        };
        goes = seen.2;
      },
    )
    go _ (inl is) _ _ = (
      Ok (length (places b.out)),
      record {
        events = LookOut (places b.out) b.closed ∷ [];
        kind = record {
          known = inr (inl is);
          announced = λ e. absurd (omega (arith, is, e));
          awaiting = λ _. record { output = places b.out; closed = b.closed; is = refl; value = refl };
          grabbing = λ e. absurd (omega (arith, is, e));
          pooled = λ e. absurd (omega (arith, is, e));
        };
        goes = goes_last c b k (LookOut (places b.out) b.closed) actor (refl, refl) tt tt;
      },
    )
    go _ _ (inl is) _ = (
      Ok running.0,
      record {
        events = LookRun b.run ∷ [];
        kind = record {
          known = inr (inr (inl is));
          announced = λ e. absurd (omega (arith, is, e));
          awaiting = λ e. absurd (omega (arith, is, e));
          grabbing = λ _. record { run = b.run; is = refl; value = running.1 };
          pooled = λ e. absurd (omega (arith, is, e));
        };
        goes = goes_last c b k (LookRun b.run) actor refl tt tt;
      },
    )
    go _ _ _ (inl is) = (
      Ok (length b.pool),
      record {
        events = LookPool b.pool ∷ [];
        kind = record {
          known = inr (inr (inr is));
          announced = λ e. absurd (omega (arith, is, e));
          awaiting = λ e. absurd (omega (arith, is, e));
          grabbing = λ e. absurd (omega (arith, is, e));
          pooled = λ _. record { pooled = b.pool; is = refl; value = refl };
        };
        goes = goes_last c b k (LookPool b.pool) actor refl tt tt;
      },
    )
    go (inr n3) (inr n5) (inr n8) (inr n1000) = (
      Err (NotAvailable which),
      record { events = []; kind = (refl, none_of, refl); goes = goes_none c b k },
    )
      where
        none_of : (which ≡ 3) ⊎ (which ≡ 5) ⊎ (which ≡ 8) ⊎ (which ≡ 1000) → ⊥
        none_of (inl is) = n3 is
        none_of (inr (inl is)) = n5 is
        none_of (inr (inr (inl is))) = n8 is
        none_of (inr (inr (inr is))) = n1000 is

-- ---- of a buffer

live_or_gone : (w : Word) (g : ℕ) → IsLive w g ⊎ IsGone w g
live_or_gone w g = go w.state refl (cases_eq w.generation g)
  where
    go : (s : State) → w.state ≡ s → (w.generation ≡ g) ⊎ (w.generation ≢ g) → IsLive w g ⊎ IsGone w g
    go Vacant is _ = inr (inl is)
    go Held is (inl same) = inl ((λ e. let both : Held ≡ Vacant = sym is ∙ e in cc), same)
    go Away is (inl same) = inl ((λ e. let both : Away ≡ Vacant = sym is ∙ e in cc), same)
    go _ is (inr other) = inr (inr other)

pub buffer_info_can : (c : List (Option Filling)) (b : Board) (k which : ℕ) (id : BufferId) → IsActor b k
    → (answer : Result ℕ GcError) × Can c b k (BufferInfos id which answer)
buffer_info_can c b k which id actor = go (cases_lt id.place place_count) (live_or_gone w id.generation) (cases_eq which 1) (cases_eq which 1000)
  where
    w : Word
    w = word_at b id.place

    queued : (told : ℕ) × IsOneWhere told (1 ≤ times id.place b.pool + times id.place (places b.out))
    queued = one_where_some (times id.place b.pool + times id.place (places b.out))

    look : id.place < place_count → Goes c b k (Look id.place w ∷ [])
    look below = goes_last c b k (Look id.place w) actor (below, refl) tt tt

    go : (id.place < place_count) ⊎ (place_count ≤ id.place) → IsLive w id.generation ⊎ IsGone w id.generation → (which ≡ 1) ⊎ (which ≢ 1)
        → (which ≡ 1000) ⊎ (which ≢ 1000) → (answer : Result ℕ GcError) × Can c b k (BufferInfos id which answer)
    go (inr high) _ _ _ = (
      Err (InvalidHandle (shown.NoHandle id.place)),
      record { events = []; kind = (high, refl, refl); goes = goes_none c b k },
    )
    go (inl below) (inr gone) _ _ = (
      Err (InvalidHandle (shown.Word w)),
      record { events = Look id.place w ∷ []; kind = (below, gone, refl); goes = look below },
    )
    go (inl below) (inl live) (inl is) _ = (
      Ok w.size,
      record {
        events = Look id.place w ∷ [];
        kind = record {
          in_range = below;
          word = w;
          live = live;
          known = inl is;
          size = λ _. record { is = refl; value = refl };
          queued = λ e. absurd (omega (arith, is, e));
        };
        goes = look below;
      },
    )
    go (inl below) (inl live) _ (inl is) = (
      Ok queued.0,
      record {
        events = Look id.place w ∷ LookPool b.pool ∷ LookOut (places b.out) b.closed ∷ [];
        kind = record {
          in_range = below;
          word = w;
          live = live;
          known = inr is;
          size = λ e. absurd (omega (arith, is, e));
          queued = λ _. record {
            rest = LookPool b.pool ∷ LookOut (places b.out) b.closed ∷ [];
            is = refl;
            looks = record { pooled = b.pool; output = places b.out; closed = b.closed; is = refl; value = queued.1 };
          };
        };
        goes =
            goes_first c b k (Look id.place w) (LookPool b.pool ∷ LookOut (places b.out) b.closed ∷ []) actor (below, refl) tt tt
            (λ _. goes_first c b k (LookPool b.pool) (LookOut (places b.out) b.closed ∷ []) actor refl tt tt
            (λ _. goes_last c b k (LookOut (places b.out) b.closed) actor (refl, refl) tt tt));
      },
    )
    go (inl below) (inl live) (inr n1) (inr n1000) = (
      Err (NotAvailable which),
      record { events = Look id.place w ∷ []; kind = (below, refl, n1, n1000, (w, live, refl)); goes = look below },
    )
