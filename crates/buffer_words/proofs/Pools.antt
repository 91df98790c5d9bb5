-- The steps on the pool's word keep the rule.
use Rattle.std.proofs.Common.{◌≡◌, ◌≢◌, ◌⊎◌, ℕ, ◌+◌, ◌<◌, ◌≤◌, ◌^◌, List, [], ◌∷◌, ◌++◌, set, get_or, Option, Some, None, refl, sym, ap, subst, ◌∙◌, inl, inr, eqb, arith}
use Rattle.std.proofs.lemmas.List.{length-set, get_or-set_same, get_or-set_other}
use Rattle.std.proofs.lemmas.Bool.{cases_eq}
use Rattle.std.specs.Prelude.{bit_or, bit_xor}
use Rattle.std.specs.Int.{bit_at}
use mathlib.Core.Option as opt
use prog.Atomic.{either}
use lib.ListN.{get_elem?}
use Rattle.atomic_table.specs.Table.{State, step, keeps, takes, gives, put_back, stepped, Allows}
use Rattle.atomic_table.proofs.Lists.{set_here, set_else, exchanged}
use Rattle.gentl_types.specs.declared.word.State.TheVariants.{Vacant, Held, Away}
use Rattle.board_machine.specs.declared.events.Event.TheVariants.{LookPool, Pool, Claim}
use Rattle.board_machine.specs.Places.{same, times, put_in, tail}
use Rattle.board_machine.specs.Machine.{Board, word_at, places, InHand, entry, picks, drops}
use Rattle.board_machine.specs.Histories.{After}
use Rattle.board_machine.proofs.Places.{same_self, same_other, times-put}
use Rattle.board_machine.proofs.Counts.{stands_away, stands_below, hand_tally, in_places, due_le}
use Rattle.board_machine.proofs.Runs.{run_owned, run_in_hand, after-push}
use Rattle.board_machine.proofs.Rising.{run_rises}
use Rattle.buffer_words.specs.declared.view.View.{View}
use Rattle.buffer_words.specs.declared.view.Stage.TheVariants.{Idle}
use Rattle.buffer_words.specs.Codes.{IsPool}
use Rattle.buffer_words.specs.Rule.{Slot, Homes, idle, Shows, Stored, Shelved, Kept}
use Rattle.buffer_words.specs.Plays.{Seated, HoldsBuffer, ReadsPool, looked_pool, pooled, saw_pool, claimed}
use Rattle.buffer_words.proofs.Frames.{idle_adds, idle_waits}
use Rattle.buffer_words.proofs.Shelves.{HasBuffer, IsApart, apart_in_hand}
use Rattle.buffer_words.proofs.Own.{Makes, follows_idle, looking, hand_now}
use Rattle.buffer_words.proofs.Bits.{lowest_first, empty_pool, pool_more, pool_less}

-- the board with another pool, and other hands
abbrev pub with_pool : Board → List (Option (List ℕ)) → List ℕ → Board
with_pool b hands pool = record b { hands = hands; pool = pool }

pub shows_pool : (b : Board) (hands : List (Option (List ℕ))) (pool : List ℕ) (words : List ℕ) (n : ℕ) → IsPool n pool → Shows b words → Shows (with_pool b hands pool) (set words 15 n)
shows_pool b hands pool words n is shows = record {
  wide = length-set words 15 n ∙ shows.wide;
  own = λ i lt. get_or-set_other words 15 i n 0 (λ e. absurd (omega arith)) ∙ shows.own i lt;
  pool = subst (λ m. IsPool m pool) (sym (get_or-set_same words 15 n 0 (omega (arith, shows.wide)))) is;
  out = get_or-set_other words 15 16 n 0 (λ e. absurd (omega arith)) ∙ shows.out;
  kill = get_or-set_other words 15 17 n 0 (λ e. absurd (omega arith)) ∙ shows.kill;
  run = get_or-set_other words 15 18 n 0 (λ e. absurd (omega arith)) ∙ shows.run;
}

-- a place whose buffer comes to the pool or leaves it
pub shelved_pool : (b : Board) (hands : List (Option (List ℕ))) (pool : List ℕ) (homes : Homes) (i : ℕ) (x : opt.Option Slot) → i < 15
    → (word_at b i).state ≡ Away → times i (places b.out) ≡ 0
    → ((j : ℕ) → j ≢ i → 1 ≤ times j pool → 1 ≤ times j b.pool) → (1 ≤ times i pool → HasBuffer x (word_at b i))
    → Shelved b homes → Shelved (with_pool b hands pool) (set homes i x)
shelved_pool b hands pool homes i x below away unqueued fewer has sh = record {
  wide = length-set homes i x ∙ sh.wide;
  vacant = λ j lt v. set_else homes i j x (λ e. let q : (word_at b i).state ≡ Vacant = ap (λ m. (word_at b m).state) (sym e) ∙ v in absurd (cc)) ∙ sh.vacant j lt v;
  laid = λ j h. stays j (λ e. let q : (word_at b i).state ≡ Held = ap (λ m. (word_at b m).state) (sym e) ∙ h in absurd (cc)) (sh.laid j h);
  pooled = λ j more. at_pool j more (cases_eq j i);
  filled = λ n y e. set_else homes i y.place x (λ q. absurd (omega (arith, in_places b.out n y e, ap (λ m. times m (places b.out)) q))) ∙ sh.filled n y e;
}
  where
    stays : (j : ℕ) → j ≢ i → Stored b homes j → Stored (with_pool b hands pool) (set homes i x) j
    stays j ne st = record { filling = st.filling; is = set_else homes i j x ne ∙ st.is; size = st.size }

    at_pool : (j : ℕ) → 1 ≤ times j pool → (j ≡ i) ⊎ (j ≢ i) → Stored (with_pool b hands pool) (set homes i x) j
    at_pool j more (inl e) =
        let buffer = has (subst (λ m. 1 ≤ times m pool) e more) in
        subst (λ m. Stored (with_pool b hands pool) (set homes i x) m) (sym e) (record {
          filling = buffer.filling;
          is = set_here homes i x (omega (arith, sh.wide)) ∙ ap (λ y. opt.some y) buffer.is;
          size = buffer.size;
        })
    at_pool j more (inr ne) = stays j ne (sh.pooled j (fewer j ne more))

pub pools : (i slots id bit : ℕ) (me : Seated) → me.0.stage ≡ Idle → HoldsBuffer me i → bit ≡ 2 ^ i → bit < 2 ^ 15
    → Allows Kept slots id me 15 (λ n. bit_or n bit) (pooled i (step slots 15 bit 0 opt.none) me)
pools i slots id bit me st holds is small s k homes at within =
    let b = After k.history in
    let owned = run_owned k.history k.run in
    let follows = follows_idle s k id me.0 st at in
    let now : InHand (After k.history) me.0.number i = hand_now s k me.0.number me.0.seen i follows holds.in_hand in
    let word : word_at b i ≡ word_at (After me.0.seen) i = follows.words i now in
    let below : i < 15 = run_in_hand k.history me.0.number i k.run now in
    let apart : IsApart b i = apart_in_hand b me.0.number i owned now in
    let away : (word_at b i).state ≡ Away = stands_away b i owned (hand_tally b me.0.number i now) in
    let hands = (drops b me.0.number i).hands in
    let homes' : put_back s.homes me.1 ≡ set s.homes i (opt.some (Some holds.filling)) = ap (λ c. put_back s.homes c) holds.front in
    let both = idle_adds s id 15 (bit_or (get_or s.words 15 0) bit) me.1 gives me.0 (Pool i) k st at now (λ j q. cc)
    (shows_pool b hands (put_in i b.pool) s.words (bit_or (get_or s.words 15 0) bit) (pool_more (get_or s.words 15 0) i bit b.pool is small apart.pool k.shows.pool) k.shows)
    (subst (λ hs. Shelved (with_pool b hands (put_in i b.pool)) hs) (sym homes')
    (shelved_pool b hands (put_in i b.pool) s.homes i (opt.some (Some holds.filling)) below away apart.out
    (λ j ne more. omega (arith, more, times-put j i b.pool, same_other j i ne))
    (λ _. record { filling = holds.filling; is = refl; size = holds.size ∙ ap (λ w. w.size) (sym word) }) k.shelved)) in
    (idle me.0.number (k.history ++ entry me.0.number (Pool i) ∷ []), gives, tt, both.0, record { entered = both.1; slots = refl })

pub looks_pool : (slots id : ℕ) (me : Seated) → me.0.stage ≡ Idle → Allows Kept slots id me 15 (λ n. n) (looked_pool (step slots 15 0 0 opt.none) me)
looks_pool slots id me st s k homes at small =
    let event = LookPool (After k.history).pool in
    let both = looking s id 15 me event k st at refl (λ j e. cc) refl in (
      idle me.0.number (k.history ++ entry me.0.number event ∷ []),
      keeps,
      tt,
      both.0,
      record { places = (After k.history).pool; is = k.shows.pool; rising = (run_rises k.history k.run).pool; looks = both.1 },
    )

waiting_pool : (s : State Slot View) (id : ℕ) (me : Seated) (k : Kept s) → me.0.stage ≡ Idle → get_elem? s.views id ≡ opt.some me.0
    → Kept (stepped s 15 (get_or s.words 15 0) id me.1 (idle me.0.number k.history) keeps)
    × ReadsPool me (get_or s.words 15 0) (idle me.0.number k.history, me.1)
waiting_pool s id me k st at =
    let both = idle_waits s id 15 me.1 me.0 k st at in
    (both.0, record { waited = both.1; slots = refl; sees = k.shows.pool })

sees_by : (slots id : ℕ) (me : Seated) → me.0.stage ≡ Idle → (s : State Slot View) (k : Kept s) → get_elem? s.views id ≡ opt.some me.0
    → (get_or s.words 15 0 ≡ 0) ⊎ (get_or s.words 15 0 ≢ 0)
    → Makes s id 15 (get_or s.words 15 0) me (saw_pool (step slots 15 0 0 opt.none) me (get_or s.words 15 0))
sees_by slots id me st s k at (inl e) =
    let both = looking s id 15 me (Claim None) k st at (empty_pool (get_or s.words 15 0) (After k.history).pool k.shows.pool e) (λ j q. cc) refl in
    (idle me.0.number (k.history ++ entry me.0.number (Claim None) ∷ []), keeps, tt, both.0, ((λ _. both.1), λ ne. absurd (ne e)))
sees_by slots id me st s k at (inr ne) =
    let both = waiting_pool s id me k st at in
    (idle me.0.number k.history, keeps, tt, both.0, ((λ e. absurd (ne e)), λ _. both.1))

pub sees_pool : (slots id : ℕ) (me : Seated) → me.0.stage ≡ Idle → Allows Kept slots id me 15 (λ n. n) (saw_pool (step slots 15 0 0 opt.none) me)
sees_pool slots id me st s k homes at small = sees_by slots id me st s k at (cases_eq (get_or s.words 15 0) 0)

claims_hit : (i slots id old bit : ℕ) (me : Seated) → me.0.stage ≡ Idle → bit ≡ 2 ^ i → bit < 2 ^ 15 → bit_at old i ≡ 1 → ((j : ℕ) → j < i → bit_at old j ≡ 0)
    → (s : State Slot View) (k : Kept s) → get_elem? s.views id ≡ opt.some me.0 → get_or s.words 15 0 ≡ old
    → Makes s id 15 (bit_xor old bit) me (claimed i (step slots 15 old (bit_xor old bit) opt.none) me (get_or s.words 15 0))
claims_hit i slots id old bit me st is small lowest under s k at hit =
    let b = After k.history in
    let owned = run_owned k.history k.run in
    let pool : IsPool old b.pool = subst (λ n. IsPool n b.pool) hit k.shows.pool in
    let rising = (run_rises k.history k.run).pool in
    let once : 1 ≤ times i b.pool = omega (arith, pool.1 i, lowest) in
    let first : b.pool ≡ i ∷ tail b.pool = lowest_first i b.pool rising once (λ j lt. sym (pool.1 j) ∙ under j lt) in
    let more : times i b.pool ≡ same i i + times i (tail b.pool) = ap (λ l. times i l) first in
    let away : (word_at b i).state ≡ Away = stands_away b i owned (omega (arith, once)) in
    let below : i < 15 = stands_below b i owned (omega (arith, once)) in
    let unqueued : times i (places b.out) ≡ 0 = omega (arith, owned.once i, due_le (word_at b i).state, once) in
    let stored : Stored b s.homes i = k.shelved.pooled i once in
    let event = Claim (Some i) in
    let hands = (picks b me.0.number i).hands in
    let both = idle_adds s id 15 (bit_xor old bit) me.1 (takes i (Some stored.filling)) me.0 event k st at (tail b.pool, first) (λ j q. cc)
    (shows_pool b hands (tail b.pool) s.words (bit_xor old bit) (pool_less old i bit b.pool is small first pool) k.shows)
    (shelved_pool b hands (tail b.pool) s.homes i opt.none below away unqueued
    (λ j ne some. omega (arith, some, ap (λ l. times j l) first))
    (λ some. absurd (omega (arith, some, more, same_self i, owned.once i, due_le (word_at b i).state))) k.shelved) in
    let word : word_at (After (k.history ++ entry me.0.number event ∷ [])) i ≡ word_at b i = ap (λ c. word_at c i) (after-push k.history (entry me.0.number event)) in (
      idle me.0.number (k.history ++ entry me.0.number event ∷ []),
      takes i (Some stored.filling),
      stored.is,
      both.0,
      ((λ _. record { filling = stored.filling; takes = record { entered = both.1; slots = refl }; size = stored.size ∙ ap (λ w. w.size) (sym word) }), λ ne. absurd (ne hit)),
    )

claims_miss : (i slots id old new : ℕ) (me : Seated) → me.0.stage ≡ Idle → (s : State Slot View) (k : Kept s) → get_elem? s.views id ≡ opt.some me.0 → get_or s.words 15 0 ≢ old
    → Makes s id 15 (get_or s.words 15 0) me (claimed i (step slots 15 old new opt.none) me (get_or s.words 15 0))
claims_miss i slots id old new me st s k at miss =
    let both = waiting_pool s id me k st at in
    (idle me.0.number k.history, keeps, tt, both.0, ((λ hit. absurd (miss hit)), λ _. both.1))

pub claims : (i slots id old bit : ℕ) (me : Seated) → me.0.stage ≡ Idle → bit ≡ 2 ^ i → bit < 2 ^ 15 → bit_at old i ≡ 1 → ((j : ℕ) → j < i → bit_at old j ≡ 0)
    → Allows Kept slots id me 15 (λ n. either (eqb n old) (bit_xor old bit) n) (claimed i (step slots 15 old (bit_xor old bit) opt.none) me)
claims i slots id old bit me st is small lowest under s k homes at within =
    exchanged (get_or s.words 15 0) old (bit_xor old bit)
    (λ m. Makes s id 15 m me (claimed i (step slots 15 old (bit_xor old bit) opt.none) me (get_or s.words 15 0)))
    (claims_hit i slots id old bit me st is small lowest under s k at)
    (claims_miss i slots id old (bit_xor old bit) me st s k at)
