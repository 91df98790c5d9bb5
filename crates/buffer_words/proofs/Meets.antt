-- Passes that part and meet keep the rule.
use Rattle.std.proofs.Common.{◌≡◌, ◌≢◌, ◌⊎◌, ℕ, zero, suc, List, [], ◌∷◌, ◌++◌, length, set, get_or, refl, sym, ap, subst, ◌∙◌, inl, inr, ⊎_elim, arith}
use Rattle.std.proofs.lemmas.List.{set-get_or, get_or_past, append-nil}
use mathlib.Core.Option.{some, none, some-injective, some-ne-none}
use lib.ListN.{get_elem?}
use Rattle.atomic_table.specs.Table.{State, step, keeps, Allows, Splits, Joins}
use Rattle.atomic_table.proofs.Lists.{at_set, set_else}
use Rattle.board_machine.specs.declared.events.Entry.{Entry}
use Rattle.board_machine.specs.declared.events.Event.TheVariants as event
use Rattle.board_machine.specs.Machine.{Board, hand_at, no_actor, empty_hands, IsActor, CanBeNext, entry, next}
use Rattle.board_machine.specs.Histories.{Run, After, own_of}
use Rattle.board_machine.specs.Laws.{IsEnded}
use Rattle.board_machine.proofs.Boards.{empty_is_actor}
use Rattle.board_machine.proofs.Prefixes.{prefix_append, prefix_then}
use Rattle.board_machine.proofs.Runs.{after-push, run-push, own_of-append}
use Rattle.board_machine.proofs.Ended.{split_adds, join_ends}
use Rattle.board_machine.proofs.Actors.{actors_stay, unborn_nothing, not_own}
use Rattle.buffer_words.specs.declared.view.View.{View}
use Rattle.buffer_words.specs.declared.view.Stage.TheVariants.{Idle, Bearing, Joining}
use Rattle.buffer_words.specs.Rule.{Slot, Slots, idle, Shows, Shelved, Follows, AnswersFor, Knows, Seats, Kept}
use Rattle.buffer_words.specs.Plays.{Seated, LooksAt, Bears, bore, joining, spent, Ends, ends, number_in, seen_in}
use Rattle.buffer_words.proofs.Frames.{follows_all, shift, shift_free, shift_entry, grew_from}
use Rattle.buffer_words.proofs.Own.{follows_idle, Makes}

-- a pass between the steps of a split
abbrev pub bearing : ℕ → List Entry → ℕ → View
bearing n seen k = record { number = n; seen = seen; stage = Bearing k }

no_number : (b : Board) → ¬ IsActor b (length b.hands)
no_number b is_one = is_one (get_or_past b.hands (length b.hands) no_actor (omega arith))

abbrev pub MakesSeen : State Slot View → ℕ → Seated → (Seated → Type 0) → Type 0
MakesSeen s id me tells = Makes s id 0 (get_or s.words 0 0) me tells

bears_to : (s : State Slot View) (k : Kept s) (id : ℕ) (me : Seated) → me.0.stage ≡ Idle → get_elem? s.views id ≡ some me.0 → Follows k.history me.0.number me.0.seen
    → (child : ℕ) → child ≡ length (After k.history).hands
    → MakesSeen s id me (λ after. (n : ℕ) × Bears me n after)
bears_to s k id me st at f child is = (
  bearing me.0.number (k.history ++ entry me.0.number (event.Split child) ∷ []) child,
  keeps,
  tt,
  record {
    history = k.history ++ entry me.0.number (event.Split child) ∷ [];
    run = run';
    shows = subst (λ b. Shows b (set s.words 0 (get_or s.words 0 0))) (sym push)
        (subst (λ ws. Shows (next (After k.history) (entry me.0.number (event.Split child))) ws) (sym (set-get_or s.words 0 0)) shows');
    shelved = subst (λ b. Shelved b s.homes) (sym push) shelved';
    seats = shift_entry k.history s.views id me.0 (bearing me.0.number (k.history ++ entry me.0.number (event.Split child) ∷ []) child)
        (entry me.0.number (event.Split child)) k.run may k.seats at mine (λ j q. absurd (cc)) (
          follows_all (k.history ++ entry me.0.number (event.Split child) ∷ []) me.0.number parent,
          follows_all (k.history ++ entry me.0.number (event.Split child) ∷ []) child born,
          apart,
        )
        claims;
  },
  (
    child,
    record {
      view = refl;
      entered = record {
        number = refl;
        stage = refl;
        run = run';
        between = f.begins.rest;
        seen = ap (λ l. l ++ entry me.0.number (event.Split child) ∷ []) f.begins.is;
        grew = grew_from k.history me.0.number me.0.seen k.run f;
      };
      slots = refl;
      unborn = own_of-append child k.history (entry me.0.number (event.Split child) ∷ [])
          ∙ (ap (λ l. l ++ own_of child (entry me.0.number (event.Split child) ∷ [])) (unborn_nothing k.history child k.run (omega (arith, is)))
          ∙ not_own child (entry me.0.number (event.Split child)) [] apart);
    },
  ),
)
  where
    may : CanBeNext (After k.history) (entry me.0.number (event.Split child))
    may = record { actor = f.actor; meets = is }

    run' : Run (k.history ++ entry me.0.number (event.Split child) ∷ [])
    run' = run-push k.history (entry me.0.number (event.Split child)) k.run may

    push : After (k.history ++ entry me.0.number (event.Split child) ∷ []) ≡ next (After k.history) (entry me.0.number (event.Split child))
    push = after-push k.history (entry me.0.number (event.Split child))

    shows' : Shows (next (After k.history) (entry me.0.number (event.Split child))) s.words
    shows' = record { wide = k.shows.wide; own = k.shows.own; pool = k.shows.pool; out = k.shows.out; kill = k.shows.kill; run = k.shows.run }

    shelved' : Shelved (next (After k.history) (entry me.0.number (event.Split child))) s.homes
    shelved' = record {
      wide = k.shelved.wide;
      vacant = k.shelved.vacant;
      laid = λ i q. let t = k.shelved.laid i q in record { filling = t.filling; is = t.is; size = t.size };
      pooled = λ i q. let t = k.shelved.pooled i q in record { filling = t.filling; is = t.is; size = t.size };
      filled = k.shelved.filled;
    }

    mine : AnswersFor me.0.number me.0.stage me.0.number
    mine = subst (λ g. AnswersFor me.0.number g me.0.number) (sym st) refl

    nobody : ¬ IsActor (After k.history) child
    nobody = subst (λ n. ¬ IsActor (After k.history) n) (sym is) (no_number (After k.history))

    apart : child ≢ me.0.number
    apart q = nobody (subst (λ n. IsActor (After k.history) n) (sym q) f.actor)

    parent : IsActor (After (k.history ++ entry me.0.number (event.Split child) ∷ [])) me.0.number
    parent = subst (λ b. IsActor b me.0.number) (sym push) (actors_stay (After k.history) (entry me.0.number (event.Split child)) may)

    born : IsActor (After (k.history ++ entry me.0.number (event.Split child) ∷ [])) child
    born = subst (λ b. IsActor b child) (sym push)
        (empty_is_actor (next (After k.history) (entry me.0.number (event.Split child))) child (split_adds (After k.history) (entry me.0.number (event.Split child)) child may refl).empty)

    claims : (j : ℕ) → (j ≡ me.0.number) ⊎ (j ≡ child) → AnswersFor me.0.number me.0.stage j ⊎ (¬ IsActor (After k.history) j)
    claims j (inl q) = inl (subst (λ n. AnswersFor me.0.number me.0.stage n) (sym q) mine)
    claims j (inr q) = inr (subst (λ n. ¬ IsActor (After k.history) n) (sym q) nobody)

pub bears : (slots id : ℕ) (me : Seated) → me.0.stage ≡ Idle → Allows Kept slots id me 0 (λ n. n) (bore (step slots 0 0 0 none) me)
bears slots id me st s k homes at small =
    bears_to s k id me st at (follows_idle s k id me.0 st at) (length (After k.history).hands) refl

-- the last of a list, and where it stands
at_end : {A : Type 0} (l : List A) (a b : A) (j : ℕ) → get_elem? (l ++ a ∷ []) j ≡ some b → (get_elem? l j ≡ some b) ⊎ ((j ≡ length l) × (a ≡ b))
at_end [] a b zero e = inr (refl, some-injective a b e)
at_end [] a b (suc j) e = absurd (some-ne-none b (sym e))
at_end (x ∷ xs) a b zero e = inl e
at_end (x ∷ xs) a b (suc j) e = ⊎_elim (λ q. inl q) (λ q. inr (ap suc q.0, q.1)) (at_end xs a b j e)

-- a pass more, which answers for whom no other does
seats_more : (h : List Entry) (views : List View) (w : View) → Seats h views → Knows h w.number w.seen w.stage
    → ((k : ℕ) → AnswersFor w.number w.stage k → (j : ℕ) (u : View) → get_elem? views j ≡ some u → ¬ AnswersFor u.number u.stage k)
    → Seats h (views ++ w ∷ [])
seats_more h views w seats knows free = record {
  knows = λ j u there. ⊎_elim (λ q. seats.knows j u q) (λ q. subst (λ (x : View). Knows h x.number x.seen x.stage) q.1 knows) (at_end views w u j there);
  apart = λ i j k u x ne ui xj mine theirs. go i j k u x ne (at_end views w u i ui) (at_end views w x j xj) mine theirs;
}
  where
    go : (i j k : ℕ) (u x : View) → i ≢ j → (get_elem? views i ≡ some u) ⊎ ((i ≡ length views) × (w ≡ u))
        → (get_elem? views j ≡ some x) ⊎ ((j ≡ length views) × (w ≡ x))
        → AnswersFor u.number u.stage k → AnswersFor x.number x.stage k → ⊥
    go i j k u x ne (inl a) (inl b) mine theirs = seats.apart i j k u x ne a b mine theirs
    go i j k u x ne (inl a) (inr b) mine theirs = free k (subst (λ (y : View). AnswersFor y.number y.stage k) (sym b.1) theirs) i u a mine
    go i j k u x ne (inr a) (inl b) mine theirs = free k (subst (λ (y : View). AnswersFor y.number y.stage k) (sym a.1) mine) j x b theirs
    go i j k u x ne (inr a) (inr b) mine theirs = ne (a.0 ∙ sym b.0)

-- the cut of a pass that bears
pub parts : (id n child : ℕ) (seen : List Entry) → Splits Kept id (bearing n seen child) (idle n seen) (idle child seen)
parts id n child seen s k at = record {
  history = k.history;
  run = k.run;
  shows = k.shows;
  shelved = k.shelved;
  seats = seats_more k.history (set s.views id (idle n seen)) (idle child seen) left both.1
      (λ j q i u there theirs. others (at_set s.views id i (idle n seen) u there) j i u q theirs);
}
  where
    both : Follows k.history n seen × Follows k.history child seen × (child ≢ n)
    both = k.seats.knows id (bearing n seen child) at

    left : Seats k.history (set s.views id (idle n seen))
    left = shift k.history k.history s.views id (bearing n seen child) (idle n seen) k.seats at both.0 (λ j u ne there. k.seats.knows j u there) (λ j q. inl (inl q))

    others : {i : ℕ} {u : View} → ((i ≡ id) × (idle n seen ≡ u)) ⊎ ((i ≢ id) × (get_elem? s.views i ≡ some u)) → (j : ℕ) (m : ℕ) (x : View) → j ≡ child → AnswersFor u.number u.stage j → ⊥
    others (inl a) j m x q theirs =
        let again : j ≡ n = subst (λ (y : View). AnswersFor y.number y.stage j) (sym a.1) theirs in both.2 (sym q ∙ again)
    others {i} {u} (inr a) j m x q theirs = k.seats.apart id i j (bearing n seen child) u (λ e. a.0 (sym e)) at a.1 (inr q) theirs

set_swap : {A : Type 0} (l : List A) (i j : ℕ) (a b : A) → i ≢ j → set (set l i a) j b ≡ set (set l j b) i a
set_swap [] i j a b ne = refl
set_swap (x ∷ xs) zero zero a b ne = absurd (ne refl)
set_swap (x ∷ xs) zero (suc j) a b ne = refl
set_swap (x ∷ xs) (suc i) zero a b ne = refl
set_swap (x ∷ xs) (suc i) (suc j) a b ne = ap (λ l. x ∷ l) (set_swap xs i j a b (λ e. ne (ap suc e)))

-- two idle passes become one, which is still to end the other's actor
pub meets : (id other : ℕ) (v w : View) → v.stage ≡ Idle → w.stage ≡ Idle → hand_at (After w.seen) w.number ≡ empty_hands → Joins Kept id v other w (joining v w) spent
meets id other v w idle_v idle_w empty s k at ne there = record {
  history = k.history;
  run = k.run;
  shows = k.shows;
  shelved = k.shelved;
  seats = subst (λ l. Seats k.history l) (set_swap s.views other id spent (joining v w) ne)
      (shift_free k.history k.history (set s.views other spent) id v (joining v w) without (set_else s.views other id spent (λ e. ne (sym e)) ∙ at)
      (f, g, apart, g.hand ∙ empty) (λ j u q uj. without.knows j u uj)
      (λ m mine j u q uj theirs. free m j u q (at_set s.views other j spent u uj) mine theirs));
}
  where
    there' : get_elem? s.views other ≡ some w
    there' = sym (set_else s.views id other (joining v w) ne) ∙ there

    f : Follows k.history v.number v.seen
    f = follows_idle s k id v idle_v at

    g : Follows k.history w.number w.seen
    g = follows_idle s k other w idle_w there'

    mine_v : AnswersFor v.number v.stage v.number
    mine_v = subst (λ x. AnswersFor v.number x v.number) (sym idle_v) refl

    mine_w : AnswersFor w.number w.stage w.number
    mine_w = subst (λ x. AnswersFor w.number x w.number) (sym idle_w) refl

    apart : w.number ≢ v.number
    apart e = k.seats.apart other id w.number w v ne there' at mine_w (subst (λ m. AnswersFor v.number v.stage m) (sym e) mine_v)

    without : Seats k.history (set s.views other spent)
    without = shift k.history k.history s.views other w spent k.seats there' tt (λ j u q uj. k.seats.knows j u uj) (λ m q. absurd q)

    free : (m j : ℕ) (u : View) → j ≢ id → ((j ≡ other) × (spent ≡ u)) ⊎ ((j ≢ other) × (get_elem? s.views j ≡ some u))
        → (m ≡ v.number) ⊎ (m ≡ w.number) → AnswersFor u.number u.stage m → ⊥
    free m j u q (inl a) mine theirs = subst (λ (y : View). AnswersFor y.number y.stage m) (sym a.1) theirs
    free m j u q (inr a) (inl e) theirs = k.seats.apart id j m v u (λ x. q (sym x)) at a.1 (subst (λ x. AnswersFor v.number v.stage x) (sym e) mine_v) theirs
    free m j u q (inr a) (inr e) theirs = k.seats.apart other j m w u (λ x. a.0 (sym x)) there' a.1 (subst (λ x. AnswersFor w.number w.stage x) (sym e) mine_w) theirs

same_join : (j m : ℕ) → event.Join j ≡ event.Join m → m ≡ j
same_join j m e = cc

ends_to : (s : State Slot View) (k : Kept s) (id : ℕ) (me : Seated) (j : ℕ) (t : List Entry) → me.0.stage ≡ Joining j t → get_elem? s.views id ≡ some me.0
    → Knows k.history me.0.number me.0.seen (Joining j t)
    → MakesSeen s id me (λ after. Ends me j t after)
ends_to s k id me j t st at knows = (
  idle me.0.number (k.history ++ entry me.0.number (event.Join j) ∷ []),
  keeps,
  tt,
  record {
    history = k.history ++ entry me.0.number (event.Join j) ∷ [];
    run = run';
    shows = subst (λ b. Shows b (set s.words 0 (get_or s.words 0 0))) (sym push)
        (subst (λ ws. Shows (next (After k.history) (entry me.0.number (event.Join j))) ws) (sym (set-get_or s.words 0 0)) shows');
    shelved = subst (λ b. Shelved b s.homes) (sym push) shelved';
    seats = shift_entry k.history s.views id me.0 (idle me.0.number (k.history ++ entry me.0.number (event.Join j) ∷ []))
        (entry me.0.number (event.Join j)) k.run may k.seats at (answers me.0.number (inl refl))
        (λ m q. answers m (inr (same_join j m q)))
        (follows_all (k.history ++ entry me.0.number (event.Join j) ∷ []) me.0.number actor)
        (λ m q. inl (answers m (inl q)));
  },
  record {
    entered = record {
      number = refl;
      stage = refl;
      run = run';
      between = f.begins.rest;
      seen = ap (λ l. l ++ entry me.0.number (event.Join j) ∷ []) f.begins.is;
      grew = grew_from k.history me.0.number me.0.seen k.run f;
    };
    slots = refl;
    begins = prefix_then t k.history (k.history ++ entry me.0.number (event.Join j) ∷ []) g.begins (prefix_append k.history (entry me.0.number (event.Join j) ∷ []));
    own = own_of-append j k.history (entry me.0.number (event.Join j) ∷ [])
        ∙ (ap (λ l. own_of j k.history ++ l) (not_own j (entry me.0.number (event.Join j)) [] knows.2) ∙ (append-nil (own_of j k.history) ∙ g.own));
    ended = subst (λ b. IsEnded b j) (sym push) (join_ends (After k.history) (entry me.0.number (event.Join j)) j may refl);
  },
)
  where
    f : Follows k.history me.0.number me.0.seen
    f = knows.0

    g : Follows k.history j t
    g = knows.1

    may : CanBeNext (After k.history) (entry me.0.number (event.Join j))
    may = record { actor = f.actor; meets = (knows.3, knows.2) }

    run' : Run (k.history ++ entry me.0.number (event.Join j) ∷ [])
    run' = run-push k.history (entry me.0.number (event.Join j)) k.run may

    push : After (k.history ++ entry me.0.number (event.Join j) ∷ []) ≡ next (After k.history) (entry me.0.number (event.Join j))
    push = after-push k.history (entry me.0.number (event.Join j))

    shows' : Shows (next (After k.history) (entry me.0.number (event.Join j))) s.words
    shows' = record { wide = k.shows.wide; own = k.shows.own; pool = k.shows.pool; out = k.shows.out; kill = k.shows.kill; run = k.shows.run }

    shelved' : Shelved (next (After k.history) (entry me.0.number (event.Join j))) s.homes
    shelved' = record {
      wide = k.shelved.wide;
      vacant = k.shelved.vacant;
      laid = λ i q. let x = k.shelved.laid i q in record { filling = x.filling; is = x.is; size = x.size };
      pooled = λ i q. let x = k.shelved.pooled i q in record { filling = x.filling; is = x.is; size = x.size };
      filled = k.shelved.filled;
    }

    answers : (m : ℕ) → (m ≡ me.0.number) ⊎ (m ≡ j) → AnswersFor me.0.number me.0.stage m
    answers m q = subst (λ x. AnswersFor me.0.number x m) (sym st) q

    actor : IsActor (After (k.history ++ entry me.0.number (event.Join j) ∷ [])) me.0.number
    actor = subst (λ b. IsActor b me.0.number) (sym push) (actors_stay (After k.history) (entry me.0.number (event.Join j)) may)

pub ends_join : (slots id : ℕ) (v w : View) (c : Slots) → Allows Kept slots id (joining v w, c) 0 (λ n. n) (ends (step slots 0 0 0 none) (joining v w, c))
ends_join slots id v w c s k homes at small = ends_to s k id (joining v w, c) w.number w.seen refl at (k.seats.knows id (joining v w) at)

-- what the pass that stays learns of its entry
pub joined : (v w : View) (c : Slots) (after : Seated) → Ends (joining v w, c) w.number w.seen after → LooksAt (v, c) (event.Join w.number) after
joined v w c after told = record {
  entered = record {
    number = told.entered.number;
    stage = told.entered.stage;
    run = told.entered.run;
    between = told.entered.between;
    seen = told.entered.seen;
    grew = told.entered.grew;
  };
  slots = told.slots;
}

pub ends_at : (slots id : ℕ) (me : Seated) (v w : View) (c : Slots) → me ≡ (joining v w, c) → Allows Kept slots id me 0 (λ n. n) (ends (step slots 0 0 0 none) me)
ends_at slots id me v w c is = subst (λ (m : Seated). Allows Kept slots id m 0 (λ n. n) (ends (step slots 0 0 0 none) m)) (sym is) (ends_join slots id v w c)

pub ended_at : (me : Seated) (v w : View) (c : Slots) (after : Seated) → me ≡ (joining v w, c) → Ends me (number_in me.0.stage) (seen_in me.0.stage) after → Ends (joining v w, c) w.number w.seen after
ended_at me v w c after is told = subst (λ (m : Seated). Ends m (number_in m.0.stage) (seen_in m.0.stage) after) is told
