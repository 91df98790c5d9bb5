-- What a step leaves of what each pass knows, and what its own pass learns.
use Rattle.std.proofs.Common.{◌≡◌, ◌≢◌, ◌⊎◌, ℕ, ◌≤◌, List, [], ◌∷◌, ◌++◌, set, get_or, refl, sym, ap, subst, ◌∙◌, inl, inr, ⊎_elim, append_assoc}
use Rattle.std.proofs.lemmas.List.{append-nil, set-get_or}
use mathlib.Core.Option.{some}
use lib.ListN.{get_elem?}
use Rattle.atomic_table.specs.Table.{State, Act, keeps, stepped, homes_after}
use Rattle.atomic_table.proofs.Lists.{at_set}
use Rattle.board_machine.specs.declared.events.Entry.{Entry}
use Rattle.board_machine.specs.declared.events.Event.{Event}
use Rattle.board_machine.specs.declared.events.Event.TheVariants.{Join}
use Rattle.board_machine.specs.Places.{times}
use Rattle.board_machine.specs.Machine.{empty_board, word_at, hand_at, held, IsActor, InHand, CanBeNext, Meets, entry, next}
use Rattle.board_machine.specs.Histories.{Run, RunsFrom, After, own_of}
use Rattle.board_machine.proofs.Prefixes.{prefix_self}
use Rattle.board_machine.proofs.Runs.{after-push, run-push, runs_rest, own_of-append, run_owned}
use Rattle.board_machine.proofs.Others.{actor_stays, word_stays}
use Rattle.board_machine.proofs.Actors.{actors_stay, not_own}
use Rattle.board_machine.proofs.Ended.{alone_nothing}
use Rattle.buffer_words.specs.declared.view.View.{View}
use Rattle.buffer_words.specs.declared.view.Stage.{Stage}
use Rattle.buffer_words.specs.declared.view.Stage.TheVariants.{Idle, Bearing, Joining, Spent}
use Rattle.buffer_words.specs.Rule.{Slot, Slots, idle, Shows, Shelved, Follows, AnswersFor, Knows, Seats, Kept}
use Rattle.buffer_words.specs.Told.{Grew, Entered, Waited}

nothing_after : {A : Type 0} (xs ys : List A) → xs ++ ys ≡ xs → ys ≡ []
nothing_after [] ys e = e
nothing_after (x ∷ xs) ys e = nothing_after xs ys (cc)

-- an actor that has seen all of a history
pub follows_all : (h : List Entry) (n : ℕ) → IsActor (After h) n → Follows h n h
follows_all h n actor = record { begins = prefix_self h; own = refl; actor = actor; hand = refl; words = λ i mine. refl }

-- another actor's entry keeps what an actor knows
pub follows_on : (h : List Entry) (e : Entry) (n : ℕ) (s : List Entry) → Run h → CanBeNext (After h) e → n ≢ e.by → e.event ≢ Join n → Follows h n s → Follows (h ++ e ∷ []) n s
follows_on h e n s run may apart other f = record {
  begins = record { rest = f.begins.rest ++ e ∷ []; is = ap (λ l. l ++ e ∷ []) f.begins.is ∙ append_assoc s f.begins.rest (e ∷ []) };
  own = own_of-append n h (e ∷ []) ∙ (ap (λ l. own_of n h ++ l) (not_own n e [] apart) ∙ (append-nil (own_of n h) ∙ f.own));
  actor = λ gone. f.actor (sym same ∙ gone);
  hand = same ∙ f.hand;
  words = λ i mine. let there : InHand (After h) n i = subst (λ is. 1 ≤ times i (held is)) same mine in
      ap (λ b. word_at b i) (after-push h e) ∙ (word_stays (After h) e.by n i e.event (run_owned h run) may.meets apart there ∙ f.words i there);
}
  where
    same : hand_at (After (h ++ e ∷ [])) n ≡ hand_at (After h) n
    same = ap (λ b. hand_at b n) (after-push h e) ∙ actor_stays (After h) e.by n e.event f.actor apart other

pub knows_on : (h : List Entry) (e : Entry) (n : ℕ) (s : List Entry) (g : Stage) → Run h → CanBeNext (After h) e
    → ((k : ℕ) → AnswersFor n g k → (k ≢ e.by) × (e.event ≢ Join k)) → Knows h n s g → Knows (h ++ e ∷ []) n s g
knows_on h e n s Idle run may out k = follows_on h e n s run may (out n refl).0 (out n refl).1 k
knows_on h e n s (Bearing j) run may out k =
    let mine = out n (inl refl) in let other = out j (inr refl) in
    (follows_on h e n s run may mine.0 mine.1 k.0, follows_on h e j s run may other.0 other.1 k.1, k.2)
knows_on h e n s (Joining j t) run may out k =
    let mine = out n (inl refl) in let other = out j (inr refl) in (
      follows_on h e n s run may mine.0 mine.1 k.0,
      follows_on h e j t run may other.0 other.1 k.1,
      k.2,
      ap (λ b. hand_at b j) (after-push h e) ∙ (actor_stays (After h) e.by j e.event k.1.actor other.0 other.1 ∙ k.3),
    )
knows_on h e n s Spent run may out k = tt

-- whom a pass answers for is an actor
pub answers_actor : (h : List Entry) (n : ℕ) (s : List Entry) (g : Stage) (k : ℕ) → Knows h n s g → AnswersFor n g k → IsActor (After h) k
answers_actor h n s Idle k knows e = subst (λ m. IsActor (After h) m) (sym e) knows.actor
answers_actor h n s (Bearing j) k knows (inl e) = subst (λ m. IsActor (After h) m) (sym e) knows.0.actor
answers_actor h n s (Bearing j) k knows (inr e) = subst (λ m. IsActor (After h) m) (sym e) knows.1.actor
answers_actor h n s (Joining j t) k knows (inl e) = subst (λ m. IsActor (After h) m) (sym e) knows.0.actor
answers_actor h n s (Joining j t) k knows (inr e) = subst (λ m. IsActor (After h) m) (sym e) knows.1.actor
answers_actor h n s Spent k knows e = absurd e

-- nobody but the pass at id answers for the actor
abbrev pub IsFree : List View → ℕ → ℕ → Type 0
IsFree views id k = (j : ℕ) (u : View) → j ≢ id → get_elem? views j ≡ some u → ¬ AnswersFor u.number u.stage k

-- Where the history moves on and one pass gets a new view, which answers for those for whom nobody else
-- does, and the others know what they knew, the passes stand apart again.
pub shift_free : (h g : List Entry) (views : List View) (id : ℕ) (v w : View) → Seats h views → get_elem? views id ≡ some v
    → Knows g w.number w.seen w.stage
    → ((j : ℕ) (u : View) → j ≢ id → get_elem? views j ≡ some u → Knows g u.number u.seen u.stage)
    → ((k : ℕ) → AnswersFor w.number w.stage k → IsFree views id k)
    → Seats g (set views id w)
shift_free h g views id v w seats at knows others free = record {
  knows = λ j u there. ⊎_elim
      (λ t. subst (λ (x : View). Knows g x.number x.seen x.stage) t.1 knows)
      (λ t. others j u t.0 t.1)
      (at_set views id j w u there);
  apart = λ i j k u x ne ui xj mine theirs. go i j k u x ne (at_set views id i w u ui) (at_set views id j w x xj) mine theirs;
}
  where
    go : (i j k : ℕ) (u x : View) → i ≢ j → ((i ≡ id) × (w ≡ u)) ⊎ ((i ≢ id) × (get_elem? views i ≡ some u))
        → ((j ≡ id) × (w ≡ x)) ⊎ ((j ≢ id) × (get_elem? views j ≡ some x))
        → AnswersFor u.number u.stage k → AnswersFor x.number x.stage k → ⊥
    go i j k u x ne (inl a) (inl b) mine theirs = ne (a.0 ∙ sym b.0)
    go i j k u x ne (inl a) (inr b) mine theirs = free k (subst (λ (y : View). AnswersFor y.number y.stage k) (sym a.1) mine) j x b.0 b.1 theirs
    go i j k u x ne (inr a) (inl b) mine theirs = free k (subst (λ (y : View). AnswersFor y.number y.stage k) (sym b.1) theirs) i u a.0 a.1 mine
    go i j k u x ne (inr a) (inr b) mine theirs = seats.apart i j k u x ne a.1 b.1 mine theirs

-- the same where the view answers for whom it did or for who was no actor
pub shift : (h g : List Entry) (views : List View) (id : ℕ) (v w : View) → Seats h views → get_elem? views id ≡ some v
    → Knows g w.number w.seen w.stage
    → ((j : ℕ) (u : View) → j ≢ id → get_elem? views j ≡ some u → Knows g u.number u.seen u.stage)
    → ((k : ℕ) → AnswersFor w.number w.stage k → AnswersFor v.number v.stage k ⊎ (¬ IsActor (After h) k))
    → Seats g (set views id w)
shift h g views id v w seats at knows others claims =
    shift_free h g views id v w seats at knows others (λ k mine j x ne xj theirs. ⊎_elim
    (λ had. seats.apart id j k v x (λ e. ne (sym e)) at xj had theirs)
    (λ new. new (answers_actor h x.number x.seen x.stage k (seats.knows j x xj) theirs))
    (claims k mine))

-- the same for an entry of the pass's own actor, which joins nobody that it doesn't answer for
pub shift_entry : (h : List Entry) (views : List View) (id : ℕ) (v w : View) (e : Entry) → Run h → CanBeNext (After h) e → Seats h views → get_elem? views id ≡ some v
    → AnswersFor v.number v.stage e.by → ((k : ℕ) → e.event ≡ Join k → AnswersFor v.number v.stage k)
    → Knows (h ++ e ∷ []) w.number w.seen w.stage
    → ((k : ℕ) → AnswersFor w.number w.stage k → AnswersFor v.number v.stage k ⊎ (¬ IsActor (After h) k))
    → Seats (h ++ e ∷ []) (set views id w)
shift_entry h views id v w e run may seats at mine joins knows claims =
    shift h (h ++ e ∷ []) views id v w seats at knows
    (λ j u ne there. knows_on h e u.number u.seen u.stage run may
    (λ k theirs. (
      λ same. seats.apart id j k v u (λ q. ne (sym q)) at there (subst (λ m. AnswersFor v.number v.stage m) (sym same) mine) theirs,
      λ is_join. seats.apart id j k v u (λ q. ne (sym q)) at there (joins k is_join) theirs,
    ))
    (seats.knows j u there))
    claims

-- what was seen has grown to the whole history by others' entries
pub grew_from : (h : List Entry) (n : ℕ) (s : List Entry) → Run h → (f : Follows h n s) → Grew n s f.begins.rest
grew_from h n s run f = record {
  others = none;
  alone = λ alone. alone_nothing (After s) n f.begins.rest alone runs none;
  hand = ap (λ l. hand_at (After l) n) (sym f.begins.is) ∙ f.hand;
  words = λ i mine. ap (λ l. word_at (After l) i) (sym f.begins.is) ∙ f.words i (subst (λ is. 1 ≤ times i (held is)) (sym f.hand) mine);
}
  where
    none : own_of n f.begins.rest ≡ []
    none = nothing_after (own_of n s) (own_of n f.begins.rest) (sym (own_of-append n s f.begins.rest) ∙ (ap (λ l. own_of n l) (sym f.begins.is) ∙ f.own))

    runs : RunsFrom (After s) f.begins.rest
    runs = runs_rest empty_board s f.begins.rest (subst (λ l. Run l) f.begins.is run)

-- an entry of an idle pass
pub idle_adds : (s : State Slot View) (id i m : ℕ) (c : Slots) (a : Act Slot) (v : View) (event : Event) (k : Kept s)
    → v.stage ≡ Idle → get_elem? s.views id ≡ some v
    → Meets (After k.history) v.number event → ((j : ℕ) → event ≢ Join j)
    → Shows (next (After k.history) (entry v.number event)) (set s.words i m)
    → Shelved (next (After k.history) (entry v.number event)) (homes_after s.homes c a)
    → Kept (stepped s i m id c (idle v.number (k.history ++ entry v.number event ∷ [])) a)
    × Entered v event (idle v.number (k.history ++ entry v.number event ∷ []))
idle_adds s id i m c a v event k st at meets no_join shows shelved = (
  record {
    history = k.history ++ entry v.number event ∷ [];
    run = run';
    shows = subst (λ b. Shows b (set s.words i m)) (sym (after-push k.history (entry v.number event))) shows;
    shelved = subst (λ b. Shelved b (homes_after s.homes c a)) (sym (after-push k.history (entry v.number event))) shelved;
    seats = shift_entry k.history s.views id v (idle v.number (k.history ++ entry v.number event ∷ [])) (entry v.number event) k.run may k.seats at mine (λ j is_join. absurd (no_join j is_join))
        (follows_all (k.history ++ entry v.number event ∷ []) v.number actor) (λ j own. inl (subst (λ n. AnswersFor v.number v.stage n) (sym own) mine));
  },
  record {
    number = refl;
    stage = refl;
    run = run';
    between = f.begins.rest;
    seen = ap (λ l. l ++ entry v.number event ∷ []) f.begins.is;
    grew = grew_from k.history v.number v.seen k.run f;
  },
)
  where
    f : Follows k.history v.number v.seen
    f = subst (λ g. Knows k.history v.number v.seen g) st (k.seats.knows id v at)

    mine : AnswersFor v.number v.stage v.number
    mine = subst (λ g. AnswersFor v.number g v.number) (sym st) refl

    may : CanBeNext (After k.history) (entry v.number event)
    may = record { actor = f.actor; meets = meets }

    run' : Run (k.history ++ entry v.number event ∷ [])
    run' = run-push k.history (entry v.number event) k.run may

    actor : IsActor (After (k.history ++ entry v.number event ∷ [])) v.number
    actor = subst (λ b. IsActor b v.number) (sym (after-push k.history (entry v.number event))) (actors_stay (After k.history) (entry v.number event) may)

-- an idle pass sees more, and adds nothing
pub idle_waits : (s : State Slot View) (id i : ℕ) (c : Slots) (v : View) (k : Kept s)
    → v.stage ≡ Idle → get_elem? s.views id ≡ some v
    → Kept (stepped s i (get_or s.words i 0) id c (idle v.number k.history) keeps) × Waited v (idle v.number k.history)
idle_waits s id i c v k st at = (
  record {
    history = k.history;
    run = k.run;
    shows = subst (λ ws. Shows (After k.history) ws) (sym (set-get_or s.words i 0)) k.shows;
    shelved = k.shelved;
    seats = shift k.history k.history s.views id v (idle v.number k.history) k.seats at
        (follows_all k.history v.number f.actor) (λ j u ne there. k.seats.knows j u there)
        (λ j own. inl (subst (λ n. AnswersFor v.number v.stage n) (sym own) mine));
  },
  record {
    grows = record { number = refl; between = f.begins.rest; seen = f.begins.is; grew = grew_from k.history v.number v.seen k.run f };
    stage = refl;
    run = k.run;
  },
)
  where
    f : Follows k.history v.number v.seen
    f = subst (λ g. Knows k.history v.number v.seen g) st (k.seats.knows id v at)

    mine : AnswersFor v.number v.stage v.number
    mine = subst (λ g. AnswersFor v.number g v.number) (sym st) refl
