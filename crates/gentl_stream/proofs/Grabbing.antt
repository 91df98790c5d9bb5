-- Calls that begin with a grab: their entries, and what a grab leaves.
use Rattle.std.proofs.Common.{◌≡◌, ℕ, ◌<◌, false, List, [], ◌∷◌, ◌++◌, Some, Ok, Err, refl, sym, ap, subst, ◌∙◌, arith}
use Rattle.std.proofs.lemmas.List.{get_or-set_same}
use Rattle.gev_types.specs.Filling.{Filling}
use Rattle.gev_types.specs.Limits.{place_count}
use Rattle.gentl_types.specs.declared.buffer_id.BufferId.{BufferId}
use Rattle.gentl_types.specs.declared.errors.GcError.{GcError}
use Rattle.gentl_types.specs.declared.word.Word.{Word}
use Rattle.gentl_types.specs.declared.word.State.TheVariants.{Away}
use Rattle.board_machine.specs.declared.events.Event.{Event}
use Rattle.board_machine.specs.declared.events.Event.TheVariants.{Grab, Lay, Vacate, Pool}
use Rattle.board_machine.specs.Places.{times, put_in}
use Rattle.board_machine.specs.Machine.{Board, empty_board, vacant, word_at, hand, held, no_actor, IsActor, InHand, IsHeldAs, entry, picks, with_state}
use Rattle.board_machine.specs.Histories.{Run, After}
use Rattle.board_machine.proofs.Boards.{actor_within}
use Rattle.board_machine.proofs.Places.{same_self, times-put}
use Rattle.board_machine.proofs.Runs.{run_owned, runs_front}
use Rattle.board_calls.specs.Calls.{LooksOut, OpensWith, RefusesGrab, Queues, Borrows, Returns, Revokes}
use Rattle.board_calls.proofs.Refused.{opens, queue_refused}
use Rattle.buffer_words.specs.Passes.{Token, down, IsWhole, Enters, GrowsTo, Stays, Has}
use Rattle.buffer_words.specs.Loans.{Lent, IsLoanOf}
use Rattle.buffer_words.specs.Several.{EntersOf, EntersThen}
use Rattle.buffer_words.proofs.Several.{enters_may, enters_after, each_two, of_kind, of_one, of_then, then_grows}
use Rattle.buffer_words.proofs.Partings.{stays_enters}
use Rattle.buffer_words.proofs.Retries.{grows_self}

-- a refused grab found another word
pub refused_isnt : (s t : Token) (i g : ℕ) (w : Word) → Enters s (Grab i g (Err w)) t → ¬ IsHeldAs w g
refused_isnt s t i g w e = (enters_may s t (Grab i g (Err w)) e).meets.2

-- what came into hand is there
picked_in : (b : Board) (k i : ℕ) → IsActor b k → InHand (picks b k i) k i
picked_in b k i actor =
    let there : hand (picks b k i) k ≡ put_in i (hand b k) = ap held (get_or-set_same b.hands k (Some (put_in i (hand b k))) no_actor (actor_within b k actor)) in
    let count : times i (hand (picks b k i) k) ≡ times i (put_in i (hand b k)) = ap (times i) there in
    omega (arith, times-put i i (hand b k), same_self i)

grabbed_in : (s t : Token) (i g : ℕ) → Enters s (Grab i g (Ok tt)) t → InHand (After t.seen) s.number i
grabbed_in s t i g e =
    subst (λ b. InHand b s.number i) (sym (enters_after s t (Grab i g (Ok tt)) e))
    (picked_in (After (s.seen ++ e.between)) s.number i (enters_may s t (Grab i g (Ok tt)) e).actor)

-- a grabbed word has the generation that was asked for
grabbed_generation : (s t : Token) (i g : ℕ) → Enters s (Grab i g (Ok tt)) t → (word_at (After t.seen) i).generation ≡ g
grabbed_generation s t i g e =
    let may = enters_may s t (Grab i g (Ok tt)) e in
    let front : Run (s.seen ++ e.between) = runs_front empty_board (s.seen ++ e.between) (entry s.number (Grab i g (Ok tt)) ∷ []) (subst (λ l. Run l) e.seen e.run) in
    let wide = (run_owned (s.seen ++ e.between) front).wide in
    ap (λ b. (word_at b i).generation) (enters_after s t (Grab i g (Ok tt)) e)
    ∙ (ap (λ (w : Word). w.generation) (get_or-set_same (After (s.seen ++ e.between)).words i (with_state (word_at (After (s.seen ++ e.between)) i) Away) vacant (omega (arith, may.meets.0, wide)))
    ∙ may.meets.1.1)

-- and keeps it while others act
lent_generation : (s t u : Token) (i g : ℕ) → Enters s (Grab i g (Ok tt)) t → GrowsTo t u → (word_at (After u.seen) i).generation ≡ g
lent_generation s t u i g e grows =
    let mine : InHand (After t.seen) t.number i = subst (λ n. InHand (After t.seen) n i) (sym e.number) (grabbed_in s t i g e) in
    ap (λ l. (word_at (After l) i).generation) grows.seen
    ∙ (ap (λ (w : Word). w.generation) (grows.grew.words i mine) ∙ grabbed_generation s t i g e)

same_id : (l id : BufferId) → l.place ≡ id.place → l.generation ≡ id.generation → l ≡ id
same_id l id place generation =
    let first : l ≡ record { place = id.place; generation = l.generation } = ap (λ n. record { place = n; generation = l.generation }) place in
    first ∙ ap (λ n. record { place = id.place; generation = n }) generation

-- a loan is the one that was asked for
pub lent_id : (s t u : Token) (id : BufferId) (l : Lent) → Enters s (Grab id.place id.generation (Ok tt)) t → GrowsTo t u → l.id.place ≡ id.place → IsLoanOf u l → l.id ≡ id
lent_id s t u id l e grows place loan =
    same_id l.id id place
    (loan.generation ∙ ap (λ i. (word_at (After u.seen) i).generation) place ∙ lent_generation s t u id.place id.generation e grows)

pub refused_grab : (s t : Token) (id : BufferId) (w : Word) (error : GcError) → RefusesGrab id error (Grab id.place id.generation (Err w) ∷ []) → Enters s (Grab id.place id.generation (Err w)) t → EntersOf s (RefusesGrab id error) t
refused_grab s t id w error kind enters = of_one s t (RefusesGrab id error) (Grab id.place id.generation (Err w)) kind refl enters

pub revoke_done : (T : Type 0) (s t u : Token) (id : BufferId) (buffer : T) → id.place < place_count → Enters s (Grab id.place id.generation (Ok tt)) t → Enters t (Vacate id.place) u → EntersOf s (Revokes id (Ok buffer)) u
revoke_done T s t u id buffer below grab more =
    of_kind s u (Revokes id (Ok buffer)) (Grab id.place id.generation (Ok tt) ∷ Vacate id.place ∷ []) (below, refl)
    (each_two s t u (Grab id.place id.generation (Ok tt)) (Vacate id.place) grab more refl refl)

pub borrow_done : (T : Type 0) (s t u : Token) (id : BufferId) (loan : T) → id.place < place_count → Enters s (Grab id.place id.generation (Ok tt)) t → GrowsTo t u → EntersThen s (Borrows id (Ok loan)) u
borrow_done T s t u id loan below grab grows =
    then_grows s t u (Borrows id (Ok loan)) (of_one s t (Borrows id (Ok loan)) (Grab id.place id.generation (Ok tt)) (below, refl) refl grab) grows

pub borrow_refusal : (T : Type 0) (s t : Token) (id : BufferId) (error : GcError) → EntersOf s (RefusesGrab id error) t → EntersThen s (Borrows {T = T} id (Err error)) t
borrow_refusal T s t id error refused = then_grows s t t (Borrows {T = T} id (Err error)) refused (grows_self t)

-- a spent loan's place, read from the loan before
pub spent_whole : (s t : Token) (i j : ℕ) (f : Filling) → j ≡ i → Has i (down f) s t → IsWhole t j
spent_whole s t i j f e has = subst (λ k. IsWhole t k) (sym e) (record { filling = f; is = has.here })

pub returned : (s t u : Token) (i j : ℕ) → j ≡ i → Stays s t → Enters t (Lay j) u → EntersOf s (Returns i) u
returned s t u i j e stays lay =
    of_one s u (Returns i) (Lay i) refl refl (stays_enters s t u (Lay i) stays (subst (λ (k : ℕ). Enters t (Lay k) u) e lay))

pub queue_refusal : (s t u : Token) (id : BufferId) (error : GcError) → EntersOf s (LooksOut false) t → EntersOf t (RefusesGrab id error) u → EntersOf s (Queues id (Err error)) u
queue_refusal s t u id error look refused =
    of_then s t u (LooksOut false) (RefusesGrab id error) (Queues id (Err error))
    (λ es fs first second. queue_refused id error fs (es ++ fs) second (opens es fs first)) look refused

pub queue_done : (s t u v : Token) (id : BufferId) → id.place < place_count → EntersOf s (LooksOut false) t → Enters t (Grab id.place id.generation (Ok tt)) u → Enters u (Pool id.place) v → EntersOf s (Queues id (Ok tt)) v
queue_done s t u v id below look grab pool =
    of_then s t v (LooksOut false) (λ es. es ≡ Grab id.place id.generation (Ok tt) ∷ Pool id.place ∷ []) (Queues id (Ok tt))
    (λ es fs first second. (below, subst (λ (gs : List Event). OpensWith gs (es ++ fs)) second (opens es fs first))) look
    (of_kind t v (λ es. es ≡ Grab id.place id.generation (Ok tt) ∷ Pool id.place ∷ []) (Grab id.place id.generation (Ok tt) ∷ Pool id.place ∷ []) refl
    (each_two t u v (Grab id.place id.generation (Ok tt)) (Pool id.place) grab pool refl refl))
