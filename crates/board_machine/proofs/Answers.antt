-- The machine's answer to each act, as a function of the state; and that there is no other.
use Rattle.std.proofs.Common.{◌≡◌, ℕ, ◌+◌, ◌≤◌, ◌<◌, ◌^◌, ◌==◌, nat_lt, Bool, true, false, not, cond, ◌&&◌, List, [], ◌∷◌, length, Some, None, Ok, Err, refl, sym, ap, subst, ◌∙◌, inl, inr, ◌⊎◌, ltb-true, lt-ltb, eqb-true, eq-eqb, ne_eqb}
use Rattle.std.proofs.lemmas.Bool.{cases_Bool, cond-true, cond-false, eqb-false, and_parts, and_from, false_from_ne_true}
use Rattle.gentl_types.specs.declared.word.Word.{Word}
use Rattle.gentl_types.specs.declared.word.State.{State}
use Rattle.gentl_types.specs.declared.word.State.TheVariants.{Vacant, Held, Away}
use Rattle.gev_types.specs.Filling.{Filling}
use Rattle.gev_types.specs.Limits.{place_count, max_buffer_size}
use Rattle.board_machine.specs.declared.events.Event.{Event}
use Rattle.board_machine.specs.declared.events.Event.TheVariants.{Look, LookPool, LookOut, LookRun, Enrol, Grab, Lay, Vacate, Pool, Claim, SweepPool, Fill, Take, SweepOut, Close, Post, Unpost, Start, Stop, Split, Join}
use Rattle.board_machine.specs.declared.events.TakeEnd.TheVariants.{Taken, Empty, Closed}
use Rattle.board_machine.specs.Machine.{Board, Item, word_at, places, InHand, IsHeldAs, CanEnrol, Meets, CanBeNext, entry}
use Rattle.board_machine.specs.Acts.{Act, to_look, to_look_pool, to_look_out, to_look_run, to_enrol, to_grab, to_lay, to_vacate, to_pool, to_claim, to_sweep_pool, to_fill, to_take, to_sweep_out, to_close, to_post, to_unpost, to_start, to_stop, to_split, to_join, act_of, IsAllowed, MayStand, Answers, OneAnswer}

-- tests that decide the conditions

abbrev pub is_vacant : State → Bool
is_vacant Vacant = true
is_vacant Held = false
is_vacant Away = false

abbrev pub is_held : State → Bool
is_held Vacant = false
is_held Held = true
is_held Away = false

vacant_is : (s : State) → is_vacant s ≡ true → s ≡ Vacant
vacant_is Vacant h = refl
vacant_is Held h = absurd (cc)
vacant_is Away h = absurd (cc)

held_is : (s : State) → is_held s ≡ true → s ≡ Held
held_is Vacant h = absurd (cc)
held_is Held h = refl
held_is Away h = absurd (cc)

abbrev pub can_enrol : Word → Bool
can_enrol w = is_vacant w.state && nat_lt (w.generation + 1) (2 ^ 32)

abbrev pub is_held_as : Word → ℕ → Bool
is_held_as w g = is_held w.state && (w.generation == g)

pub can_enrol_true : (w : Word) → can_enrol w ≡ true → CanEnrol w
can_enrol_true w h =
    let parts = and_parts (is_vacant w.state) (nat_lt (w.generation + 1) (2 ^ 32)) h in
    (vacant_is w.state parts.0, ltb-true (w.generation + 1) (2 ^ 32) parts.1)

pub can_enrol_from : (w : Word) → CanEnrol w → can_enrol w ≡ true
can_enrol_from w h = and_from (is_vacant w.state) (nat_lt (w.generation + 1) (2 ^ 32)) (ap is_vacant h.0) (lt-ltb (w.generation + 1) (2 ^ 32) h.1)

pub can_enrol_false : (w : Word) → can_enrol w ≡ false → ¬ CanEnrol w
can_enrol_false w fails holds = let is = can_enrol_from w holds in absurd (cc)

pub held_as_true : (w : Word) (g : ℕ) → is_held_as w g ≡ true → IsHeldAs w g
held_as_true w g h =
    let parts = and_parts (is_held w.state) (w.generation == g) h in
    (held_is w.state parts.0, eqb-true w.generation g parts.1)

pub held_as_from : (w : Word) (g : ℕ) → IsHeldAs w g → is_held_as w g ≡ true
held_as_from w g h = and_from (is_held w.state) (w.generation == g) (ap is_held h.0) (eq-eqb w.generation g h.1)

pub held_as_false : (w : Word) (g : ℕ) → is_held_as w g ≡ false → ¬ IsHeldAs w g
held_as_false w g fails holds = let is = held_as_from w g holds in absurd (cc)

-- the answers

abbrev pub enrol_event : Word → ℕ → ℕ → Event
enrol_event w i size = cond (can_enrol w) (Enrol i size (Ok (w.generation + 1))) (Enrol i size (Err w))

abbrev pub grab_event : Word → ℕ → ℕ → Event
grab_event w i g = cond (is_held_as w g) (Grab i g (Ok tt)) (Grab i g (Err w))

abbrev pub claim_event : List ℕ → Event
claim_event [] = Claim None
claim_event (i ∷ is) = Claim (Some i)

abbrev pub take_event : Bool → List Item → Event
take_event true out = Take Closed
take_event false [] = Take Empty
take_event false (x ∷ out) = Take (Taken x.place)

abbrev pub start_event : ℕ → Event
start_event run = cond (run == 1) (Start (Err run)) (Start (Ok tt))

abbrev pub stop_event : Bool → ℕ → Event
stop_event kill run = cond (run == 1) (Stop kill (Ok tt)) (Stop kill (Err run))

-- the act with the machine's answer
abbrev pub answer_to : Board → Act → Event
answer_to b (to_look i) = Look i (word_at b i)
answer_to b to_look_pool = LookPool b.pool
answer_to b to_look_out = LookOut (places b.out) b.closed
answer_to b to_look_run = LookRun b.run
answer_to b (to_enrol i size) = enrol_event (word_at b i) i size
answer_to b (to_grab i g) = grab_event (word_at b i) i g
answer_to b (to_lay i) = Lay i
answer_to b (to_vacate i) = Vacate i
answer_to b (to_pool i) = Pool i
answer_to b to_claim = claim_event b.pool
answer_to b to_sweep_pool = SweepPool b.pool
answer_to b (to_fill i f) = Fill i f (not b.closed)
answer_to b to_take = take_event b.closed b.out
answer_to b to_sweep_out = SweepOut (places b.out)
answer_to b to_close = Close
answer_to b to_post = Post
answer_to b to_unpost = Unpost b.kill
answer_to b to_start = start_event b.run
answer_to b (to_stop kill) = stop_event kill b.run
answer_to b to_split = Split (length b.hands)
answer_to b (to_join n) = Join n

-- the act with an answer that meets the machine
record Found (b : Board) (k : ℕ) (a : Act) (event : Event) : Type 0 where
  act : act_of event ≡ a
  meets : Meets b k event

enrol_answers : (b : Board) (k i size : ℕ) → i < place_count → 1 ≤ size → size ≤ max_buffer_size → Found b k (to_enrol i size) (enrol_event (word_at b i) i size)
enrol_answers b k i size below some in_limits = go (cases_Bool (can_enrol (word_at b i)))
  where
    w : Word
    w = word_at b i

    go : (can_enrol w ≡ true) ⊎ (can_enrol w ≡ false) → Found b k (to_enrol i size) (enrol_event w i size)
    go (inl holds) =
        subst (λ event. Found b k (to_enrol i size) event)
        (sym (cond-true (can_enrol w) (Enrol i size (Ok (w.generation + 1))) (Enrol i size (Err w)) holds))
        (record { act = refl; meets = (below, some, in_limits, can_enrol_true w holds, refl) })
    go (inr fails) =
        subst (λ event. Found b k (to_enrol i size) event)
        (sym (cond-false (can_enrol w) (Enrol i size (Ok (w.generation + 1))) (Enrol i size (Err w)) fails))
        (record { act = refl; meets = (below, some, in_limits, refl, can_enrol_false w fails) })

grab_answers : (b : Board) (k i g : ℕ) → i < place_count → Found b k (to_grab i g) (grab_event (word_at b i) i g)
grab_answers b k i g below = go (cases_Bool (is_held_as (word_at b i) g))
  where
    w : Word
    w = word_at b i

    go : (is_held_as w g ≡ true) ⊎ (is_held_as w g ≡ false) → Found b k (to_grab i g) (grab_event w i g)
    go (inl holds) =
        subst (λ event. Found b k (to_grab i g) event)
        (sym (cond-true (is_held_as w g) (Grab i g (Ok tt)) (Grab i g (Err w)) holds))
        (record { act = refl; meets = (below, held_as_true w g holds) })
    go (inr fails) =
        subst (λ event. Found b k (to_grab i g) event)
        (sym (cond-false (is_held_as w g) (Grab i g (Ok tt)) (Grab i g (Err w)) fails))
        (record { act = refl; meets = (below, refl, held_as_false w g fails) })

start_answers : (b : Board) (k : ℕ) → Found b k to_start (start_event b.run)
start_answers b k = go (cases_Bool (b.run == 1))
  where
    go : ((b.run == 1) ≡ true) ⊎ ((b.run == 1) ≡ false) → Found b k to_start (start_event b.run)
    go (inl holds) =
        subst (λ event. Found b k to_start event) (sym (cond-true (b.run == 1) (Start (Err b.run)) (Start (Ok tt)) holds))
        (record { act = refl; meets = (refl, eqb-true b.run 1 holds) })
    go (inr fails) =
        subst (λ event. Found b k to_start event) (sym (cond-false (b.run == 1) (Start (Err b.run)) (Start (Ok tt)) fails))
        (record { act = refl; meets = eqb-false b.run 1 fails })

stop_answers : (b : Board) (k : ℕ) (kill : Bool) → Found b k (to_stop kill) (stop_event kill b.run)
stop_answers b k kill = go (cases_Bool (b.run == 1))
  where
    go : ((b.run == 1) ≡ true) ⊎ ((b.run == 1) ≡ false) → Found b k (to_stop kill) (stop_event kill b.run)
    go (inl holds) =
        subst (λ event. Found b k (to_stop kill) event) (sym (cond-true (b.run == 1) (Stop kill (Ok tt)) (Stop kill (Err b.run)) holds))
        (record { act = refl; meets = eqb-true b.run 1 holds })
    go (inr fails) =
        subst (λ event. Found b k (to_stop kill) event) (sym (cond-false (b.run == 1) (Stop kill (Ok tt)) (Stop kill (Err b.run)) fails))
        (record { act = refl; meets = (refl, eqb-false b.run 1 fails) })

claim_answers : (b : Board) (k : ℕ) (pool : List ℕ) → b.pool ≡ pool → Found b k to_claim (claim_event pool)
claim_answers b k [] is = record { act = refl; meets = is }
claim_answers b k (i ∷ rest) is = record { act = refl; meets = (rest, is) }

take_answers : (b : Board) (k : ℕ) (closed : Bool) (out : List Item) → b.closed ≡ closed → b.out ≡ out → Found b k to_take (take_event closed out)
take_answers b k true out mark is = record { act = refl; meets = mark }
take_answers b k false [] mark is = record { act = refl; meets = (mark, is) }
take_answers b k false (x ∷ rest) mark is = record { act = refl; meets = (mark, (x.filling, rest, is)) }

fill_answers : (b : Board) (k i : ℕ) (f : Filling) (closed : Bool) → b.closed ≡ closed → InHand b k i → length f.bytes ≡ (word_at b i).size → Found b k (to_fill i f) (Fill i f (not closed))
fill_answers b k i f true mark in_hand size = record { act = refl; meets = (in_hand, size, mark) }
fill_answers b k i f false mark in_hand size = record { act = refl; meets = (in_hand, size, mark) }

answers : (b : Board) (k : ℕ) (a : Act) → IsAllowed b k a → Found b k a (answer_to b a)
answers b k (to_look i) may = record { act = refl; meets = (may, refl) }
answers b k to_look_pool may = record { act = refl; meets = refl }
answers b k to_look_out may = record { act = refl; meets = (refl, refl) }
answers b k to_look_run may = record { act = refl; meets = refl }
answers b k (to_enrol i size) may = enrol_answers b k i size may.0 may.1 may.2
answers b k (to_grab i g) may = grab_answers b k i g may
answers b k (to_lay i) may = record { act = refl; meets = may }
answers b k (to_vacate i) may = record { act = refl; meets = may }
answers b k (to_pool i) may = record { act = refl; meets = may }
answers b k to_claim may = claim_answers b k b.pool refl
answers b k to_sweep_pool may = record { act = refl; meets = refl }
answers b k (to_fill i f) may = fill_answers b k i f b.closed refl may.0 may.1
answers b k to_take may = take_answers b k b.closed b.out refl refl
answers b k to_sweep_out may = record { act = refl; meets = refl }
answers b k to_close may = record { act = refl; meets = tt }
answers b k to_post may = record { act = refl; meets = tt }
answers b k to_unpost may = record { act = refl; meets = refl }
answers b k to_start may = start_answers b k
answers b k (to_stop kill) may = stop_answers b k kill
answers b k to_split may = record { act = refl; meets = refl }
answers b k (to_join n) may = record { act = refl; meets = may }

-- an event that meets the machine is the machine's answer to its act
pub only_answer : (b : Board) (k : ℕ) (event : Event) → Meets b k event → event ≡ answer_to b (act_of event)
only_answer b k (Look i w) m = ap (λ v. Look i v) m.1
only_answer b k (LookPool is) m = ap (λ js. LookPool js) m
only_answer b k (LookOut is closed) m = ap (λ js. LookOut js closed) m.0 ∙ ap (λ mark. LookOut (places b.out) mark) m.1
only_answer b k (LookRun r) m = ap (λ s. LookRun s) m
only_answer b k (Enrol i size (Ok g)) m =
    ap (λ n. Enrol i size (Ok n)) m.4
    ∙ sym (cond-true (can_enrol (word_at b i)) (Enrol i size (Ok ((word_at b i).generation + 1))) (Enrol i size (Err (word_at b i))) (can_enrol_from (word_at b i) m.3))
only_answer b k (Enrol i size (Err w)) m =
    let refused : ¬ CanEnrol (word_at b i) = subst (λ v. ¬ CanEnrol v) m.3 m.4 in
    ap (λ v. Enrol i size (Err v)) m.3
    ∙ sym (cond-false (can_enrol (word_at b i)) (Enrol i size (Ok ((word_at b i).generation + 1))) (Enrol i size (Err (word_at b i))) (false_from_ne_true (can_enrol (word_at b i)) (λ holds. refused (can_enrol_true (word_at b i) holds))))
only_answer b k (Grab i g (Ok done)) m =
    sym (cond-true (is_held_as (word_at b i) g) (Grab i g (Ok tt)) (Grab i g (Err (word_at b i))) (held_as_from (word_at b i) g m.1))
only_answer b k (Grab i g (Err w)) m =
    let refused : ¬ IsHeldAs (word_at b i) g = subst (λ v. ¬ IsHeldAs v g) m.1 m.2 in
    ap (λ v. Grab i g (Err v)) m.1
    ∙ sym (cond-false (is_held_as (word_at b i) g) (Grab i g (Ok tt)) (Grab i g (Err (word_at b i))) (false_from_ne_true (is_held_as (word_at b i) g) (λ holds. refused (held_as_true (word_at b i) g holds))))
only_answer b k (Lay i) m = refl
only_answer b k (Vacate i) m = refl
only_answer b k (Pool i) m = refl
only_answer b k (Claim (Some i)) m = ap claim_event (sym m.1)
only_answer b k (Claim None) m = ap claim_event (sym m)
only_answer b k (SweepPool is) m = ap (λ js. SweepPool js) m
only_answer b k (Fill i f true) m = ap (λ mark. Fill i f (not mark)) (sym m.2)
only_answer b k (Fill i f false) m = ap (λ mark. Fill i f (not mark)) (sym m.2)
only_answer b k (Take (Taken i)) m = ap (λ xs. take_event false xs) (sym m.1.2) ∙ ap (λ mark. take_event mark b.out) (sym m.0)
only_answer b k (Take Empty) m = ap (λ xs. take_event false xs) (sym m.1) ∙ ap (λ mark. take_event mark b.out) (sym m.0)
only_answer b k (Take Closed) m = ap (λ mark. take_event mark b.out) (sym m)
only_answer b k (SweepOut is) m = ap (λ js. SweepOut js) m
only_answer b k Close m = refl
only_answer b k Post m = refl
only_answer b k (Unpost stood) m = ap (λ mark. Unpost mark) m
only_answer b k (Start (Ok done)) m = sym (cond-false (b.run == 1) (Start (Err b.run)) (Start (Ok tt)) (ne_eqb b.run 1 m))
only_answer b k (Start (Err r)) m =
    ap (λ s. Start (Err s)) m.0 ∙ sym (cond-true (b.run == 1) (Start (Err b.run)) (Start (Ok tt)) (eq-eqb b.run 1 (sym m.0 ∙ m.1)))
only_answer b k (Stop kill (Ok done)) m = sym (cond-true (b.run == 1) (Stop kill (Ok tt)) (Stop kill (Err b.run)) (eq-eqb b.run 1 m))
only_answer b k (Stop kill (Err r)) m =
    ap (λ s. Stop kill (Err s)) m.0 ∙ sym (cond-false (b.run == 1) (Stop kill (Ok tt)) (Stop kill (Err b.run)) (ne_eqb b.run 1 (λ e. m.1 (m.0 ∙ e))))
only_answer b k (Split n) m = ap (λ c. Split c) m
only_answer b k (Join n) m = refl

pub answer_stands : (b : Board) (k : ℕ) (a : Act) → MayStand b k a → CanBeNext b (entry k (answer_to b a))
answer_stands b k a may = record { actor = may.actor; meets = (answers b k a may.allowed).meets }

pub one_answer : (b : Board) (k : ℕ) (a : Act) → MayStand b k a → OneAnswer b k a
one_answer b k a may = record {
  event = answer_to b a;
  answers = record { act = (answers b k a may.allowed).act; is_next = answer_stands b k a may };
  only = λ other is. only_answer b k other is.is_next.meets ∙ ap (answer_to b) is.act;
}

-- what meets the machine was allowed
allowed : (b : Board) (k : ℕ) (event : Event) → Meets b k event → IsAllowed b k (act_of event)
allowed b k (Look i w) m = m.0
allowed b k (LookPool is) m = tt
allowed b k (LookOut is closed) m = tt
allowed b k (LookRun r) m = tt
allowed b k (Enrol i size (Ok g)) m = (m.0, m.1, m.2)
allowed b k (Enrol i size (Err w)) m = (m.0, m.1, m.2)
allowed b k (Grab i g (Ok done)) m = m.0
allowed b k (Grab i g (Err w)) m = m.0
allowed b k (Lay i) m = m
allowed b k (Vacate i) m = m
allowed b k (Pool i) m = m
allowed b k (Claim (Some i)) m = tt
allowed b k (Claim None) m = tt
allowed b k (SweepPool is) m = tt
allowed b k (Fill i f true) m = (m.0, m.1)
allowed b k (Fill i f false) m = (m.0, m.1)
allowed b k (Take (Taken i)) m = tt
allowed b k (Take Empty) m = tt
allowed b k (Take Closed) m = tt
allowed b k (SweepOut is) m = tt
allowed b k Close m = tt
allowed b k Post m = tt
allowed b k (Unpost stood) m = tt
allowed b k (Start (Ok done)) m = tt
allowed b k (Start (Err r)) m = tt
allowed b k (Stop kill (Ok done)) m = tt
allowed b k (Stop kill (Err r)) m = tt
allowed b k (Split n) m = tt
allowed b k (Join n) m = m

-- what stands may stand
pub answered_may_stand : (b : Board) (k : ℕ) (a : Act) (event : Event) → Answers b k a event → MayStand b k a
answered_may_stand b k a event is = record {
  actor = is.is_next.actor;
  allowed = subst (λ act. IsAllowed b k act) is.act (allowed b k event is.is_next.meets);
}
